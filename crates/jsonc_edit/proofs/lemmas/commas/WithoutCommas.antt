-- Trees that differ in commas alone have the same value.
use Rattle.std.proofs.Common.{◌≡◌, ◌∙◌, ℕ, sym, ap, subst, refl, Bool, ◌||◌, true, false, not, cond, if◌then◌else◌, inl, inr, List, Option, Some, None, IsTrue}
use Rattle.std.proofs.lemmas.Bool.{cases_Bool}
use Rattle.jsonc_text.specs.Options.{Options}
use Rattle.jsonc_text.proofs.Basics.{and_both, or_left}
use Rattle.jsonc_text.specs.Plain.{Plain, Items, item, Members}
use Rattle.jsonc_tree.specs.Content.{Content}
use Rattle.jsonc_tree.specs.OrderedTree.{OrderedTree, Top, none, more, followed_by}
use Rattle.jsonc_tree.specs.Values as values
use Rattle.jsonc_tree.specs.Values.{is_passed_over, ValueOf, ItemsOf, MembersOf, PropertyOf, HoldsValue, HasNoValue, HoldsAtMostOne, DocumentValueOf}
use Rattle.jsonc_layout.specs.nodes.Kinds.{is_comma, is_element, is_newline, is_token, is_trivia}
use Rattle.jsonc_sound.specs.Rows.{RowKind, of_values, of_properties, container_of}
use Rattle.jsonc_sound.specs.TreeChanges.{IsElement, ElementChanged, this_element, passed, later_element, ValueChanged, itself, in_array, in_object, DocumentChanged, in_root}
use Rattle.jsonc_sound.proofs.FirstNodes.{name_leaf_element, value_of_element}
use Rattle.jsonc_text.specs.declared.edit.TrailingCommaMode.{TrailingCommaMode}
use Rattle.jsonc_text.specs.declared.edit.TrailingCommaMode.TheVariants.{Never, IfMultiline}
use Rattle.jsonc_edit.specs.commas.Laws.{LosesCommas, GainsCommas, closes_next, closes_bare, ended, stayed, left, ends, stays, comes, OnlyCommas}
use Rattle.jsonc_edit.specs.multiline.Reflows.{has_newline}
use Rattle.jsonc_edit.proofs.LeafKinds.{element_no_comma}
use Rattle.jsonc_edit.proofs.Lists.{both_so}

-- a row, and those below it, without their commas
abbrev pub without_commas : OrderedTree → OrderedTree
without_commas none = none
without_commas (more content below after) = if is_comma content then without_commas after else more content (without_commas below) (without_commas after)

comma_over : (content : Content) → is_comma content ≡ true → IsTrue (is_passed_over content)
comma_over (Content.token c) e = refl
comma_over content e = cc

-- a comma leaves, and all else stays
pub left_out : (content : Content) (below after : OrderedTree) → is_comma content ≡ true → without_commas (more content below after) ≡ without_commas after
left_out content below after e = ap (λ b. cond b (without_commas after) (more content (without_commas below) (without_commas after))) e

pub kept_in : (content : Content) (below after : OrderedTree) → is_comma content ≡ false → without_commas (more content below after) ≡ more content (without_commas below) (without_commas after)
kept_in content below after e = ap (λ b. cond b (without_commas after) (more content (without_commas below) (without_commas after))) e

module _ (o : Options) where
  -- what is passed over is there, or has left
  passed_on : (R : OrderedTree → Type 0) (content : Content) (below after : OrderedTree) → R (without_commas after) → R (more content (without_commas below) (without_commas after)) → R (without_commas (more content below after))
  passed_on R content below after out kept =
      elim (cases_Bool (is_comma content)) [
        | inl e ↦ subst R (sym (left_out content below after e)) out
        | inr e ↦ subst R (sym (kept_in content below after e)) kept
      ]

  stays_in : (R : OrderedTree → Type 0) (content : Content) (below after : OrderedTree) → IsElement content → R (more content (without_commas below) (without_commas after)) → R (without_commas (more content below after))
  stays_in R content below after e kept = subst R (sym (kept_in content below after (element_no_comma content e))) kept

  no_value_without : {row : OrderedTree} → HasNoValue row → HasNoValue (without_commas row)
  no_value_without values.end = values.end
  no_value_without (values.pass {content = content} {below = below} {after = after} h r) =
      let rest = no_value_without r in passed_on HasNoValue content below after rest (values.pass h rest)

  mutual
    value_without : {content : Content} {below : OrderedTree} {v : Plain} → ValueOf o content below v → ValueOf o content (without_commas below) v
    value_without (values.string h) = values.string h
    value_without values.number = values.number
    value_without values.boolean = values.boolean
    value_without values.null = values.null
    value_without (values.array g) = values.array (items_without g)
    value_without (values.object g) = values.object (members_without g)

    items_without : {row : OrderedTree} {vs : Items} → ItemsOf o row vs → ItemsOf o (without_commas row) vs
    items_without values.no_more_items = values.no_more_items
    items_without (values.pass_to_items {content = content} {below = below} {after = after} {vs = vs} h r) =
        let rest = items_without r in passed_on (λ t. ItemsOf o t vs) content below after rest (values.pass_to_items h rest)
    items_without (values.one_item {content = content} {below = below} {after = after} {v = v} {vs = vs} h r) =
        stays_in (λ t. ItemsOf o t (item v vs)) content below after (value_of_element h) (values.one_item (value_without h) (items_without r))

    members_without : {row : OrderedTree} {ms : Members} → MembersOf o row ms → MembersOf o (without_commas row) ms
    members_without values.no_more_members = values.no_more_members
    members_without (values.pass_to_members {content = content} {below = below} {after = after} {ms = ms} h r) =
        let rest = members_without r in passed_on (λ t. MembersOf o t ms) content below after rest (values.pass_to_members h rest)
    members_without (values.one_member h r) = values.one_member (property_without h) (members_without r)

    property_without : {row : OrderedTree} {name : List ℕ} {v : Plain} → PropertyOf o row name v → PropertyOf o (without_commas row) name v
    property_without (values.pass_to_name {content = content} {below = below} {after = after} {name = name} {v = v} h r) =
        let rest = property_without r in passed_on (λ t. PropertyOf o t name v) content below after rest (values.pass_to_name h rest)
    property_without (values.name_of {content = content} {after = after} {name = name} {v = v} n h) =
        stays_in (λ t. PropertyOf o t name v) content none after (name_leaf_element o content name n) (values.name_of n (held_without h))

    held_without : {row : OrderedTree} {v : Plain} → HoldsValue o row v → HoldsValue o (without_commas row) v
    held_without (values.pass_to_value {content = content} {below = below} {after = after} {v = v} h r) =
        let rest = held_without r in passed_on (λ t. HoldsValue o t v) content below after rest (values.pass_to_value h rest)
    held_without (values.value_of {content = content} {below = below} {after = after} {v = v} h n) =
        stays_in (λ t. HoldsValue o t v) content below after (value_of_element h) (values.value_of (value_without h) (no_value_without n))

  at_most_without : (w : Option Plain) (row : OrderedTree) → HoldsAtMostOne o row w → HoldsAtMostOne o (without_commas row) w
  at_most_without None row h = no_value_without h
  at_most_without (Some v) row h = held_without h

  -- the value stays without commas
  pub document_without : (w : Option Plain) (t : OrderedTree) → DocumentValueOf o t w → DocumentValueOf o (without_commas t) w
  document_without w t (below, same, h) = (without_commas below, ap without_commas same, at_most_without w below h)

-- where commas have left, the rest is the same
pub same_without : {t u : OrderedTree} → LosesCommas t u → without_commas u ≡ without_commas t
same_without ended = refl
same_without (stayed {content = content} {below = below} {under = under} {after = after} {rest = rest} p q) =
    ap (λ t. cond (is_comma content) t (more content (without_commas under) t)) (same_without q)
    ∙ ap (λ b. cond (is_comma content) (without_commas after) (more content b (without_commas after))) (same_without p)
same_without (left p e q) = same_without q

-- nothing leaves, and one list of commas after another
loses_none : (t : OrderedTree) → LosesCommas t t
loses_none none = ended
loses_none (more content below after) = stayed (loses_none below) (loses_none after)

none_left : {x : OrderedTree} → LosesCommas x none → x ≡ none
none_left ended = refl
none_left (left {after = after} p e q) = let wrong : IsTrue (closes_next none) = subst (λ a. IsTrue (closes_next a)) (none_left q) e in cc

-- a row closes where it closes without some commas
bare_then : (content : Content) (below after : OrderedTree) → IsTrue (is_trivia content) → IsTrue (closes_bare after) → IsTrue (closes_bare (more content below after))
bare_then content below none h e = cc
bare_then content below (more c b a) h e = both_so (is_trivia content) (closes_bare (more c b a)) h e

comma_not_bare : (rest : OrderedTree) → IsTrue (closes_bare (more (Content.token 0x2C) none rest)) → ⊥
comma_not_bare none h = cc
comma_not_bare (more c b a) h = cc

comma_then : (below after : OrderedTree) → IsTrue (closes_next after) → IsTrue (closes_next (more (Content.token 0x2C) below after))
comma_then below none e = cc
comma_then below (more c b a) e = e

leaf_then : (content : Content) (below after : OrderedTree) → IsTrue (is_trivia content || is_comma content) → IsTrue (closes_next after) → IsTrue (closes_next (more content below after))
leaf_then content below none h e = cc
leaf_then content below (more c b a) h e = both_so (is_trivia content || is_comma content) (closes_next (more c b a)) h e

closes_before : {x y : OrderedTree} → LosesCommas x y → IsTrue (closes_next y) → IsTrue (closes_next x)
closes_before ended h = h
closes_before (left {below = below} {after = after} p e q) h = comma_then below after e
closes_before (stayed {content = content} {below = below} {under = under} {after = after} {rest = rest} p q) h = by rest q h (λ k. closes_before q k)
  where
    by : (r : OrderedTree) → LosesCommas after r → IsTrue (closes_next (more content under r)) → (IsTrue (closes_next r) → IsTrue (closes_next after)) → IsTrue (closes_next (more content below after))
    by none k h f = subst (λ a. IsTrue (closes_next (more content below a))) (sym (none_left k)) h
    by (more n u r) k h f = let two = and_both (is_trivia content || is_comma content) (closes_next (more n u r)) h in leaf_then content below after two.0 (f two.1)

loses_then : {t u v : OrderedTree} → LosesCommas t u → LosesCommas u v → LosesCommas t v
loses_then ended h = h
loses_then (stayed p q) (stayed r s) = stayed (loses_then p r) (loses_then q s)
loses_then (stayed p q) (left r e s) = left (loses_then p r) (closes_before q e) (loses_then q s)
loses_then (left p e q) h = left p e (loses_then q h)

-- a newline is in a row where it was
pub newline_stays : {line : Bool} {x y : OrderedTree} → GainsCommas line x y → has_newline y ≡ has_newline x
newline_stays ends = refl
newline_stays (stays {content = content} p q) = ap (λ b. is_newline content || b) (newline_stays q)
newline_stays (comes {content = content} e c p q) = ap (λ b. is_newline content || b) (newline_stays q)

element_no_trivia : (content : Content) → IsTrue (is_element content) → IsTrue (is_trivia content) → ⊥
element_no_trivia (Content.whitespace s) h k = cc
element_no_trivia (Content.newline n) h k = cc
element_no_trivia (Content.comment s) h k = cc
element_no_trivia content h k = cc

element_no_token : (content : Content) → IsTrue (is_element content) → IsTrue (is_token content) → ⊥
element_no_token (Content.token c) h k = cc
element_no_token content h k = cc

-- no element is in a row that closes
bare_no_element : (content : Content) (below after : OrderedTree) → IsTrue (is_element content) → IsTrue (closes_bare (more content below after)) → ⊥
bare_no_element content below none h k = element_no_token content h (and_both (is_token content) (not (is_comma content)) k).0
bare_no_element content below (more n u a) h k = element_no_trivia content h (and_both (is_trivia content) (closes_bare (more n u a)) k).0

none_gained : {line : Bool} {x : OrderedTree} → GainsCommas line none x → x ≡ none
none_gained ends = refl

pub none_before : {line : Bool} {x : OrderedTree} → GainsCommas line x none → x ≡ none
none_before ends = refl

bare_before : {line : Bool} {x y : OrderedTree} → GainsCommas line x y → IsTrue (closes_bare y) → IsTrue (closes_bare x)
bare_before ends h = h
bare_before (comes {content = content} {under = under} {rest = rest} e c p q) h = absurd (bare_no_element content under (more (Content.token 0x2C) none rest) e h)
bare_before {line} (stays {content = content} {below = below} {under = under} {after = after} {rest = rest} p q) h = by rest q h (λ k. bare_before q k)
  where
    by : (r : OrderedTree) → GainsCommas line after r → IsTrue (closes_bare (more content under r)) → (IsTrue (closes_bare r) → IsTrue (closes_bare after)) → IsTrue (closes_bare (more content below after))
    by none k h f = subst (λ a. IsTrue (closes_bare (more content below a))) (sym (none_before k)) h
    by (more n u r) k h f = let two = and_both (is_trivia content) (closes_bare (more n u r)) h in bare_then content below after two.0 (f two.1)

-- it closes still
bare_after : {line : Bool} {x y : OrderedTree} → GainsCommas line x y → IsTrue (closes_bare x) → IsTrue (closes_next y)
bare_after ends h = h
bare_after (comes {content = content} {below = below} {after = after} e c p q) h = absurd (bare_no_element content below after e h)
bare_after {line} (stays {content = content} {below = below} {under = under} {after = after} {rest = rest} p q) h = by after q h (λ k. bare_after q k)
  where
    by : (a : OrderedTree) → GainsCommas line a rest → IsTrue (closes_bare (more content below a)) → (IsTrue (closes_bare a) → IsTrue (closes_next rest)) → IsTrue (closes_next (more content under rest))
    by none k h f = subst (λ r. IsTrue (closes_next (more content under r))) (sym (none_gained k)) h
    by (more n u a) k h f = let two = and_both (is_trivia content) (closes_bare (more n u a)) h in leaf_then content under rest (or_left (is_trivia content) (is_comma content) two.0) (f two.1)

-- without them it is the first row
pub gains_loses : {line : Bool} {x y : OrderedTree} → GainsCommas line x y → LosesCommas y x
gains_loses ends = ended
gains_loses (stays p q) = stayed (gains_loses p) (gains_loses q)
gains_loses (comes e c p q) = stayed (gains_loses p) (left ended (bare_after q c) (gains_loses q))

pub only_without : (mode : TrailingCommaMode) (t u : OrderedTree) → OnlyCommas mode t u → without_commas u ≡ without_commas t
only_without Never t u h = same_without h
only_without IfMultiline t u h = sym (same_without (gains_loses h))

gains_none : {line : Bool} (t : OrderedTree) → GainsCommas line t t
gains_none none = ends
gains_none (more content below after) = stays (gains_none below) (gains_none after)

gains_then : {line : Bool} {t u v : OrderedTree} → GainsCommas line t u → GainsCommas line u v → GainsCommas line t v
gains_then ends h = h
gains_then (stays {below = below} {under = under} p q) (stays {under = beneath} r s) = stays (gains_then p (subst (λ b. GainsCommas b under beneath) (newline_stays p) r)) (gains_then q s)
gains_then (stays {below = below} {under = under} p q) (comes {under = beneath} e c r s) =
    comes e (bare_before q c) (gains_then p (subst (λ b. GainsCommas b under beneath) (newline_stays p) r)) (gains_then q s)
gains_then (comes {content = content} {below = below} {under = under} {after = after} {rest = rest} e c p q) (stays {under = beneath} r s) =
    by (gains_then p (subst (λ b. GainsCommas b under beneath) (newline_stays p) r)) (λ v l. gains_then q l) s
  where
    by : {next : OrderedTree} → GainsCommas (has_newline below) below beneath → ((v : OrderedTree) → GainsCommas true rest v → GainsCommas true after v) → GainsCommas true (more (Content.token 0x2C) none rest) next
        → GainsCommas true (more content below after) (more content beneath next)
    by own on (stays {under = bare} {rest = last} k l) = subst (λ b. GainsCommas true (more content below after) (more content beneath (more (Content.token 0x2C) b last))) (sym (none_gained k)) (comes e c own (on last l))
    by own on (comes f d k l) = cc
gains_then (comes {content = content} {rest = rest} e c p q) (comes f d r s) = absurd (comma_not_bare rest d)

pub only_same : (mode : TrailingCommaMode) (t : OrderedTree) → OnlyCommas mode t t
only_same Never t = loses_none t
only_same IfMultiline t = gains_none t

pub only_then : (mode : TrailingCommaMode) (t u v : OrderedTree) → OnlyCommas mode t u → OnlyCommas mode u v → OnlyCommas mode t v
only_then Never t u v h k = loses_then h k
only_then IfMultiline t u v h k = gains_then h k

-- the same of a row in which a line ends, or none, and of what is below a node
abbrev pub InRow : TrailingCommaMode → Bool → OrderedTree → OrderedTree → Type 0
InRow Never line t u = LosesCommas t u
InRow IfMultiline line t u = GainsCommas line t u

abbrev pub Below : TrailingCommaMode → OrderedTree → OrderedTree → Type 0
Below mode t u = InRow mode (has_newline t) t u

row_same : (mode : TrailingCommaMode) (line : Bool) (t : OrderedTree) → InRow mode line t t
row_same Never line t = loses_none t
row_same IfMultiline line t = gains_none t

row_stayed : (mode : TrailingCommaMode) (line : Bool) (c d : Content) (below under after rest : OrderedTree) → d ≡ c → Below mode below under → InRow mode line after rest → InRow mode line (more c below after) (more d under rest)
row_stayed Never line c d below under after rest e h k = subst (λ w. LosesCommas (more c below after) (more w under rest)) (sym e) (stayed h k)
row_stayed IfMultiline line c d below under after rest e h k = subst (λ w. GainsCommas line (more c below after) (more w under rest)) (sym e) (stays h k)

-- where a node is replaced by one that differs from it in commas alone, so is the document
row_only : (mode : TrailingCommaMode) (line : Bool) {x y : Top} {i : ℕ} {row new : OrderedTree} → y.content ≡ x.content → Below mode x.below y.below → ElementChanged x y i row new → InRow mode line row new
row_only mode line {x} {y} e f (this_element {after = after} p q) = row_stayed mode line x.content y.content x.below y.below after after e f (row_same mode line after)
row_only mode line e f (passed {content = content} {below = below} {x = s} {y = t} p k) = row_stayed mode line content content below below s t refl (row_same mode (has_newline below) below) (row_only mode line e f k)
row_only mode line e f (later_element {content = content} {below = below} {x = s} {y = t} p k) = row_stayed mode line content content below below s t refl (row_same mode (has_newline below) below) (row_only mode line e f k)

value_only : (mode : TrailingCommaMode) {was now : Top} {path : List ℕ} {x y : Top} → now.content ≡ was.content → Below mode was.below now.below → ValueChanged was now path x y → (y.content ≡ x.content) × Below mode x.below y.below
value_only mode e f itself = (e, f)
value_only mode e f (in_array {row = row} k d) = let v = value_only mode e f d in (refl, row_only mode (has_newline row) v.0 v.1 k)
value_only mode e f (in_object {held = held} {row = row} k g d) = let v = value_only mode e f d in (refl, row_only mode (has_newline row) refl (row_only mode (has_newline held) v.0 v.1 g) k)

only_root : (mode : TrailingCommaMode) (row new : OrderedTree) → Below mode row new → OnlyCommas mode (more Content.root row none) (more Content.root new none)
only_root Never row new h = stayed h ended
only_root IfMultiline row new h = stays h ends

pub document_only : (mode : TrailingCommaMode) {was now : Top} {path : List ℕ} {t u : OrderedTree} → now.content ≡ was.content → Below mode was.below now.below → DocumentChanged was now path t u → OnlyCommas mode t u
document_only mode e f (in_root {row = row} {new = new} k d) = let v = value_only mode e f d in only_root mode row new (row_only mode (has_newline row) v.0 v.1 k)

-- rows that differ in one comma, and those with a bracket before them
pub comma_between : (front back : OrderedTree) → IsTrue (closes_next back) → LosesCommas (followed_by front (more (Content.token 0x2C) none back)) (followed_by front back)
comma_between none back h = left ended h (loses_none back)
comma_between (more content below after) back h = stayed (loses_none below) (comma_between after back h)

-- a comma has come behind the last element, and behind the first bracket too
comma_comes : (front : OrderedTree) (content : Content) (below back : OrderedTree) → IsTrue (is_element content) → IsTrue (closes_bare back)
    → GainsCommas true (followed_by (followed_by front (more content below none)) back) (followed_by (followed_by front (more content below none)) (more (Content.token 0x2C) none back))
comma_comes none content below back e h = comes e h (gains_none below) (gains_none back)
comma_comes (more c b after) content below back e h = stays (gains_none b) (comma_comes after content below back e h)

pub comma_behind : (kind : RowKind) (front : OrderedTree) (content : Content) (below back : OrderedTree) → IsTrue (is_element content) → IsTrue (closes_bare back)
    → has_newline (container_of kind (followed_by (followed_by front (more content below none)) back)).below ≡ true
    → Below IfMultiline (container_of kind (followed_by (followed_by front (more content below none)) back)).below (container_of kind (followed_by (followed_by front (more content below none)) (more (Content.token 0x2C) none back))).below
comma_behind kind front content below back e h line =
    subst (λ b. GainsCommas b (container_of kind (followed_by (followed_by front (more content below none)) back)).below (container_of kind (followed_by (followed_by front (more content below none)) (more (Content.token 0x2C) none back))).below) (sym line) (by kind)
  where
    by : (k : RowKind) → GainsCommas true (container_of k (followed_by (followed_by front (more content below none)) back)).below (container_of k (followed_by (followed_by front (more content below none)) (more (Content.token 0x2C) none back))).below
    by of_values = stays ends (comma_comes front content below back e h)
    by of_properties = stays ends (comma_comes front content below back e h)

pub behind_bracket : (kind : RowKind) {x y : OrderedTree} → LosesCommas x y → LosesCommas (container_of kind x).below (container_of kind y).below
behind_bracket of_values h = stayed ended h
behind_bracket of_properties h = stayed ended h

-- A value takes the place of another where no literal without quotes stands beside it: the document stays sound.
use Rattle.std.proofs.Common.{◌≡◌, ◌≢◌, ℕ, ◌+◌, ◌<◌, Bool, true, false, ◌&&◌, List, [], ◌∷◌, ◌++◌, length, take, drop, filter, reverse, slice_index, Option, Some, None, IsTrue, refl, sym, ap, subst, ◌∙◌, arith}
use Rattle.std.proofs.lemmas.Bool.{false≢true}
use Rattle.std.proofs.lemmas.List.{take-append-drop, drop_more, get_or-take, get_or-drop, length-take, length-drop}
use Rattle.std.specs.Option.{option_and_then}
use Rattle.jsonc_text.specs.Options.{Options}
use Rattle.jsonc_tree.specs.Content.{Content, root, property, token}
use Rattle.jsonc_tree.specs.OrderedTree.{OrderedTree, none, more, leaves, followed_by, Shows, shows_none, shows_more, ordered_tree, Replaced, Top}
use Rattle.jsonc_tree.specs.Siblings.{row_of, siblings_after}
use Rattle.jsonc_tree.specs.Order.{with_parent}
use Rattle.jsonc_tree.specs.Tree.{Node, content_at, parent_at, children_at, place_at, IsTree, IsOver}
use Rattle.jsonc_tree.proofs.Order.{not_over_parent, parent_there}
use Rattle.jsonc_tree.proofs.Over.{sibling_not_over}
use Rattle.jsonc_tree.proofs.OrderedTrees.{Shows-unique}
use Rattle.jsonc_tree.proofs.Rows.{Shows-append, Shows-part}
use Rattle.jsonc_layout.specs.nodes.Kinds.{is_element_at}
use Rattle.jsonc_sound.specs.Lines.{LinesEnd, is_loose, LinesEndLoosely}
use Rattle.jsonc_sound.specs.Shape as shape
use Rattle.jsonc_sound.specs.Shape.{Trivia, token_then}
use Rattle.jsonc_sound.specs.Rows as rows
use Rattle.jsonc_sound.specs.Rows.{RowKind, Last, closing}
use Rattle.jsonc_sound.specs.Sound.{IsValueBefore}
use Rattle.jsonc_sound.proofs.HeldValues.{document_held}
use Rattle.jsonc_sound.specs.TreeChanges.{IsElement, leaves_of, DocumentChanged}
use Rattle.jsonc_sound.specs.Adjacent.{or_else, last_printed}
use Rattle.jsonc_sound.specs.Alone as alone
use Rattle.jsonc_sound.specs.Alone.{ValueAlone, RowAlone, PropertyAlone}
use Rattle.jsonc_sound.specs.InRows.{row_around, holding}
use Rattle.jsonc_sound.specs.SoundTrees.{SoundTree}
use Rattle.jsonc_sound.specs.Spaces.{is_bare, is_bare_leaf, first_printed, meet}
use Rattle.jsonc_sound.proofs.NodesAlone.{value_alone, document_alone}
use Rattle.jsonc_sound.proofs.LooseLines.{loosens}
use Rattle.jsonc_sound.proofs.RowsTell.{kept_by_value_in_row, kept_by_value_in_root, kept_by_value_in_property}
use Rattle.jsonc_sound.proofs.Spaces.{first_append}
use Rattle.jsonc_edit.specs.Due.{nearest, begins_bare, ends_bare, seen_before, seen_behind, behind_holder, behind_property}
use Rattle.jsonc_edit.proofs.WholeRows.{IsWhole, whole_leaf, whole_value, whole_property, Whole, more_whole, whole_before, whole_behind, value_row_whole, property_whole, root_whole}
use Rattle.jsonc_edit.proofs.NearestLeaves.{Printed, value_first, value_last, front_bare, back_bare}
use Rattle.jsonc_edit.specs.Changes.{row_below, top_at, Replaces, Respliced}
use Rattle.jsonc_edit.specs.Laws.{IsApart}
use Rattle.jsonc_edit.specs.Paths.{IsElementOf, IsHeldBy, IsAt}
use Rattle.jsonc_edit.proofs.Elements.{Some_same, StandsAt, stands_at}
use Rattle.jsonc_edit.proofs.Entries.{not_both, trivia_passed}
use Rattle.jsonc_edit.proofs.ValuePlaces.{HeldAt, by_root, by_array, by_property, held_at, document_replaced}
use Rattle.jsonc_edit.proofs.Splices.{spliced_in, respliced_over, respliced_row, replaced_at_path}
use Rattle.jsonc_edit.proofs.Uniqueness.{element_parent}
use Rattle.jsonc_edit.proofs.ChangesUpward.{ChangedIn, Shows-row_below, apart_kept, document_is}

-- no literals meet where the new one isn't bare, or what is beside it isn't
not_met : (front now back : List Content) (bare : Bool) → Printed (first_printed now) bare → Printed (last_printed now) bare
    → (IsTrue bare → is_bare_leaf (last_printed front) ≡ false) → (IsTrue bare → is_bare_leaf (first_printed back) ≡ false)
    → (meet front (now ++ back) ≡ false) × (meet now back ≡ false)
not_met front now back bare p q f g =
    let first : is_bare_leaf (first_printed (now ++ back)) ≡ bare = ap is_bare_leaf (first_append now back) ∙ ap (λ x. is_bare_leaf (or_else x (first_printed back))) p.1 ∙ p.2 in
    let last : is_bare_leaf (last_printed now) ≡ bare = ap is_bare_leaf q.1 ∙ q.2 in (
      ap (λ b. is_bare_leaf (last_printed front) && b) first ∙ before (is_bare_leaf (last_printed front)) bare f,
      ap (λ b. b && is_bare_leaf (first_printed back)) last ∙ behind bare (is_bare_leaf (first_printed back)) g,
    )
  where
    before : (a b : Bool) → (IsTrue b → a ≡ false) → a && b ≡ false
    before true true h = h refl
    before true false h = refl
    before false b h = refl

    behind : (a b : Bool) → (IsTrue a → b ≡ false) → a && b ≡ false
    behind true b h = h refl
    behind false b h = refl

-- an element is neither first nor last in a container
no_more : (front back : OrderedTree) (top : Top) → none ≡ row_around front top back → ⊥
no_more none back top e = cc
no_more (more c b a) back top e = cc

behind_bracket : (front back r : OrderedTree) (top : Top) (c : ℕ) → IsElement top.content → row_around front top back ≡ token_then c r → front ≢ none
behind_bracket none back r top c h e f = let same : top.content ≡ token c = cc in false≢true (subst IsElement same h)
behind_bracket (more d b a) back r top c h e f = cc

row_some : {o : Options} {kind : RowKind} {last : Last} {row : OrderedTree} → RowAlone o kind last row → row ≢ none
row_some (alone.closes m) e = cc
row_some (alone.trivia h g) e = cc
row_some (alone.element m p g) e = cc
row_some (alone.comma g) e = cc

further : (c : Content) (b after front back : OrderedTree) (top : Top) → after ≢ none → ((a : OrderedTree) → after ≡ row_around a top back → back ≢ none) → more c b after ≡ row_around front top back → back ≢ none
further c b after none back top ne ih e f = let same : after ≡ back = cc in ne (same ∙ f)
further c b after (more d x a) back top ne ih e f = let same : after ≡ row_around a top back = cc in ih a same f

module _ (o : Options) (top : Top) (element : IsElement top.content) (back : OrderedTree) where
  before_bracket : {kind : RowKind} {last : Last} {row : OrderedTree} → RowAlone o kind last row → (front : OrderedTree) → row ≡ row_around front top back → back ≢ none
  before_bracket (alone.closes {kind = kind} m) none e f = let same : top.content ≡ token (closing kind) = cc in absurd (false≢true (subst IsElement same element))
  before_bracket (alone.closes {kind = kind} m) (more d x a) e f = let same : none ≡ row_around a top back = cc in no_more a back top same
  before_bracket (alone.trivia {content = content} {after = after} h g) front e f = further content none after front back top (row_some g) (λ a. before_bracket g a) e f
  before_bracket (alone.element {content = content} {below = below} {after = after} m p g) front e f = further content below after front back top (row_some g) (λ a. before_bracket g a) e f
  before_bracket (alone.comma {after = after} g) front e f = further (token 0x2C) none after front back top (row_some g) (λ a. before_bracket g a) e f

  -- a property ends with its second element
  past_trivia : {t r : OrderedTree} → Trivia o t r → (front : OrderedTree) → t ≡ row_around front top back → ((a : OrderedTree) → r ≡ row_around a top back → back ≡ none) → back ≡ none
  past_trivia shape.nothing front e k = k front e
  past_trivia (shape.trivia {content = content} {t = t} h g) none e k = let same : top.content ≡ content = cc in absurd (not_both content (trivia_passed o content h) (subst IsElement same element))
  past_trivia (shape.trivia {content = content} {t = t} h g) (more d x a) e k = let same : t ≡ row_around a top back = cc in past_trivia g a same k

  last_one : (content : Content) (below front : OrderedTree) → more content below none ≡ row_around front top back → back ≡ none
  last_one content below none e = let same : none ≡ back = cc in sym same
  last_one content below (more d x a) e = let same : none ≡ row_around a top back = cc in absurd (no_more a back top same)

  past_colon : {content : Content} {below u : OrderedTree} → Trivia o u (more content below none) → (front : OrderedTree) → token_then 0x3A u ≡ row_around front top back → back ≡ none
  past_colon h none e = let same : top.content ≡ token 0x3A = cc in absurd (false≢true (subst IsElement same element))
  past_colon {content} {below} {u} h (more d x a) e = let same : u ≡ row_around a top back = cc in past_trivia h a same (λ b f. last_one content below b f)

  property_ends : {row : OrderedTree} → PropertyAlone o row → (front : OrderedTree) → front ≢ none → row ≡ row_around front top back → back ≡ none
  property_ends (alone.named n g h v) none ne e = absurd (ne refl)
  property_ends (alone.named {after = after} n g h v) (more d x a) ne e = let same : after ≡ row_around a top back = cc in past_trivia g a same (λ b f. past_colon h b f)

front_of : {o : Options} {content : Content} {below after : OrderedTree} → Whole o (more content below after) → IsWhole o content below
front_of (more_whole w r) = w

-- what is below a node of a whole row is whole
below_whole : {o : Options} {content : Content} {below : OrderedTree} → IsWhole o content below → Whole o below
below_whole (whole_leaf l) = Whole.none_whole
below_whole {o} (whole_value v) = value_row_whole o v
below_whole {o} (whole_property p) = property_whole o p

property_of_whole : {o : Options} {below : OrderedTree} → IsWhole o property below → PropertyAlone o below
property_of_whole (whole_leaf l) = absurd (false≢true (sym l))
property_of_whole (whole_value (alone.literal h)) = absurd h
property_of_whole (whole_property p) = p

-- the rows around a child
module _ (ns : List Node) (tree : IsTree ns) (n c : ℕ) (said : parent_at ns n ≡ Some c) where
  abbrev pub row : List ℕ
  row = children_at ns c

  abbrev pub place : ℕ
  place = place_at ns n

  pub record Around : Type 0 where
    pub front : OrderedTree
    pub back : OrderedTree
    pub before : Shows ns (take place row) front
    pub behind : Shows ns (drop (place + 1) row) back
    pub is : row_below ns c ≡ row_around front (top_at ns n) back

  first_shown : (rest : List ℕ) (t : OrderedTree) → Shows ns (n ∷ rest) t → (back : OrderedTree) × Shows ns rest back × (t ≡ more (content_at ns n) (row_below ns n) back)
  first_shown rest _ (shows_more {below = b} {after = a} p q) =
      let same : b ≡ row_below ns n = Shows-unique ns (children_at ns n) b (row_below ns n) p (Shows-row_below ns tree n (parent_there ns tree n c said).0) in
      (a, q, ap (λ t. more (content_at ns n) t a) same)

  pub around : Around
  around =
      let parts : row ≡ take place row ++ n ∷ drop (place + 1) row =
      sym (take-append-drop place row) ∙ ap (λ l. take place row ++ l) (drop_more row place 0 (tree.within n c said)) ∙ ap (λ m. take place row ++ m ∷ drop (place + 1) row) (tree.found n c said) in
      let whole : Shows ns (take place row ++ n ∷ drop (place + 1) row) (row_below ns c) = subst (λ (l : List ℕ). Shows ns l (row_below ns c)) parts (Shows-row_below ns tree c (parent_there ns tree n c said).1) in
      let two = Shows-part ns (take place row) (n ∷ drop (place + 1) row) (row_below ns c) whole in
      let one = first_shown (drop (place + 1) row) two.1 two.4 in
      record { front = two.0; back = one.0; before = two.3; behind = one.1; is = two.2 ∙ ap (followed_by two.0) one.2 }

  siblings_row : row_of ns n ≡ row
  siblings_row = ap (λ o. with_parent o (children_at ns)) said

  -- what is seen beside it
  pub before_is : seen_before ns n ≡ nearest ns (reverse (take place row))
  before_is = ap (λ l. nearest ns (reverse (take place l))) siblings_row

  pub behind_is : siblings_after ns n ≡ drop (place + 1) row
  behind_is = ap (drop (place + 1)) siblings_row

no_numbers : (ns : List Node) (xs : List ℕ) → Shows ns xs none → xs ≡ []
no_numbers ns _ shows_none = refl

-- the row of a container that is a value
record Bracketed (o : Options) (below : OrderedTree) : Type 0 where
  kind : RowKind
  bracket : ℕ
  inside : OrderedTree
  is : below ≡ token_then bracket inside
  row : RowAlone o kind rows.nothing_yet inside

bracketed : (o : Options) (content : Content) (below : OrderedTree) → ValueAlone o content below → below ≢ none → Bracketed o below
bracketed o content below v ne = by v refl
  where
    by : {c : Content} {b : OrderedTree} → ValueAlone o c b → b ≡ below → Bracketed o below
    by (alone.literal h) e = absurd (ne (sym e))
    by (alone.an_array {row = row} g) e = record { kind = rows.of_values; bracket = 0x5B; inside = row; is = sym e; row = g }
    by (alone.an_object {row = row} g) e = record { kind = rows.of_properties; bracket = 0x7B; inside = row; is = sym e; row = g }

inside_brackets : {o : Options} {below : OrderedTree} → Bracketed o below → (top : Top) → IsElement top.content → (front back : OrderedTree) → below ≡ row_around front top back → (front ≢ none) × (back ≢ none)
inside_brackets {o} b top element front back e = (behind_bracket front back b.inside top b.bracket element (sym e ∙ b.is), by front (sym e ∙ b.is))
  where
    by : (front : OrderedTree) → row_around front top back ≡ token_then b.bracket b.inside → back ≢ none
    by none f = absurd (behind_bracket none back b.inside top b.bracket element f refl)
    by (more d x a) f = let same : b.inside ≡ row_around a top back = cc in before_bracket o top element back b.row a same

around_some : (front back : OrderedTree) (top : Top) → row_around front top back ≢ none
around_some front back top e = no_more front back top (sym e)

pub first_false : (ns : List Node) (x y : Option ℕ) → begins_bare ns (or_else x y) ≡ false → begins_bare ns x ≡ false
first_false ns None y e = refl
first_false ns (Some k) y e = e

module _ (o : Options) (old new : List Node) (path : List ℕ) (n m : ℕ) (tree : IsTree old) (s : SoundTree o (ordered_tree old 0)) (at : IsAt old path n) (r : Replaces old new n m)
    (fit : IsValueBefore o (top_at old m) []) (lines : LinesEnd false (row_below old m)) (quiet : IsTrue (is_bare (content_at old m)) → IsApart old n) where
  abbrev c : ℕ
  c = r.container

  abbrev was : Top
  was = top_at old n

  abbrev now : Top
  now = top_at old m

  near : Around old tree n c r.parent
  near = around old tree n c r.parent

  abbrev front : OrderedTree
  front = near.front

  abbrev back : OrderedTree
  back = near.back

  spliced : Respliced old new c
  spliced = record { from = place_at old n; to = place_at old n + 1; put = m ∷ []; tree = tree; in_tree = (parent_there old tree n c r.parent).1; after = r.after; join = r.join; spliced = r.spliced }

  new_row : row_below new c ≡ row_around front now back
  unfolding spliced
  new_row =
      respliced_row old new c spliced front (more (content_at old m) (row_below old m) none) back near.before
      (shows_more {after = none} (Shows-row_below old tree m (r.join.in_tree 0 (omega arith))) shows_none) near.behind

  changed : DocumentChanged was now path (ordered_tree old 0) (ordered_tree new 0)
  changed = replaced_at_path old new n m r path at

  loose : LinesEndLoosely (is_loose now.content) false now.below
  loose = loosens (is_loose (content_at old m)) false (row_below old m) lines

  value : ValueAlone o now.content now.below
  value = value_alone o fit

  -- nothing stands beside it in its row
  front_quiet : Whole o front → IsTrue (is_bare (content_at old m)) → is_bare_leaf (last_printed (leaves front)) ≡ false
  front_quiet w b = front_bare old o near.before w ∙ ap (ends_bare old) (sym (before_is old tree n c r.parent)) ∙ (quiet b).0

  back_quiet : Whole o back → IsTrue (is_bare (content_at old m)) → is_bare_leaf (first_printed (leaves back)) ≡ false
  back_quiet w b =
      back_bare old o near.behind w ∙ ap (λ l. begins_bare old (nearest old l)) (sym (behind_is old tree n c r.parent))
      ∙ first_false old (nearest old (siblings_after old n)) (behind_holder old n) (quiet b).1

  front_whole : Whole o (row_below old c) → Whole o front
  front_whole w = whole_before o front (more (content_at old n) (row_below old n) back) (subst (Whole o) near.is w)

  back_whole : Whole o (row_below old c) → Whole o back
  back_whole w =
      whole_behind o (more (content_at old n) (row_below old n) none) back (whole_behind o front (more (content_at old n) (row_below old n) back) (subst (Whole o) near.is w))

  in_row : Whole o (row_below old c) → (meet (leaves front) (leaves_of now ++ leaves back) ≡ false) × (meet (leaves_of now) (leaves back) ≡ false)
  in_row w =
      not_met (leaves front) (leaves_of now) (leaves back) (is_bare (content_at old m)) (value_first o value) (value_last o value) (front_quiet (front_whole w)) (back_quiet (back_whole w))

  -- in the root
  root_is : (ns : List Node) → IsTree ns → ordered_tree ns 0 ≡ more root (row_below ns 0) none
  root_is ns t = sym (document_is ns t (row_below ns 0) (Shows-row_below ns t 0 t.first))

  sound_in_root : c ≡ 0 → SoundTree o (ordered_tree new 0)
  sound_in_root zeroth =
      let g = document_alone o s.shaped in
      let first : ordered_tree old 0 ≡ more root (row_around front was back) none = root_is old tree ∙ ap (λ k. more root (row_below old k) none) (sym zeroth) ∙ ap (λ t. more root t none) near.is in
      let last : ordered_tree new 0 ≡ more root (row_around front now back) none = root_is new r.after ∙ ap (λ k. more root (row_below new k) none) (sym zeroth) ∙ ap (λ t. more root t none) new_row in
      let rows_same : more root g.0 none ≡ more root (row_around front was back) none = sym g.1 ∙ first in
      let row_is : g.0 ≡ row_around front was back = cc in
      let whole : Whole o (row_below old c) = subst (Whole o) (row_is ∙ sym near.is) (root_whole o g.2) in
      let quiet = in_row whole in
      subst (SoundTree o) (sym last)
      (kept_by_value_in_root o was now front back (subst (SoundTree o) first s) path
      (subst (λ t. DocumentChanged was now path t (more root (row_around front now back) none)) first (subst (λ t. DocumentChanged was now path (ordered_tree old 0) t) last changed)) fit loose quiet.0 quiet.1)

  -- below a container at a path
  over_changed : (p : ℕ) (q : List ℕ) → IsOver old p c → IsAt old q p → DocumentChanged (top_at old p) (top_at new p) q (ordered_tree old 0) (ordered_tree new 0)
  over_changed p q over there = respliced_over old new c spliced p over q there

  over_replaced : (p : ℕ) (q : List ℕ) → IsOver old p c → IsAt old q p → Replaced (row_below old p) (row_below new p) (ordered_tree old 0) (ordered_tree new 0)
  over_replaced p q over there = document_replaced (sym (r.spliced.content p)) (over_changed p q over there)

  over_value : (p : ℕ) (q : List ℕ) → IsOver old p c → IsAt old q p → ValueAlone o (content_at old p) (row_below old p)
  over_value p q over there = value_alone o (document_held o (over_changed p q over there) s.shaped).1

  sound_in_array : (p : ℕ) (q : List ℕ) → c ≡ p → IsAt old q p → IsElement (content_at old n) → SoundTree o (ordered_tree new 0)
  sound_in_array p q same there element =
      let here : IsAt old q c = subst (IsAt old q) (sym same) there in
      let v = over_value c q IsOver.itself here in
      let some : row_below old c ≢ none = λ e. around_some front back was (sym near.is ∙ e) in
      let apart = inside_brackets (bracketed o (content_at old c) (row_below old c) v some) was element front back near.is in
      let rows = over_replaced c q IsOver.itself here in
      let around_it : Replaced (row_around front was back) (row_around front now back) (ordered_tree old 0) (ordered_tree new 0) =
      subst (λ t. Replaced t (row_around front now back) (ordered_tree old 0) (ordered_tree new 0)) near.is (subst (λ t. Replaced (row_below old c) t (ordered_tree old 0) (ordered_tree new 0)) new_row rows) in
      let quiet = in_row (value_row_whole o v) in
      kept_by_value_in_row o (ordered_tree old 0) s was now path (ordered_tree new 0) changed fit loose front back around_it apart.0 apart.1 quiet.0 quiet.1

  -- in a property
  module _ (p h i : ℕ) (q : List ℕ) (at_object : IsAt old q p) (holds : IsElementOf old p i h) (held : IsHeldBy old h n) where
    property_child : parent_at old h ≡ Some p
    property_child = element_parent old tree p i h holds

    same : h ≡ c
    same = Some_same h c (sym (element_parent old tree h 1 n held.1) ∙ r.parent)

    over : IsOver old p c
    over = subst (IsOver old p) same (IsOver.above property_child IsOver.itself)

    far : Around old tree h p property_child
    far = around old tree h p property_child

    abbrev before : OrderedTree
    before = far.front

    abbrev behind : OrderedTree
    behind = far.back

    p_there : p < length old
    p_there = (parent_there old tree h p property_child).1

    p_apart : p ≢ c
    p_apart e = not_over_parent old tree h p property_child (subst (IsOver old h) (same ∙ sym e) IsOver.itself)

    -- its row differs in the property
    abbrev members : List ℕ
    members = children_at old p

    abbrev k : ℕ
    k = place_at old h

    differs : ChangedIn old new c
    differs = spliced_in old new c (place_at old n) (place_at old n + 1) (m ∷ []) tree r.spliced

    aside : (e : ℕ) → e < length members → e ≢ k → IsOver old (slice_index members e) c → ⊥
    aside e l ne = sibling_not_over old tree h p e c property_child (subst (IsOver old h) same IsOver.itself) l ne

    before_kept : Shows new (take k members) before
    before_kept = apart_kept old new c differs (take k members) before (λ e l also.
        let low : e < k = omega (arith, l, length-take k members) in
        aside e (omega (arith, l, length-take k members)) (λ z. omega (arith, z, low)) (subst (λ j. IsOver old j c) (get_or-take k members e 0 low) also)) far.before

    behind_kept : Shows new (drop (k + 1) members) behind
    behind_kept = apart_kept old new c differs (drop (k + 1) members) behind (λ e l also.
        aside (k + 1 + e) (omega (arith, l, length-drop (k + 1) members)) (λ z. omega (arith, z)) (subst (λ j. IsOver old j c) (get_or-drop (k + 1) members e 0) also)) far.behind

    members_are : members ≡ take k members ++ h ∷ drop (k + 1) members
    members_are =
        sym (take-append-drop k members) ∙ ap (λ l. take k members ++ l) (drop_more members k 0 (tree.within h p property_child)) ∙ ap (λ j. take k members ++ j ∷ drop (k + 1) members) (tree.found h p property_child)

    h_there : h < length new
    h_there = omega (arith, (parent_there old tree h p property_child).0, r.spliced.len)

    new_members : row_below new p ≡ row_around before (top_at new h) behind
    new_members =
        let rest : Shows new (h ∷ drop (k + 1) members) (more (content_at new h) (row_below new h) behind) = shows_more {after = behind} (Shows-row_below new r.after h h_there) behind_kept in
        let whole : Shows new (take k members ++ h ∷ drop (k + 1) members) (row_around before (top_at new h) behind) =
        Shows-append new (take k members) (h ∷ drop (k + 1) members) before (more (content_at new h) (row_below new h) behind) before_kept rest in
        let here : Shows new (children_at new p) (row_around before (top_at new h) behind) = subst (λ (l : List ℕ). Shows new l (row_around before (top_at new h) behind)) (sym ((r.spliced.others p p_apart) ∙ members_are)) whole in
        Shows-unique new (children_at new p) (row_below new p) (row_around before (top_at new h) behind) (Shows-row_below new r.after p (omega (arith, p_there, r.spliced.len))) here

    object_value : ValueAlone o (content_at old p) (row_below old p)
    object_value = over_value p q over at_object

    object_whole : Whole o (row_below old p)
    object_whole = value_row_whole o object_value

    rest_whole : Whole o (more (content_at old h) (row_below old h) behind)
    rest_whole = whole_behind o before (more (content_at old h) (row_below old h) behind) (subst (Whole o) far.is object_whole)

    property_whole_there : IsWhole o property (row_below old h)
    property_whole_there = subst (λ (w : Content). IsWhole o w (row_below old h)) held.0 (front_of rest_whole)

    -- the value ends the property, behind its name
    name_before : front ≢ none
    name_before none_there =
        let cs : List ℕ = children_at old h in
        let stands : StandsAt (is_element_at old) cs 1 n = stands_at (is_element_at old) cs 1 n held.1 in
        let place : place_at old n ≡ stands.0 = ap (place_at old) (sym stands.2) ∙ tree.placed h stands.0 stands.1 in
        let bare : take (place_at old n) (children_at old c) ≡ [] = no_numbers old (take (place_at old n) (children_at old c)) (subst (Shows old (take (place_at old n) (children_at old c))) none_there near.before) in
        let empty : take stands.0 cs ≡ [] = ap (λ z. take z cs) (sym place) ∙ ap (λ z. take (place_at old n) (children_at old z)) same ∙ bare in
        let count : length (filter (is_element_at old) (take stands.0 cs)) ≡ 0 = ap (λ l. length (filter (is_element_at old) l)) empty in
        omega (arith, count, stands.4)

    ends : IsElement (content_at old n) → back ≡ none
    ends element = property_ends o was element back (property_of_whole property_whole_there) front name_before (ap (row_below old) same ∙ near.is)

    sound_in_property : IsElement (content_at old n) → SoundTree o (ordered_tree new 0)
    sound_in_property element =
        let last : back ≡ none = ends element in
        let some : row_below old p ≢ none = λ e. around_some before behind (top_at old h) (sym far.is ∙ e) in
        let is_property : IsElement (content_at old h) = subst IsElement (sym held.0) refl in
        let apart = inside_brackets (bracketed o (content_at old p) (row_below old p) object_value some) (top_at old h) is_property before behind far.is in
        let old_held : row_below old h ≡ row_around front was none = ap (row_below old) same ∙ near.is ∙ ap (row_around front was) last in
        let new_held : row_below new h ≡ row_around front now none = ap (row_below new) same ∙ new_row ∙ ap (row_around front now) last in
        let old_row : row_below old p ≡ row_around before (holding front was) behind =
        far.is ∙ ap (λ w. followed_by before (more w (row_below old h) behind)) held.0 ∙ ap (λ t. followed_by before (more property t behind)) old_held in
        let new_row_is : row_below new p ≡ row_around before (holding front now) behind =
        new_members ∙ ap (λ w. followed_by before (more w (row_below new h) behind)) (r.spliced.content h ∙ held.0) ∙ ap (λ t. followed_by before (more property t behind)) new_held in
        let rows = over_replaced p q over at_object in
        let around_it : Replaced (row_around before (holding front was) behind) (row_around before (holding front now) behind) (ordered_tree old 0) (ordered_tree new 0) =
        subst (λ t. Replaced t (row_around before (holding front now) behind) (ordered_tree old 0) (ordered_tree new 0)) old_row (subst (λ t. Replaced (row_below old p) t (ordered_tree old 0) (ordered_tree new 0)) new_row_is rows) in
        let held_whole : Whole o (row_below old c) = subst (λ z. Whole o (row_below old z)) same (below_whole property_whole_there) in
        let behind_whole : Whole o behind = whole_behind o (more (content_at old h) (row_below old h) none) behind rest_whole in
        let no_rest : drop (place_at old n + 1) (children_at old c) ≡ [] = no_numbers old (drop (place_at old n + 1) (children_at old c)) (subst (Shows old (drop (place_at old n + 1) (children_at old c))) last near.behind) in
        let none_behind : nearest old (siblings_after old n) ≡ None = ap (nearest old) (behind_is old tree n c r.parent ∙ no_rest) in
        let holder : behind_holder old n ≡ nearest old (siblings_after old h) =
        ap (option_and_then (λ z. behind_property old (content_at old z) z)) (r.parent ∙ ap Some (sym same)) ∙ ap (λ w. behind_property old w h) held.0 in
        let seen : seen_behind old n ≡ nearest old (siblings_after old h) = ap (λ x. or_else x (behind_holder old n)) none_behind ∙ holder in
        let later_on : IsTrue (is_bare (content_at old m)) → is_bare_leaf (first_printed (leaves behind)) ≡ false =
        λ b. back_bare old o far.behind behind_whole ∙ ap (λ l. begins_bare old (nearest old l)) (sym (behind_is old tree h p property_child)) ∙ ap (begins_bare old) (sym seen) ∙ (quiet b).1 in
        let apart_now = not_met (leaves front) (leaves_of now) (leaves behind) (is_bare (content_at old m)) (value_first o value) (value_last o value) (front_quiet (front_whole held_whole)) later_on in
        kept_by_value_in_property o (ordered_tree old 0) s was now path (ordered_tree new 0) changed fit loose front before behind around_it name_before apart.1 apart_now.0 apart_now.1

  -- wherever the value stands
  element_there : (p i : ℕ) → IsElementOf old p i n → IsElement (content_at old n)
  element_there p i e = (stands_at (is_element_at old) (children_at old p) i n e).3

  same_parent : (p i : ℕ) → IsElementOf old p i n → c ≡ p
  same_parent p i e = Some_same c p (sym r.parent ∙ element_parent old tree p i n e)

  sound_held : HeldAt old n → SoundTree o (ordered_tree new 0)
  sound_held (by_root e) = sound_in_root (same_parent 0 0 e)
  sound_held (by_array p i q there a e) = sound_in_array p q (same_parent p i e) there (element_there p i e)
  sound_held (by_property p h i q there a e held) = sound_in_property p h i q there e held (element_there h 1 held.1)

  pub stays_sound_apart : SoundTree o (ordered_tree new 0)
  stays_sound_apart = sound_held (held_at old path n at)

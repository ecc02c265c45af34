-- The first property of a name in an object of a sound document is the first of that name in the object's value.
use Rattle.std.proofs.Common.{◌≡◌, ◌≢◌, ℕ, true, false, List, [], ◌∷◌, suc, filter, slice_get, Option, Some, None, IsTrue, refl, sym, ap, subst, ◌∙◌, arith}
use Rattle.std.specs.List.{All, find}
use Rattle.jsonc_text.specs.Options.{Options}
use Rattle.jsonc_text.specs.Plain.{Plain, Members, member}
use Rattle.jsonc_tree.specs.Content as content
use Rattle.jsonc_tree.specs.Content.{Content, property}
use Rattle.jsonc_tree.specs.OrderedTree.{OrderedTree, none, more, Shows, shows_none, shows_more}
use Rattle.jsonc_tree.specs.Tree.{Node, content_at, children_at}
use Rattle.jsonc_tree.specs.Values as values
use Rattle.jsonc_tree.specs.Values.{is_passed_over, IsNameLeaf, MembersOf, PropertyOf}
use Rattle.jsonc_sound.specs.Shape.{IsNameBefore}
use Rattle.jsonc_layout.specs.nodes.Kinds.{is_element, is_element_at}
use Rattle.jsonc_layout.specs.nodes.Names as names
use Rattle.jsonc_layout.specs.nodes.Names.{FirstNamed, HasName, IsNamed, Names}
use Rattle.jsonc_layout.specs.nodes.Properties.{is_name, is_name_at}
use Rattle.jsonc_layout.proofs.lemmas.nodes.NodeNames.{names_once}
use Rattle.jsonc_layout.proofs.lemmas.to_input.ReadValues.{stands_for}
use Rattle.jsonc_sound.specs.Alone as alone
use Rattle.jsonc_sound.specs.Alone.{PropertyAlone}
use Rattle.jsonc_sound.proofs.FirstNodes.{name_element, no_element}
use Rattle.jsonc_edit.proofs.Elements.{taken, left}
use Rattle.jsonc_edit.proofs.FittingFinds.{passes}
use Rattle.jsonc_insert.specs.named.Members.{LacksMember, no_more, other_name, IsFirstMember, first_is, first_later}
use Rattle.jsonc_insert.proofs.lemmas.named.PropertyValues.{first_shown}

-- a leaf that names a property is a string or a word, and its name is the one that it means
leaf_named : (o : Options) (leaf : Content) (name : List ℕ) → IsNameBefore o leaf [] → IsNameLeaf o leaf name → (is_name leaf ≡ true) × Names leaf name
leaf_named o (content.string s) name k l = (refl, stands_for o s name l)
leaf_named o (content.word s) name k l = (refl, l.1)
leaf_named o (content.number s) name k l = absurd k
leaf_named o (content.boolean b) name k l = absurd k
leaf_named o content.null name k l = absurd k
leaf_named o content.root name k l = absurd k
leaf_named o content.object name k l = absurd k
leaf_named o content.array name k l = absurd k
leaf_named o content.property name k l = absurd k
leaf_named o (content.token c) name k l = absurd k
leaf_named o (content.whitespace s) name k l = absurd k
leaf_named o (content.newline e) name k l = absurd k
leaf_named o (content.comment s) name k l = absurd k

module _ (o : Options) (ns : List Node) where
  -- a property's name, among its children
  record NameLeaf (xs : List ℕ) (name : List ℕ) : Type 0 where
    leaf : ℕ
    is : find (is_name_at ns) xs ≡ Some leaf
    named : Names (content_at ns leaf) name

  first_leaf : (xs : List ℕ) (leaf : Content) (after : OrderedTree) (name : List ℕ) (v : Plain) → Shows ns xs (more leaf none after) → IsNameBefore o leaf [] → PropertyOf o (more leaf none after) name v → NameLeaf xs name
  first_leaf xs leaf after name v p k (values.pass_to_name q h) = absurd (no_element leaf (name_element o leaf [] k) q)
  first_leaf xs leaf after name v p k (values.name_of l h) =
      let first = first_shown o ns xs (more leaf none after) p leaf none after refl in
      let it = leaf_named o leaf name k l in
      record {
        leaf = first.node;
        is = ap (find (is_name_at ns)) first.is ∙ passes (is_name_at ns) first.node first.rest (ap is_name first.kind ∙ it.0);
        named = subst (λ w. Names w name) (sym first.kind) it.1;
      }

  name_leaf : (xs : List ℕ) (row : OrderedTree) (name : List ℕ) (v : Plain) → Shows ns xs row → PropertyAlone o row → PropertyOf o row name v → NameLeaf xs name
  name_leaf xs _ name v p (alone.named {name = leaf} {after = after} k g h w) is = first_leaf xs leaf after name v p k is

  -- so the property has the name, and no other
  has_name : (n : ℕ) (name : List ℕ) → NameLeaf (children_at ns n) name → HasName ns n name
  has_name n name l = (l.leaf, l.is, l.named)

  has_no_other : (n : ℕ) (name other : List ℕ) → NameLeaf (children_at ns n) name → HasName ns n other → name ≡ other
  has_no_other n name other l (leaf, is, named) =
      let same : l.leaf ≡ leaf = let both : Some l.leaf ≡ Some leaf = sym l.is ∙ is in cc in
      names_once (content_at ns leaf) name other (subst (λ m. Names (content_at ns m) name) same l.named) named

  -- each property of a row is one of a sound document
  abbrev pub IsWhole : ℕ → Type 0
  IsWhole n = content_at ns n ≡ property → (row : OrderedTree) → Shows ns (children_at ns n) row → PropertyAlone o row

  -- what was found among these nodes, and of these properties none or one has the name
  abbrev pub Among : List ℕ → List ℕ → Option ℕ → Members → Type 0
  Among xs name None ms = LacksMember name ms
  Among xs name (Some r) ms = (i : ℕ) × (slice_get (filter (is_element_at ns) xs) i ≡ Some r) × IsFirstMember name i ms

  past_other : (n : ℕ) (xs name : List ℕ) (found : Option ℕ) (ms : Members) → is_element_at ns n ≡ false → Among xs name found ms → Among (n ∷ xs) name found ms
  past_other n xs name None ms is a = a
  past_other n xs name (Some r) ms is (i, e, first) = (i, ap (λ l. slice_get l i) (left (is_element_at ns) n xs is) ∙ e, first)

  past_property : (n : ℕ) (xs name : List ℕ) (found : Option ℕ) (m : List ℕ) (v : Plain) (ms : Members) → is_element_at ns n ≡ true → m ≢ name → Among xs name found ms → Among (n ∷ xs) name found (member m v ms)
  past_property n xs name None m v ms is ne a = other_name ne a
  past_property n xs name (Some r) m v ms is ne (i, e, first) = (suc i, ap (λ l. slice_get l (suc i)) (taken (is_element_at ns) n xs is) ∙ e, first_later ne first)

  passed_over : (w : Content) → IsTrue (is_passed_over w) → (is_element w ≡ false) × (w ≡ property → ⊥)
  passed_over (content.whitespace s) h = (refl, λ e. let wrong : content.whitespace s ≡ property = e in cc)
  passed_over (content.newline k) h = (refl, λ e. let wrong : content.newline k ≡ property = e in cc)
  passed_over (content.comment s) h = (refl, λ e. let wrong : content.comment s ≡ property = e in cc)
  passed_over (content.token c) h = (refl, λ e. let wrong : content.token c ≡ property = e in cc)
  passed_over (content.string s) h = cc
  passed_over (content.word s) h = cc
  passed_over (content.number s) h = cc
  passed_over (content.boolean b) h = cc
  passed_over content.null h = cc
  passed_over content.root h = cc
  passed_over content.object h = cc
  passed_over content.array h = cc
  passed_over content.property h = cc

  not_first : (n : ℕ) (xs : List ℕ) (name : List ℕ) (found : Option ℕ) (ms : Members) → (content_at ns n ≡ property → ⊥) → is_element_at ns n ≡ false → FirstNamed ns name (n ∷ xs) found
      → ((rest : Option ℕ) → FirstNamed ns name xs rest → Among xs name rest ms) → Among (n ∷ xs) name found ms
  not_first n xs name _ ms other_kind is (names.here named) others = absurd (other_kind named.0)
  not_first n xs name found ms other_kind is (names.later other f) others = past_other n xs name found ms is (others found f)

  one_first : (n : ℕ) (xs : List ℕ) (name : List ℕ) (found : Option ℕ) (m : List ℕ) (v : Plain) (ms : Members) → content_at ns n ≡ property → NameLeaf (children_at ns n) m → FirstNamed ns name (n ∷ xs) found
      → ((rest : Option ℕ) → FirstNamed ns name xs rest → Among xs name rest ms) → Among (n ∷ xs) name found (member m v ms)
  one_first n xs name _ m v ms is leaf (names.here named) others =
      let same : m ≡ name = has_no_other n m name leaf named.1 in
      (0, ap (λ l. slice_get l 0) (taken (is_element_at ns) n xs (ap is_element is)), subst (λ k. IsFirstMember k 0 (member m v ms)) same first_is)
  one_first n xs name found m v ms is leaf (names.later other f) others =
      past_property n xs name found m v ms (ap is_element is) (λ same. other (is, subst (HasName ns n) same (has_name n m leaf))) (others found f)

  others_whole : (n : ℕ) (xs : List ℕ) → All IsWhole (n ∷ xs) → All IsWhole xs
  others_whole n xs whole = λ k d h. whole (suc k) d (omega (arith, h))

  pub members_found : (xs : List ℕ) (row same : OrderedTree) (ms : Members) (name : List ℕ) (found : Option ℕ) → Shows ns xs row → MembersOf o same ms → row ≡ same → All IsWhole xs → FirstNamed ns name xs found → Among xs name found ms
  members_found _ _ _ _ name _ shows_none values.no_more_members e whole names.none = no_more
  members_found _ _ _ _ name found shows_none (values.pass_to_members h g) e whole f = cc
  members_found _ _ _ _ name found shows_none (values.one_member h g) e whole f = cc
  members_found _ _ _ _ name found (shows_more p q) values.no_more_members e whole f = cc
  members_found _ _ _ ms name found (shows_more {n = n} {rest = rest} {below = below} {after = after} p q) (values.pass_to_members {content = w} {below = b} {after = a} h g) e whole f =
      let kind : content_at ns n ≡ w = cc in
      let tail : after ≡ a = cc in
      let over = passed_over w h in
      not_first n rest name found ms (λ is. over.1 (sym kind ∙ is)) (ap is_element kind ∙ over.0) f
      (λ k d. members_found rest after a ms name k q g tail (others_whole n rest whole) d)
  members_found _ _ _ _ name found (shows_more {n = n} {rest = rest} {below = below} {after = after} p q) (values.one_member {below = b} {after = a} {name = m} {v = v} {ms = ms} h g) e whole f =
      let kind : content_at ns n ≡ property = cc in
      let tail : after ≡ a = cc in
      let inner : below ≡ b = cc in
      let alone_here : PropertyAlone o below = whole 0 n (omega arith) kind below p in
      let leaf = name_leaf (children_at ns n) below m v p alone_here (subst (λ t. PropertyOf o t m v) (sym inner) h) in
      one_first n rest name found m v ms kind leaf f (λ k d. members_found rest after a ms name k q g tail (others_whole n rest whole) d)

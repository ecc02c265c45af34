-- The one property of a name among the children of an object of a sound document is the one of that name in its value.
use Rattle.std.proofs.Common.{◌≡◌, ◌≢◌, ℕ, true, false, List, [], ◌∷◌, suc, filter, slice_get, Option, Some, None, IsTrue, refl, sym, ap, subst, ◌∙◌, arith}
use Rattle.std.specs.List.{All, find}
use Rattle.jsonc_text.specs.Options.{Options}
use Rattle.jsonc_text.specs.Plain.{Plain, Members, member}
use Rattle.jsonc_tree.specs.Content as content
use Rattle.jsonc_tree.specs.Content.{Content, property}
use Rattle.jsonc_tree.specs.OrderedTree.{OrderedTree, none, more, Shows, shows_none, shows_more}
use Rattle.jsonc_tree.specs.Tree.{Node, content_at, children_at}
use Rattle.jsonc_tree.specs.Values as values
use Rattle.jsonc_tree.specs.Values.{is_passed_over, IsNameLeaf, MembersOf, PropertyOf}
use Rattle.jsonc_sound.specs.Alone as alone
use Rattle.jsonc_sound.specs.Alone.{PropertyAlone}
use Rattle.jsonc_sound.specs.Shape.{IsNameBefore}
use Rattle.jsonc_sound.proofs.FirstNodes.{name_element, no_element}
use Rattle.jsonc_layout.specs.nodes.Kinds.{is_element, is_element_at}
use Rattle.jsonc_layout.specs.nodes.Names.{FirstNamed, HasName, Names}
use Rattle.jsonc_layout.specs.nodes.Properties.{is_name, is_name_at}
use Rattle.jsonc_layout.proofs.lemmas.nodes.NodeNames.{names_once}
use Rattle.jsonc_layout.proofs.lemmas.to_input.ReadValues.{stands_for}
use Rattle.jsonc_edit.proofs.Elements.{taken, left}
use Rattle.jsonc_edit.proofs.FittingFinds.{passes}
use Rattle.jsonc_insert.specs.named.Members.{LacksMember, no_more, other_name}
use Rattle.jsonc_insert.proofs.lemmas.named.Names.{Among, IsWhole, members_found}
use Rattle.jsonc_insert.proofs.lemmas.named.PropertyValues.{first_shown}
use Rattle.jsonc_parser.specs.patch.Lookups as lookups
use Rattle.jsonc_parser.specs.patch.Lookups.{IsLookedUp}
use Rattle.jsonc_parser.specs.patch.References.{IsOnly, this_only, later_only, IsRepeated, this_again, later_again}
use Rattle.jsonc_parser.specs.declared.patch.reference.Lookup.{Lookup}
use Rattle.jsonc_parser.specs.declared.patch.reference.Lookup.TheVariants.{Missing, Once, Twice}

-- a leaf that names a property is a string or a word, and its name is the one that it means (as in jsonc_insert/proofs/lemmas/named/Names.antt, up to `has_no_other`)
leaf_named : (o : Options) (leaf : Content) (name : List ℕ) → IsNameBefore o leaf [] → IsNameLeaf o leaf name → (is_name leaf ≡ true) × Names leaf name
leaf_named o (content.string s) name k l = (refl, stands_for o s name l)
leaf_named o (content.word s) name k l = (refl, l.1)
leaf_named o (content.number s) name k l = absurd k
leaf_named o (content.boolean b) name k l = absurd k
leaf_named o content.null name k l = absurd k
leaf_named o content.root name k l = absurd k
leaf_named o content.object name k l = absurd k
leaf_named o content.array name k l = absurd k
leaf_named o content.property name k l = absurd k
leaf_named o (content.token c) name k l = absurd k
leaf_named o (content.whitespace s) name k l = absurd k
leaf_named o (content.newline e) name k l = absurd k
leaf_named o (content.comment s) name k l = absurd k

pub passed_over : (w : Content) → IsTrue (is_passed_over w) → (is_element w ≡ false) × (w ≡ property → ⊥)
passed_over (content.whitespace s) h = (refl, λ e. let wrong : content.whitespace s ≡ property = e in cc)
passed_over (content.newline k) h = (refl, λ e. let wrong : content.newline k ≡ property = e in cc)
passed_over (content.comment s) h = (refl, λ e. let wrong : content.comment s ≡ property = e in cc)
passed_over (content.token c) h = (refl, λ e. let wrong : content.token c ≡ property = e in cc)
passed_over (content.string s) h = cc
passed_over (content.word s) h = cc
passed_over (content.number s) h = cc
passed_over (content.boolean b) h = cc
passed_over content.null h = cc
passed_over content.root h = cc
passed_over content.object h = cc
passed_over content.array h = cc
passed_over content.property h = cc

module _ (o : Options) (ns : List Node) where
  -- a property's name, among its children
  pub record NameLeaf (xs : List ℕ) (name : List ℕ) : Type 0 where
    pub leaf : ℕ
    pub is : find (is_name_at ns) xs ≡ Some leaf
    pub named : Names (content_at ns leaf) name

  first_leaf : (xs : List ℕ) (leaf : Content) (after : OrderedTree) (name : List ℕ) (v : Plain) → Shows ns xs (more leaf none after) → IsNameBefore o leaf [] → PropertyOf o (more leaf none after) name v → NameLeaf xs name
  first_leaf xs leaf after name v p k (values.pass_to_name q h) = absurd (no_element leaf (name_element o leaf [] k) q)
  first_leaf xs leaf after name v p k (values.name_of l h) =
      let first = first_shown o ns xs (more leaf none after) p leaf none after refl in
      let it = leaf_named o leaf name k l in
      record {
        leaf = first.node;
        is = ap (find (is_name_at ns)) first.is ∙ passes (is_name_at ns) first.node first.rest (ap is_name first.kind ∙ it.0);
        named = subst (λ w. Names w name) (sym first.kind) it.1;
      }

  pub name_leaf : (xs : List ℕ) (row : OrderedTree) (name : List ℕ) (v : Plain) → Shows ns xs row → PropertyAlone o row → PropertyOf o row name v → NameLeaf xs name
  name_leaf xs _ name v p (alone.named {name = leaf} {after = after} k g h w) is = first_leaf xs leaf after name v p k is

  -- so the property has the name, and no other
  pub has_name : (n : ℕ) (name : List ℕ) → NameLeaf (children_at ns n) name → HasName ns n name
  has_name n name l = (l.leaf, l.is, l.named)

  has_no_other : (n : ℕ) (name other : List ℕ) → NameLeaf (children_at ns n) name → HasName ns n other → name ≡ other
  has_no_other n name other l (leaf, is, named) =
      let same : l.leaf ≡ leaf = let both : Some l.leaf ≡ Some leaf = sym l.is ∙ is in cc in
      names_once (content_at ns leaf) name other (subst (λ m. Names (content_at ns m) name) same l.named) named

  -- what was looked up among these nodes, and of these properties none, one or more than one has the name
  abbrev pub OneAmong : List ℕ → List ℕ → Lookup → Members → Type 0
  OneAmong xs name Missing ms = LacksMember name ms
  OneAmong xs name (Once r) ms = (i : ℕ) × (v : Plain) × (slice_get (filter (is_element_at ns) xs) i ≡ Some r) × (content_at ns r ≡ property) × IsOnly name v i ms
  OneAmong xs name Twice ms = IsRepeated name ms

  past_other : (n : ℕ) (xs name : List ℕ) (found : Lookup) (ms : Members) → is_element_at ns n ≡ false → OneAmong xs name found ms → OneAmong (n ∷ xs) name found ms
  past_other n xs name Missing ms is a = a
  past_other n xs name (Once r) ms is (i, v, e, kind, only) = (i, v, ap (λ l. slice_get l i) (left (is_element_at ns) n xs is) ∙ e, kind, only)
  past_other n xs name Twice ms is a = a

  past_property : (n : ℕ) (xs name : List ℕ) (found : Lookup) (m : List ℕ) (v : Plain) (ms : Members) → is_element_at ns n ≡ true → m ≢ name → OneAmong xs name found ms → OneAmong (n ∷ xs) name found (member m v ms)
  past_property n xs name Missing m v ms is ne a = other_name ne a
  past_property n xs name (Once r) m v ms is ne (i, w, e, kind, only) = (suc i, w, ap (λ l. slice_get l (suc i)) (taken (is_element_at ns) n xs is) ∙ e, kind, later_only ne only)
  past_property n xs name Twice m v ms is ne a = later_again ne a

  not_first : (n : ℕ) (xs : List ℕ) (name : List ℕ) (found : Lookup) (ms : Members) → (content_at ns n ≡ property → ⊥) → is_element_at ns n ≡ false → IsLookedUp ns name (n ∷ xs) found
      → ((rest : Lookup) → IsLookedUp ns name xs rest → OneAmong xs name rest ms) → OneAmong (n ∷ xs) name found ms
  not_first n xs name found ms other_kind is (lookups.past other f) others = past_other n xs name found ms is (others found f)
  not_first n xs name _ ms other_kind is (lookups.alone named f) others = absurd (other_kind named.0)
  not_first n xs name _ ms other_kind is (lookups.again named f) others = absurd (other_kind named.0)

  one_first : (n : ℕ) (xs : List ℕ) (name : List ℕ) (found : Lookup) (m : List ℕ) (v : Plain) (ms : Members) → content_at ns n ≡ property → NameLeaf (children_at ns n) m → IsLookedUp ns name (n ∷ xs) found
      → ((rest : Lookup) → IsLookedUp ns name xs rest → OneAmong xs name rest ms) → ((rest : Option ℕ) → FirstNamed ns name xs rest → Among o ns xs name rest ms) → OneAmong (n ∷ xs) name found (member m v ms)
  one_first n xs name found m v ms is leaf (lookups.past other f) others tails =
      past_property n xs name found m v ms (ap is_element is) (λ same. other (is, subst (HasName ns n) same (has_name n m leaf))) (others found f)
  one_first n xs name _ m v ms is leaf (lookups.alone named f) others tails =
      let same : m ≡ name = has_no_other n m name leaf named.1 in
      (0, v, ap (λ l. slice_get l 0) (taken (is_element_at ns) n xs (ap is_element is)), is, subst (λ k. IsOnly name v 0 (member k v ms)) (sym same) (this_only (tails None f)))
  one_first n xs name _ m v ms is leaf (lookups.again {m = again} named f) others tails =
      let same : m ≡ name = has_no_other n m name leaf named.1 in
      let later = tails (Some again) f in
      subst (λ k. IsRepeated name (member k v ms)) (sym same) (this_again later.2)

  pub others_whole : (n : ℕ) (xs : List ℕ) → All (IsWhole o ns) (n ∷ xs) → All (IsWhole o ns) xs
  others_whole n xs whole = λ k d h. whole (suc k) d (omega (arith, h))

  pub looked_up : (xs : List ℕ) (row same : OrderedTree) (ms : Members) (name : List ℕ) (found : Lookup) → Shows ns xs row → MembersOf o same ms → row ≡ same → All (IsWhole o ns) xs → IsLookedUp ns name xs found → OneAmong xs name found ms
  looked_up _ _ _ _ name _ shows_none values.no_more_members e whole lookups.no_more = no_more
  looked_up _ _ _ _ name found shows_none (values.pass_to_members h g) e whole f = cc
  looked_up _ _ _ _ name found shows_none (values.one_member h g) e whole f = cc
  looked_up _ _ _ _ name found (shows_more p q) values.no_more_members e whole f = cc
  looked_up _ _ _ ms name found (shows_more {n = n} {rest = rest} {below = below} {after = after} p q) (values.pass_to_members {content = w} {below = b} {after = a} h g) e whole f =
      let kind : content_at ns n ≡ w = cc in
      let tail : after ≡ a = cc in
      let over = passed_over w h in
      not_first n rest name found ms (λ is. over.1 (sym kind ∙ is)) (ap is_element kind ∙ over.0) f
      (λ k d. looked_up rest after a ms name k q g tail (others_whole n rest whole) d)
  looked_up _ _ _ _ name found (shows_more {n = n} {rest = rest} {below = below} {after = after} p q) (values.one_member {below = b} {after = a} {name = m} {v = v} {ms = ms} h g) e whole f =
      let kind : content_at ns n ≡ property = cc in
      let tail : after ≡ a = cc in
      let inner : below ≡ b = cc in
      let alone_here : PropertyAlone o below = whole 0 n (omega arith) kind below p in
      let leaf = name_leaf (children_at ns n) below m v p alone_here (subst (λ t. PropertyOf o t m v) (sym inner) h) in
      one_first n rest name found m v ms kind leaf f (λ k d. looked_up rest after a ms name k q g tail (others_whole n rest whole) d)
      (λ k d. members_found o ns rest after a ms name k q g tail (others_whole n rest whole) d)

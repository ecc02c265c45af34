-- A document has at most one plain value.
use Rattle.std.proofs.Common.{ℕ, ◌≡◌, ◌∙◌, sym, ap, subst, refl, List, Option, Some, None}
use Rattle.jsonc_text.specs.Options.{Options}
use Rattle.jsonc_text.specs.Plain.{Plain, Items, item, Members, member}
use Rattle.jsonc_text.proofs.UniqueStrings.{string_unique}
use Rattle.jsonc_tree.specs.Content.{Content}
use Rattle.jsonc_tree.specs.OrderedTree.{OrderedTree}
use Rattle.jsonc_tree.specs.Values as values
use Rattle.jsonc_tree.specs.Values.{IsNameLeaf, HasNoValue, ValueOf, ItemsOf, MembersOf, PropertyOf, HoldsValue, HoldsAtMostOne, DocumentValueOf}
use Rattle.jsonc_sound.proofs.FirstNodes.{no_element, value_of_element, name_leaf_element}

module _ (o : Options) where
  name_once : (content : Content) (a b : List ℕ) → IsNameLeaf o content a → IsNameLeaf o content b → a ≡ b
  name_once (Content.string s) a b h k = (string_unique h k).0
  name_once content a b h k = h.1 ∙ sym k.1

  mutual
    value_once : {content : Content} {below : OrderedTree} {a b : Plain} → ValueOf o content below a → ValueOf o content below b → a ≡ b
    value_once (values.string h) (values.string k) = ap Plain.string (string_unique h k).0
    value_once values.number values.number = refl
    value_once values.boolean values.boolean = refl
    value_once values.null values.null = refl
    value_once (values.array h) (values.array k) = ap Plain.array (items_once h k)
    value_once (values.object h) (values.object k) = ap Plain.object (members_once h k)

    items_once : {row : OrderedTree} {a b : Items} → ItemsOf o row a → ItemsOf o row b → a ≡ b
    items_once values.no_more_items values.no_more_items = refl
    items_once (values.pass_to_items p h) (values.pass_to_items q k) = items_once h k
    items_once (values.pass_to_items {content = content} p h) (values.one_item v k) = absurd (no_element content (value_of_element v) p)
    items_once (values.one_item {content = content} v h) (values.pass_to_items q k) = absurd (no_element content (value_of_element v) q)
    items_once (values.one_item {v = x} {vs = xs} v h) (values.one_item {v = y} {vs = ys} w k) = ap (λ z. item z xs) (value_once v w) ∙ ap (item y) (items_once h k)

    members_once : {row : OrderedTree} {a b : Members} → MembersOf o row a → MembersOf o row b → a ≡ b
    members_once values.no_more_members values.no_more_members = refl
    members_once (values.pass_to_members p h) (values.pass_to_members q k) = members_once h k
    members_once (values.pass_to_members p h) (values.one_member v k) = absurd (no_element Content.property refl p)
    members_once (values.one_member v h) (values.pass_to_members q k) = absurd (no_element Content.property refl q)
    members_once (values.one_member {name = n} {v = x} {ms = xs} v h) (values.one_member {name = m} {v = y} {ms = ys} w k) =
        let one = property_once v w in
        ap (λ z. member z x xs) one.0 ∙ ap (λ z. member m z xs) one.1 ∙ ap (member m y) (members_once h k)

    property_once : {row : OrderedTree} {n m : List ℕ} {a b : Plain} → PropertyOf o row n a → PropertyOf o row m b → (n ≡ m) × (a ≡ b)
    property_once (values.pass_to_name p h) (values.pass_to_name q k) = property_once h k
    property_once {m = m} (values.pass_to_name {content = content} p h) (values.name_of n k) = absurd (no_element content (name_leaf_element o content m n) p)
    property_once {n = m} (values.name_of {content = content} n h) (values.pass_to_name q k) = absurd (no_element content (name_leaf_element o content m n) q)
    property_once {n = n} {m = m} (values.name_of {content = content} p h) (values.name_of q k) = (name_once content n m p q, held_once h k)

    held_once : {row : OrderedTree} {a b : Plain} → HoldsValue o row a → HoldsValue o row b → a ≡ b
    held_once (values.pass_to_value p h) (values.pass_to_value q k) = held_once h k
    held_once (values.pass_to_value {content = content} p h) (values.value_of v k) = absurd (no_element content (value_of_element v) p)
    held_once (values.value_of {content = content} v h) (values.pass_to_value q k) = absurd (no_element content (value_of_element v) q)
    held_once (values.value_of v h) (values.value_of w k) = value_once v w

  none_or_one : {row : OrderedTree} {a : Plain} → HasNoValue row → HoldsValue o row a → ⊥
  none_or_one values.end k = elim k [ ]
  none_or_one (values.pass p h) (values.pass_to_value q k) = none_or_one h k
  none_or_one (values.pass {content = content} p h) (values.value_of v k) = no_element content (value_of_element v) p

  row_once : (row : OrderedTree) (a b : Option Plain) → HoldsAtMostOne o row a → HoldsAtMostOne o row b → a ≡ b
  row_once row None None h k = refl
  row_once row None (Some b) h k = absurd (none_or_one h k)
  row_once row (Some a) None h k = absurd (none_or_one k h)
  row_once row (Some a) (Some b) h k = ap Some (held_once h k)

  pub document_once : (t : OrderedTree) (a b : Option Plain) → DocumentValueOf o t a → DocumentValueOf o t b → a ≡ b
  document_once t a b (x, e, h) (y, f, k) =
      let same : y ≡ x = cc in
      row_once x a b h (subst (λ r. HoldsAtMostOne o r b) same k)

-- A tree's value is nested as deep by whatever options it is read.
use Rattle.std.proofs.Common.{ℕ, ◌≡◌, sym, subst, refl, ◌∙◌, List, Option, Some, None, arith}
use Rattle.jsonc_text.specs.Options.{Options}
use Rattle.jsonc_text.specs.Plain.{Plain, Items, Members, around, items_around, members_around}
use Rattle.jsonc_tree.specs.Content.{Content}
use Rattle.jsonc_tree.specs.OrderedTree.{OrderedTree, more, none}
use Rattle.jsonc_tree.specs.Values as values
use Rattle.jsonc_tree.specs.Values.{HasNoValue, ValueOf, ItemsOf, MembersOf, PropertyOf, HoldsValue, HoldsAtMostOne, DocumentValueOf}
use Rattle.jsonc_sound.proofs.FirstNodes.{no_element, value_of_element, name_leaf_element}
use Rattle.jsonc_run.specs.Depth.{around_in}

none_held : (o : Options) {row : OrderedTree} {a : Plain} → HasNoValue row → HoldsValue o row a → ⊥
none_held o values.end k = elim k [ ]
none_held o (values.pass e h) (values.pass_to_value f k) = none_held o h k
none_held o (values.pass {content = content} e h) (values.value_of v k) = no_element content (value_of_element v) e

module _ (o p : Options) where
  mutual
    value_around : {content : Content} {below : OrderedTree} {a b : Plain} → ValueOf o content below a → ValueOf p content below b → around a ≡ around b
    value_around (values.string h) (values.string k) = refl
    value_around values.number values.number = refl
    value_around values.boolean values.boolean = refl
    value_around values.null values.null = refl
    value_around (values.array h) (values.array k) = items_same h k
    value_around (values.object h) (values.object k) = members_same h k

    items_same : {row : OrderedTree} {a b : Items} → ItemsOf o row a → ItemsOf p row b → items_around a ≡ items_around b
    items_same values.no_more_items values.no_more_items = refl
    items_same (values.pass_to_items e h) (values.pass_to_items f k) = items_same h k
    items_same (values.pass_to_items {content = content} e h) (values.one_item v k) = absurd (no_element content (value_of_element v) e)
    items_same (values.one_item {content = content} v h) (values.pass_to_items f k) = absurd (no_element content (value_of_element v) f)
    items_same (values.one_item v h) (values.one_item w k) = omega (arith, value_around v w, items_same h k)

    members_same : {row : OrderedTree} {a b : Members} → MembersOf o row a → MembersOf p row b → members_around a ≡ members_around b
    members_same values.no_more_members values.no_more_members = refl
    members_same (values.pass_to_members e h) (values.pass_to_members f k) = members_same h k
    members_same (values.pass_to_members e h) (values.one_member v k) = absurd (no_element Content.property refl e)
    members_same (values.one_member v h) (values.pass_to_members f k) = absurd (no_element Content.property refl f)
    members_same (values.one_member v h) (values.one_member w k) = omega (arith, property_around v w, members_same h k)

    property_around : {row : OrderedTree} {n m : List ℕ} {a b : Plain} → PropertyOf o row n a → PropertyOf p row m b → around a ≡ around b
    property_around (values.pass_to_name e h) (values.pass_to_name f k) = property_around h k
    property_around {m = m} (values.pass_to_name {content = content} e h) (values.name_of n k) = absurd (no_element content (name_leaf_element p content m n) e)
    property_around {n = m} (values.name_of {content = content} n h) (values.pass_to_name f k) = absurd (no_element content (name_leaf_element o content m n) f)
    property_around (values.name_of e h) (values.name_of f k) = held_around h k

    held_around : {row : OrderedTree} {a b : Plain} → HoldsValue o row a → HoldsValue p row b → around a ≡ around b
    held_around (values.pass_to_value e h) (values.pass_to_value f k) = held_around h k
    held_around (values.pass_to_value {content = content} e h) (values.value_of v k) = absurd (no_element content (value_of_element v) e)
    held_around (values.value_of {content = content} v h) (values.pass_to_value f k) = absurd (no_element content (value_of_element v) f)
    held_around (values.value_of v h) (values.value_of w k) = value_around v w

  row_around : (row : OrderedTree) (w x : Option Plain) → HoldsAtMostOne o row w → HoldsAtMostOne p row x → around_in w ≡ around_in x
  row_around row None None h k = refl
  row_around row None (Some x) h k = absurd (none_held p h k)
  row_around row (Some w) None h k = absurd (none_held o k h)
  row_around row (Some w) (Some x) h k = held_around h k

  pub document_around : (t : OrderedTree) (w x : Option Plain) → DocumentValueOf o t w → DocumentValueOf p t x → around_in w ≡ around_in x
  document_around t w x (below, is, h) (other, also, k) =
      let whole : more Content.root below none ≡ more Content.root other none = sym is ∙ also in
      let same : below ≡ other = cc in
      row_around other w x (subst (λ r. HoldsAtMostOne o r w) same h) k

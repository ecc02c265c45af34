-- A node gives at most one value, or none.
use Rattle.std.proofs.Common.{◌≡◌, ℕ, List, Bool, true, false, not, Option, None, Some, IsTrue, refl, sym, ap, ◌∙◌, subst}
use Rattle.std.proofs.lemmas.Bool.{false≢true}
use Rattle.jsonc_text.specs.Plain.{Plain, Items, item, Members, member}
use Rattle.jsonc_text.proofs.UniqueStrings.{string_unique}
use Rattle.jsonc_tree.specs.Content.{Content}
use Rattle.jsonc_tree.specs.OrderedTree.{OrderedTree}
use Rattle.jsonc_tree.specs.Values.{is_passed_over}
use Rattle.jsonc_layout.specs.nodes.Kinds.{is_element}
use Rattle.jsonc_layout.specs.nodes.Names.{Names}
use Rattle.jsonc_layout.proofs.lemmas.nodes.NodeNames.{names_once}
use Rattle.jsonc_layout.specs.to_input.Given.{Gives, FirstGives, GivesItems, GivesMembers, GivesMember, RowHasName, no_element, pass_to_element, first_element, no_more_items, pass_to_items, one_item, no_more_members, pass_to_members, one_member, named_value, nameless, valueless, no_property}

not_so : {X : Type 0} → false ≡ true → X
not_so h = absurd (false≢true h)

none_some : {X T : Type 0} (x : T) → None ≡ Some x → X
none_some x e = absurd (let wrong : None ≡ Some x = e in cc)

some_none : {X T : Type 0} (x : T) → Some x ≡ None → X
some_none x e = absurd (let wrong : Some x ≡ None = e in cc)

some_same : {T : Type 0} (x y : T) → Some x ≡ Some y → x ≡ y
some_same x y e = cc

passed_or_element : {X : Type 0} (content : Content) → IsTrue (is_passed_over content) → IsTrue (is_element content) → X
passed_or_element content p q = go (is_passed_over content) p q
  where
    go : {X : Type 0} (b : Bool) → b ≡ true → not b ≡ true → X
    go true h k = not_so k
    go false h k = not_so h

leaf_named_once : (leaf other : Content) (v w : List ℕ) → leaf ≡ other → Names leaf v → Names other w → v ≡ w
leaf_named_once leaf other v w e h k = names_once leaf v w h (subst (λ (c : Content). Names c w) (sym e) k)

row_named_once : (row : OrderedTree) (v w : List ℕ) → RowHasName row v → RowHasName row w → v ≡ w
row_named_once row v w (leaf, e, h) (other, f, k) = leaf_named_once leaf other v w (some_same leaf other (sym e ∙ f)) h k

mutual
  pub gives_once : {content : Content} {below : OrderedTree} {v w : Option Plain} → Gives content below v → Gives content below w → v ≡ w
  gives_once (Gives.string h) (Gives.string k) = ap (λ s. Some (Plain.string s)) (string_unique h.1 k.1).0
  gives_once (Gives.string {v = v} h) (Gives.undecoded k) = absurd (k v h)
  gives_once (Gives.string h) (Gives.nothing k) = not_so k
  gives_once (Gives.undecoded h) (Gives.string {v = v} k) = absurd (h v k)
  gives_once (Gives.undecoded h) (Gives.undecoded k) = refl
  gives_once (Gives.undecoded h) (Gives.nothing k) = refl
  gives_once Gives.number Gives.number = refl
  gives_once Gives.number (Gives.nothing k) = not_so k
  gives_once Gives.boolean Gives.boolean = refl
  gives_once Gives.boolean (Gives.nothing k) = not_so k
  gives_once Gives.null Gives.null = refl
  gives_once Gives.null (Gives.nothing k) = not_so k
  gives_once (Gives.array h) (Gives.array k) = ap (λ vs. Some (Plain.array vs)) (items_once h k)
  gives_once (Gives.array h) (Gives.nothing k) = not_so k
  gives_once (Gives.object h) (Gives.object k) = ap (λ ms. Some (Plain.object ms)) (members_once h k)
  gives_once (Gives.object h) (Gives.nothing k) = not_so k
  gives_once (Gives.property h) (Gives.property k) = first_once h k
  gives_once (Gives.property h) (Gives.nothing k) = not_so k
  gives_once (Gives.root h) (Gives.root k) = first_once h k
  gives_once (Gives.root h) (Gives.nothing k) = not_so k
  gives_once (Gives.nothing h) (Gives.string k) = not_so h
  gives_once (Gives.nothing h) (Gives.undecoded k) = refl
  gives_once (Gives.nothing h) Gives.number = not_so h
  gives_once (Gives.nothing h) Gives.boolean = not_so h
  gives_once (Gives.nothing h) Gives.null = not_so h
  gives_once (Gives.nothing h) (Gives.array k) = not_so h
  gives_once (Gives.nothing h) (Gives.object k) = not_so h
  gives_once (Gives.nothing h) (Gives.property k) = not_so h
  gives_once (Gives.nothing h) (Gives.root k) = not_so h
  gives_once (Gives.nothing h) (Gives.nothing k) = refl

  first_once : {row : OrderedTree} {v w : Option Plain} → FirstGives row v → FirstGives row w → v ≡ w
  first_once no_element no_element = refl
  first_once (pass_to_element p h) (pass_to_element q k) = first_once h k
  first_once (pass_to_element {content = content} p h) (first_element q k) = passed_or_element content p q
  first_once (first_element {content = content} p h) (pass_to_element q k) = passed_or_element content q p
  first_once (first_element p h) (first_element q k) = gives_once h k

  items_once : {row : OrderedTree} {v w : Items} → GivesItems row v → GivesItems row w → v ≡ w
  items_once no_more_items no_more_items = refl
  items_once (pass_to_items p h) (pass_to_items q k) = items_once h k
  items_once (pass_to_items p h) (one_item {v = v} q k) = none_some v (gives_once p q)
  items_once (one_item {v = v} p h) (pass_to_items q k) = some_none v (gives_once p q)
  items_once (one_item {v = v} {vs = vs} p h) (one_item {v = w} q k) =
      ap (λ x. item x vs) (some_same v w (gives_once p q)) ∙ ap (item w) (items_once h k)

  members_once : {row : OrderedTree} {v w : Members} → GivesMembers row v → GivesMembers row w → v ≡ w
  members_once no_more_members no_more_members = refl
  members_once (pass_to_members p h) (pass_to_members q k) = members_once h k
  members_once (pass_to_members p h) (one_member {name = name} {v = v} q k) = none_some (name, v) (member_once p q)
  members_once (one_member {name = name} {v = v} p h) (pass_to_members q k) = some_none (name, v) (member_once p q)
  members_once (one_member {name = name} {v = v} {ms = ms} p h) (one_member {name = other} {v = w} q k) =
      ap (λ (x : List ℕ × Plain). member x.0 x.1 ms) (some_same (name, v) (other, w) (member_once p q)) ∙ ap (member other w) (members_once h k)

  member_once : {content : Content} {below : OrderedTree} {v w : Option (List ℕ × Plain)} → GivesMember content below v → GivesMember content below w → v ≡ w
  member_once (named_value {below = below} {name = name} {v = v} h p) (named_value {name = other} {v = w} k q) =
      ap (λ (x : List ℕ). Some (x, v)) (row_named_once below name other h k) ∙ ap (λ (x : Plain). Some (other, x)) (some_same v w (gives_once p q))
  member_once (named_value {name = name} h p) (nameless k) = absurd (k name h)
  member_once (named_value {v = v} h p) (valueless q) = some_none v (gives_once p q)
  member_once (named_value h p) (no_property k) = not_so (sym k)
  member_once (nameless k) (named_value {name = name} h p) = absurd (k name h)
  member_once (nameless h) (nameless k) = refl
  member_once (nameless h) (valueless k) = refl
  member_once (nameless h) (no_property k) = refl
  member_once (valueless q) (named_value {v = v} h p) = none_some v (gives_once q p)
  member_once (valueless h) (nameless k) = refl
  member_once (valueless h) (valueless k) = refl
  member_once (valueless h) (no_property k) = refl
  member_once (no_property k) (named_value h p) = not_so (sym k)
  member_once (no_property h) (nameless k) = refl
  member_once (no_property h) (valueless k) = refl
  member_once (no_property h) (no_property k) = refl

-- A value, grown by an element or a property.
use Rattle.std.proofs.Common.{◌≡◌, ◌∙◌, sym, ap, subst, refl, List, [], ◌∷◌, ◌++◌, map, Result, Ok, Err, OnOk}
use Rattle.std.proofs.lemmas.List.{map_push}
use Rattle.std.specs.declared.borrow.CowStr.{CowStr}
use Rattle.jsonc_text.specs.Plain.{Plain, Items, item, no_items, member, collapse, collapse_items, collapse_members}
use Rattle.jsonc_text.proofs.Collapse as members
use Rattle.jsonc_walk.specs.Located.{Located, value_at, items_at, members_at, LocatedMember}
use Rattle.jsonc_walk.specs.Located as located
use Rattle.jsonc_value.specs.declared.value.JsonValue.{JsonValue}
use Rattle.jsonc_value.specs.to_value.Made.{AreElements, AreProperties, IsCollapsed, IsName}
use Rattle.jsonc_value.specs.to_value.Views.{plain, name_of, inserted, items_of}
use Rattle.jsonc_value.proofs.lemmas.to_value.Insertions.{insert_puts, insert_texts}

-- the elements, and then one more
abbrev push : Items → Plain → Items
push no_items v = item v no_items
push (item w vs) v = item w (push vs v)

push_collapsed : (vs : Items) (v : Plain) → collapse_items (push vs v) ≡ push (collapse_items vs) (collapse v)
push_collapsed no_items v = refl
push_collapsed (item w vs) v = ap (item (collapse w)) (push_collapsed vs v)

push_of : (vs : List Plain) (v : Plain) → items_of (vs ++ v ∷ []) ≡ push (items_of vs) v
push_of [] v = refl
push_of (w ∷ vs) v = ap (item w) (push_of vs v)

items_push : (xs : List Located) (x : Located) → items_at (located.items_of (xs ++ x ∷ [])) ≡ push (items_at (located.items_of xs)) (value_at x)
items_push [] x = refl
items_push (y ∷ xs) x = ap (item (value_at y)) (items_push xs x)

members_push : (ms : List LocatedMember) (m : LocatedMember) → members_at (located.members_of (ms ++ m ∷ [])) ≡ members.push (members_at (located.members_of ms)) m.name.name (value_at m.value)
members_push [] m = refl
members_push (n ∷ ms) m = ap (member n.name.name (value_at n.value)) (members_push ms m)

module _ {A : Type 0} where
  pub element_grown : (vs : List (JsonValue A)) (v : JsonValue A) (xs : List Located) (x : Located) → AreElements vs xs → IsCollapsed v x → AreElements (vs ++ v ∷ []) (xs ++ x ∷ [])
  element_grown vs v xs x held made =
      ap items_of (map_push plain vs v) ∙ push_of (map plain vs) (plain v) ∙ ap (λ r. push r (plain v)) held ∙ ap (push (collapse_items (items_at (located.items_of xs)))) made
      ∙ sym (push_collapsed (items_at (located.items_of xs)) (value_at x)) ∙ ap collapse_items (sym (items_push xs x))

  pub property_grown : (ps qs : List (CowStr A × JsonValue A)) (k : CowStr A) (v : JsonValue A) (ms : List LocatedMember) (m : LocatedMember)
      → qs ≡ inserted ps k v → AreProperties ps ms → IsName k m.name → IsCollapsed v m.value → AreProperties qs (ms ++ m ∷ [])
  property_grown ps qs k v ms m put held named made = subst (λ l. AreProperties l (ms ++ m ∷ [])) (sym put) (
    insert_puts ps k v held.1 named.1 ∙ ap (members.put (name_of k) (plain v)) held.0
        ∙ ap (λ n. members.put n (plain v) (collapse_members (members_at (located.members_of ms)))) named.0
        ∙ ap (λ w. members.put m.name.name w (collapse_members (members_at (located.members_of ms)))) made
        ∙ sym (members.collapse_push (members_at (located.members_of ms)) m.name.name (value_at m.value)) ∙ ap collapse_members (sym (members_push ms m)),
    insert_texts ps k v held.1 named.1,
  )

pub then_ok : {X E P Q : Type 0} (r : Result X E) → OnOk r P → (P → Q) → OnOk r Q
then_ok (Ok x) h f = f h
then_ok (Err e) h f = tt

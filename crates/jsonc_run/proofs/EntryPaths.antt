-- What an edit finds behind a path, and where there is nothing.
use Rattle.std.proofs.Common.{◌≡◌, ℕ, List, [], ◌∷◌, ◌++◌, length, slice_get, Option, Some, None, refl, sym, subst, ◌∙◌}
use Rattle.std.proofs.lemmas.List.{same_from_push}
use Rattle.jsonc_tree.specs.Content.{object, property}
use Rattle.jsonc_tree.specs.Tree.{Node, content_at}
use Rattle.jsonc_layout.specs.nodes.Siblings.{elements_at}
use Rattle.jsonc_edit.specs.Paths.{IsAt, FindsExactly}
use Rattle.jsonc_edit.proofs.Elements.{Some_same}
use Rattle.jsonc_edit.proofs.FittingFinds.{none_is_some}
use Rattle.jsonc_edit.proofs.Lists.{no_length}
use Rattle.jsonc_insert.specs.named.Places.{IsPropertyAt, a_property, IsPropertyOf}
use Rattle.jsonc_run.specs.Places.{IsEntryAt, the_value, an_entry, IsEntryOf}

not_empty : (front : List ℕ) (i : ℕ) → front ++ i ∷ [] ≡ [] → ⊥
not_empty [] i e = cc
not_empty (x ∷ xs) i e = cc

-- With an empty path the document's value is found.
module _ (ns : List Node) where
  value_of : (path : List ℕ) (n : ℕ) → path ≡ [] → IsEntryAt ns path n → IsAt ns path n
  value_of _ n empty (the_value at) = at
  value_of _ n empty (an_entry front c i at entry) = absurd (not_empty front i empty)

  of_value : (path : List ℕ) (n : ℕ) → path ≡ [] → IsAt ns path n → IsEntryAt ns path n
  of_value path n empty at =
      subst (λ (p : List ℕ). IsEntryAt ns p n) (sym empty) (the_value (subst (λ (p : List ℕ). IsAt ns p n) empty at))

  pub value_found : (path : List ℕ) (found : Option ℕ) → length path ≡ 0 → FindsExactly found (IsAt ns path) → FindsExactly found (IsEntryAt ns path)
  value_found path found none finds =
      let empty = no_length path none in λ n. ((λ e. of_value path n empty ((finds n).0 e)), λ h. (finds n).1 (value_of path n empty h))

  property_in_none : (path : List ℕ) (n : ℕ) → path ≡ [] → IsPropertyAt ns path n → ⊥
  property_in_none _ n empty (a_property front c i at inside) = not_empty front i empty

  -- but no property
  pub no_property : (path : List ℕ) → length path ≡ 0 → FindsExactly None (IsPropertyAt ns path)
  no_property path none = λ n. (λ e. none_is_some n e, λ h. absurd (property_in_none path n (no_length path none) h))

-- what is an element of an object, and a property, is a property of it
pub property_of_object : (ns : List Node) (c i : ℕ) (held found : Option ℕ) → content_at ns c ≡ object → held ≡ slice_get (elements_at ns c) i → FindsExactly found (λ n. (held ≡ Some n) × (content_at ns n ≡ property))
    → FindsExactly found (IsPropertyOf ns c i)
property_of_object ns c i held found is element finds = λ n. (
  λ e. record { of_object = is; element = sym element ∙ ((finds n).0 e).0; is = ((finds n).0 e).1 },
  λ h. (finds n).1 (element ∙ h.element, h.is),
)

-- With any other path what is found is in the container at its front, at the place of its last step.
module _ (ns : List Node) (front : List ℕ) (Holds : ℕ → ℕ → Type 0) (At : ℕ → Type 0) (goes : (c n : ℕ) → IsAt ns front c → Holds c n → At n) (comes : (n : ℕ) → At n → (c : ℕ) × IsAt ns front c × Holds c n) where
  behind_front : (c : ℕ) (found : Option ℕ) → FindsExactly (Some c) (IsAt ns front) → FindsExactly found (Holds c) → FindsExactly found At
  behind_front c found at inside = λ n. (
    λ e. goes c n ((at c).0 refl) ((inside n).0 e),
    λ h. let it = comes n h in (inside n).1 (subst (λ d. Holds d n) (sym (Some_same c it.0 ((at it.0).1 it.1))) it.2),
  )

  behind_none : FindsExactly None (IsAt ns front) → FindsExactly None At
  behind_none at = λ n. (λ e. none_is_some n e, λ h. let it = comes n h in none_is_some it.0 ((at it.0).1 it.1))

module _ (ns : List Node) (path front : List ℕ) (i : ℕ) (parts : path ≡ front ++ i ∷ []) where
  entry_goes : (c n : ℕ) → IsAt ns front c → IsEntryOf ns c i n → IsEntryAt ns path n
  entry_goes c n at entry = subst (λ (p : List ℕ). IsEntryAt ns p n) (sym parts) (an_entry front c i at entry)

  entry_there : (p : List ℕ) (n : ℕ) → p ≡ front ++ i ∷ [] → IsEntryAt ns p n → (c : ℕ) × IsAt ns front c × IsEntryOf ns c i n
  entry_there _ n same (the_value at) = absurd (not_empty front i (sym same))
  entry_there _ n same (an_entry before c j at entry) =
      let ends = same_from_push before front j i same in
      (c, subst (λ (p : List ℕ). IsAt ns p c) ends.0 at, subst (λ k. IsEntryOf ns c k n) ends.1 entry)

  pub entry_found : (c : ℕ) (found : Option ℕ) → FindsExactly (Some c) (IsAt ns front) → FindsExactly found (IsEntryOf ns c i) → FindsExactly found (IsEntryAt ns path)
  entry_found c found at entry = behind_front ns front (λ d n. IsEntryOf ns d i n) (IsEntryAt ns path) entry_goes (λ n h. entry_there path n parts h) c found at entry

  pub nothing_found : FindsExactly None (IsAt ns front) → FindsExactly None (IsEntryAt ns path)
  nothing_found at = behind_none ns front (λ d n. IsEntryOf ns d i n) (IsEntryAt ns path) entry_goes (λ n h. entry_there path n parts h) at

  property_goes : (c n : ℕ) → IsAt ns front c → IsPropertyOf ns c i n → IsPropertyAt ns path n
  property_goes c n at inside = subst (λ (p : List ℕ). IsPropertyAt ns p n) (sym parts) (a_property front c i at inside)

  property_there : (p : List ℕ) (n : ℕ) → p ≡ front ++ i ∷ [] → IsPropertyAt ns p n → (c : ℕ) × IsAt ns front c × IsPropertyOf ns c i n
  property_there _ n same (a_property before c j at inside) =
      let ends = same_from_push before front j i same in
      (c, subst (λ (p : List ℕ). IsAt ns p c) ends.0 at, subst (λ k. IsPropertyOf ns c k n) ends.1 inside)

  pub property_found : (c : ℕ) (found : Option ℕ) → FindsExactly (Some c) (IsAt ns front) → FindsExactly found (IsPropertyOf ns c i) → FindsExactly found (IsPropertyAt ns path)
  property_found c found at inside = behind_front ns front (λ d n. IsPropertyOf ns d i n) (IsPropertyAt ns path) property_goes (λ n h. property_there path n parts h) c found at inside

  pub no_property_found : FindsExactly None (IsAt ns front) → FindsExactly None (IsPropertyAt ns path)
  no_property_found at = behind_none ns front (λ d n. IsPropertyOf ns d i n) (IsPropertyAt ns path) property_goes (λ n h. property_there path n parts h) at

-- what a path leads to, if it is such a node
pub standing_there : (ns : List Node) (path : List ℕ) (P : ℕ → Type 0) (at found : Option ℕ) → FindsExactly at (IsAt ns path) → FindsExactly found (λ n. (at ≡ Some n) × P n) → FindsExactly found (λ n. IsAt ns path n × P n)
standing_there ns path P at found standing finds = λ n. (
  λ e. let it = (finds n).0 e in ((standing n).0 it.0, it.1),
  λ h. (finds n).1 ((standing n).1 h.0, h.1),
)

-- An order of places that have come in it already.
use Rattle.std.specs.Prelude.{◌≡◌, ◌<◌, ℕ, Bool, List, length, slice_index}
use Rattle.std.specs.Cmp.{IsStrictWeakOrder}
use Rattle.jsonc_sort.specs.ordering.Order.{IsOrderedBy}

-- the places are compared as those that an order by another comparison named there
abbrev pub AreComparedAs : (ℕ → ℕ → Bool) → (ℕ → ℕ → Bool) → ℕ → List ℕ → Type 0
AreComparedAs before after n order = (i j : ℕ) → i < n → j < n → after i j ≡ before (slice_index order i) (slice_index order j)

-- so an order of them names each place at itself
abbrev pub NamesItself : (ℕ → ℕ → Bool) → (ℕ → ℕ → Bool) → ℕ → List ℕ → List ℕ → Type 0
NamesItself before after n order again =
    IsStrictWeakOrder after → IsOrderedBy before n order → IsOrderedBy after n again → AreComparedAs before after n order
    → (k : ℕ) → k < length again → slice_index again k ≡ k

-- What closures are asked that read something lent, a document, and what they answer.
use Rattle.std.specs.Prelude.{◌≡◌, ℕ, Bool, List, Option, Some}
use Rattle.std.specs.Cmp.{IsStrictWeakOrder}
use Rattle.std.specs.Ordering.{is_lt}
use Rattle.std.specs.declared.cmp.Ordering.{Ordering}
use denote.Ref.{Bor}
use denote.Param.Members.{Shared}
use Rattle.jsonc_sort.specs.ordering.Order.{comes_before, node_in}

-- the node stands in the row
abbrev pub IsAmong : {N : Type 0} → List (Option N) → N → Type 0
IsAmong nodes x = (i : ℕ) × (node_in nodes i ≡ Some x)

-- a comparison of two nodes
module _ {F D N : Type 0} (g : Shared F (Bor D × (N × (N × Unit {0}))) Ordering) (compare : F) (doc : D) where
  -- it may be asked of this document and such nodes
  pub record MayCompare (Held : N → Type 0) : Type 0 where
    pub at : (d : Bor D) (x y : N) → d.now ≡ doc → Held x → Held y → g.pre compare (d, (x, (y, tt)))

  -- what it answers there is by an order, in which ties are allowed
  pub record ComparesBy (Held : N → Type 0) (lt : N → N → Bool) : Type 0 where
    pub answers : (d : Bor D) (x y : N) (r : Ordering) → d.now ≡ doc → Held x → Held y → g.post compare (d, (x, (y, tt))) r → is_lt r ≡ lt x y
    pub order : IsStrictWeakOrder lt

  -- the answer for two places is by any such order
  pub record IsCompared (nodes : List (Option N)) (starts : List ℕ) (i j : ℕ) (r : Ordering) : Type 0 where
    pub by : (lt : N → N → Bool) → ComparesBy (IsAmong nodes) lt → is_lt r ≡ comes_before lt nodes starts i j

-- What the closures of a sort are asked, of the document as it is before, and what they answer.
use Rattle.std.specs.Prelude.{◌≡◌, ◌⊎◌, ◌<◌, ℕ, Bool, List, length, Option}
use Rattle.std.specs.Ordering.{is_lt}
use Rattle.std.specs.declared.cmp.Ordering.{Ordering}
use Rattle.std.specs.declared.result.Result.{Result}
use denote.Ref.{Bor}
use denote.Param.Members.{Shared}
use Rattle.jsonc_sort.specs.ordering.Asking.{ComparesBy}
use Rattle.jsonc_sort.specs.ordering.Keys.{AreKeys, IsFirstRefused, IsKeyOf}
use Rattle.jsonc_sort.specs.ordering.Order.{comes_before, node_in, IsOrderedBy}
use Rattle.jsonc_text.specs.declared.edit.EditError.{EditError}
use Rattle.jsonc_text.specs.declared.edit.EditError.TheVariants.{OutOfMemory}

-- a comparison
module _ {F D N : Type 0} (g : Shared F (Bor D × (N × (N × Unit {0}))) Ordering) (compare : F) (doc : D) (Held : N → Type 0) where
  -- it may be asked of this document and nodes of it
  abbrev pub MayBeCompared : Type 0
  MayBeCompared = (d : Bor D) (x y : N) → d.now ≡ doc → Held x → Held y → g.pre compare (d, (x, (y, tt)))

  -- the places of these nodes are in its order, group by group, if it answers by one: mirrored and transitive, ties allowed
  abbrev pub IsInItsOrder : List (Option N) → List ℕ → List ℕ → Type 0
  IsInItsOrder nodes starts order = (lt : N → N → Bool) → ComparesBy g compare doc Held lt → IsOrderedBy (comes_before lt nodes starts) (length nodes) order

-- keys of the nodes, which a closure gives
module _ {F D N K : Type 0} (g : Shared F (Bor D × (N × Unit {0})) (Result K EditError)) (key : F) (doc : D) where
  -- it may be asked of this document and nodes of it
  abbrev pub MayBeKeyed : (N → Type 0) → Type 0
  MayBeKeyed Held = (d : Bor D) (x : N) → d.now ≡ doc → Held x → g.pre key (d, (x, tt))

  -- the places of these nodes are in the order of keys that it has given, group by group
  abbrev pub IsInKeyOrder : (K → K → Ordering) → List (Option N) → List ℕ → List ℕ → Type 0
  IsInKeyOrder cmp nodes starts order =
      (keys : List (Option K)) × AreKeys g key doc nodes keys × IsOrderedBy (comes_before (λ x y. is_lt (cmp x y)) keys starts) (length nodes) order

  -- the keys of the first nodes were given, of one at least, if there is any
  pub record HaveAnswered (nodes : List (Option N)) : Type 0 where
    pub count : ℕ
    pub some : count ≡ 0 → length nodes ≡ 0
    pub keys : (i : ℕ) → i < count → (k : Option K) × IsKeyOf g key doc (node_in nodes i) k

  -- why they are in no order: allocation failed where each key that was asked so far had been given; or the first was refused
  abbrev pub LacksKeys : List (Option N) → EditError → Type 0
  LacksKeys nodes e = ((e ≡ OutOfMemory) × HaveAnswered nodes) ⊎ IsFirstRefused g key doc nodes e

  -- why nothing was sorted: allocation failure, or the first key that was refused
  abbrev pub IsUnkeyed : List (Option N) → EditError → Type 0
  IsUnkeyed nodes e = (e ≡ OutOfMemory) ⊎ IsFirstRefused g key doc nodes e

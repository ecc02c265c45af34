-- Orders of keys, and keys that were refused.
use Rattle.std.proofs.Common.{◌≡◌, ◌<◌, ◌+◌, ℕ, Bool, inl, inr, List, Option, Result, Ok, Err, IfErr, length, refl, subst, arith}
use denote.Ref.{Bor}
use denote.Param.Members.{Shared}
use Rattle.jsonc_sort.specs.ordering.Keys.{AreKeys, IsFirstRefused, IsKeyOf, WhyNone}
use Rattle.jsonc_sort.specs.ordering.Order.{comes_before, node_in, IsOrderedBy}
use Rattle.jsonc_sort.specs.declared.ordering.keys.KeysError.{KeysError}
use Rattle.jsonc_sort.specs.declared.ordering.keys.KeysError.TheVariants.{OutOfMemory, Refused}
use Rattle.jsonc_text.specs.declared.edit.EditError.{EditError}
use Rattle.jsonc_text.specs.declared.edit.EditError.TheVariants as error
use Rattle.jsonc_cst.specs.sorting.Asking.{IsUnkeyed, LacksKeys}

module _ {F D N K E : Type 0} (g : Shared F (Bor D × (N × Unit {0})) (Result K E)) (key : F) (doc : D) (nodes : List (Option N)) where
  pub first_refused : (why : KeysError E) (e : E) → why ≡ Refused e → WhyNone g key doc nodes why → IsFirstRefused g key doc nodes e
  first_refused why e is told = subst (λ (w : KeysError E). WhyNone g key doc nodes w) is told

  -- an order of the keys that are borrowed is one of the nodes
  pub ordered_by : (lt : K → K → Bool) (starts : List ℕ) (keys lent : List (Option K)) (order : List ℕ) → lent ≡ keys → AreKeys g key doc nodes keys
      → IsOrderedBy (comes_before lt lent starts) (length lent) order → IsOrderedBy (comes_before lt keys starts) (length nodes) order
  ordered_by lt starts keys lent order same are by =
      subst (λ (n : ℕ). IsOrderedBy (comes_before lt keys starts) n order) are.count
      (subst (λ (ks : List (Option K)). IsOrderedBy (comes_before lt ks starts) (length ks) order) same by)

  -- the keys that were given, where allocation failed for one
  pub told_so_far : (why : KeysError E) → why ≡ OutOfMemory → WhyNone g key doc nodes why → (count : ℕ) × (count ≡ 0 → length nodes ≡ 0) × ((i : ℕ) → i < count → (k : Option K) × IsKeyOf g key doc (node_in nodes i) k)
  told_so_far why is none =
      let m = subst (λ (w : KeysError E). WhyNone g key doc nodes w) is none in
      (m.place + 1, λ e. absurd (omega (arith, e)), λ i h. m.keys i (omega (arith, h)))

module _ {F D N K : Type 0} (g : Shared F (Bor D × (N × Unit {0})) (Result K EditError)) (key : F) (doc : D) (nodes : List (Option N)) where
  pub memory_behind : (why : KeysError EditError) → why ≡ OutOfMemory → WhyNone g key doc nodes why → LacksKeys g key doc nodes error.OutOfMemory
  memory_behind why is none = let t = told_so_far g key doc nodes why is none in inl (refl, record { count = t.0; some = t.1; keys = t.2 })

  pub memory_behind_all : (keys : List (Option K)) → AreKeys g key doc nodes keys → LacksKeys g key doc nodes error.OutOfMemory
  memory_behind_all keys are = inl (refl, record { count = length nodes; some = λ e. e; keys = λ i h. (node_in keys i, are.at i h) })

  pub unkeyed : {T : Type 0} (r : Result T EditError) → IfErr r (LacksKeys g key doc nodes) → IfErr r (IsUnkeyed g key doc nodes)
  unkeyed (Ok x) why = tt
  unkeyed (Err e) (inl memory) = inl memory.0
  unkeyed (Err e) (inr refused) = inr refused

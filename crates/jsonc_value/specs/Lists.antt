-- Insertion of a list of pairs.
use Rattle.std.specs.Prelude.{◌≡◌, ℕ, Bool, List, [], ◌∷◌, ◌++◌, None}
use Rattle.std.specs.Map.{lookup}
use Rattle.indexmap.specs.IndexMap.{insert_entry, insert_all}
use Rattle.indexmap.specs.Layout.{set_value_at}

-- of the pairs those before rest are inserted, one after another
abbrev pub InsertsUpTo : {K V : Type 0} → (K → K → Bool) → List (K × V) → List (K × V) → List (K × V) → List (K × V) → Type 0
InsertsUpTo {K} {V} eq old pairs rest new = (done : List (K × V)) × (pairs ≡ done ++ rest) × (new ≡ insert_all eq old done)

-- there are pairs, and the key of the first is none of those of a map
abbrev pub BeginsWithNew : {K V : Type 0} → (K → K → Bool) → List (K × V) → List (K × V) → Type 0
BeginsWithNew {K} {V} eq map [] = ⊥
BeginsWithNew {K} {V} eq map (p ∷ ps) = lookup (eq p.0) map ≡ None

-- a value that is written at this place of new is inserted into old at the key
abbrev pub IsPlaceOf : {K V : Type 0} → (K → K → Bool) → K → List (K × V) → List (K × V) → ℕ → Type 0
IsPlaceOf {K} {V} eq key old new i = (value : V) → set_value_at new i value ≡ insert_entry eq old key value

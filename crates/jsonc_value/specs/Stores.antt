-- The pairs of a map where it keeps them, and their hashes.
use Rattle.std.specs.Prelude.{ℕ, List, ⊤}
use Rattle.std.specs.Map.{keys_of}
use Rattle.jsonc_value.specs.declared.map.store.Hashed.{Hashed}
use Rattle.jsonc_value.specs.declared.map.store.Store.{Store}
use Rattle.jsonc_value.specs.declared.map.store.Store.TheVariants.{Few, Many}
use Rattle.jsonc_value.specs.Hashes.{AreHashesOf}

-- the hashes kept beside pairs are those of their keys
abbrev pub IsHashed : {K V A : Type 0} → (K → List (List ℕ)) → Hashed K V A → Type 0
IsHashed input both = AreHashesOf input (keys_of both.pairs.items) both.hashes.keys

-- the pairs, in their order
abbrev pub pairs_in : {K V A : Type 0} → Store K V A → List (K × V)
pairs_in (Few pairs) = pairs.items
pairs_in (Many both) = both.value.pairs.items

-- where hashes are kept, they are those of the keys
abbrev pub KeepsHashes : {K V A : Type 0} → (K → List (List ℕ)) → Store K V A → Type 0
KeepsHashes input (Few pairs) = ⊤
KeepsHashes input (Many both) = IsHashed input both.value

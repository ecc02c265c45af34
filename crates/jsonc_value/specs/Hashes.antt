-- The hashes of a map's keys.
use Rattle.std.specs.Prelude.{◌≡◌, ℕ, List, [], ◌∷◌, map, ⊤}
use Rattle.std.specs.List.{fold}
use Rattle.std.specs.Hash.FoldHasher.{initial, write, finish}

-- the hash of what makes these writes
unfoldable pub hashed : List (List ℕ) → ℕ
hashed input = finish (fold write initial input)

-- the hashes of keys in their order, of which each makes the writes that input tells; or none
abbrev pub AreHashesOf : {K : Type 0} → (K → List (List ℕ)) → List K → List ℕ → Type 0
AreHashesOf input ks [] = ⊤
AreHashesOf input ks (h ∷ hs) = h ∷ hs ≡ map (λ k. hashed (input k)) ks

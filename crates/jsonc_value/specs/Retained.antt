-- What a predicate leaves of a list of pairs.
use Rattle.std.specs.Prelude.{◌≡◌, Bool, cond, List, [], ◌∷◌}
use Rattle.std.specs.Borrow.{Bor}

-- a call at the key and the value of a pair may answer b
abbrev pub AnswersAt : {K V : Type 0} → (Bor K × (Bor V × Unit {0}) → Bool → Type 0) → K × V → Bool → Type 0
AnswersAt {K} {V} post p b = (key : Bor K) × (value : Bor V) × (key.now ≡ p.0) × (value.now ≡ p.1) × post (key, (value, tt)) b

-- ys are the items of xs of which R answers `true`, in their order
abbrev pub Retains : {X : Type 0} → (X → Bool → Type 0) → List X → List X → Type 0
Retains R [] ys = ys ≡ []
Retains {X} R (x ∷ xs) ys = (b : Bool) × (zs : List X) × R x b × Retains R xs zs × (ys ≡ cond b (x ∷ zs) zs)

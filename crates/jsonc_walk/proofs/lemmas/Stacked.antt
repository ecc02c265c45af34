-- Items of containers that have not ended, one behind the other.
use Rattle.std.proofs.Common.{◌≡◌, ◌≤◌, ℕ, List, [], ◌∷◌, ◌++◌, length, take, drop, length-append, append_assoc, refl, ap, ◌∙◌, arith}

module _ {X : Type 0} where
  first_ones : (xs ys : List X) → take (length xs) (xs ++ ys) ≡ xs
  first_ones [] ys = refl
  first_ones (x ∷ xs) ys = ap (λ l. x ∷ l) (first_ones xs ys)

  last_ones : (xs ys : List X) → drop (length xs) (xs ++ ys) ≡ ys
  last_ones [] ys = refl
  last_ones (x ∷ xs) ys = last_ones xs ys

  -- of a stack the items up to a place, those behind it, and that the place is in it
  pub record Parted (stack below above : List X) (start : ℕ) : Type 0 where
    pub within : start ≤ length stack
    pub left : take start stack ≡ below
    pub taken : drop start stack ≡ above

  pub parted : (stack below above : List X) (start : ℕ) → start ≡ length below → stack ≡ below ++ above → Parted stack below above start
  parted stack below above start at whole = record {
    within = omega (arith, at, ap length whole, length-append below above);
    left = (λ j. take (at j) (whole j)) ∙ first_ones below above;
    taken = (λ j. drop (at j) (whole j)) ∙ last_ones below above;
  }

  pub behind : (stack below above new : List X) (x : X) → stack ≡ below ++ above → new ≡ stack ++ x ∷ [] → new ≡ below ++ (above ++ x ∷ [])
  behind stack below above new x whole pushed = pushed ∙ ap (λ l. l ++ x ∷ []) whole ∙ append_assoc below above (x ∷ [])

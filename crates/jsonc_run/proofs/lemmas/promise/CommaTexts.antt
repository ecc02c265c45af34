-- Texts without some of their characters.
use Rattle.std.proofs.Common.{ℕ, Bool, List, [], ◌∷◌, ◌++◌}
use Rattle.jsonc_run.specs.texts.Stretches.{Without}
use Rattle.jsonc_run.specs.texts.Stretches as documents

-- the same characters before two texts
pub same_before : {p : ℕ → Bool} (s : List ℕ) {x y : List ℕ} → Without p x y → Without p (s ++ x) (s ++ y)
same_before [] h = h
same_before (c ∷ s) h = documents.stays (same_before s h)

pub all_same : {p : ℕ → Bool} (s : List ℕ) → Without p s s
all_same [] = documents.ended
all_same (c ∷ s) = documents.stays (all_same s)

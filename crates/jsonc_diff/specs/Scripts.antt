-- Which lines leave, which come, and which stay.
use Rattle.std.specs.Prelude.{ℕ, List, [], ◌∷◌}
use Rattle.jsonc_diff.specs.declared.script.Step.{Step}
use Rattle.jsonc_diff.specs.declared.script.Step.TheVariants.{Kept, Removed, Added}

-- the lines of the old text
abbrev pub old_of : List Step → List (List ℕ)
old_of [] = []
old_of (Kept line ∷ steps) = line.now ∷ old_of steps
old_of (Removed line ∷ steps) = line.now ∷ old_of steps
old_of (Added line ∷ steps) = old_of steps

-- those of the new one
abbrev pub new_of : List Step → List (List ℕ)
new_of [] = []
new_of (Kept line ∷ steps) = line.now ∷ new_of steps
new_of (Removed line ∷ steps) = new_of steps
new_of (Added line ∷ steps) = line.now ∷ new_of steps

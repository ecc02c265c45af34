-- Unified diffs, as POSIX has them (`diff -u`).
use Rattle.std.specs.Prelude.{◌≡◌, ◌+◌, ◌++◌, ◌==◌, ℕ, List, [], ◌∷◌, length, nat_eq, codes, if◌then◌else◌}
use Rattle.std.specs.List.{All, ends_with}
use Rattle.std.specs.Fmt.{decimal}
use Rattle.jsonc_diff.specs.Lines.{AreLines}
use Rattle.jsonc_diff.specs.Scripts.{old_of, new_of}
use Rattle.jsonc_diff.specs.declared.script.Step.{Step}
use Rattle.jsonc_diff.specs.declared.script.Step.TheVariants.{Kept, Removed, Added}

-- a line of a text, or of both
abbrev pub line_of : Step → List ℕ
line_of (Kept line) = line.now
line_of (Removed line) = line.now
line_of (Added line) = line.now

-- what stands before it
abbrev pub sign_of : Step → List ℕ
sign_of (Kept line) = codes " "
sign_of (Removed line) = codes "-"
sign_of (Added line) = codes "+"

-- what stands behind a line: nothing, or, where no line feed ends it, words that say so
abbrev pub end_of : List ℕ → List ℕ
end_of line = if ends_with nat_eq line (0x0A ∷ []) then [] else codes "\n\\ No newline at end of file\n"

abbrev pub step_text : Step → List ℕ
step_text step = sign_of step ++ (line_of step ++ end_of (line_of step))

abbrev pub steps_text : List Step → List ℕ
steps_text [] = []
steps_text (step ∷ steps) = step_text step ++ steps_text steps

-- so many lines behind so many others: the number of the first one, and the count, if it is another than 1; of none the number of the line before
abbrev pub span_text : (before count : ℕ) → List ℕ
span_text before count =
    if count == 0 then decimal before ++ codes ",0"
    else (if count == 1 then decimal (before + 1) else decimal (before + 1) ++ (codes "," ++ decimal count))

-- a hunk behind so many lines of the old text, and of the new one
abbrev pub hunk_text : (old new : ℕ) → List Step → List ℕ
hunk_text old new steps = codes "@@ -" ++ (span_text old (length (old_of steps)) ++ (codes " +" ++ (span_text new (length (new_of steps))
    ++ (codes " @@\n" ++ steps_text steps))))

abbrev pub IsKept : Step → Type 0
IsKept (Kept line) = Unit {0}
IsKept step = ⊥

-- The text shows these steps, behind so many lines of both texts: lines that stay may be passed over, and all others are in hunks.
pub data AreShown : (old new : ℕ) → List Step → List ℕ → Type 0 where
  passed : (old new : ℕ) (steps : List Step) → All IsKept steps → AreShown old new steps []
  shown : (old new : ℕ) (before steps after : List Step) (text : List ℕ) → All IsKept before
      → AreShown (old + length before + length (old_of steps)) (new + length before + length (new_of steps)) after text
      → AreShown old new (before ++ (steps ++ after)) (hunk_text (old + length before) (new + length before) steps ++ text)

-- the name of both texts stands before the hunks, where there are any
abbrev pub diff_text : List ℕ → List ℕ → List ℕ
diff_text name [] = []
diff_text name (c ∷ hunks) = codes "--- " ++ (name ++ (codes "\n+++ " ++ (name ++ (codes "\n" ++ (c ∷ hunks)))))

-- The diff of two texts: steps whose lines are those of the old text, and of the new one, are shown.
pub record IsUnifiedDiff (name old new diff : List ℕ) : Type 0 where
  pub steps : List Step
  pub hunks : List ℕ
  pub old_lines : AreLines (old_of steps) old
  pub new_lines : AreLines (new_of steps) new
  pub shown : AreShown 0 0 steps hunks
  pub written : diff ≡ diff_text name hunks

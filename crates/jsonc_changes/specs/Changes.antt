-- Changes that make one text of another. A text is a list of bytes here, and of characters where blanks are spoken of.
use Rattle.std.specs.Prelude.{ℕ, ◌+◌, ◌≡◌, Bool, ◌⊎◌, List, [], ◌∷◌, ◌++◌, Some, All, IsCharBoundary, IsTrue, chars, filter, length, not, slice_range, take}
use Rattle.std.specs.List.{suffix_len}
use Rattle.jsonc_text.specs.declared.common.Range.{Range}
use Rattle.jsonc_text.specs.Gaps.{is_blank}
use Rattle.jsonc_text.specs.Text.{Many, Spans, next, no, rest}
use Rattle.jsonc_mends.specs.declared.mends.TextChange.{TextChange}

-- with these changes, each after the one before it, the one text is the other. A piece that no change has is in both
pub data Changes : List ℕ → List TextChange → List ℕ → Type 0 where
  none : Changes [] [] []
  kept : {old new : List ℕ} {cs : List TextChange} (same : List ℕ) → Changes old cs new → Changes (old ++ same) cs (new ++ same)
  changed : {old new : List ℕ} {cs : List TextChange} (was : List ℕ) (c : TextChange) → c.range.start ≡ length old → c.range.end ≡ length (old ++ was)
      → Changes old cs new → Changes (old ++ was) (cs ++ c ∷ []) (new ++ c.new_text.now)

abbrev pub is_no_blank : ℕ → Bool
is_no_blank c = not (is_blank c)

-- two texts are the same without their blanks
abbrev pub DifferInBlanks : List ℕ → List ℕ → Type 0
DifferInBlanks t u = filter is_no_blank t ≡ filter is_no_blank u

-- all blanks that stand between two other characters are replaced by other blanks
pub record IsGapChange (old : List ℕ) (c : TextChange) : Type 0 where
  pub before : suffix_len is_blank (chars (take c.range.start old)) ≡ 0
  pub blank : Many is_blank (rest old c.range.start) (rest old c.range.end)
  pub after : IsTrue (no is_blank (next (rest old c.range.end)))
  pub written : Many is_blank (chars c.new_text.now) []
  pub differs : slice_range old c.range.start c.range.end ≡ c.new_text.now → ⊥

-- with the changes the one text is the other; they lie on boundaries of characters, and replace gaps where the texts differ in blanks
pub record AreChanges (old : List ℕ) (cs : List TextChange) (new : List ℕ) : Type 0 where
  pub changes : Changes old cs new
  pub spans : All (λ c. Spans old c.range.start c.range.end) cs
  pub gaps : DifferInBlanks (chars old) (chars new) → All (IsGapChange old) cs

-- so many bytes from two places on are the same in two texts and no blanks, and what follows is not
pub record HaveInCommon (old : List ℕ) (from : ℕ) (new : List ℕ) (at len : ℕ) : Type 0 where
  pub old_end : IsCharBoundary old (from + len)
  pub new_end : IsCharBoundary new (at + len)
  pub piece : List ℕ
  pub unblank : Many is_no_blank piece []
  pub old_piece : rest old from ≡ piece ++ rest old (from + len)
  pub new_piece : rest new at ≡ piece ++ rest new (at + len)
  pub stops : (c : ℕ) → next (rest old (from + len)) ≡ Some c → next (rest new (at + len)) ≡ Some c → IsTrue (is_blank c)

-- a change of this range of the old text into that range of the new one
pub record Replaces (old : List ℕ) (range : Range) (new : List ℕ) (written : Range) (c : TextChange) : Type 0 where
  pub range_is : c.range ≡ range
  pub text : c.new_text.now ≡ slice_range new written.start written.end
  pub differs : slice_range old range.start range.end ≡ c.new_text.now → ⊥

-- such a change is added, or none where the two ranges have the same text
abbrev pub Puts : List ℕ → Range → List ℕ → Range → List TextChange → List TextChange → Type 0
Puts old range new written cs ds =
    ((slice_range old range.start range.end ≡ slice_range new written.start written.end) × (ds ≡ cs))
    ⊎ ((c : TextChange) × Replaces old range new written c × (ds ≡ cs ++ c ∷ []))

-- The marks of pieces.
use Rattle.std.proofs.Common.{ℕ, refl, List, [], ◌++◌}
use Rattle.jsonc_text.specs.Options.{Options}
use Rattle.jsonc_text.specs.Text.{Many, stop, step}
use Rattle.jsonc_text.specs.Gaps.{is_blank}
use Rattle.jsonc_text.specs.Marks.{Mark, MarksTo}
use Rattle.jsonc_text.proofs.UniqueWords.{many_more}
use Rattle.jsonc_format.specs.Format.{Piece, IsPieces, no_more, piece}
use Rattle.jsonc_format.specs.Laws.{marks_of}

past_blanks : {o : Options} {t r : List ℕ} {ms : List Mark} → Many is_blank t r → MarksTo o [] r ms → MarksTo o [] t ms
past_blanks stop m = m
past_blanks (step h g) m = MarksTo.blank h (past_blanks g m)

pub pieces_marks : {o : Options} {tail t : List ℕ} {ps : List Piece} → IsPieces o tail t ps → MarksTo o [] t (marks_of ps)
pieces_marks (no_more h) = past_blanks h MarksTo.no_more
pieces_marks {o} {tail} {t} (piece p {u = u} g x e l) = rw e (past_blanks (many_more g (p.text ++ u)) (MarksTo.one p.what p.text x refl (pieces_marks l)))

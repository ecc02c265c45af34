use Rattle.jsonc_format.proofs.PieceMarks.{pieces_marks}
use Rattle.jsonc_format.proofs.laws.pieces_have_the_marks.Goals as goal

pub returns : goal.returns
returns c = λ o z t ps a. pieces_marks a

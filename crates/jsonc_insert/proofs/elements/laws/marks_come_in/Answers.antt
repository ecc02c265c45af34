use Rattle.jsonc_insert.proofs.lemmas.elements.Marked.{marks_come_in}
use Rattle.jsonc_insert.proofs.elements.laws.marks_come_in.Goals as goal

pub returns : goal.returns
returns c = marks_come_in

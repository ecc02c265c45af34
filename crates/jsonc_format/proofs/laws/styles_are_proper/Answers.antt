use Rattle.jsonc_format.proofs.Documents.{in_a_style}
use Rattle.jsonc_format.proofs.laws.styles_are_proper.Goals as goal

pub returns : goal.returns
returns c = λ o s t f h. in_a_style o s t f h

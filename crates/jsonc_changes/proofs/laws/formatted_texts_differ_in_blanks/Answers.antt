use Rattle.jsonc_format.proofs.Documents.{in_a_style}
use Rattle.jsonc_changes.proofs.Formatted.{formatted_alike}
use Rattle.jsonc_changes.proofs.laws.formatted_texts_differ_in_blanks.Goals as goal

pub returns : goal.returns
returns c = λ o s t f h. formatted_alike o t f (in_a_style o s t f h)

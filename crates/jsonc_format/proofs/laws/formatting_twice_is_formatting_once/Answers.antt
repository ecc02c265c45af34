use Rattle.jsonc_format.proofs.Idempotent.{layout_alike}
use Rattle.jsonc_format.proofs.laws.formatting_twice_is_formatting_once.Goals as goal

pub returns : goal.returns
returns c = λ y ps a. layout_alike y a ps

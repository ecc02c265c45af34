use Rattle.std.proofs.Common.{◌∙◌, sym, ap}
use Rattle.jsonc_format.specs.Format.{layout}
use Rattle.jsonc_format.proofs.Unique.{pieces_unique}
use Rattle.jsonc_format.proofs.laws.one_text.Goals as goal

pub returns : goal.returns
returns c = λ o y t r s a b. a.same ∙ ap (layout y) (pieces_unique a.parts b.parts) ∙ sym b.same

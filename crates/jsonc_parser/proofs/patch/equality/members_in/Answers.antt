use Rattle.std.proofs.Common.{◌∙◌, ap, sym}
use Rattle.jsonc_text.specs.Plain.{object}
use Rattle.jsonc_layout.specs.input.Views.{members_plain, plain}
use Rattle.jsonc_layout.proofs.lemmas.input.ValueLevels.{plain-Object}
use Rattle.jsonc_parser.proofs.patch.equality.members_in.Goals as goal

pub returns-in-Object-clause-some : goal.returns-in-Object-clause-some
returns-in-Object-clause-some g c = ap plain c.in-Object.is ∙ plain-Object c.in-Object.members ∙ ap (λ ps. object (members_plain ps)) (sym c.as_slice.ensures.value)

use Rattle.std.proofs.Common.{◌∙◌, ap, sym}
use Rattle.jsonc_text.specs.Plain.{object}
use Rattle.jsonc_ast.specs.Views as ast
use Rattle.jsonc_parser.proofs.lemmas.patch.PatchValues.{plain-Object}
use Rattle.jsonc_parser.specs.patch.PatchReading.{said}
use Rattle.jsonc_parser.proofs.patch.values.properties_of.Goals as goal

pub returns-in-Object-clause-some : goal.returns-in-Object-clause-some
returns-in-Object-clause-some g c = ap ast.plain c.in-Object.is ∙ plain-Object c.in-Object.object ∙ ap (λ ps. object (said ps)) (sym c.as_slice.ensures.value)

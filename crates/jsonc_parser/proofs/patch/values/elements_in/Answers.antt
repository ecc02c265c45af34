use Rattle.std.proofs.Common.{◌∙◌, ap, sym}
use Rattle.jsonc_text.specs.Plain.{array}
use Rattle.jsonc_walk.specs.Located.{items_at}
use Rattle.jsonc_ast.specs.Views.{items_located}
use Rattle.jsonc_ast.specs.Views as ast
use Rattle.jsonc_parser.proofs.lemmas.patch.PatchValues.{plain-Array}
use Rattle.jsonc_parser.proofs.patch.values.elements_in.Goals as goal

pub returns-in-Array-clause-some : goal.returns-in-Array-clause-some
returns-in-Array-clause-some g c = ap ast.plain c.in-Array.is ∙ plain-Array c.in-Array.array ∙ ap (λ vs. array (items_at (items_located vs))) (sym c.as_slice.ensures.value)

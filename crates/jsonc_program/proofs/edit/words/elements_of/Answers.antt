use Rattle.std.proofs.Common.{◌∙◌, List, Some, ap, map, sym}
use Rattle.jsonc_ast.specs.Views as ast
use Rattle.jsonc_ast.specs.declared.ast.Value.{Value}
use Rattle.jsonc_layout.specs.input.Views.{items_of}
use Rattle.jsonc_program.proofs.EditNames.{items_of_array}
use Rattle.jsonc_program.proofs.edit.words.elements_of.Goals as goal

pub returns-in-Array : goal.returns-in-Array
returns-in-Array g c =
    ap (λ (l : List (Value g.row.A.Denot)). Some (items_of (map ast.plain l))) c.as_slice.ensures.value ∙ sym (items_of_array c.args.value.now c.in-Array.array c.in-Array.is)

use Rattle.jsonc_layout.specs.input.Views.{plain}
use Rattle.jsonc_run.specs.Edits.{insert_element}
use Rattle.jsonc_cst.proofs.lemmas.typed.There.{at_number, refused_there, too_deep_there}
use Rattle.jsonc_cst.proofs.cst.CstRootNode.insert_element_there.Goals as goal

pub returns-then-is_too_deep_below : goal.returns-then-is_too_deep_below
returns-then-is_too_deep_below g c = λ path.
    at_number c.number-number.ensures
    (too_deep_there c.args.self.now c.number-number.result (insert_element path c.args.index (plain c.args.value.now)) (c.is_too_deep_below.ensures.0 c.if-is_too_deep_below.true))

pub returns-in-Err : goal.returns-in-Err
returns-in-Err g c = λ path.
    at_number c.number-number.ensures
    (refused_there c.args.self.now c.number-number.result (insert_element path c.args.index (plain c.args.value.now)) _ c.in-Err.error c.in-Err.ensures.error c.in-Err.ensures.kept c.in-Err.ensures.document)

use Rattle.jsonc_layout.specs.input.Views.{plain}
use Rattle.jsonc_run.specs.Edits.{append_element}
use Rattle.jsonc_run.proofs.Inserted.{comes_last}
use Rattle.jsonc_cst.proofs.lemmas.typed.There.{at_number, made_there, not_told, refused_there, too_deep_there}
use Rattle.jsonc_cst.proofs.cst.CstRootNode.append_element_there.Goals as goal

pub returns-then-is_too_deep_below : goal.returns-then-is_too_deep_below
returns-then-is_too_deep_below g c = λ path.
    at_number c.number-number.ensures
    (too_deep_there c.args.self.now c.number-number.result (append_element path (plain c.args.value.now)) (c.is_too_deep_below.ensures.0 c.if-is_too_deep_below.true))

pub returns-in-Ok : goal.returns-in-Ok
returns-in-Ok g c = λ path.
    let old = c.args.self.now in
    let k = c.number-number.result in
    let last = comes_last old.tree.nodes c.insert_element.new.tree.nodes k c.len-count.result (plain c.args.value.now) c.in-Ok.field-0 old.tree.tree c.len-count.ensures.len c.in-Ok.ensures.brackets c.in-Ok.ensures.put in
    at_number c.number-number.ensures
    (made_there old k (append_element path (plain c.args.value.now)) _ (c.in-Ok.field-0, last) (not_told c.is_too_deep_below.result c.is_too_deep_below.ensures c.if-is_too_deep_below.false))

pub returns-in-Err : goal.returns-in-Err
returns-in-Err g c = λ path.
    at_number c.number-number.ensures
    (refused_there c.args.self.now c.number-number.result (append_element path (plain c.args.value.now)) _ c.in-Err.error c.in-Err.ensures.error c.in-Err.ensures.kept c.in-Err.ensures.document)

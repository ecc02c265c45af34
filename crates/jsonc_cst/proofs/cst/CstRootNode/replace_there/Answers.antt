use Rattle.std.proofs.Common.{◌≡◌, None, arith}
use Rattle.jsonc_layout.specs.input.Views.{plain}
use Rattle.jsonc_tree.specs.Tree.{parent_at}
use Rattle.jsonc_run.specs.Edits.{replace}
use Rattle.jsonc_run.proofs.EditsMade.{none_is}
use Rattle.jsonc_cst.proofs.lemmas.typed.There.{at_number, detached_there, refused_there, too_deep_there}
use Rattle.jsonc_cst.proofs.cst.CstRootNode.replace_there.Goals as goal

pub returns-then-is_too_deep_below : goal.returns-then-is_too_deep_below
returns-then-is_too_deep_below g c = λ path.
    let deep = c.is_too_deep_below.ensures.0 c.if-is_too_deep_below.true in
    at_number c.number-number.ensures
    (too_deep_there c.args.self.now c.number-number.result (replace path (plain c.args.value.now)) (omega (arith, deep)))

pub returns-in-Ok-None : goal.returns-in-Ok-None
returns-in-Ok-None g c = λ path.
    let old = c.args.self.now in
    let k = c.number-number.result in
    let alone = none_is c.in-Ok-None.field-0 (parent_at old.tree.nodes k ≡ None) c.in-Ok-None.field-0-is c.in-Ok-None.ensures.none in
    let same = none_is c.in-Ok-None.field-0 (c.replace.new.tree.nodes ≡ old.tree.nodes) c.in-Ok-None.field-0-is c.in-Ok-None.ensures.untouched in
    at_number c.number-number.ensures (detached_there old k (replace path (plain c.args.value.now)) _ alone same)

pub returns-in-Err : goal.returns-in-Err
returns-in-Err g c = λ path.
    let old = c.args.self.now in
    at_number c.number-number.ensures
    (refused_there old c.number-number.result (replace path (plain c.args.value.now)) _ c.in-Err.error c.in-Err.ensures.memory c.in-Err.ensures.kept c.in-Err.ensures.document)

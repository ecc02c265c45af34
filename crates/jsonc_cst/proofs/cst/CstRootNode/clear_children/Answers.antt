use Rattle.jsonc_cst.proofs.lemmas.typed.HandlesKept.{nodes_stay, stay_spliced}
use Rattle.jsonc_edit.proofs.lemmas.set.FirstValueSet.{leaves_bare}
use Rattle.jsonc_cst.proofs.lemmas.typed.Steps.{cleared_step}
use Rattle.jsonc_cst.proofs.cst.CstRootNode.clear_children.Goals as goal

pub returns-clause-handles : goal.returns-clause-handles
returns-clause-handles g c =
    let old = c.args.self.now.tree.nodes in
    let new = c.clear_root.new.tree.nodes in
    nodes_stay old new (stay_spliced old new _ _ _ _ c.clear_root.ensures.taken)

pub returns-clause-written : goal.returns-clause-written
returns-clause-written g c = λ o. leaves_bare o c.clear_root.new.tree.nodes c.clear_root.new.tree.tree c.clear_root.ensures.cleared

pub returns-clause-step : goal.returns-clause-step
returns-clause-step g c = cleared_step c.args.self.now.tree.nodes c.clear_root.new.tree.nodes c.args.self.now.tree.tree c.clear_root.new.tree.tree c.clear_root.ensures.taken

use Rattle.std.proofs.Common.{◌∙◌, ap, arith}
use Rattle.jsonc_run.specs.Edits.{remove}
use Rattle.jsonc_cst.specs.typed.There.{entry_above}
use Rattle.jsonc_cst.proofs.lemmas.typed.There.{at_number, done_there}
use Rattle.jsonc_cst.proofs.cst.CstRootNode.remove_there.Goals as goal

pub returns-clause-removed : goal.returns-clause-removed
returns-clause-removed g c = λ path.
    let old = c.args.self.now in
    at_number (c.entry_of-entry.ensures.entry ∙ ap (entry_above old.tree.nodes) c.number.ensures)
    (done_there old c.entry_of-entry.result (remove path) _ c.remove.result c.remove.ensures.taken (λ deep. omega (arith, deep)) c.remove.ensures.error c.remove.ensures.kept c.remove.ensures.document)

use Rattle.std.proofs.Common.{subst}
use Rattle.jsonc_layout.specs.nodes.Names.{IsNamed, ReadsAs}
use Rattle.jsonc_cst.proofs.RepeatedNames.{passed_nameless}
use Rattle.jsonc_cst.proofs.cst.repeats.add_node.Goals as goal

pub returns-in-Ok-None-clause-apart : goal.returns-in-Ok-None-clause-apart
returns-in-Ok-None-clause-apart g c = λ t.
    let ns = c.args.tree.now.nodes in
    passed_nameless ns _ c.args.node (subst (ReadsAs (λ v. IsNamed ns v c.args.node)) c.in-Ok-None.field-0-is c.in-Ok-None.ensures)

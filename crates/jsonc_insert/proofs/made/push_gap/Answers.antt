use Rattle.std.proofs.Common.{sym, ap, subst}
use Rattle.jsonc_layout.specs.Building.{Gains}
use Rattle.jsonc_layout.proofs.lemmas.Building.{none_gained}
use Rattle.jsonc_insert.specs.Made.{gap_leaves}
use Rattle.jsonc_insert.proofs.made.push_gap.Goals as goal

pub returns-in-Nothing-clause-gains : goal.returns-in-Nothing-clause-gains
returns-in-Nothing-clause-gains g c =
    let now = c.args.tree.now.nodes in
    let row = c.args.leaves.now.nodes.items in
    subst (Gains now row now row) (sym (ap (gap_leaves c.args.kind c.args.indent.now) c.in-Nothing.is)) (none_gained now row)

use Rattle.std.proofs.Common.{subst}
use Rattle.jsonc_cst.specs.Document.{HasNode}
use Rattle.jsonc_program.proofs.EditSorts.{sorts_begin, sorts_further}
use Rattle.jsonc_program.proofs.edit.sort.sort_objects.Goals as goal

pub loop-object-init : goal.loop-object-init
loop-object-init g c = sorts_begin c.args.document.now

pub loop-object-preserved : goal.loop-object-preserved
loop-object-preserved g c =
    sorts_further c.args.document.now c.loop-object.document c.sort_object.new.document _ c.loop-object.document.tree.tree (subst (HasNode c.loop-object.document) c.node.ensures (c.holds.ensures.0 c.if-not-holds.false))
    c.loop-object.invariant c.in-Ok.ensures.sorted

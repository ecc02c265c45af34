use Rattle.std.proofs.Common.{sym, ◌∙◌}
use Rattle.jsonc_insert.proofs.PutBack.{removes}
use Rattle.jsonc_insert.proofs.trim.remove.Goals as goal

pub returns : goal.returns
returns g c = λ s at.
    removes c.args.tree.now.nodes c.args.tree.now.tree c.args.container s c.args.blanks.now at c.as_slice-nodes.result.now c.as_slice-nodes.ensures.value (sym c.is_empty.ensures ∙ c.if-is_empty.false) c.remove_between.new.self.nodes c.remove_between.ensures

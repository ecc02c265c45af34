use Rattle.std.proofs.Common.{sym, ◌∙◌}
use Rattle.jsonc_edit.proofs.lemmas.commas.Children.{gone_child}
use Rattle.jsonc_edit.proofs.commas.rows.take_comma.Goals as goal

pub take_out-requires : goal.take_out-requires
take_out-requires g c = gone_child c.args.tree.now.nodes c.args.tree.now.tree c.args.container c.in-Some.comma (sym c.comma_gone.ensures ∙ c.in-Some.is)

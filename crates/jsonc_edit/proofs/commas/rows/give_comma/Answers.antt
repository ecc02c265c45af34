use Rattle.std.proofs.Common.{sym, ◌∙◌}
use Rattle.jsonc_edit.proofs.lemmas.commas.Children.{wanted_child}
use Rattle.jsonc_edit.proofs.commas.rows.give_comma.Goals as goal

pub put_comma-requires : goal.put_comma-requires
put_comma-requires g c = wanted_child c.args.tree.now.nodes c.args.tree.now.tree c.args.container c.in-Some.node (sym c.comma_wanted_behind.ensures ∙ c.in-Some.is)

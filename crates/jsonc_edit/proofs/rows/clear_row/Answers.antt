use Rattle.std.proofs.Common.{sym, ◌∙◌}
use Rattle.jsonc_edit.proofs.RowEnds.{last_there, nothing_gone, whole_gone, whole_stretch}
use Rattle.jsonc_edit.proofs.rows.clear_row.Goals as goal

pub returns-in_default : goal.returns-in_default
returns-in_default g c = nothing_gone c.args.tree.now.nodes c.args.tree.now.tree c.args.container (sym c.first_child.ensures ∙ c.in_default.is)

pub unreachable-requires : goal.unreachable-requires
unreachable-requires g c = last_there c.args.tree.now.nodes c.args.tree.now.tree c.args.container c.in-Some.first (sym c.first_child.ensures ∙ c.in-Some.is) (sym c.last_child.ensures ∙ c.in_default-last_child.is)

pub remove_between-requires : goal.remove_between-requires
remove_between-requires g c = whole_stretch c.args.tree.now.nodes c.args.tree.now.tree c.args.container c.in-Some.first c.in-Some-last_child.last (sym c.first_child.ensures ∙ c.in-Some.is) (sym c.last_child.ensures ∙ c.in-Some-last_child.is)

pub returns : goal.returns
returns g c = whole_gone c.args.tree.now.nodes c.args.tree.now.tree c.args.container c.in-Some.first c.in-Some-last_child.last (sym c.first_child.ensures ∙ c.in-Some.is) (sym c.last_child.ensures ∙ c.in-Some-last_child.is) c.remove_between.new.self.nodes c.remove_between.ensures

use Rattle.std.proofs.Common.{ap, ◌∙◌}
use Rattle.jsonc_tree.specs.Content.{is_container}
use Rattle.jsonc_insert.proofs.lemmas.members.SpreadRows.{bare_there, came_back, comes_back, mid_holds, mid_there}
use Rattle.jsonc_insert.proofs.members.members.put_row_back.Goals as goal

pub clear_row-requires : goal.clear_row-requires
clear_row-requires g c = mid_there c.requires.0 c.args.tree.now.nodes c.args.object c.args.row.now c.args.tree.now.tree c.requires.1

pub insert_between-requires-clause-in_tree : goal.insert_between-requires-clause-in_tree
insert_between-requires-clause-in_tree g c = bare_there c.requires.0 c.args.tree.now.nodes c.args.object c.args.row.now c.args.tree.now.tree c.requires.1 c.clear_row.new.tree.nodes c.clear_row.ensures

pub insert_between-requires-clause-container : goal.insert_between-requires-clause-container
insert_between-requires-clause-container g c =
    ap is_container (c.clear_row.ensures.content c.args.object) ∙ mid_holds c.requires.0 c.args.tree.now.nodes c.args.object c.args.row.now c.requires.1

pub insert_between-requires-clause-can : goal.insert_between-requires-clause-can
insert_between-requires-clause-can g c = comes_back c.requires.0 c.args.tree.now.nodes c.args.object c.args.row.now c.args.tree.now.tree c.requires.1 c.clear_row.new.tree.nodes c.clear_row.ensures

pub returns : goal.returns
returns g c = λ old w.
    came_back old c.args.tree.now.nodes c.args.object c.args.row.now c.args.tree.now.tree w c.clear_row.new.tree.nodes c.clear_row.ensures
    c.insert_between.new.self.nodes c.insert_between.new.self.tree c.insert_between.ensures.fills

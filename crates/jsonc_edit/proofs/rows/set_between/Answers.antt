use Rattle.std.proofs.Common.{sym, ◌∙◌, arith}
use Rattle.jsonc_edit.proofs.RowEnds.{ends_apart, first_is, first_some, inside_can, inside_set, last_is, last_some}
use Rattle.jsonc_edit.proofs.rows.set_between.Goals as goal

pub unreachable-requires : goal.unreachable-requires
unreachable-requires g c = first_some c.args.tree.now.nodes c.args.tree.now.tree c.args.container (omega (arith, c.requires.two)) (sym c.first_child.ensures ∙ c.in_default.is)

pub unreachable-requires-in_default-last_child : goal.unreachable-requires-in_default-last_child
unreachable-requires-in_default-last_child g c = last_some c.args.tree.now.nodes c.args.tree.now.tree c.args.container (omega (arith, c.requires.two)) (sym c.last_child.ensures ∙ c.in_default-last_child.is)

pub clear_between-requires-clause-first : goal.clear_between-requires-clause-first
clear_between-requires-clause-first g c = (first_is c.args.tree.now.nodes c.args.tree.now.tree c.args.container c.in-Some.first (sym c.first_child.ensures ∙ c.in-Some.is)).0

pub clear_between-requires-clause-last : goal.clear_between-requires-clause-last
clear_between-requires-clause-last g c = (last_is c.args.tree.now.nodes c.args.tree.now.tree c.args.container c.in-Some-last_child.last (sym c.last_child.ensures ∙ c.in-Some-last_child.is)).0

pub clear_between-requires-clause-order : goal.clear_between-requires-clause-order
clear_between-requires-clause-order g c = ends_apart c.args.tree.now.nodes c.args.tree.now.tree c.args.container c.in-Some.first c.in-Some-last_child.last (sym c.first_child.ensures ∙ c.in-Some.is) (sym c.last_child.ensures ∙ c.in-Some-last_child.is) c.requires.two

pub insert_between-requires-clause-can : goal.insert_between-requires-clause-can
insert_between-requires-clause-can g c =
    inside_can c.args.tree.now.nodes c.args.tree.now.tree c.args.container c.in-Some.first c.in-Some-last_child.last (sym c.first_child.ensures ∙ c.in-Some.is) (sym c.last_child.ensures ∙ c.in-Some-last_child.is) c.requires.two c.clear_between.new.tree.nodes c.clear_between.ensures c.args.new.now c.requires.join

pub returns : goal.returns
returns g c =
    inside_set c.args.tree.now.nodes c.args.tree.now.tree c.args.container c.in-Some.first c.in-Some-last_child.last (sym c.first_child.ensures ∙ c.in-Some.is) (sym c.last_child.ensures ∙ c.in-Some-last_child.is) c.requires.two c.clear_between.new.tree.nodes c.clear_between.ensures c.args.new.now c.insert_between.new.self.nodes c.insert_between.ensures.fills

use Rattle.std.proofs.Common.{sym, ◌∙◌}
use Rattle.jsonc_edit.proofs.RowEnds.{inner_gone, inner_stretch, none_between, one_before, one_behind}
use Rattle.jsonc_edit.proofs.rows.clear_between.Goals as goal

pub unreachable-requires : goal.unreachable-requires
unreachable-requires g c =
    one_behind c.args.tree.now.nodes c.args.tree.now.tree c.args.container c.args.first c.args.last c.requires.first c.requires.last c.requires.order (sym c.next_sibling.ensures ∙ c.in_default.is)

pub unreachable-requires-in_default-previous_sibling : goal.unreachable-requires-in_default-previous_sibling
unreachable-requires-in_default-previous_sibling g c =
    one_before c.args.tree.now.nodes c.args.tree.now.tree c.args.container c.args.first c.args.last c.requires.first c.requires.last c.requires.order (sym c.previous_sibling.ensures ∙ c.in_default-previous_sibling.is)

pub returns-then-from-last : goal.returns-then-from-last
returns-then-from-last g c =
    none_between c.args.tree.now.nodes c.args.tree.now.tree c.args.container c.args.first c.args.last c.requires.first c.requires.last c.requires.order c.in-Some.from (sym c.next_sibling.ensures ∙ c.in-Some.is) c.if-from-last.true

pub remove_between-requires : goal.remove_between-requires
remove_between-requires g c =
    inner_stretch c.args.tree.now.nodes c.args.tree.now.tree c.args.container c.args.first c.args.last c.requires.first c.requires.last c.requires.order c.in-Some.from (sym c.next_sibling.ensures ∙ c.in-Some.is) c.if-from-last.false c.in-Some-previous_sibling.to (sym c.previous_sibling.ensures ∙ c.in-Some-previous_sibling.is)

pub returns : goal.returns
returns g c =
    inner_gone c.args.tree.now.nodes c.args.tree.now.tree c.args.container c.args.first c.args.last c.requires.first c.requires.last c.requires.order c.in-Some.from (sym c.next_sibling.ensures ∙ c.in-Some.is) c.if-from-last.false c.in-Some-previous_sibling.to (sym c.previous_sibling.ensures ∙ c.in-Some-previous_sibling.is)
    c.remove_between.new.self.nodes c.remove_between.ensures

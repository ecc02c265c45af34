use Rattle.std.proofs.Common.{sym, ◌∙◌}
use Rattle.jsonc_tree.proofs.Order.{parent_there}
use Rattle.jsonc_edit.proofs.ReplacedChildren.{where_refused}
use Rattle.jsonc_edit.proofs.NodesKept.{tree_stays}
use Rattle.jsonc_edit.proofs.lemmas.remove.TakenElement.{comma_stays, from_stays, space_children, stays_away, still_holds, still_in_order, to_stays}
use Rattle.jsonc_edit.proofs.remove.removing.remove.Goals as goal

pub kind-requires : goal.kind-requires
kind-requires g c = (parent_there c.args.tree.now.nodes c.args.tree.now.tree c.args.node c.in-Some.container (sym c.parent.ensures ∙ c.in-Some.is)).1

pub returns-in_err-spaces-clause-document : goal.returns-in_err-spaces-clause-document
returns-in_err-spaces-clause-document g c =
    where_refused c.from_residual.result (tree_stays c.args.tree.now.nodes c.make_spaces.new.tree.nodes c.args.tree.now.tree c.make_spaces.ensures.prepared.keeps c.make_spaces.ensures.prepared.tree)

pub put_spaces-requires-clause-children : goal.put_spaces-requires-clause-children
put_spaces-requires-clause-children g c =
    space_children c.args.tree.now.nodes c.make_spaces.new.tree.nodes c.args.tree.now.tree c.make_spaces.ensures.prepared c.args.node c.in-Some.container (sym c.parent.ensures ∙ c.in-Some.is) c.first_gone-first.result c.last_gone-last.result c.comma_in-comma.result
    c.first_gone-first.ensures.first c.last_gone-last.ensures.last c.comma_in-comma.ensures.comma c.space_needed_at_comma-before.result c.space_needed_after_gap-behind.result c.space_needed_at_comma-before.ensures.due c.space_needed_after_gap-behind.ensures.due c.in_ok-spaces.spaces
    c.in_ok-spaces.ensures.hand.are

pub take_stretch-requires-clause-first : goal.take_stretch-requires-clause-first
take_stretch-requires-clause-first g c =
    from_stays c.args.tree.now.nodes c.make_spaces.new.tree.nodes c.args.tree.now.tree c.make_spaces.ensures.prepared c.args.node c.in-Some.container (sym c.parent.ensures ∙ c.in-Some.is) c.first_gone-first.result c.last_gone-last.result c.comma_in-comma.result
    c.first_gone-first.ensures.first c.last_gone-last.ensures.last c.comma_in-comma.ensures.comma _ c.put_spaces.new.tree.nodes c.put_spaces.ensures.put

pub take_stretch-requires-clause-last : goal.take_stretch-requires-clause-last
take_stretch-requires-clause-last g c =
    to_stays c.args.tree.now.nodes c.make_spaces.new.tree.nodes c.args.tree.now.tree c.make_spaces.ensures.prepared c.args.node c.in-Some.container (sym c.parent.ensures ∙ c.in-Some.is) c.first_gone-first.result c.last_gone-last.result c.comma_in-comma.result
    c.first_gone-first.ensures.first c.last_gone-last.ensures.last c.comma_in-comma.ensures.comma _ c.put_spaces.new.tree.nodes c.put_spaces.ensures.put

pub take_stretch-requires-clause-order : goal.take_stretch-requires-clause-order
take_stretch-requires-clause-order g c =
    still_in_order c.args.tree.now.nodes c.make_spaces.new.tree.nodes c.args.tree.now.tree c.make_spaces.ensures.prepared c.args.node c.in-Some.container (sym c.parent.ensures ∙ c.in-Some.is) c.first_gone-first.result c.last_gone-last.result c.comma_in-comma.result
    c.first_gone-first.ensures.first c.last_gone-last.ensures.last c.comma_in-comma.ensures.comma _ c.put_spaces.new.tree.nodes c.put_spaces.ensures.put

pub take_child-requires : goal.take_child-requires
take_child-requires g c =
    comma_stays c.args.tree.now.nodes c.make_spaces.new.tree.nodes c.args.tree.now.tree c.make_spaces.ensures.prepared c.args.node c.in-Some.container (sym c.parent.ensures ∙ c.in-Some.is) c.first_gone-first.result c.last_gone-last.result c.comma_in-comma.result
    c.first_gone-first.ensures.first c.last_gone-last.ensures.last c.comma_in-comma.ensures.comma _ c.put_spaces.new.tree.nodes c.put_spaces.ensures.put c.put_spaces.new.tree.tree c.take_stretch.new.tree.nodes c.take_stretch.ensures.taken

pub close_up-requires-clause-container : goal.close_up-requires-clause-container
close_up-requires-clause-container g c =
    still_holds c.args.tree.now.nodes c.make_spaces.new.tree.nodes c.args.tree.now.tree c.make_spaces.ensures.prepared c.args.node c.in-Some.container (sym c.parent.ensures ∙ c.in-Some.is) c.first_gone-first.result c.last_gone-last.result c.comma_in-comma.result
    c.first_gone-first.ensures.first c.last_gone-last.ensures.last c.comma_in-comma.ensures.comma _ c.put_spaces.new.tree.nodes c.put_spaces.ensures.put c.put_spaces.new.tree.tree c.take_stretch.new.tree.nodes c.take_stretch.ensures.taken c.take_child.new.tree.nodes c.take_child.ensures.taken

pub returns-clause-alone : goal.returns-clause-alone
returns-clause-alone g c =
    stays_away c.args.tree.now.nodes c.make_spaces.new.tree.nodes c.args.tree.now.tree c.make_spaces.ensures.prepared c.args.node c.in-Some.container (sym c.parent.ensures ∙ c.in-Some.is) c.first_gone-first.result c.last_gone-last.result c.comma_in-comma.result
    c.first_gone-first.ensures.first c.last_gone-last.ensures.last c.comma_in-comma.ensures.comma _ c.put_spaces.new.tree.nodes c.put_spaces.ensures.put c.put_spaces.new.tree.tree c.take_stretch.new.tree.nodes c.take_stretch.ensures.taken c.take_child.new.tree.nodes c.take_child.ensures.taken
    c.close_up.new.tree.nodes c.close_up.ensures.closed

use Rattle.std.proofs.Common.{sym, ◌∙◌}
use Rattle.jsonc_layout.specs.input.Views.{plain}
use Rattle.jsonc_layout.specs.from_input.Layout.{layout_of}
use Rattle.jsonc_edit.proofs.ReplacedChildren.{value_children, value_child, value_join, value_gives_way, where_refused}
use Rattle.jsonc_edit.proofs.NodesKept.{tree_stays}
use Rattle.jsonc_edit.proofs.Refusals.{tree_stays_twice}
use Rattle.jsonc_edit.proofs.replacing.replace_with.Goals as goal

pub returns-in_err-new-clause-document : goal.returns-in_err-new-clause-document
returns-in_err-new-clause-document g c =
    where_refused c.from_residual.result (tree_stays c.args.tree.now.nodes c.lay_out.new.tree.nodes c.args.tree.now.tree c.lay_out.ensures.kept c.lay_out.new.tree.tree)

pub returns-in_err-spaces-clause-document : goal.returns-in_err-spaces-clause-document
returns-in_err-spaces-clause-document g c =
    where_refused c.from_residual-in_err-spaces.result
    (tree_stays_twice c.args.tree.now.nodes c.lay_out.new.tree.nodes c.spaces_for.new.tree.nodes c.args.tree.now.tree c.lay_out.new.tree.tree c.lay_out.ensures.kept c.spaces_for.ensures.prepared)

pub put_spaces-requires-clause-children : goal.put_spaces-requires-clause-children
put_spaces-requires-clause-children g c =
    value_children c.args.tree.now.nodes c.lay_out.new.tree.nodes c.spaces_for.new.tree.nodes c.args.tree.now.tree c.args.node c.in-Some.container c.in_ok-new.new (layout_of c.args.layout.now) (plain c.args.value.now)
    (sym c.parent.ensures ∙ c.in-Some.is) c.in_ok-new.ensures.built c.spaces_for.ensures.prepared c.space_needed_before-before.result c.space_needed_after-behind.result c.space_needed_before-before.ensures.due c.space_needed_after-behind.ensures.due
    c.in_ok-spaces.spaces c.in_ok-spaces.ensures.hand

pub put_in_place-requires-clause-child : goal.put_in_place-requires-clause-child
put_in_place-requires-clause-child g c =
    value_child c.args.tree.now.nodes c.lay_out.new.tree.nodes c.spaces_for.new.tree.nodes c.args.tree.now.tree c.args.node c.in-Some.container c.in_ok-new.new (layout_of c.args.layout.now) (plain c.args.value.now)
    (sym c.parent.ensures ∙ c.in-Some.is) c.in_ok-new.ensures.built c.spaces_for.ensures.prepared c.space_needed_before-before.result c.space_needed_after-behind.result c.space_needed_before-before.ensures.due c.space_needed_after-behind.ensures.due
    c.in_ok-spaces.spaces c.in_ok-spaces.ensures.hand
    c.put_spaces.new.tree.nodes c.put_spaces.ensures.put

pub put_in_place-requires-clause-join : goal.put_in_place-requires-clause-join
put_in_place-requires-clause-join g c =
    value_join c.args.tree.now.nodes c.lay_out.new.tree.nodes c.spaces_for.new.tree.nodes c.args.tree.now.tree c.args.node c.in-Some.container c.in_ok-new.new (layout_of c.args.layout.now) (plain c.args.value.now)
    (sym c.parent.ensures ∙ c.in-Some.is) c.in_ok-new.ensures.built c.spaces_for.ensures.prepared c.space_needed_before-before.result c.space_needed_after-behind.result c.space_needed_before-before.ensures.due c.space_needed_after-behind.ensures.due
    c.in_ok-spaces.spaces c.in_ok-spaces.ensures.hand
    c.put_spaces.new.tree.nodes c.put_spaces.ensures.put

pub returns-clause-replaced : goal.returns-clause-replaced
returns-clause-replaced g c =
    value_gives_way c.args.tree.now.nodes c.lay_out.new.tree.nodes c.spaces_for.new.tree.nodes c.args.tree.now.tree c.args.node c.in-Some.container c.in_ok-new.new (layout_of c.args.layout.now) (plain c.args.value.now)
    (sym c.parent.ensures ∙ c.in-Some.is) c.in_ok-new.ensures.built c.spaces_for.ensures.prepared c.space_needed_before-before.result c.space_needed_after-behind.result c.space_needed_before-before.ensures.due c.space_needed_after-behind.ensures.due
    c.in_ok-spaces.spaces c.in_ok-spaces.ensures.hand
    c.put_spaces.new.tree.nodes c.put_spaces.ensures.put c.put_in_place.new.tree.nodes c.put_in_place.new.tree.tree c.put_in_place.ensures.put

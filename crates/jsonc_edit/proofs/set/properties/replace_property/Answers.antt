use Rattle.std.proofs.Common.{sym, chars, ◌∙◌}
use Rattle.jsonc_tree.proofs.Order.{parent_there}
use Rattle.jsonc_layout.specs.input.Views.{plain}
use Rattle.jsonc_layout.specs.from_input.Layout.{layout_of}
use Rattle.jsonc_edit.proofs.ReplacedChildren.{where_refused}
use Rattle.jsonc_edit.proofs.NodesKept.{tree_stays}
use Rattle.jsonc_edit.proofs.Refusals.{tree_stays_twice}
use Rattle.jsonc_edit.proofs.lemmas.set.PropertyGiving.{given_children, given_child, given_join, is_replaced}
use Rattle.jsonc_edit.proofs.set.properties.replace_property.Goals as goal

pub layout_for_value-requires-clause-container : goal.layout_for_value-requires-clause-container
layout_for_value-requires-clause-container g c = (parent_there c.args.tree.now.nodes c.args.tree.now.tree c.args.property c.in-Some.container (sym c.parent.ensures ∙ c.in-Some.is)).1

pub returns-in_err-new-clause-document : goal.returns-in_err-new-clause-document
returns-in_err-new-clause-document g c =
    where_refused c.from_residual-in_err-new.result (tree_stays c.args.tree.now.nodes c.lay_out_property.new.tree.nodes c.args.tree.now.tree c.lay_out_property.ensures.kept c.lay_out_property.new.tree.tree)

pub returns-in_err-spaces-clause-document : goal.returns-in_err-spaces-clause-document
returns-in_err-spaces-clause-document g c =
    where_refused c.from_residual-in_err-spaces.result
    (tree_stays_twice c.args.tree.now.nodes c.lay_out_property.new.tree.nodes c.make_spaces.new.tree.nodes c.args.tree.now.tree c.lay_out_property.new.tree.tree c.lay_out_property.ensures.kept c.make_spaces.ensures.prepared)

pub put_spaces-requires-clause-children : goal.put_spaces-requires-clause-children
put_spaces-requires-clause-children g c =
    given_children c.args.tree.now.nodes c.lay_out_property.new.tree.nodes c.make_spaces.new.tree.nodes c.args.tree.now.tree c.args.property c.in-Some.container c.in_ok-new.new (layout_of c.in_ok-layout.layout) (chars c.args.name.now) (plain c.args.value.now)
    (sym c.parent.ensures ∙ c.in-Some.is) c.in_ok-new.ensures.built c.make_spaces.ensures.prepared c.due_after-behind.result c.due_after-behind.ensures c.in_ok-spaces.spaces c.in_ok-spaces.ensures.hand

pub put_in_place-requires-clause-child : goal.put_in_place-requires-clause-child
put_in_place-requires-clause-child g c =
    given_child c.args.tree.now.nodes c.lay_out_property.new.tree.nodes c.make_spaces.new.tree.nodes c.args.tree.now.tree c.args.property c.in-Some.container c.in_ok-new.new (layout_of c.in_ok-layout.layout) (chars c.args.name.now) (plain c.args.value.now)
    (sym c.parent.ensures ∙ c.in-Some.is) c.in_ok-new.ensures.built c.make_spaces.ensures.prepared c.due_after-behind.result c.due_after-behind.ensures c.in_ok-spaces.spaces c.in_ok-spaces.ensures.hand
    c.put_spaces.new.tree.nodes c.put_spaces.ensures.put

pub put_in_place-requires-clause-join : goal.put_in_place-requires-clause-join
put_in_place-requires-clause-join g c =
    given_join c.args.tree.now.nodes c.lay_out_property.new.tree.nodes c.make_spaces.new.tree.nodes c.args.tree.now.tree c.args.property c.in-Some.container c.in_ok-new.new (layout_of c.in_ok-layout.layout) (chars c.args.name.now) (plain c.args.value.now)
    (sym c.parent.ensures ∙ c.in-Some.is) c.in_ok-new.ensures.built c.make_spaces.ensures.prepared c.due_after-behind.result c.due_after-behind.ensures c.in_ok-spaces.spaces c.in_ok-spaces.ensures.hand
    c.put_spaces.new.tree.nodes c.put_spaces.ensures.put

pub returns-clause-replaced : goal.returns-clause-replaced
returns-clause-replaced g c =
    is_replaced c.args.tree.now.nodes c.lay_out_property.new.tree.nodes c.make_spaces.new.tree.nodes c.args.tree.now.tree c.args.property c.in-Some.container c.in_ok-new.new (layout_of c.in_ok-layout.layout) (chars c.args.name.now) (plain c.args.value.now)
    (sym c.parent.ensures ∙ c.in-Some.is) c.in_ok-new.ensures.built c.make_spaces.ensures.prepared c.due_after-behind.result c.due_after-behind.ensures c.in_ok-spaces.spaces c.in_ok-spaces.ensures.hand
    c.put_spaces.new.tree.nodes c.put_spaces.ensures.put c.in_ok-layout.ensures.alike c.put_in_place.new.tree.nodes c.put_in_place.new.tree.tree c.put_in_place.ensures.put

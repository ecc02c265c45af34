use Rattle.jsonc_layout.specs.input.Views.{plain}
use Rattle.jsonc_layout.specs.from_input.Layout.{layout_of}
use Rattle.jsonc_edit.proofs.ReplacedChildren.{where_refused}
use Rattle.jsonc_edit.proofs.NodesKept.{tree_stays}
use Rattle.jsonc_edit.proofs.Refusals.{tree_stays_twice}
use Rattle.jsonc_edit.proofs.lemmas.set.LastChild.{can_come, come_children, come_hand, last_value}
use Rattle.jsonc_edit.proofs.set.values.put_last.Goals as goal

pub returns-in_err-new-clause-document : goal.returns-in_err-new-clause-document
returns-in_err-new-clause-document g c =
    where_refused c.from_residual-in_err-new.result (tree_stays c.args.tree.now.nodes c.lay_out.new.tree.nodes c.args.tree.now.tree c.lay_out.ensures.kept c.lay_out.new.tree.tree)

pub returns-in_err-spaces-clause-document : goal.returns-in_err-spaces-clause-document
returns-in_err-spaces-clause-document g c =
    where_refused c.from_residual-in_err-spaces.result
    (tree_stays_twice c.args.tree.now.nodes c.lay_out.new.tree.nodes c.spaces_for.new.tree.nodes c.args.tree.now.tree c.lay_out.new.tree.tree c.lay_out.ensures.kept c.spaces_for.ensures.prepared)

pub append-requires : goal.append-requires
append-requires g c =
    can_come c.args.tree.now.nodes c.lay_out.new.tree.nodes c.spaces_for.new.tree.nodes c.args.tree.now.tree c.args.property c.in_ok-new.new c.requires.in_tree c.requires.property
    (layout_of c.in_ok-layout.layout) (plain c.args.value.now) c.in_ok-new.ensures.built c.spaces_for.ensures.prepared

pub put_spaces-requires-clause-hand : goal.put_spaces-requires-clause-hand
put_spaces-requires-clause-hand g c =
    come_hand c.args.tree.now.nodes c.lay_out.new.tree.nodes c.spaces_for.new.tree.nodes c.args.tree.now.tree c.args.property c.in_ok-new.new c.requires.in_tree c.requires.property
    (layout_of c.in_ok-layout.layout) (plain c.args.value.now) c.in_ok-new.ensures.built c.spaces_for.ensures.prepared
    c.append.new.self.nodes c.append.ensures c.append.new.self.tree c.space_needed_last-before.result c.space_needed_past-behind.result c.space_needed_last-before.ensures.due c.space_needed_past-behind.ensures.due c.in_ok-spaces.spaces c.in_ok-spaces.ensures.hand

pub put_spaces-requires-clause-children : goal.put_spaces-requires-clause-children
put_spaces-requires-clause-children g c =
    come_children c.args.tree.now.nodes c.lay_out.new.tree.nodes c.spaces_for.new.tree.nodes c.args.tree.now.tree c.args.property c.in_ok-new.new c.requires.in_tree c.requires.property
    (layout_of c.in_ok-layout.layout) (plain c.args.value.now) c.in_ok-new.ensures.built c.spaces_for.ensures.prepared
    c.append.new.self.nodes c.append.ensures c.append.new.self.tree c.space_needed_last-before.result c.space_needed_past-behind.result c.space_needed_last-before.ensures.due c.space_needed_past-behind.ensures.due c.in_ok-spaces.spaces c.in_ok-spaces.ensures.hand

pub returns-clause-last : goal.returns-clause-last
returns-clause-last g c =
    last_value c.args.tree.now.nodes c.lay_out.new.tree.nodes c.spaces_for.new.tree.nodes c.args.tree.now.tree c.args.property c.in_ok-new.new c.requires.in_tree c.requires.property
    (layout_of c.in_ok-layout.layout) (plain c.args.value.now) c.in_ok-new.ensures.built c.spaces_for.ensures.prepared
    c.append.new.self.nodes c.append.ensures c.append.new.self.tree c.space_needed_last-before.result c.space_needed_past-behind.result c.space_needed_last-before.ensures.due c.space_needed_past-behind.ensures.due c.in_ok-spaces.spaces c.in_ok-spaces.ensures.hand
    c.in_ok-layout.ensures.alike c.put_spaces.new.tree.nodes c.put_spaces.ensures.put

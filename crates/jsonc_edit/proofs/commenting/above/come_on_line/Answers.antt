use Rattle.std.proofs.Common.{[], ◌∷◌, ◌∙◌}
use Rattle.jsonc_tree.specs.Content.{comment, newline, whitespace}
use Rattle.jsonc_tree.specs.Tree.{place_at}
use Rattle.jsonc_tree.proofs.Order.{parent_there}
use Rattle.jsonc_layout.specs.Building.{LeavesMade}
use Rattle.jsonc_layout.specs.lines.Breadth.{newline_kind_at}
use Rattle.jsonc_layout.proofs.lemmas.Building.{gained_then}
use Rattle.jsonc_edit.specs.commenting.Above.{own_indent, own_line}
use Rattle.jsonc_edit.proofs.lemmas.commenting.Planned.{come_before_child, join_beside, leaves_are, own_line_same, still_child}
use Rattle.jsonc_edit.proofs.commenting.above.come_on_line.Goals as goal

pub newline_kind_at-kind-requires : goal.newline_kind_at-kind-requires
newline_kind_at-kind-requires g c = (parent_there c.args.tree.now.nodes c.args.tree.now.tree c.args.node c.args.container c.requires.child).1

pub come_before-requires : goal.come_before-requires
come_before-requires g c =
    let ns = c.args.tree.now.nodes in
    let now = c.push_line.new.tree.nodes in
    let row = c.push_line.new.self.nodes.items in
    let text = c.args.text.now in
    let kind = newline_kind_at ns c.args.container in
    let is = c.newline_kind_at-kind.result in
    let indent = c.as_str.result.now in
    let wanted = own_line kind text (own_indent ns c.args.node) in
    let made : LeavesMade ns now wanted row = leaves_are ns now c.new-row.result.nodes.items row (own_line is text indent) wanted c.new-row.ensures
    (own_line_same is kind text indent (own_indent ns c.args.node) c.newline_kind_at-kind.ensures (c.as_str.ensures.value ∙ c.in_ok-indent.ensures))
    (gained_then ns c.push_comment.new.tree.nodes now c.new-row.result.nodes.items c.push_comment.new.self.nodes.items row (comment text ∷ []) (newline is ∷ whitespace indent ∷ []) c.in_ok-push_comment.ensures.gains c.in_ok-push_line.ensures.gains) in
    record {
      child = still_child ns now c.args.container wanted row c.args.tree.now.tree made c.args.node c.requires.child;
      join = join_beside ns now c.args.container wanted row c.args.tree.now.tree made c.args.node c.requires.child c.deref.result.now c.deref.ensures.value (place_at now c.args.node);
    }

pub returns-clause-come : goal.returns-clause-come
returns-clause-come g c =
    let ns = c.args.tree.now.nodes in
    let now = c.push_line.new.tree.nodes in
    let row = c.push_line.new.self.nodes.items in
    let text = c.args.text.now in
    let kind = newline_kind_at ns c.args.container in
    let is = c.newline_kind_at-kind.result in
    let indent = c.as_str.result.now in
    let wanted = own_line kind text (own_indent ns c.args.node) in
    let made : LeavesMade ns now wanted row = leaves_are ns now c.new-row.result.nodes.items row (own_line is text indent) wanted c.new-row.ensures
    (own_line_same is kind text indent (own_indent ns c.args.node) c.newline_kind_at-kind.ensures (c.as_str.ensures.value ∙ c.in_ok-indent.ensures))
    (gained_then ns c.push_comment.new.tree.nodes now c.new-row.result.nodes.items c.push_comment.new.self.nodes.items row (comment text ∷ []) (newline is ∷ whitespace indent ∷ []) c.in_ok-push_comment.ensures.gains c.in_ok-push_line.ensures.gains) in
    come_before_child ns now c.args.container wanted row c.args.tree.now.tree made c.args.node c.requires.child c.push_line.new.tree.tree
    c.deref.result.now c.deref.ensures.value c.come_before.new.tree.nodes c.come_before.new.tree.tree c.come_before.ensures

use Rattle.std.proofs.Common.{[], ◌∷◌, ap, subst, ◌∙◌}
use Rattle.jsonc_tree.specs.Content.{comment, newline, whitespace}
use Rattle.jsonc_tree.specs.Tree.{parent_at, place_at}
use Rattle.jsonc_tree.proofs.Order.{parent_there}
use Rattle.jsonc_layout.specs.Building.{LeavesMade}
use Rattle.jsonc_layout.specs.lines.Breadth.{newline_kind_at}
use Rattle.jsonc_layout.proofs.lemmas.Building.{gained_then}
use Rattle.jsonc_edit.specs.commenting.Above.{indent_in, new_line, own_line, seam_at}
use Rattle.jsonc_edit.specs.commenting.Come.{LeavesCome}
use Rattle.jsonc_edit.proofs.lemmas.commenting.Planned.{come_before_child, join_beside, leaves_are, new_line_same, seam_child, still_child}
use Rattle.jsonc_edit.proofs.commenting.above.come_between.Goals as goal

pub newline_kind_at-kind-requires : goal.newline_kind_at-kind-requires
newline_kind_at-kind-requires g c = (parent_there c.args.tree.now.nodes c.args.tree.now.tree c.args.node c.args.container c.requires.child).1

pub indent_in-requires : goal.indent_in-requires
indent_in-requires g c = (parent_there c.args.tree.now.nodes c.args.tree.now.tree c.args.node c.args.container c.requires.child).1

pub come_before-requires : goal.come_before-requires
come_before-requires g c =
    let ns = c.args.tree.now.nodes in
    let now = c.push_line-2.new.tree.nodes in
    let first = c.new-row.result.nodes.items in
    let row = c.push_line-2.new.self.nodes.items in
    let text = c.args.text.now in
    let kind = newline_kind_at ns c.args.container in
    let is = c.newline_kind_at-kind.result in
    let inner = c.as_str-inner.result.now in
    let told = c.as_str-inner.ensures.value ∙ c.in_ok-indent.ensures in
    let seam = seam_at ns c.args.node (indent_in ns c.args.container) in
    let rest = c.seam_at-seam.result.indent.now in
    let at = c.seam_at-seam.ensures.node ∙ ap (λ s. (seam_at ns c.args.node s).node) told in
    let said = ap (parent_at ns) at ∙ seam_child ns c.args.tree.now.tree c.args.node c.args.container c.requires.child (indent_in ns c.args.container) in
    let wanted = new_line kind (indent_in ns c.args.container) (own_line kind text seam.indent) in
    let made : LeavesMade ns now wanted row = leaves_are ns now first row (new_line is inner (own_line is text rest)) wanted c.new-row.ensures
    (new_line_same is kind text inner (indent_in ns c.args.container) rest seam.indent c.newline_kind_at-kind.ensures told (c.seam_at-seam.ensures.indent ∙ ap (λ s. (seam_at ns c.args.node s).indent) told))
    (gained_then ns c.push_line.new.tree.nodes now first c.push_line.new.self.nodes.items row (newline is ∷ whitespace inner ∷ []) (own_line is text rest) c.in_ok-push_line.ensures.gains
    (gained_then c.push_line.new.tree.nodes c.push_comment.new.tree.nodes now c.push_line.new.self.nodes.items c.push_comment.new.self.nodes.items row (comment text ∷ []) (newline is ∷ whitespace rest ∷ []) c.in_ok-push_comment.ensures.gains c.in_ok-push_line-2.ensures.gains)) in
    record {
      child = still_child ns now c.args.container wanted row c.args.tree.now.tree made c.seam_at-seam.result.node said;
      join = join_beside ns now c.args.container wanted row c.args.tree.now.tree made c.seam_at-seam.result.node said c.deref.result.now c.deref.ensures.value (place_at now c.seam_at-seam.result.node);
    }

pub returns-clause-come : goal.returns-clause-come
returns-clause-come g c =
    let ns = c.args.tree.now.nodes in
    let now = c.push_line-2.new.tree.nodes in
    let first = c.new-row.result.nodes.items in
    let row = c.push_line-2.new.self.nodes.items in
    let text = c.args.text.now in
    let kind = newline_kind_at ns c.args.container in
    let is = c.newline_kind_at-kind.result in
    let inner = c.as_str-inner.result.now in
    let told = c.as_str-inner.ensures.value ∙ c.in_ok-indent.ensures in
    let seam = seam_at ns c.args.node (indent_in ns c.args.container) in
    let rest = c.seam_at-seam.result.indent.now in
    let at = c.seam_at-seam.ensures.node ∙ ap (λ s. (seam_at ns c.args.node s).node) told in
    let said = ap (parent_at ns) at ∙ seam_child ns c.args.tree.now.tree c.args.node c.args.container c.requires.child (indent_in ns c.args.container) in
    let wanted = new_line kind (indent_in ns c.args.container) (own_line kind text seam.indent) in
    let made : LeavesMade ns now wanted row = leaves_are ns now first row (new_line is inner (own_line is text rest)) wanted c.new-row.ensures
    (new_line_same is kind text inner (indent_in ns c.args.container) rest seam.indent c.newline_kind_at-kind.ensures told (c.seam_at-seam.ensures.indent ∙ ap (λ s. (seam_at ns c.args.node s).indent) told))
    (gained_then ns c.push_line.new.tree.nodes now first c.push_line.new.self.nodes.items row (newline is ∷ whitespace inner ∷ []) (own_line is text rest) c.in_ok-push_line.ensures.gains
    (gained_then c.push_line.new.tree.nodes c.push_comment.new.tree.nodes now c.push_line.new.self.nodes.items c.push_comment.new.self.nodes.items row (comment text ∷ []) (newline is ∷ whitespace rest ∷ []) c.in_ok-push_comment.ensures.gains c.in_ok-push_line-2.ensures.gains)) in
    subst (λ m. LeavesCome ns c.come_before.new.tree.nodes c.args.container (place_at ns m) wanted) at
    (come_before_child ns now c.args.container wanted row c.args.tree.now.tree made c.seam_at-seam.result.node said c.push_line-2.new.tree.tree c.deref.result.now c.deref.ensures.value c.come_before.new.tree.nodes c.come_before.new.tree.tree c.come_before.ensures)

use Rattle.std.proofs.Common.{[], ◌∷◌, ◌+◌}
use Rattle.jsonc_tree.specs.Content.{comment}
use Rattle.jsonc_tree.specs.Tree.{place_at}
use Rattle.jsonc_layout.specs.Building.{LeavesMade}
use Rattle.jsonc_layout.proofs.lemmas.Building.{gained_then, made_from}
use Rattle.jsonc_edit.specs.Put.{a_space}
use Rattle.jsonc_edit.specs.commenting.Behind.{spaced}
use Rattle.jsonc_edit.proofs.lemmas.commenting.Planned.{come_behind_child, join_beside, still_child}
use Rattle.jsonc_edit.proofs.commenting.behind.come_spaced.Goals as goal

pub come_behind-requires : goal.come_behind-requires
come_behind-requires g c =
    let ns = c.args.tree.now.nodes in
    let now = c.push_comment.new.tree.nodes in
    let row = c.push_comment.new.self.nodes.items in
    let text = c.args.text.now in
    let made : LeavesMade ns now (spaced text) row = made_from ns now c.new-row.result.nodes.items row (spaced text) c.new-row.ensures
    (gained_then ns c.push_blank.new.tree.nodes now c.new-row.result.nodes.items c.push_blank.new.self.nodes.items row (a_space ∷ []) (comment text ∷ []) c.in_ok-push_blank.ensures.gains c.in_ok-push_comment.ensures.gains) in
    record {
      child = still_child ns now c.args.container (spaced text) row c.args.tree.now.tree made c.args.before c.requires.child;
      join = join_beside ns now c.args.container (spaced text) row c.args.tree.now.tree made c.args.before c.requires.child c.deref.result.now c.deref.ensures.value (place_at now c.args.before + 1);
    }

pub returns-clause-come : goal.returns-clause-come
returns-clause-come g c =
    let ns = c.args.tree.now.nodes in
    let now = c.push_comment.new.tree.nodes in
    let row = c.push_comment.new.self.nodes.items in
    let text = c.args.text.now in
    let made : LeavesMade ns now (spaced text) row = made_from ns now c.new-row.result.nodes.items row (spaced text) c.new-row.ensures
    (gained_then ns c.push_blank.new.tree.nodes now c.new-row.result.nodes.items c.push_blank.new.self.nodes.items row (a_space ∷ []) (comment text ∷ []) c.in_ok-push_blank.ensures.gains c.in_ok-push_comment.ensures.gains) in
    come_behind_child ns now c.args.container (spaced text) row c.args.tree.now.tree made c.args.before c.requires.child c.push_comment.new.tree.tree
    c.deref.result.now c.deref.ensures.value c.come_behind.new.tree.nodes c.come_behind.new.tree.tree c.come_behind.ensures

use Rattle.std.proofs.Common.{◌≡◌, ◌<◌, None, Some, IsTrue, OnErr, length, ap, subst, sym, ◌∙◌}
use Rattle.std.specs.List.{All}
use Rattle.jsonc_tree.specs.Tree.{parent_at}
use Rattle.jsonc_tree.proofs.Order.{parent_there}
use Rattle.jsonc_cst.specs.EntryComments.{comment_numbers, is_entry_at}
use Rattle.jsonc_cst.specs.Nodes.{number_of}
use Rattle.jsonc_cst.specs.typed.Calls.{IsRemoval, IsRemovalWithComments}
use Rattle.jsonc_cst.specs.typed.Removing.{AreClearedIfAny}
use Rattle.jsonc_cst.proofs.lemmas.typed.ClearedEntries.{all_still, cleared_alone, cleared_entry, cleared_refused, cleared_unread, contains_still, parent_contains, there_still}
use Rattle.jsonc_cst.proofs.typed.removing.remove_entry.Goals as goal
use Rattle.jsonc_cst.proofs.typed.removing.remove_entry.Goals.{then-is_ok, else-is_ok}

pub returns-in_default : goal.returns-in_default
returns-in_default g c =
    let old = c.args.doc.now in
    let new = c.remove_node.new.doc in
    let node = g.N.TypedNode.node_of c.args.node in
    let number : number_of node ≡ c.number.result = sym (c.number.ensures ∙ ap number_of c.node-entry.ensures) in
    let none : parent_at old.tree.nodes (number_of node) ≡ None = ap (parent_at old.tree.nodes) number ∙ sym c.parent.ensures ∙ c.in_default.is in
    cleared_alone old node new c.remove_node.result none (subst (λ x. IsRemoval old new x c.remove_node.result) c.node-entry.ensures c.remove_node.ensures)

pub returns-in_default-comment_numbers : goal.returns-in_default-comment_numbers
returns-in_default-comment_numbers g c =
    let old = c.args.doc.now in
    let node = g.N.TypedNode.node_of c.args.node in
    let number : number_of node ≡ c.number.result = sym (c.number.ensures ∙ ap number_of c.node-entry.ensures) in
    let said : parent_at old.tree.nodes (number_of node) ≡ Some c.in-Some.container = ap (parent_at old.tree.nodes) number ∙ sym c.parent.ensures ∙ c.in-Some.is in
    let entry : OnErr c.comment_numbers.result (IsTrue (is_entry_at old.tree.nodes (number_of node))) = subst (λ x. OnErr c.comment_numbers.result (IsTrue (is_entry_at old.tree.nodes (number_of x)))) c.node-entry.ensures c.comment_numbers.ensures.oom_only_if in
    cleared_unread old node c.in-Some.container said c.comment_numbers.result c.in_default-comment_numbers.not-Ok entry

pub clear_any-requires-clause-in_tree : goal.clear_any-requires-clause-in_tree
clear_any-requires-clause-in_tree g c =
    let old = c.args.doc.now.tree in
    let said : parent_at old.nodes c.number.result ≡ Some c.in-Some.container = sym c.parent.ensures ∙ c.in-Some.is in
    there_still old.nodes c.remove_node-removed.new.doc.tree.nodes c.remove_node-removed.ensures.handles c.in-Some.container (parent_there old.nodes old.tree c.number.result c.in-Some.container said).1

pub clear_any-requires-clause-container : goal.clear_any-requires-clause-container
clear_any-requires-clause-container g c =
    let old = c.args.doc.now.tree in
    let said : parent_at old.nodes c.number.result ≡ Some c.in-Some.container = sym c.parent.ensures ∙ c.in-Some.is in
    contains_still old.nodes c.remove_node-removed.new.doc.tree.nodes c.remove_node-removed.ensures.handles c.in-Some.container (parent_there old.nodes old.tree c.number.result c.in-Some.container said).1
    ∙ parent_contains old.nodes old.tree c.number.result c.in-Some.container said

pub clear_any-requires-clause-comments : goal.clear_any-requires-clause-comments
clear_any-requires-clause-comments g c =
    let old = c.args.doc.now.tree.nodes in
    let new = c.remove_node-removed.new.doc.tree.nodes in
    subst (All (λ n. n < length new)) (sym c.deref.ensures.value) (all_still old new c.remove_node-removed.ensures.handles c.in-Ok.comments.items c.in-Ok.ensures.in_tree)

pub returns : goal.returns
returns g c =
    let old = c.args.doc.now in
    let mid = c.remove_node-removed.new.doc in
    let node = g.N.TypedNode.node_of c.args.node in
    let r = c.remove_node-removed.result in
    let removal : IsRemoval old mid node r = subst (λ x. IsRemoval old mid x r) c.node-entry.ensures c.remove_node-removed.ensures in
    let number : number_of node ≡ c.number.result = sym (c.number.ensures ∙ ap number_of c.node-entry.ensures) in
    let said : parent_at old.tree.nodes (number_of node) ≡ Some c.in-Some.container = ap (parent_at old.tree.nodes) number ∙ sym c.parent.ensures ∙ c.in-Some.is in
    elim c.if-is_ok.branch [
      | then-is_ok w ↦
          let numbers : w.deref.result.now ≡ comment_numbers old node = w.deref.ensures.value ∙ c.in-Ok.ensures.numbers ∙ ap (comment_numbers old) c.node-entry.ensures in
          subst (λ d. IsRemovalWithComments old d node r) (sym w.doc-is)
          (cleared_entry old node mid _ c.in-Some.container said mid.tree.tree w.clear_any.new.tree.tree r (sym c.is_ok.ensures.value ∙ w.if-is_ok.true) removal
          (subst (All (λ n. n < length old.tree.nodes)) (c.in-Ok.ensures.numbers ∙ ap (comment_numbers old) c.node-entry.ensures) c.in-Ok.ensures.in_tree)
          (subst (AreClearedIfAny mid.tree.nodes w.clear_any.new.tree.nodes c.in-Some.container) numbers w.clear_any.ensures))
      | else-is_ok w ↦ subst (λ d. IsRemovalWithComments old d node r) (sym w.doc-is) (cleared_refused old node mid r (sym c.is_ok.ensures.value ∙ w.if-is_ok.false) removal)
    ]

use Rattle.std.proofs.Common.{◌∙◌, ◌++◌, ◌∷◌, [], ap, sym, take}
use Rattle.std.proofs.lemmas.List.{take_all, take_more}
use Rattle.jsonc_tree.proofs.tree.copied_nodes.Goals as goal

pub loop-node-init : goal.loop-node-init
loop-node-init g c = c.in_ok-copies.ensures.items

pub loop-node-preserved : goal.loop-node-preserved
loop-node-preserved g c =
    let xs = c.deref-node-items.result.now in
    let i = c.loop-node.node-index in
    c.in_ok-push.ensures.items ∙ ap (λ l. l ++ c.in_ok-try_clone.field-0 ∷ []) c.loop-node.invariant
    ∙ ap (λ x. take i xs ++ x ∷ []) (c.in_ok-try_clone.ensures ∙ c.node-item.is) ∙ sym (take_more xs i c.node-item.result c.loop-node-test.true)

pub returns : goal.returns
returns g c = c.loop-node.invariant ∙ take_all c.loop-node.node-index c.deref-node-items.result.now c.loop-node-test.false ∙ c.deref-node-items.ensures.value

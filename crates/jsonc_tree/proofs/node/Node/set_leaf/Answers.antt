use Rattle.std.proofs.Common.{◌≡◌, false, refl, sym, ap, ◌∙◌}
use Rattle.jsonc_tree.specs.Content.{is_container}
use Rattle.jsonc_tree.specs.Stored.{LinkedNode, content_of}
use Rattle.jsonc_tree.proofs.AlikeNodes.{leaf_ends, linked_same}
use Rattle.jsonc_tree.proofs.node.Node.set_leaf.Goals as goal

pub returns : goal.returns
returns g c =
    let is = c.self.view_is in
    let was : is_container (content_of c.self.inside.kind) ≡ false = ap (λ (n : LinkedNode). is_container n.content) is ∙ c.requires.leaf in
    let old = leaf_ends c.self.inside.kind was in
    let new = leaf_ends c.args.kind c.requires.stays in
    linked_same _ _ refl
    (ap (λ (n : LinkedNode). n.parent) is)
    (ap (λ (n : LinkedNode). n.previous) is)
    (ap (λ (n : LinkedNode). n.next) is)
    (new.0 ∙ sym old.0 ∙ ap (λ (n : LinkedNode). n.first) is)
    (new.1 ∙ sym old.1 ∙ ap (λ (n : LinkedNode). n.last) is)
    (ap (λ (n : LinkedNode). n.lines) is)

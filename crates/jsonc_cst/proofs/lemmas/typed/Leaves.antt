-- Leaves that become others of their kind: every node is still what it was.
use Rattle.std.proofs.Common.{◌≡◌, ℕ, Bool, true, false, inl, inr, List, refl, ap, sym, ◌∙◌, arith}
use Rattle.std.proofs.lemmas.Bool.{cases_eq}
use Rattle.jsonc_tree.specs.Changes.{LeafBecomes}
use Rattle.jsonc_tree.specs.Content as content
use Rattle.jsonc_tree.specs.Tree.{Node, content_at, is_container_at}
use Rattle.jsonc_cst.specs.declared.cst.node.CstNode.{CstNode}
use Rattle.jsonc_cst.specs.declared.cst.node.CstNode.TheVariants.{Container, Leaf}
use Rattle.jsonc_cst.specs.Nodes.{number_of, typed, typed_at, IsNodeOf}

-- whether a typed node is a container
abbrev is_one : CstNode → Bool
is_one (Container c) = true
is_one (Leaf l) = false

is_one-typed : (what : content.Content) (n : ℕ) → is_one (typed what n) ≡ content.is_container what
is_one-typed content.root n = refl
is_one-typed content.object n = refl
is_one-typed content.array n = refl
is_one-typed content.property n = refl
is_one-typed (content.string s) n = refl
is_one-typed (content.word s) n = refl
is_one-typed (content.number s) n = refl
is_one-typed (content.boolean b) n = refl
is_one-typed content.null n = refl
is_one-typed (content.token c) n = refl
is_one-typed (content.whitespace s) n = refl
is_one-typed (content.newline k) n = refl
is_one-typed (content.comment s) n = refl

-- what is held as a leaf is one
pub leaf_held : (ns : List Node) (node : CstNode) (now : content.Content) → IsNodeOf ns node → content.is_container now ≡ false → typed now (number_of node) ≡ node → is_container_at ns (number_of node) ≡ false
leaf_held ns node now held leaf same =
    let n : ℕ = number_of node in
    sym (is_one-typed (content_at ns n) n) ∙ ap is_one (held.1 ∙ sym same) ∙ is_one-typed now n ∙ leaf

-- and every node that was there is there still, the leaf too, as it is of its kind
pub leaf_stays : (old new : List Node) (node : CstNode) (now : content.Content) → IsNodeOf old node → typed now (number_of node) ≡ node → LeafBecomes old new (number_of node) now → (other : CstNode) → IsNodeOf old other → IsNodeOf new other
leaf_stays old new node now held same b other there = (
  omega (arith, there.0, b.len),
  elim (cases_eq (number_of other) (number_of node)) [
    | inl e ↦ ap (λ k. typed_at new k) e ∙ ap (λ w. typed w (number_of node)) b.content ∙ same ∙ sym held.1 ∙ ap (typed_at old) (sym e) ∙ there.1
    | inr ne ↦ ap (λ w. typed w (number_of other)) (b.others (number_of other) ne) ∙ there.1
  ],
)

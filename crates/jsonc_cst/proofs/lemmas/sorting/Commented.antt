-- The comments above elements are nodes of the document.
use Rattle.std.proofs.Common.{◌≡◌, [], ◌∷◌, ℕ, true, List, Option, Some, None, refl, sym, subst, arith}
use Rattle.std.specs.List.{All, cons_option, filter_map}
use Rattle.std.proofs.lemmas.List.Elements.{All-cons}
use Rattle.jsonc_tree.specs.Content.{Content}
use Rattle.jsonc_tree.specs.Tree.{Node, content_at}
use Rattle.jsonc_layout.specs.nodes.Kinds.{is_comment}
use Rattle.jsonc_cst.specs.declared.cst.node.CstComment.{CstComment}
use Rattle.jsonc_cst.specs.Nodes.{comment_node, typed, typed_at, IsNodeOf}
use Rattle.jsonc_cst.specs.Readings.{comment_under}
use Rattle.jsonc_cst.proofs.Readings.{comment_held}
use Rattle.jsonc_cst.specs.sorting.Pins.{comment_if}

no_comment : {x : CstComment} {P : Type 0} → None ≡ Some x → P
no_comment e = cc

some_is : {x y : CstComment} → Some x ≡ Some y → x ≡ y
some_is e = cc

is_comment_if : (what : Content) (n : ℕ) (x : CstComment) → comment_if (typed what n) ≡ Some x → is_comment what ≡ true
is_comment_if (Content.comment s) n x e = refl
is_comment_if _ n x e = no_comment e

the_comment : (what : Content) (n : ℕ) (x : CstComment) → comment_if (typed what n) ≡ Some x → x ≡ comment_under n
the_comment (Content.comment s) n x e = sym (some_is e)
the_comment _ n x e = no_comment e

module _ (ns : List Node) where
  abbrev pub IsCommentOf : CstComment → Type 0
  IsCommentOf x = IsNodeOf ns (comment_node x)

  held_one : (n : ℕ) (x : CstComment) → comment_if (typed_at ns n) ≡ Some x → IsCommentOf x
  held_one n x e = subst IsCommentOf (sym (the_comment (content_at ns n) n x e)) (comment_held ns n (is_comment_if (content_at ns n) n x e))

  held_front : (o : Option CstComment) (n : ℕ) (rest : List CstComment) → comment_if (typed_at ns n) ≡ o → All IsCommentOf rest → All IsCommentOf (cons_option o rest)
  held_front (Some x) n rest e h = All-cons IsCommentOf x rest (held_one n x e) h
  held_front None n rest e h = h

  pub comments_are_held : (xs : List ℕ) → All IsCommentOf (filter_map (λ n. comment_if (typed_at ns n)) xs)
  comments_are_held [] = λ k d h. absurd (omega (arith, h))
  comments_are_held (n ∷ xs) = held_front (comment_if (typed_at ns n)) n (filter_map (λ m. comment_if (typed_at ns m)) xs) refl (comments_are_held xs)

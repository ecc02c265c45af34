use Rattle.std.proofs.Common.{◌≡◌, sym, ap, ◌∙◌, refl, ◌∷◌, ◌++◌, List, ℕ, Option, None, Some, is_some, false, reverse, String}
use Rattle.std.proofs.lemmas.Bool.{false≢true}
use Rattle.std.specs.Option.{option_or}
use Rattle.jsonc_tree.specs.Siblings.{siblings_before}
use Rattle.jsonc_tree.specs.Tree.{Node, IsTree, children_at}
use Rattle.jsonc_layout.proofs.lemmas.nodes.InTree.{rest_there}
use Rattle.jsonc_layout.specs.lines.Indents.{first_indent}
use Rattle.jsonc_layout.specs.lines.IndentViews.{text_in}
use Rattle.jsonc_layout.specs.lines.Lines.{indent_at}
use Rattle.jsonc_layout.proofs.lemmas.lines.FirstIndents.{before_is, none_here, none_passed, row_passed, NoneBefore}
use Rattle.jsonc_layout.proofs.lines.indents.first_indent.Goals as goal

no_text : {A : Type 0} (o : Option (String A)) → is_some o ≡ false → text_in o ≡ None
no_text None e = refl
no_text (Some s) e = absurd (false≢true (sym e))

-- a child without an indent is passed
module _ (ns : List Node) (tree : IsTree ns) (c n : ℕ) (row rest before : List ℕ) (steps : row ≡ n ∷ rest) (is : children_at ns c ≡ reverse before ++ row) where
  here : siblings_before ns n ≡ before
  here = before_is ns tree c n before rest (is ∙ ap (λ xs. reverse before ++ xs) steps)

  passed : indent_at ns n ≡ None → (b : List ℕ) × (children_at ns c ≡ reverse b ++ rest) × NoneBefore ns b
  passed none = (n ∷ before, row_passed ns (children_at ns c) before n rest (is ∙ ap (λ xs. reverse before ++ xs) steps), none_passed ns n before here none)

  same : indent_at ns n ≡ None → first_indent ns row ≡ first_indent ns rest
  same none = ap (first_indent ns) steps ∙ ap (λ o. option_or o (first_indent ns rest)) none

pub loop-child-preserved-then-not-follows_first_blank : goal.loop-child-preserved-then-not-follows_first_blank
loop-child-preserved-then-not-follows_first_blank g c =
    let ns = c.args.tree.now.nodes in
    let inv = c.loop-child.invariant in
    let none : indent_at ns c.in-Some.child ≡ None =
    none_here ns c.in-Some.child inv.passed.0 (here ns c.args.tree.now.tree c.args.node c.in-Some.child c.loop-child.child-iterator c.next.new.self inv.passed.0 c.in-Some.ensures.steps inv.passed.1) inv.passed.2 (sym c.follows_first_blank.ensures ∙ c.if-not-follows_first_blank.true) in
    record {
      in_tree = rest_there ns c.loop-child.child-iterator c.in-Some.child c.next.new.self c.in-Some.ensures.steps inv.in_tree;
      passed = passed ns c.args.tree.now.tree c.args.node c.in-Some.child c.loop-child.child-iterator c.next.new.self inv.passed.0 c.in-Some.ensures.steps inv.passed.1 none;
      same = inv.same ∙ same ns c.args.tree.now.tree c.args.node c.in-Some.child c.loop-child.child-iterator c.next.new.self inv.passed.0 c.in-Some.ensures.steps inv.passed.1 none;
    }

pub loop-child-preserved : goal.loop-child-preserved
loop-child-preserved g c =
    let ns = c.args.tree.now.nodes in
    let inv = c.loop-child.invariant in
    let none : indent_at ns c.in-Some.child ≡ None = sym c.in_ok-text.ensures.indent ∙ no_text c.in_ok-text.text (sym c.is_some.ensures ∙ c.if-is_some.false) in
    record {
      in_tree = rest_there ns c.loop-child.child-iterator c.in-Some.child c.next.new.self c.in-Some.ensures.steps inv.in_tree;
      passed = passed ns c.args.tree.now.tree c.args.node c.in-Some.child c.loop-child.child-iterator c.next.new.self inv.passed.0 c.in-Some.ensures.steps inv.passed.1 none;
      same = inv.same ∙ same ns c.args.tree.now.tree c.args.node c.in-Some.child c.loop-child.child-iterator c.next.new.self inv.passed.0 c.in-Some.ensures.steps inv.passed.1 none;
    }

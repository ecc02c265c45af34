use Rattle.std.proofs.Common.{◌++◌, ap, sym, subst, ◌∙◌}
use Rattle.jsonc_layout.specs.nodes.Comments.{inline_comments}
use Rattle.jsonc_layout.specs.nodes.Siblings.{AreThere, siblings_before}
use Rattle.jsonc_layout.proofs.lemmas.nodes.Comments.{comment_passed, comment_taken, comments_end}
use Rattle.jsonc_layout.proofs.lemmas.nodes.InTree.{before_there, beside_there}
use Rattle.jsonc_layout.proofs.lemmas.nodes.Walks.{all_pushed, pushed_on}
use Rattle.jsonc_layout.proofs.nodes.comments.leading_comments_same_line.Goals as goal

pub returns-then-not-is_inline_trivia-clause-comments : goal.returns-then-not-is_inline_trivia-clause-comments
returns-then-not-is_inline_trivia-clause-comments g c =
    let ns = c.args.tree.now.nodes in
    let row = c.loop-sibling.sibling-iterator in
    let none = comments_end ns row c.in-Some.sibling c.next.new.self c.in-Some.ensures.steps (sym c.if-not-is_inline_trivia.true ∙ c.is_inline_trivia.ensures) in
    all_pushed c.loop-sibling.comments.items (inline_comments ns row) _ c.loop-sibling.invariant none

pub returns-then-not-is_inline_trivia-clause-in_tree : goal.returns-then-not-is_inline_trivia-clause-in_tree
returns-then-not-is_inline_trivia-clause-in_tree g c =
    let ns = c.args.tree.now.nodes in
    let row = siblings_before ns c.args.node in
    subst (AreThere ns) (sym (returns-then-not-is_inline_trivia-clause-comments g c)) (beside_there ns row (before_there ns c.args.tree.now.tree c.args.node))

pub loop-sibling-preserved-in-Continue-1 : goal.loop-sibling-preserved-in-Continue-1
loop-sibling-preserved-in-Continue-1 g c =
    let ns = c.args.tree.now.nodes in
    let row = c.loop-sibling.sibling-iterator in
    let taken = comment_taken ns row c.in-Some.sibling c.next.new.self c.in-Some.ensures.steps (sym c.if-not-is_inline_trivia.false ∙ c.is_inline_trivia.ensures) (sym c.if-is_comment.true ∙ c.is_comment.ensures) in
    pushed_on c.loop-sibling.comments.items c.push.new.self.items (inline_comments ns row) (inline_comments ns c.next.new.self) c.in-Some.sibling c.in_ok-push.ensures.items taken
    ∙ c.loop-sibling.invariant

pub loop-sibling-preserved : goal.loop-sibling-preserved
loop-sibling-preserved g c =
    let passed = comment_passed c.args.tree.now.nodes c.loop-sibling.sibling-iterator c.in-Some.sibling c.next.new.self c.in-Some.ensures.steps
    (sym c.if-not-is_inline_trivia.false ∙ c.is_inline_trivia.ensures) (sym c.if-is_comment.false ∙ c.is_comment.ensures) in
    ap (λ l. c.loop-sibling.comments.items ++ l) (sym passed) ∙ c.loop-sibling.invariant

pub returns-clause-comments : goal.returns-clause-comments
returns-clause-comments g c =
    let ns = c.args.tree.now.nodes in
    all_pushed c.loop-sibling.comments.items (inline_comments ns c.loop-sibling.sibling-iterator) _ c.loop-sibling.invariant (ap (inline_comments ns) c.in-None.ensures.steps.0)

pub returns-clause-in_tree : goal.returns-clause-in_tree
returns-clause-in_tree g c =
    let ns = c.args.tree.now.nodes in
    let row = siblings_before ns c.args.node in
    subst (AreThere ns) (sym (returns-clause-comments g c)) (beside_there ns row (before_there ns c.args.tree.now.tree c.args.node))

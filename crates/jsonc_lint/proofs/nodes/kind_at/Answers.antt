use Rattle.std.proofs.Common.{◌∙◌, ap, chars, string_bytes, subst, sym}
use Rattle.jsonc_tree.specs.Stored.{content_of}
use Rattle.jsonc_lint.specs.Steps.{IsCommentKind}
use Rattle.jsonc_lint.proofs.KindRules.{comment_found, no_rule, nothing_found, token_found}
use Rattle.jsonc_lint.proofs.nodes.kind_at.Goals as goal

pub returns-in-Comment : goal.returns-in-Comment
returns-in-Comment g c =
    let answer = subst (λ s. IsCommentKind s c.comment_kind.result) c.as_str.ensures.value c.comment_kind.ensures in
    comment_found c.args.rules c.args.tree.now.nodes (chars c.args.lines.now) c.args.node c.args.names.now (string_bytes c.in-Comment.text) c.comment_kind.result (sym c.kind.ensures ∙ ap content_of c.in-Comment.is) answer

pub returns-in-CommentPart : goal.returns-in-CommentPart
returns-in-CommentPart g c =
    let answer = subst (λ s. IsCommentKind s c.comment_kind-in-CommentPart.result) c.as_str-in-CommentPart.ensures c.comment_kind-in-CommentPart.ensures in
    comment_found c.args.rules c.args.tree.now.nodes (chars c.args.lines.now) c.args.node c.args.names.now c.in-CommentPart.text c.comment_kind-in-CommentPart.result (sym c.kind.ensures ∙ ap content_of c.in-CommentPart.is) answer

pub returns-in-Token : goal.returns-in-Token
returns-in-Token g c =
    token_found c.args.rules c.args.tree.now.nodes (chars c.args.lines.now) c.args.node c.args.names.now c.in-Token.field-0 c.token_kind.result (sym c.kind.ensures ∙ ap content_of c.in-Token.is) c.token_kind.ensures

pub returns-in_default : goal.returns-in_default
returns-in_default g c =
    let other = c.in_default in
    nothing_found c.args.rules c.args.tree.now.nodes (chars c.args.lines.now) c.args.node c.args.names.now (content_of c.kind.result.now) (sym c.kind.ensures)
    (no_rule c.kind.result.now other.not-Property other.not-Token other.not-Comment other.not-CommentPart)

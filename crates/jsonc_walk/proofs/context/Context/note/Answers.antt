use Rattle.std.proofs.Common.{◌≡◌, sym, ◌∙◌, ◌++◌, ◌∷◌, [], ap, subst, is_some, IfSome}
use Rattle.jsonc_walk.specs.Comments.{HasPassed, placed_from}
use Rattle.jsonc_walk.specs.Context.{last}
use Rattle.jsonc_walk.specs.Collected.{last_placed}
use Rattle.jsonc_scan.specs.Found.{token_held}
use Rattle.jsonc_text.specs.Tokens.{scanned_of}
use Rattle.jsonc_walk.proofs.lemmas.MovedTokens.{seen_held, comment_held, comment_kept}
use Rattle.jsonc_walk.proofs.context.Context.note.Goals as goal

pub returns-clause-noted : goal.returns-clause-noted
returns-clause-noted g c = λ comment ts h.
    let self = c.args.self.now in
    let held = scanned_of (token_held c.args.comment self.content) in
    let same : last self c.args.comment ≡ held = seen_held self.scanner self.content c.args.comment (comment_held self.scanner self.content c.args.comment comment) (comment_kept self.scanner self.content c.args.comment comment) in
    subst (λ p. HasPassed (ts ++ p ∷ []) c.pass_comment.new.self) (c.in-Some.ensures.some ∙ ap (placed_from held) c.range.ensures ∙ ap (λ w. last_placed self w) (sym same))
    (c.in-Ok.ensures ts (subst (λ f. IfSome f (HasPassed ts)) c.in-Some-comments.is h))

pub invariant_of-self : goal.invariant_of-self
invariant_of-self g c =
    let self = c.args.self.now in
    record { same = self.same; utf8 = self.utf8; by_place = self.by_place }

pub invariant_of-self-2 : goal.invariant_of-self-2
invariant_of-self-2 g c =
    let self = c.args.self.now in
    record { same = self.same; utf8 = self.utf8; by_place = self.by_place }

pub returns-in_default-pass_comment-clause-apart : goal.returns-in_default-pass_comment-clause-apart
returns-in_default-pass_comment-clause-apart g c = ap is_some (sym c.in-Some-comments.is)

pub returns-clause-apart : goal.returns-clause-apart
returns-clause-apart g c = ap is_some (sym c.in-Some-comments.is)

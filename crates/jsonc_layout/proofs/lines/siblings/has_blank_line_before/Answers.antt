use Rattle.std.proofs.Common.{◌≡◌, ◌||◌, ◌&&◌, false, sym, ap, ◌∙◌}
use Rattle.jsonc_layout.specs.nodes.Kinds.{is_newline_at, is_whitespace_at}
use Rattle.jsonc_layout.proofs.lemmas.lines.SiblingSteps.{blank_from, blank_step}
use Rattle.jsonc_layout.proofs.lines.siblings.has_blank_line_before.Goals as goal

pub loop-sibling-preserved : goal.loop-sibling-preserved
loop-sibling-preserved g c =
    let ns = c.args.tree.now.nodes in
    let sibling = c.in-Some.sibling in
    let rest = c.next.new.self in
    let ended = c.loop-sibling.ended_line in
    let none : (ended && is_newline_at ns sibling) ≡ false = ap (λ b. ended && b) (sym c.is_newline.ensures.newline) ∙ c.if-ended_line-is_newline.false in
    c.loop-sibling.invariant
    ∙ blank_step ns c.loop-sibling.sibling-iterator sibling rest c.in-Some.ensures.steps ended (sym c.is_trivia.ensures.trivia ∙ c.if-not-is_trivia.false)
    ∙ ap (λ b. b || blank_from (is_newline_at ns sibling || (ended && is_whitespace_at ns sibling)) ns rest) none
    ∙ ap (λ b. blank_from (b || (ended && is_whitespace_at ns sibling)) ns rest) (sym c.is_newline-in-loop-sibling.ensures.newline)
    ∙ ap (λ b. blank_from (c.is_newline-in-loop-sibling.result || (ended && b)) ns rest) (sym c.is_whitespace.ensures.whitespace)

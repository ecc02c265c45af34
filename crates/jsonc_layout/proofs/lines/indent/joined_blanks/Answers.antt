use Rattle.std.proofs.Common.{◌++◌, sym, ap, ◌∙◌, string_bytes}
use Rattle.std.proofs.lemmas.List.{append_assoc}
use Rattle.jsonc_layout.specs.lines.Lines.{blanks}
use Rattle.jsonc_layout.proofs.lemmas.lines.SiblingSteps.{blanks_more}
use Rattle.jsonc_layout.proofs.lines.indent.joined_blanks.Goals as goal

pub loop-sibling-preserved : goal.loop-sibling-preserved
loop-sibling-preserved g c =
    let ns = c.args.tree.now.nodes in
    let text = c.in-Some-blank_at.text.now in
    let rest = c.next.new.self in
    let joined = string_bytes c.loop-sibling.joined in
    c.loop-sibling.invariant
    ∙ ap (λ s. joined ++ s) (blanks_more ns c.loop-sibling.sibling-iterator c.in-Some.sibling rest c.in-Some.ensures.steps text (sym c.in-Some-blank_at.ensures))
    ∙ sym (append_assoc joined text (blanks ns rest))
    ∙ ap (λ s. s ++ blanks ns rest) (sym c.in_ok-push_str.ensures.bytes)

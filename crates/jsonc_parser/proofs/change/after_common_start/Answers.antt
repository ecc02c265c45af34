use Rattle.std.proofs.Common.{◌∙◌, ap, subst, IsUtf8, [], ◌∷◌, ◌++◌}
use Rattle.std.specs.Char.{encode_utf8}
use Rattle.jsonc_parser.proofs.Changes.{front_step}
use Rattle.jsonc_parser.proofs.change.after_common_start.Goals as goal

pub loop-first-preserved : goal.loop-first-preserved
loop-first-preserved c =
    let inv = c.loop-first.invariant in
    let news = c.in-Some-next.ensures.steps.0 ∙ ap (λ k. encode_utf8 k ++ c.next-in-loop-first.new.self.rest.now) c.if-other-first.false in
    (inv.0 ++ c.in-Some.first ∷ [], front_step _ _ _ _ _ (subst IsUtf8 c.as_str-was.ensures c.as_str-was.utf8) inv.1 c.in-Some.ensures.steps.0, front_step _ _ _ _ _ (subst IsUtf8 c.as_str-now.ensures c.as_str-now.utf8) inv.2 news)

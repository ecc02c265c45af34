use Rattle.std.proofs.Common.{chars, ◌∙◌, sym, ap, ◌∷◌, ◌++◌, length}
use Rattle.std.specs.Char.{encode_utf8}
use Rattle.jsonc_parser.proofs.Changes.{back_step, chars_before_char, last_none, no_chars, none_last, others_last}
use Rattle.jsonc_parser.proofs.change.before_common_end.Goals as goal

pub returns-in_default-clause-parts : goal.returns-in_default-clause-parts
returns-in_default-clause-parts c =
    let inv = c.loop-last.invariant in
    (inv.4, inv.5, inv.6, none_last _ _ (no_chars _ (ap length (sym inv.0) ∙ c.in_default.ensures.steps.0)))

pub returns-in_default-next_back-clause-parts : goal.returns-in_default-next_back-clause-parts
returns-in_default-next_back-clause-parts c =
    let inv = c.loop-last.invariant in
    (inv.4, inv.5, inv.6, last_none _ _ (no_chars _ (ap length (sym inv.1) ∙ c.in_default-next_back.ensures.steps.0)))

pub returns-then-other-last-clause-parts : goal.returns-then-other-last-clause-parts
returns-then-other-last-clause-parts c =
    let inv = c.loop-last.invariant in
    let olds = sym inv.0 ∙ c.in-Some.ensures.steps ∙ ap (λ t. t ++ encode_utf8 c.in-Some.last) (sym c.as_str-old_left.ensures) in
    let news = sym inv.1 ∙ c.in-Some-next_back.ensures.steps ∙ ap (λ t. t ++ encode_utf8 c.in-Some-next_back.other) (sym c.as_str-new_left.ensures) in
    (inv.4, inv.5, inv.6, others_last _ _ _ _ _ _ (chars_before_char _ _ _ inv.2 c.as_str-old_left.utf8 olds) (chars_before_char _ _ _ inv.3 c.as_str-new_left.utf8 news) c.if-other-last.true)

pub loop-last-preserved : goal.loop-last-preserved
loop-last-preserved c =
    let inv = c.loop-last.invariant in
    let olds = sym inv.0 ∙ c.in-Some.ensures.steps ∙ ap (λ t. t ++ encode_utf8 c.in-Some.last) (sym c.as_str-old_left.ensures) in
    let news = sym inv.1 ∙ c.in-Some-next_back.ensures.steps ∙ ap (λ t. t ++ encode_utf8 c.in-Some-next_back.other) (sym c.as_str-new_left.ensures) in (
      sym c.as_str-old_left.ensures,
      sym c.as_str-new_left.ensures,
      c.as_str-old_left.utf8,
      c.as_str-new_left.utf8,
      c.in-Some.last ∷ inv.4,
      back_step _ _ _ _ _ inv.2 c.as_str-old_left.utf8 inv.5 olds,
      back_step _ _ _ _ _ inv.3 c.as_str-new_left.utf8 inv.6 news ∙ ap (λ k. chars c.as_str-new_left.result.now ++ (k ∷ inv.4)) c.if-other-last.false,
    )

use Rattle.std.proofs.Common.{◌∙◌, sym, arith, ap, chars}
use Rattle.jsonc_text.specs.Places.{ends_line}
use Rattle.jsonc_text.proofs.Lines.{walks_start, walks_line, walks_column, walks_end, rest_front}
use Rattle.jsonc_text.proofs.line.line_and_column.Goals as goal

pub loop-c-init : goal.loop-c-init
loop-c-init c = walks_start _ _ c.range-before.utf8

pub loop-c-preserved-then-ends_line : goal.loop-c-preserved-then-ends_line
loop-c-preserved-then-ends_line c =
    let step = rw (sym c.len_utf8-at.ensures.value) at c.in-Some.ensures.some in
    let follows = rest_front _ _ _ _ c.range-before.ensures.value c.range-before.utf8 step.1 in
    walks_line _ _ _ _ _ _ _ c.loop-c.invariant step (omega (arith, c.len_utf8-at.ensures.lower_bound)) (ap (λ t. ends_line c.in-Some.c t) (sym follows) ∙ ap (λ b. ends_line c.in-Some.c (chars b)) (sym c.range_from.ensures.value) ∙ sym c.ends_line.ensures ∙ c.if-ends_line.true)

pub loop-c-preserved : goal.loop-c-preserved
loop-c-preserved c =
    let step = rw (sym c.len_utf8-at.ensures.value) at c.in-Some.ensures.some in
    let follows = rest_front _ _ _ _ c.range-before.ensures.value c.range-before.utf8 step.1 in
    walks_column _ _ _ _ _ _ _ c.loop-c.invariant step (omega (arith, c.len_utf8-at.ensures.lower_bound)) (ap (λ t. ends_line c.in-Some.c t) (sym follows) ∙ ap (λ b. ends_line c.in-Some.c (chars b)) (sym c.range_from.ensures.value) ∙ sym c.ends_line.ensures ∙ c.if-ends_line.false)

pub returns : goal.returns
returns c = walks_end _ _ _ _ _ _ c.range-before.ensures.value c.utf8.text c.range-before.utf8 c.requires c.in_default.ensures.none c.loop-c.invariant

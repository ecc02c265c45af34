use Rattle.std.proofs.Common.{chars, refl, sym, ap, subst, arith, IsUtf8, ◌∙◌}
use Rattle.std.proofs.lemmas.Str.{chars_past_char}
use Rattle.jsonc_parser.specs.Places.{units, past}
use Rattle.jsonc_parser.proofs.Changes.{no_chars}
use Rattle.jsonc_parser.proofs.LineWalk.{HasWalked, narrow, passed_size, walk_begins, walk_goes_on, walk_ends, walk_leaves, walked_fits, walked_place, walked_boundary}
use Rattle.jsonc_parser.proofs.places.place_from.Goals.{else-here-target-via-then-here-target+else-here-target-2, else-here-target-via-else-here-target}
use Rattle.jsonc_parser.proofs.places.place_from.Goals as goal

pub loop-here-init : goal.loop-here-init
loop-here-init c =
    let w = units c.args.unit in
    subst (λ t. HasWalked w (chars c.args.text.now) (chars t) c.args.target.line c.args.target.column c.args.at.line c.args.at.column) (sym (c.chars-rest.ensures.rest ∙ c.range_from.ensures.value))
    (walk_begins w _ _ _ _ _ _ (narrow c.args.unit) c.utf8.text c.requires.at c.requires.ahead)

pub overflow_sub-result : goal.overflow_sub-result
overflow_sub-result c =
    let x = rw (sym c.as_str-left.ensures) at c.loop-here.invariant in
    omega (arith, passed_size _ _ x.walk.passed c.utf8.text c.as_str-left.utf8 x.walk.split)

pub returns-then-here-target-2-clause-found : goal.returns-then-here-target-2-clause-found
returns-then-here-target-2-clause-found c =
    let x = rw (c.if-here-target.true, c.if-here-target-2.true, sym c.as_str-left.ensures) at c.loop-here.invariant in
    walked_place _ _ _ _ _ _ c.utf8.text c.as_str-left.utf8 refl x.walk

pub returns-then-here-target-2-clause-boundary : goal.returns-then-here-target-2-clause-boundary
returns-then-here-target-2-clause-boundary c =
    let x = rw (sym c.as_str-left.ensures) at c.loop-here.invariant in
    walked_boundary _ _ _ _ _ c.utf8.text c.as_str-left.utf8 x.walk

pub returns-in_default-clause-none : goal.returns-in_default-clause-none
returns-in_default-clause-none c = walk_ends _ _ _ _ _ _ _ c.loop-here.invariant (no_chars _ c.in_default.ensures.steps.0.0) (λ same.
    elim c.else-here-target.branch [ else-here-target-via-then-here-target+else-here-target-2 w ↦ w.if-here-target-2.false (sym same.1) | else-here-target-via-else-here-target w ↦ w.if-here-target.false (sym same.0) ])

pub past-here-requires-clause-line : goal.past-here-requires-clause-line
past-here-requires-clause-line c =
    let x = rw (sym c.as_str-left.ensures) at c.loop-here.invariant in
    omega (arith, (walked_fits _ _ _ _ _ c.utf8.text c.as_str-left.utf8 x.walk).0)

pub past-here-requires-clause-column : goal.past-here-requires-clause-column
past-here-requires-clause-column c =
    let x = rw (sym c.as_str-left.ensures) at c.loop-here.invariant in
    omega (arith, (walked_fits _ _ _ _ _ c.utf8.text c.as_str-left.utf8 x.walk).1)

pub loop-here-preserved : goal.loop-here-preserved
loop-here-preserved c =
    let utf8 = subst IsUtf8 c.as_str-left.ensures c.as_str-left.utf8 in
    let step = chars_past_char _ _ _ utf8 c.in-Some.ensures.steps.0 in
    walk_goes_on _ _ _ _ _ _ _ _ _ _ _ (narrow c.args.unit) c.loop-here.invariant step (λ same.
    elim c.else-here-target.branch [ else-here-target-via-then-here-target+else-here-target-2 w ↦ w.if-here-target-2.false (sym same.1) | else-here-target-via-else-here-target w ↦ w.if-here-target.false (sym same.0) ])
    (c.past-here.ensures ∙ ap (λ t. past (units c.args.unit) (c.loop-here.here.line, c.loop-here.here.column) c.in-Some.c (chars t)) c.as_str.ensures)

pub returns-then-here-target-3-clause-none : goal.returns-then-here-target-3-clause-none
returns-then-here-target-3-clause-none c = walk_leaves _ _ _ _ _ _ _ c.loop-here.invariant c.if-here-target-3.true

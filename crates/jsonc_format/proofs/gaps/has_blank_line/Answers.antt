use Rattle.std.proofs.Common.{◌∙◌, ap, not, chars}
use Rattle.std.proofs.lemmas.Str.{IsCharBoundary-start}
use Rattle.jsonc_format.specs.Format.{in_line}
use Rattle.jsonc_format.proofs.LineEnds.{ends_again}
use Rattle.jsonc_format.proofs.gaps.has_blank_line.Goals as goal

pub stop_place-end-requires-clause-boundary : goal.stop_place-end-requires-clause-boundary
stop_place-end-requires-clause-boundary c = IsCharBoundary-start c.args.gap.now c.utf8.gap

pub returns : goal.returns
returns c =
    let e = c.stop_place-end.ensures in
    c.has_line_end.ensures ∙ ap (λ s. not (in_line (chars s))) c.range_from.ensures.value
    ∙ ends_again c.args.gap.now c.stop_place-end.result c.past_line_end-next.result e.passed.piece e.stops c.past_line_end-next.ensures

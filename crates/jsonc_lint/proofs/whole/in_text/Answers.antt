use Rattle.jsonc_lint.proofs.Moves.{cut_back, goes_back, seen_apart, seen_written}
use Rattle.jsonc_lint.proofs.whole.in_text.Goals as goal

pub returns-then-is_written : goal.returns-then-is_written
returns-then-is_written g c = seen_written c.args.lines.now c.args.mends.now c.is_written.result c.args.finding.range.start c.args.finding.range.end c.requires.mends c.is_written.ensures c.if-is_written.true

pub position-at-requires : goal.position-at-requires
position-at-requires g c = cut_back c.args.lines.now c.args.mends.now c.args.finding.range.start c.text_place-start.result c.requires.mends c.requires.finding.start c.text_place-start.ensures

pub returns : goal.returns
returns g c =
    let range = c.args.finding.range in (
      seen_apart c.args.lines.now c.args.mends.now c.is_written.result range.start range.end c.requires.mends c.is_written.ensures c.if-is_written.false,
      record {
        kind = c.kind_in_text.ensures;
        start = goes_back c.args.lines.now c.args.mends.now range.start c.text_place-start.result c.requires.mends c.requires.finding.start.0 c.text_place-start.ensures;
        end = goes_back c.args.lines.now c.args.mends.now range.end c.text_place-end.result c.requires.mends c.requires.finding.end c.text_place-end.ensures;
        position = c.position-at.ensures;
      },
    )

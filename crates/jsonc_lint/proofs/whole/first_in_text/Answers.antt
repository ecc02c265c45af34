use Rattle.jsonc_lint.proofs.Moves.{cut_back, goes_back}
use Rattle.jsonc_lint.proofs.whole.first_in_text.Goals as goal

pub position-at-requires : goal.position-at-requires
position-at-requires g c = cut_back c.args.lines.now c.args.mends.now c.args.first.start c.text_place-start.result c.requires.mends c.requires.start c.text_place-start.ensures

pub returns : goal.returns
returns g c = record {
  start = goes_back c.args.lines.now c.args.mends.now c.args.first.start c.text_place-start.result c.requires.mends c.requires.start.0 c.text_place-start.ensures;
  position = c.position-at.ensures;
}

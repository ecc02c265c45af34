use Rattle.std.proofs.Common.{arith}
use Rattle.jsonc_text.proofs.CharacterSteps.{rest_end}
use Rattle.jsonc_format.proofs.LineEnds.{past_end, past_both, past_feed, past_one}
use Rattle.jsonc_format.proofs.gaps.past_line_end.Goals as goal

pub returns-then-place-text : goal.returns-then-place-text
returns-then-place-text c = past_end c.args.text.now c.args.place c.requires.boundary (rest_end c.args.text.now c.args.place (omega (arith, c.if-place-text.true)))

pub returns-then-not-has_byte : goal.returns-then-not-has_byte
returns-then-not-has_byte c = past_feed c.args.text.now c.args.place c.utf8.text c.requires.boundary c.if-place-text.false c.requires.end (c.has_byte.ensures.other c.if-not-has_byte.true)

pub returns-then-has_byte : goal.returns-then-has_byte
returns-then-has_byte c = past_both c.args.text.now c.args.place (c.has_byte.ensures.here c.if-not-has_byte.false) (c.has_byte-2.ensures.here c.if-has_byte.true)

pub returns : goal.returns
returns c = past_one c.args.text.now c.args.place c.utf8.text c.requires.boundary c.if-place-text.false c.requires.end (λ e. c.has_byte-2.ensures.other c.if-has_byte.false)

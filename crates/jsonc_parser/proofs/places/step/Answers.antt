use Rattle.std.proofs.Common.{◌∙◌, ◌+◌, ◌<◌, ◌≤◌, ap, arith, chars, drop, get_or, length, length-drop, sym}
use Rattle.std.proofs.lemmas.Str.{IsUtf8-drop}
use Rattle.jsonc_text.specs.Text.{byte_length, rest}
use Rattle.jsonc_text.proofs.CharacterSteps.{steps_ascii}
use Rattle.jsonc_parser.specs.Places.{past, units}
use Rattle.jsonc_parser.proofs.Changes.{size_of}
use Rattle.jsonc_parser.proofs.LineWalk.{plain_past}
use Rattle.jsonc_parser.proofs.places.step.Goals as goal

pub returns-then-is_plain : goal.returns-then-is_plain
returns-then-is_plain c =
    let text = c.args.text.now in
    let from = c.args.from in
    let byte = get_or text from.place 0 in
    let same = c.as_bytes-bytes.ensures.value in
    let plain : (0x20 ≤ byte) × (byte < 0x7F) = rw same at (c.is_plain.ensures c.if-is_plain.true) in
    (byte, steps_ascii text from.place c.utf8.text c.requires.inside (omega (arith, plain.1)), plain_past c.args.unit from.at.line from.at.column byte (rest text (from.place + 1)) plain.0 plain.1)

pub unreachable-requires : goal.unreachable-requires
unreachable-requires c =
    let text = c.args.text.now in
    let place = c.args.from.place in
    absurd (omega (arith, ap byte_length c.in_default.ensures.none, size_of (drop place text) (IsUtf8-drop text place c.utf8.text c.requires.boundary), length-drop place text, c.requires.inside))

pub returns : goal.returns
returns c =
    let from = c.args.from in
    let one = rw (sym c.len_utf8.ensures.value) at c.in-Some.ensures.some in
    (c.in-Some.c, one, c.past-at.ensures ∙ ap (λ b. past (units c.args.unit) (from.at.line, from.at.column) c.in-Some.c (chars b)) c.range_from.ensures.value)

use Rattle.std.proofs.Common.{arith, chars, drop, length, length-drop, sym, IsUtf8, ◌<◌, ◌≤◌}
use Rattle.std.proofs.lemmas.Str.{IsUtf8-drop, len_utf8_bounds}
use Rattle.jsonc_text.specs.Text.{rest, byte_length}
use Rattle.jsonc_text.proofs.Cuts.{step_place}
use Rattle.jsonc_parser.specs.Places.{units}
use Rattle.jsonc_parser.proofs.Changes.{size_of}
use Rattle.jsonc_parser.proofs.LineWalk.{narrow, walks_to_start, walks_to_on, walks_to_end, walked_fits}
use Rattle.jsonc_parser.proofs.places.walk_to.Goals as goal

pub loop-reached-init : goal.loop-reached-init
loop-reached-init c = record { boundary = c.requires.spans.from; walks = walks_to_start (units c.args.unit) _ _ _ _ _ (narrow c.args.unit) c.utf8.text c.requires.spans c.requires.at }

pub step-reached-requires-clause-inside : goal.step-reached-requires-clause-inside
step-reached-requires-clause-inside c = omega (arith, c.loop-reached-test.true, c.requires.spans.to.0)

pub step-reached-requires-clause-line : goal.step-reached-requires-clause-line
step-reached-requires-clause-line c =
    let text = c.args.text.now in
    let left = drop c.loop-reached.reached.place text in
    omega (arith, (walked_fits (units c.args.unit) text left c.loop-reached.reached.at.line c.loop-reached.reached.at.column c.utf8.text (IsUtf8-drop text c.loop-reached.reached.place c.utf8.text c.loop-reached.invariant.boundary) c.loop-reached.invariant.walks.walk).0)

pub step-reached-requires-clause-column : goal.step-reached-requires-clause-column
step-reached-requires-clause-column c =
    let text = c.args.text.now in
    let left = drop c.loop-reached.reached.place text in
    omega (arith, (walked_fits (units c.args.unit) text left c.loop-reached.reached.at.line c.loop-reached.reached.at.column c.utf8.text (IsUtf8-drop text c.loop-reached.reached.place c.utf8.text c.loop-reached.invariant.boundary) c.loop-reached.invariant.walks.walk).1)

pub loop-reached-preserved : goal.loop-reached-preserved
loop-reached-preserved c =
    let text = c.args.text.now in
    let was = c.loop-reached.reached.place in
    let one = c.step-reached.ensures in
    let here = IsUtf8-drop text was c.utf8.text c.loop-reached.invariant.boundary in
    let last = IsUtf8-drop text c.args.place c.utf8.text c.requires.spans.to in
    let more : byte_length (rest text c.args.place) < byte_length (rest text was) =
    omega (arith, c.loop-reached-test.true, length-drop was text, length-drop c.args.place text, size_of (drop was text) here, size_of (drop c.args.place text) last, c.requires.spans.to.0) in
    record { boundary = one.1.1; walks = walks_to_on (units c.args.unit) _ _ _ one.0 _ _ _ _ _ (narrow c.args.unit) c.loop-reached.invariant.walks one.1.0 more one.2 }

pub returns : goal.returns
returns c =
    let text = c.args.text.now in
    let place = c.loop-reached.reached.place in
    let few : length (drop place text) ≤ length (drop c.args.place text) = omega (arith, c.loop-reached-test.false, length-drop c.args.place text, length-drop place text) in
    walks_to_end (units c.args.unit) text (drop place text) c.args.place _ _ c.utf8.text (IsUtf8-drop text place c.utf8.text c.loop-reached.invariant.boundary) c.requires.spans.to (IsUtf8-drop text c.args.place c.utf8.text c.requires.spans.to) c.loop-reached.invariant.walks few

pub loop-reached-smaller : goal.loop-reached-smaller
loop-reached-smaller c =
    let text = c.args.text.now in
    let was = c.loop-reached.reached.place in
    let one = c.step-reached.ensures in
    let on = step_place text was one.0 c.step-reached.result.place c.utf8.text c.loop-reached.invariant.boundary one.1 in
    omega (arith, on, (len_utf8_bounds one.0).0, one.1.1.0)

use Rattle.std.proofs.Common.{◌==◌, ◌||◌}
use Rattle.jsonc_text.proofs.Ascii.{ascii_no}
use Rattle.jsonc_scan.proofs.NumberParts.{has_at, either_small}
use Rattle.jsonc_text.proofs.CharacterSteps.{no_at_end}
use Rattle.jsonc_scan.proofs.number.has_either.Goals as goal

pub returns-then-place-bytes-clause-here : goal.returns-then-place-bytes-clause-here
returns-then-place-bytes-clause-here c =
    let same = c.as_bytes-bytes.ensures.value in
    let small = either_small c.args.first c.args.second c.requires.ascii.0 c.requires.ascii.1 in
    λ h. has_at (λ x. x == c.args.first || x == c.args.second) small _ _ c.utf8.text (rw same at c.if-place-bytes.true) (rw same at h)

pub returns-then-place-bytes-clause-other : goal.returns-then-place-bytes-clause-other
returns-then-place-bytes-clause-other c =
    let same = c.as_bytes-bytes.ensures.value in
    let small = either_small c.args.first c.args.second c.requires.ascii.0 c.requires.ascii.1 in
    λ h. ascii_no (λ x. x == c.args.first || x == c.args.second) small _ _ c.utf8.text c.requires.boundary (rw same at c.if-place-bytes.true) (rw same at h)

pub returns-else-place-bytes-clause-other : goal.returns-else-place-bytes-clause-other
returns-else-place-bytes-clause-other c =
    λ h. no_at_end (λ x. x == c.args.first || x == c.args.second) _ _ (rw c.as_bytes-bytes.ensures.value at c.if-place-bytes.false)

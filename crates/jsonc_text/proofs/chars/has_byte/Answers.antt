use Rattle.jsonc_text.proofs.Ascii.{here_at, other_at}
use Rattle.jsonc_text.proofs.CharacterSteps.{no_at_end}
use Rattle.std.proofs.Common.{◌==◌}
use Rattle.jsonc_text.proofs.chars.has_byte.Goals as goal

pub returns-then-place-bytes-clause-here : goal.returns-then-place-bytes-clause-here
returns-then-place-bytes-clause-here c =
    let same = c.as_bytes-bytes.ensures.value in
    λ h. here_at _ _ c.args.byte c.utf8.text (rw same at c.if-place-bytes.true) c.requires.ascii (rw same at h)

pub returns-then-place-bytes-clause-other : goal.returns-then-place-bytes-clause-other
returns-then-place-bytes-clause-other c =
    let same = c.as_bytes-bytes.ensures.value in
    λ h. other_at _ _ c.args.byte c.utf8.text c.requires.boundary (rw same at c.if-place-bytes.true) c.requires.ascii (rw same at h)

pub returns-else-place-bytes-clause-other : goal.returns-else-place-bytes-clause-other
returns-else-place-bytes-clause-other c =
    λ h. no_at_end (λ x. x == c.args.byte) _ _ (rw c.as_bytes-bytes.ensures.value at c.if-place-bytes.false)

use Rattle.jsonc_text.proofs.Ascii.{blank_step, no_blank_step}
use Rattle.jsonc_text.proofs.chars.blank_len.Goals as goal

pub returns-then-byte-clause-some : goal.returns-then-byte-clause-some
returns-then-byte-clause-some c =
    λ h. blank_step c.args.text.now c.args.place c.utf8.text (rw c.as_bytes-bytes.ensures.value at c.if-place-bytes.true) (rw c.as_bytes-bytes.ensures.value at c.if-bytes-place-lt128.true) (rw c.as_bytes-bytes.ensures.value at c.if-byte.true)

pub returns-else-byte-clause-none : goal.returns-else-byte-clause-none
returns-else-byte-clause-none c =
    λ h. no_blank_step c.args.text.now c.args.place c.utf8.text (rw c.as_bytes-bytes.ensures.value at c.if-place-bytes.true) (rw c.as_bytes-bytes.ensures.value at c.if-bytes-place-lt128.true) (rw c.as_bytes-bytes.ensures.value at c.if-byte.false)

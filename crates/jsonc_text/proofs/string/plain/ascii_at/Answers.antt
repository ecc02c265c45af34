use Rattle.jsonc_text.proofs.CharacterSteps.{steps_ascii}
use Rattle.jsonc_text.proofs.string.plain.ascii_at.Goals as goal

pub returns-then-byte-lt128-clause-found : goal.returns-then-byte-lt128-clause-found
returns-then-byte-lt128-clause-found c =
    let same = c.as_bytes-bytes.ensures.value in
    rw same (steps_ascii c.args.text.now c.args.place c.utf8.text (rw same at c.if-place-bytes.true) (rw same at c.if-byte-lt128.true))

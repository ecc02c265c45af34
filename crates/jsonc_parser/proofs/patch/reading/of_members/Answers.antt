use Rattle.std.proofs.Common.{chars, subst}
use Rattle.jsonc_text.specs.Plain.{string}
use Rattle.jsonc_parser.proofs.lemmas.patch.PatchReads.{no_operation}
use Rattle.jsonc_parser.specs.patch.PatchReading.{said}
use Rattle.jsonc_parser.specs.patch.PatchTexts.{IsNamed}
use Rattle.jsonc_parser.proofs.patch.reading.of_members.Goals as goal

pub of_kind-requires : goal.of_kind-requires
of_kind-requires g c = subst (λ n. IsNamed n (said c.args.members.now)) c.in-Some.ensures.some c.in-Ok.ensures.found

pub returns-in-None-clause-fault : goal.returns-in-None-clause-fault
returns-in-None-clause-fault g c = (string (chars c.in-Ok.name.now), (tt, c.in-Ok.ensures.found), no_operation (chars c.in-Ok.name.now) c.in-None.ensures.none)

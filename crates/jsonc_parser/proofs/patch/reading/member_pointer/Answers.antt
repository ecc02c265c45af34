use Rattle.std.proofs.Common.{chars, subst, sym}
use Rattle.jsonc_text.specs.Plain.{string}
use Rattle.jsonc_parser.specs.patch.Equality.{HasMember}
use Rattle.jsonc_parser.specs.patch.PatchFaults.{member_name}
use Rattle.jsonc_parser.specs.patch.PatchReading.{said}
use Rattle.jsonc_parser.proofs.patch.reading.member_pointer.Goals as goal

pub returns-in-Ok-parse-clause-points : goal.returns-in-Ok-parse-clause-points
returns-in-Ok-parse-clause-points g c =
    subst (λ s. HasMember (member_name c.args.member) (string s) (said c.args.members.now)) (sym c.in-Ok-parse.ensures.parsed) c.in-Ok.ensures.found

pub returns-in-Err-parse-clause-fault : goal.returns-in-Err-parse-clause-fault
returns-in-Err-parse-clause-fault g c = λ needs. (chars c.in-Ok.text.now, (needs, c.in-Ok.ensures.found), c.in-Err-parse.ensures.refused)

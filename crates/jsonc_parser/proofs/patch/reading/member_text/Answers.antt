use Rattle.std.proofs.Common.{subst}
use Rattle.jsonc_ast.specs.Views as ast
use Rattle.jsonc_parser.proofs.lemmas.patch.PatchReads.{wrong_kind}
use Rattle.jsonc_parser.specs.patch.Equality.{HasMember}
use Rattle.jsonc_parser.specs.patch.PatchFaults.{member_name}
use Rattle.jsonc_parser.specs.patch.PatchReading.{said}
use Rattle.jsonc_parser.proofs.patch.reading.member_text.Goals as goal

pub returns-in-Some-clause-found : goal.returns-in-Some-clause-found
returns-in-Some-clause-found g c =
    subst (λ v. HasMember (member_name c.args.member) v (said c.args.members.now)) c.in-Some.ensures.some c.in-Ok.ensures.found

pub returns-in-None-clause-fault : goal.returns-in-None-clause-fault
returns-in-None-clause-fault g c = λ needs.
    let v = ast.plain c.in-Ok.value.now in
    (v, (needs, c.in-Ok.ensures.found), wrong_kind c.args.member v c.requires c.in-None.ensures.none)

use Rattle.std.proofs.Common.{arith, subst, sym}
use Rattle.jsonc_c.specs.Json.{IsAsJson}
use Rattle.jsonc_c.proofs.Pointing.{no_json_ends}
use Rattle.jsonc_c.proofs.json.jsonc_to_json.Goals as goal

pub returns-in-Err-clause-written : goal.returns-in-Err-clause-written
returns-in-Err-clause-written c = λ zero. absurd (omega (arith, zero, (no_json_ends c.in-Err.ensures.refused).0))

pub returns-in-Err-clause-told : goal.returns-in-Err-clause-told
returns-in-Err-clause-told c = (no_json_ends c.in-Err.ensures.refused).2

pub returns-in-Ok-clause-written : goal.returns-in-Ok-clause-written
returns-in-Ok-clause-written c = λ zero. subst (IsAsJson c.args.text.now) (sym c.hand_out.ensures) c.in-Ok.ensures.written

pub returns-in-Ok-clause-told : goal.returns-in-Ok-clause-told
returns-in-Ok-clause-told c = λ four seven below. c.in-Ok.ensures.untold

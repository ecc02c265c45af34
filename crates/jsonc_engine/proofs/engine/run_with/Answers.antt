use Rattle.std.proofs.Common.{inr, refl, subst, sym}
use Rattle.jsonc_text.specs.OptionsOf.{parse_options}
use Rattle.jsonc_engine.specs.Command.{request_of}
use Rattle.jsonc_engine.specs.Output.{IsLeft, IsWrittenBy, written_bytes}
use Rattle.jsonc_engine.proofs.engine.run_with.Goals as goal

pub returns-in-Ok-clause-written : goal.returns-in-Ok-clause-written
returns-in-Ok-clause-written g c =
    let asked = request_of c.args.command in
    let w = subst (IsWrittenBy (parse_options c.args.options.now) asked c.args.input.now) c.in-Ok-Some.field-0-is c.in-Ok-Some.ensures.written in
    (w.0, subst (IsLeft g.row.A.Denot (parse_options c.args.options.now) asked c.args.input.now) (sym c.in-Ok.ensures) w.1)

pub returns-in-Err-into_text-clause-not_utf8 : goal.returns-in-Err-into_text-clause-not_utf8
returns-in-Err-into_text-clause-not_utf8 g c = λ no. absurd (no c.in-Ok-Some.ensures.accepted.utf8)

pub returns-in-Err-into_text-clause-refused : goal.returns-in-Err-into_text-clause-refused
returns-in-Err-into_text-clause-refused g c =
    let asked = request_of c.args.command in
    let w = subst (IsWrittenBy (parse_options c.args.options.now) asked c.args.input.now) c.in-Ok-Some.field-0-is c.in-Ok-Some.ensures.written in
    inr (c.in-Ok-Some.ensures.ready, inr (refl, written_bytes c.in-Ok-Some.written, w.1))

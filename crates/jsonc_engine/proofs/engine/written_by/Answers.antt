use Rattle.std.proofs.Common.{inl, inr}
use Rattle.jsonc_engine.specs.Command.{request_of}
use Rattle.jsonc_engine.specs.Output.{made_bytes}
use Rattle.jsonc_text.specs.OptionsOf.{parse_options}
use Rattle.jsonc_engine.proofs.FaultTexts.{is_ready}
use Rattle.jsonc_engine.proofs.engine.written_by.Goals as goal

pub returns-in-Err-clause-not_utf8 : goal.returns-in-Err-clause-not_utf8
returns-in-Err-clause-not_utf8 g c = λ no. inl c.in-Err.ensures.refused

pub returns-in-Err-clause-refused : goal.returns-in-Err-clause-refused
returns-in-Err-clause-refused g c = inl c.in-Err.ensures.refused

pub returns-in-Err-made_of-clause-not_utf8 : goal.returns-in-Err-made_of-clause-not_utf8
returns-in-Err-made_of-clause-not_utf8 g c = λ other.
    inr (is_ready (parse_options c.args.options.now) (request_of c.args.command) c.in-Ok.task c.in-Ok.ensures.task, c.in-Err-made_of.ensures.not_utf8 other)

pub returns-in-Err-made_of-clause-refused : goal.returns-in-Err-made_of-clause-refused
returns-in-Err-made_of-clause-refused g c =
    let asked = request_of c.args.command in
    inr (is_ready (parse_options c.args.options.now) asked c.in-Ok.task c.in-Ok.ensures.task, inl (c.in-Err-made_of.ensures.refused asked c.in-Ok.ensures.task))

pub returns-in-Err-text_of-clause-refused : goal.returns-in-Err-text_of-clause-refused
returns-in-Err-text_of-clause-refused g c =
    let asked = request_of c.args.command in
    inr (is_ready (parse_options c.args.options.now) asked c.in-Ok.task c.in-Ok.ensures.task, inr (c.in-Err-text_of.ensures.memory, made_bytes c.in-Ok-made_of.made, c.in-Ok-made_of.ensures.left asked c.in-Ok.ensures.task))

pub returns-then-not-writes-clause-ready : goal.returns-then-not-writes-clause-ready
returns-then-not-writes-clause-ready g c = is_ready (parse_options c.args.options.now) (request_of c.args.command) c.in-Ok.task c.in-Ok.ensures.task

pub returns-in-Ok-text_of-clause-ready : goal.returns-in-Ok-text_of-clause-ready
returns-in-Ok-text_of-clause-ready g c = is_ready (parse_options c.args.options.now) (request_of c.args.command) c.in-Ok.task c.in-Ok.ensures.task

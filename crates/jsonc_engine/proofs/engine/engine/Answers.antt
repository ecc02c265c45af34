use Rattle.std.proofs.Common.{◌≡◌, IfErr, inl, inr, false, refl, rules, subst, true}
use Rattle.jsonc_text.specs.Options.{Options, all_on}
use Rattle.jsonc_text.specs.OptionsOf.{parse_options}
use Rattle.jsonc_text.specs.declared.edit.EditError.TheVariants.{OutOfMemory}
use Rattle.jsonc_engine.specs.declared.fault.Fault.TheVariants.{Edit, Read, Write}
use Rattle.jsonc_engine.specs.Argument.{IsFaultOfArgument}
use Rattle.jsonc_engine.specs.Command.{request_of, writes}
use Rattle.jsonc_engine.specs.Output.{made_bytes}
use Rattle.jsonc_engine.proofs.Changes.{ok_so}
use Rattle.jsonc_engine.proofs.Ending.{ends_writing, err_always, input_ends, input_known, input_unread, memory_known, no_memory, ok_always, puts_known, tells_known}
use Rattle.jsonc_engine.proofs.FaultTexts.{is_ready, never_behind, never_behind_words, of_words, told_of_input, told_of_read, told_of_words, told_of_write, words_end}
use Rattle.jsonc_engine.proofs.engine.engine.Goals as goal

pub returns-clause-written : goal.returns-clause-written
returns-clause-written g c =
    let all : parse_options c.default-options.result ≡ all_on = search rules in
    let asked = request_of c.args.command in
    ok_so c.write_made.result (λ put writing. puts_known g.row.A.Denot (g.S.Source.remaining c.args.source.now) c.in-Ok-read_whole.input.items c.as_slice.result.now (parse_options c.default-options.result) all c.as_slice.ensures.value c.in-Ok-read_whole.ensures.bytes
    asked (g.K.Sink.contents c.args.sink.now) (g.K.Sink.contents c.write_made.new.sink) (made_bytes c.in-Ok-made_of.made)
    (c.in-Ok-made_of.ensures.left asked c.in-Ok.ensures.task) c.in-Ok-made_of.ensures.accepted put) c.write_made.ensures.written

pub returns-clause-accepted : goal.returns-clause-accepted
returns-clause-accepted g c =
    let all : parse_options c.default-options.result ≡ all_on = search rules in
    ok_always c.write_made.result (input_known g.row.A.Denot (g.S.Source.remaining c.args.source.now) c.in-Ok-read_whole.input.items c.as_slice.result.now (parse_options c.default-options.result) all c.as_slice.ensures.value c.in-Ok-read_whole.ensures.bytes
    c.in-Ok-made_of.ensures.accepted)

pub returns-in-Err-read_whole-clause-argument : goal.returns-in-Err-read_whole-clause-argument
returns-in-Err-read_whole-clause-argument g c =
    let asked = request_of c.args.command in
    told_of_read asked (is_ready (parse_options c.default-options.result) asked c.in-Ok.task c.in-Ok.ensures.task) c.in-Err-read_whole.fault c.in-Err-read_whole.ensures.causes

pub returns-in-Err-made_of-clause-refused : goal.returns-in-Err-made_of-clause-refused
returns-in-Err-made_of-clause-refused g c =
    let all : parse_options c.default-options.result ≡ all_on = search rules in
    let asked = request_of c.args.command in
    tells_known g.row.A.Denot (g.S.Source.remaining c.args.source.now) c.in-Ok-read_whole.input.items c.as_slice.result.now (parse_options c.default-options.result) all c.as_slice.ensures.value c.in-Ok-read_whole.ensures.bytes
    asked c.in-Err-made_of.fault (c.in-Err-made_of.ensures.refused asked c.in-Ok.ensures.task)

pub returns-in-Err-made_of-clause-argument : goal.returns-in-Err-made_of-clause-argument
returns-in-Err-made_of-clause-argument g c =
    let asked = request_of c.args.command in
    told_of_input asked (is_ready (parse_options c.default-options.result) asked c.in-Ok.task c.in-Ok.ensures.task) (parse_options c.default-options.result) c.as_slice.result.now c.in-Err-made_of.fault
    (c.in-Err-made_of.ensures.refused asked c.in-Ok.ensures.task)

pub returns-in-Err-made_of-clause-unread : goal.returns-in-Err-made_of-clause-unread
returns-in-Err-made_of-clause-unread g c = λ unread.
    let asked = request_of c.args.command in
    absurd (input_unread (parse_options c.default-options.result) asked c.as_slice.result.now c.in-Err-made_of.fault (c.in-Err-made_of.ensures.refused asked c.in-Ok.ensures.task) unread)

pub returns-in-Err-made_of-clause-causes : goal.returns-in-Err-made_of-clause-causes
returns-in-Err-made_of-clause-causes g c =
    let asked = request_of c.args.command in
    input_ends (parse_options c.default-options.result) asked c.as_slice.result.now c.in-Err-made_of.fault (c.in-Err-made_of.ensures.refused asked c.in-Ok.ensures.task)

pub returns-in-Err-clause-argument : goal.returns-in-Err-clause-argument
returns-in-Err-clause-argument g c =
    let all : parse_options c.default-options.result ≡ all_on = search rules in
    let asked = request_of c.args.command in
    told_of_words asked c.in-Err.fault (subst (λ (p : Options). IsFaultOfArgument p asked c.in-Err.fault) all c.in-Err.ensures.refused)

pub returns-in-Err-clause-causes : goal.returns-in-Err-clause-causes
returns-in-Err-clause-causes g c = words_end c.in-Err.fault (of_words (parse_options c.default-options.result) (request_of c.args.command) c.in-Err.fault c.in-Err.ensures.refused)

pub returns-in-Err-clause-memory : goal.returns-in-Err-clause-memory
returns-in-Err-clause-memory g c = λ memory. inl refl

pub returns-in-Err-clause-behind : goal.returns-in-Err-clause-behind
returns-in-Err-clause-behind g c = λ behind.
    absurd (never_behind_words c.in-Err.fault (of_words (parse_options c.default-options.result) (request_of c.args.command) c.in-Err.fault c.in-Err.ensures.refused) behind)

pub returns-in-Err-read_whole-clause-memory : goal.returns-in-Err-read_whole-clause-memory
returns-in-Err-read_whole-clause-memory g c = λ memory. inl c.in-Err-read_whole.ensures.not_ended

pub returns-in-Err-read_whole-clause-behind : goal.returns-in-Err-read_whole-clause-behind
returns-in-Err-read_whole-clause-behind g c = λ behind. absurd (never_behind c.in-Err-read_whole.fault c.in-Err-read_whole.ensures.causes behind)

pub returns-in-Err-made_of-clause-memory : goal.returns-in-Err-made_of-clause-memory
returns-in-Err-made_of-clause-memory g c = λ memory.
    let all : parse_options c.default-options.result ≡ all_on = search rules in
    let asked = request_of c.args.command in
    let is : c.in-Err-made_of.fault ≡ Edit OutOfMemory = cc in
    inr (
      c.in-Ok-read_whole.ensures.ended,
      memory_known g.row.A.Denot (g.S.Source.remaining c.args.source.now) c.in-Ok-read_whole.input.items c.as_slice.result.now (parse_options c.default-options.result) all c.as_slice.ensures.value c.in-Ok-read_whole.ensures.bytes
          asked c.in-Err-made_of.fault is (c.in-Err-made_of.ensures.refused asked c.in-Ok.ensures.task),
    )

pub returns-in-Err-made_of-clause-behind : goal.returns-in-Err-made_of-clause-behind
returns-in-Err-made_of-clause-behind g c = λ behind. c.in-Ok-read_whole.ensures.ended

pub returns-clause-memory : goal.returns-clause-memory
returns-clause-memory g c = λ memory. no_memory c.write_made.result c.write_made.ensures.cause memory

pub returns-clause-causes : goal.returns-clause-causes
returns-clause-causes g c = ends_writing c.write_made.result c.write_made.ensures.cause

pub returns-clause-ended : goal.returns-clause-ended
returns-clause-ended g c = ok_always c.write_made.result c.in-Ok-read_whole.ensures.ended

pub returns-clause-behind : goal.returns-clause-behind
returns-clause-behind g c = err_always c.write_made.result (λ fault behind. c.in-Ok-read_whole.ensures.ended)

pub returns-clause-argument : goal.returns-clause-argument
returns-clause-argument g c =
    let asked = request_of c.args.command in
    told_of_write asked (is_ready (parse_options c.default-options.result) asked c.in-Ok.task c.in-Ok.ensures.task) c.write_made.result c.write_made.ensures.cause

pub returns-clause-flushed : goal.returns-clause-flushed
returns-clause-flushed g c = ok_so c.write_made.result (λ flushed writing. flushed) c.write_made.ensures.flushed

pub returns-clause-checked : goal.returns-clause-checked
returns-clause-checked g c =
    let on : true ≡ writes (request_of c.args.command) = search rules in
    ok_always c.write_made.result (λ none. cc)

pub returns-then-not-writes-clause-written : goal.returns-then-not-writes-clause-written
returns-then-not-writes-clause-written g c =
    let off : false ≡ writes (request_of c.args.command) = search rules in
    λ writing. cc

pub returns-then-not-writes-clause-flushed : goal.returns-then-not-writes-clause-flushed
returns-then-not-writes-clause-flushed g c =
    let off : false ≡ writes (request_of c.args.command) = search rules in
    λ writing. cc

pub returns-then-not-writes-clause-accepted : goal.returns-then-not-writes-clause-accepted
returns-then-not-writes-clause-accepted g c =
    let all : parse_options c.default-options.result ≡ all_on = search rules in
    input_known g.row.A.Denot (g.S.Source.remaining c.args.source.now) c.in-Ok-read_whole.input.items c.as_slice.result.now (parse_options c.default-options.result) all c.as_slice.ensures.value c.in-Ok-read_whole.ensures.bytes
    c.in-Ok-made_of.ensures.accepted

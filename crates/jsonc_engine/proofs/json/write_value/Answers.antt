use Rattle.std.proofs.lemmas.Str.{IsCharBoundary-start}
use Rattle.jsonc_engine.proofs.Documents.{err_caused, no_value, ok_written, some_value}
use Rattle.jsonc_engine.proofs.json.write_value.Goals as goal

pub mark_behind-requires : goal.mark_behind-requires
mark_behind-requires g c = IsCharBoundary-start c.args.text.now c.utf8.text

pub returns-in-Some-clause-written : goal.returns-in-Some-clause-written
returns-in-Some-clause-written g c =
    let v = some_value c.requires.0 _ c.requires.1 c.in-Some.ensures (λ e. cc) in
    ok_written c.args.text.now v c.write_tokens.result c.write_tokens.ensures.written

pub returns-in-Some-clause-refused : goal.returns-in-Some-clause-refused
returns-in-Some-clause-refused g c = λ o.
    let v = some_value c.requires.0 _ c.requires.1 c.in-Some.ensures (λ e. cc) in
    err_caused c.args.text.now v c.write_tokens.result o c.write_tokens.ensures.stops

pub returns-in-None-clause-refused : goal.returns-in-None-clause-refused
returns-in-None-clause-refused g c = λ o. no_value c.in-None.ensures

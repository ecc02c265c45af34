use Rattle.std.proofs.Common.{true}
use Rattle.std.proofs.lemmas.Str.{IsCharBoundary-start}
use Rattle.jsonc_text.specs.Options.{all_on}
use Rattle.jsonc_text.specs.Text.{next, rest}
use Rattle.jsonc_text.specs.string.Escapes.{escapes}
use Rattle.jsonc_text.specs.string.Faults.{no_quote, of_string}
use Rattle.jsonc_text.proofs.lemmas.string.Faults.{no_either}
use Rattle.jsonc_text.proofs.lemmas.string.QuotedStrings.{no_string, quoted_of_string, string_of_quoted}
use Rattle.jsonc_layout.proofs.nodes.strings.check_string.Goals as goal

pub opening_quote-requires : goal.opening_quote-requires
opening_quote-requires c = IsCharBoundary-start _ c.utf8.text

pub returns-in_default-clause-fault : goal.returns-in_default-clause-fault
returns-in_default-clause-fault c = record {
  none = λ v h. no_string (escapes true) c.in_default.ensures.none h.1;
  error = (0, no_quote (no_either (next (rest c.args.text.now 0)) c.in_default.ensures.none));
}

pub pass_string-requires-clause-boundary : goal.pass_string-requires-clause-boundary
pass_string-requires-clause-boundary c = IsCharBoundary-start _ c.utf8.text

pub returns-in-Ok-clause-found : goal.returns-in-Ok-clause-found
returns-in-Ok-clause-found c = (_, (_, string_of_quoted all_on c.in-Some.ensures.found.allowed c.in-Ok.ensures.found.piece))

pub returns-in-Err-clause-fault : goal.returns-in-Err-clause-fault
returns-in-Err-clause-fault c =
    let passed = c.in-Err.ensures in
    let quote = c.in-Some.ensures.found in
    record {
      none = λ v h. passed.none v h.0 (quoted_of_string (escapes true) quote.here.0 h.1);
      error = (c.in-Err.fault.range.start, of_string quote.allowed (passed.error passed.memory));
    }

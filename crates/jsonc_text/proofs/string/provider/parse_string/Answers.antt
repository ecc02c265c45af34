use Rattle.std.proofs.Common.{arith, true}
use Rattle.std.proofs.lemmas.Str.{IsCharBoundary-start}
use Rattle.jsonc_text.specs.string.Escapes.{escapes}
use Rattle.jsonc_text.specs.Text.{next, rest}
use Rattle.jsonc_text.specs.string.Faults.{no_quote}
use Rattle.jsonc_text.proofs.lemmas.string.Faults.{no_either}
use Rattle.jsonc_text.proofs.lemmas.string.QuotedStrings.{no_string}
use Rattle.jsonc_text.proofs.string.provider.parse_string.Goals as goal

pub opening_quote-requires : goal.opening_quote-requires
opening_quote-requires g c = IsCharBoundary-start _ c.utf8.text

pub returns-in_default-clause-fault : goal.returns-in_default-clause-fault
returns-in_default-clause-fault g c = record {
  boundary = IsCharBoundary-start _ c.utf8.text;
  order = omega arith;
  none = λ k v r x. no_string (escapes true) c.in_default.ensures.none x;
  error = λ k. no_quote (no_either (next (rest c.args.text.now 0)) c.in_default.ensures.none);
}

pub decode_at-requires-clause-boundary : goal.decode_at-requires-clause-boundary
decode_at-requires-clause-boundary g c = IsCharBoundary-start _ c.utf8.text

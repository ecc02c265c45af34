use Rattle.jsonc_text.specs.string.Escapes.{escapes}
use Rattle.jsonc_text.specs.string.Faults.{of_string}
use Rattle.jsonc_text.proofs.lemmas.string.QuotedStrings.{quoted_of_string}
use Rattle.jsonc_text.proofs.string.provider.decode_at.Goals as goal

pub returns-in-Err-clause-fault : goal.returns-in-Err-clause-fault
returns-in-Err-clause-fault g c =
    let read = c.in-Err.ensures in
    record {
      boundary = read.places.spans.from;
      order = read.places.order;
      none = λ k v r x. read.none k v r (quoted_of_string (escapes c.args.extended) c.requires.quote.here.0 x);
      error = λ k. of_string c.requires.quote.allowed (read.error k);
    }

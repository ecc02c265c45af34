use Rattle.std.proofs.Common.{arith}
use Rattle.jsonc_text.proofs.lemmas.string.Providers.{char_spans}
use Rattle.jsonc_text.proofs.lemmas.string.Faults.{past_end}
use Rattle.jsonc_text.proofs.string.escape.string_fault.Goals as goal

pub returns-clause-fault : goal.returns-clause-fault
returns-clause-fault c =
    let read = c.char_end-end.ensures in
    let past = char_spans _ _ _ c.utf8.text c.requires.spans.to read.boundary read.none read.some in
    record {
      spans = record { from = c.requires.spans.from; to = read.boundary; order = omega (arith, c.requires.spans.order, past.order) };
      order = omega arith;
      kind = c.requires.kind;
    }

pub returns-clause-end : goal.returns-clause-end
returns-clause-end c = past_end c.args.text.now c.args.stop c.char_end-end.result c.char_end-end.ensures.none c.char_end-end.ensures.some

use Rattle.std.proofs.Common.{sym, ap, chars}
use Rattle.jsonc_format.specs.Pieces.{piece_at}
use Rattle.jsonc_format.proofs.Results.{ok_here}
use Rattle.jsonc_format.proofs.print.put_read.Goals as goal

pub returns-clause-put : goal.returns-clause-put
returns-clause-put g c = λ w h tail ps parts flat.
    let p = piece_at c.args.text.now c.args.read.from c.args.read.start c.args.read.end w in
    let put = c.put.ensures p ps c.requires.ends (ap chars (sym c.range-written.ensures.value)) h flat (λ k. c.in_ok-leading.ensures.found k w tail ps h parts) in
    ok_here c.put.result put c.in-Ok.is

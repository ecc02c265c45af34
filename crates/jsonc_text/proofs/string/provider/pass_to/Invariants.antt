use Rattle.std.proofs.Common.{◌-◌, ◌≡◌}
use Rattle.jsonc_text.proofs.lemmas.string.Providers.{OnWay}
use Rattle.jsonc_text.proofs.string.provider.pass_to.Given as goal

abbrev pub invariant-loop-chars : goal.invariant-loop-chars
invariant-loop-chars g l = record {
  same : g.T.CharProvider.bytes l.chars ≡ l.text;
  way : OnWay l.text (g.T.CharProvider.place l.chars) l.end;
}

abbrev pub decreases-loop-chars : goal.decreases-loop-chars
decreases-loop-chars g l = l.end - g.T.CharProvider.place l.chars

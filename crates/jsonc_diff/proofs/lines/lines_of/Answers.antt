use Rattle.std.proofs.Common.{[], subst}
use Rattle.std.proofs.lemmas.List.{append-nil}
use Rattle.jsonc_diff.specs.Lines.{AreLines}
use Rattle.jsonc_diff.proofs.lines.lines_of.Goals as goal

pub returns : goal.returns
returns g c = subst (λ lines. AreLines lines c.args.text.now) (append-nil _) (c.loop-line.invariant.so_far [] c.in_default.ensures.none)

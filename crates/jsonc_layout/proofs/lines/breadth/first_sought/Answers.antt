use Rattle.std.proofs.Common.{[], ◌∷◌, ◌∙◌, arith, length, sym}
use Rattle.jsonc_layout.specs.lines.Breadth.{is_sought}
use Rattle.jsonc_layout.proofs.lemmas.lines.Depths.{found_near}
use Rattle.jsonc_layout.proofs.lines.breadth.first_sought.Goals as goal

pub returns-then-is_some-clause-first : goal.returns-then-is_some-clause-first
returns-then-is_some-clause-first g c =
    let ns = c.args.tree.now.nodes in
    found_near ns (is_sought ns c.args.sought) c.loop-near.near (length ns) (c.args.top ∷ []) c.first_above-found.result (omega (arith, c.loop-near-test.true, c.min-near-end.ensures, c.len-depth.ensures.len)) c.first_above-found.ensures.first (sym c.is_some.ensures ∙ c.if-is_some.true)

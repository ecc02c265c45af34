use Rattle.std.proofs.Common.{ap, drop, map, option_map, sym, ◌+◌, ◌∙◌}
use Rattle.jsonc_layout.specs.lines.IndentViews.{text_in}
use Rattle.jsonc_layout.specs.lines.Indents.{told_by}
use Rattle.jsonc_layout.specs.lines.Lines.{indent_at}
use Rattle.jsonc_layout.proofs.lemmas.lines.Told.{told_on}
use Rattle.jsonc_layout.proofs.lines.indents.told_by.Goals as goal

pub loop-place-preserved : goal.loop-place-preserved
loop-place-preserved g c =
    let ns = c.args.tree.now.nodes in
    let place = c.loop-place.place in
    let none = sym c.more_of.ensures ∙ ap (option_map (λ s. s.now)) c.in_default.is in
    c.loop-place.invariant
    ∙ told_on ns c.args.levels.now place (text_in c.loop-place.held) (text_in c.in_ok-outer.outer) c.loop-place-test.true c.in_ok-outer.ensures.indent none
    ∙ ap (λ h. told_by (place + 1) h (map (indent_at ns) (drop (place + 1) c.args.levels.now))) (sym c.held_after-held.ensures)

use Rattle.std.proofs.Common.{arith, ◌∙◌}
use Rattle.jsonc_text.proofs.lemmas.string.Providers.{nearer_in}
use Rattle.jsonc_text.proofs.string.provider.pass_to.Goals as goal

pub loop-chars-smaller : goal.loop-chars-smaller
loop-chars-smaller g c =
    let held = c.loop-chars.invariant in
    let step = nearer_in _ _ _ _ _ held.same c.utf8.text c.requires.boundary held.way (omega (arith, c.byte_index.ensures.index, c.loop-chars-test.true)) c.move_next_char.ensures.passes in
    omega (arith, step.on, step.way.order)

pub loop-chars-preserved : goal.loop-chars-preserved
loop-chars-preserved g c =
    let held = c.loop-chars.invariant in
    let step = nearer_in _ _ _ _ _ held.same c.utf8.text c.requires.boundary held.way (omega (arith, c.byte_index.ensures.index, c.loop-chars-test.true)) c.move_next_char.ensures.passes in
    record { same = c.move_next_char.ensures.text ∙ held.same; way = step.way }

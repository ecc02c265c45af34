use Rattle.jsonc_program.specs.edit.Words.{in_a_block, itself, on_a_line}
use Rattle.jsonc_program.proofs.EditTexts.{by_text}
use Rattle.jsonc_program.proofs.edit.comment.comment_of.Goals as goal

pub returns-then-starts_with : goal.returns-then-starts_with
returns-then-starts_with g c = by_text c.args.text.now c.copied.result _ c.copied.ensures (itself c.without_end-said.result.now c.without_end-said.ensures)

pub returns-then-starts_with-2 : goal.returns-then-starts_with-2
returns-then-starts_with-2 g c = by_text c.args.text.now c.copied-then-starts_with-2.result _ c.copied-then-starts_with-2.ensures (itself c.without_end-said.result.now c.without_end-said.ensures)

pub returns-then-contains : goal.returns-then-contains
returns-then-contains g c = by_text c.args.text.now c.in_a_block.result _ c.in_a_block.ensures (in_a_block c.without_end-said.result.now c.without_end-said.ensures)

pub returns : goal.returns
returns g c = by_text c.args.text.now c.on_a_line.result _ c.on_a_line.ensures (on_a_line c.without_end-said.result.now c.without_end-said.ensures)

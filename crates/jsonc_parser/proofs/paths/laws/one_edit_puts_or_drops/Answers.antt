use Rattle.jsonc_parser.specs.declared.paths.which.Which.TheVariants.{First}
use Rattle.jsonc_parser.proofs.lemmas.paths.Calls.{drops_but_for_memory, drops_by_one_edit, puts_but_for_memory, puts_by_one_edit}
use Rattle.jsonc_parser.proofs.paths.laws.one_edit_puts_or_drops.Goals as goal

pub returns-clause-puts : goal.returns-clause-puts
returns-clause-puts c = puts_by_one_edit First

pub returns-clause-drops : goal.returns-clause-drops
returns-clause-drops c = drops_by_one_edit

pub returns-clause-put_memory : goal.returns-clause-put_memory
returns-clause-put_memory c = puts_but_for_memory First

pub returns-clause-drop_memory : goal.returns-clause-drop_memory
returns-clause-drop_memory c = drops_but_for_memory

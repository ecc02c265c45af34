use Rattle.jsonc_edit.proofs.Printing.{begins_text}
use Rattle.jsonc_edit.proofs.due.has_character.Goals as goal

pub returns : goal.returns
returns c = begins_text c.args.text.now c.is_empty.result c.utf8.text c.is_empty.ensures

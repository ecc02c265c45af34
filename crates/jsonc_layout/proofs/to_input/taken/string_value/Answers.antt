use Rattle.std.proofs.Common.{refl, ap, chars, string_bytes, None, Some}
use Rattle.jsonc_text.specs.Plain.{string}
use Rattle.jsonc_tree.specs.Tree.{content_at}
use Rattle.jsonc_layout.proofs.lemmas.to_input.Leaves.{taken_at, decoded_gives, undecoded_gives}
use Rattle.jsonc_layout.proofs.to_input.taken.string_value.Goals as goal

pub returns-in-Ok-clause-taken : goal.returns-in-Ok-clause-taken
returns-in-Ok-clause-taken g c =
    let content = content_at c.args.tree.now.nodes c.args.leaf in
    let text = chars (string_bytes c.in-Ok.text) in
    taken_at c.args.tree.now.nodes c.args.leaf content (Some (string text)) (Some c.from.result) refl (decoded_gives content text c.requires.string c.in-Ok.ensures.found) (ap Some c.from.ensures)

pub returns-in_default-clause-taken : goal.returns-in_default-clause-taken
returns-in_default-clause-taken g c =
    let content = content_at c.args.tree.now.nodes c.args.leaf in
    taken_at c.args.tree.now.nodes c.args.leaf content None None refl (undecoded_gives content c.requires.string (c.in-Err.ensures.fault c.in_default.not-OutOfMemory).none) refl

use Rattle.std.proofs.Common.{◌∙◌, sym, chars}
use Rattle.std.proofs.lemmas.Str.{encodes-chars}
use Rattle.jsonc_layout.proofs.lemmas.from_input.Leaves.{number_built}
use Rattle.jsonc_layout.proofs.from_input.values.add_number.Goals as goal

pub returns-clause-built : goal.returns-clause-built
returns-clause-built g c = number_built _ _ _ (chars c.args.text.now) c.add.result (c.in_ok-literal.ensures.ok ∙ sym (encodes-chars c.args.text.now c.utf8.text)) c.add.new.self.tree c.add.ensures.number c.add.ensures.added

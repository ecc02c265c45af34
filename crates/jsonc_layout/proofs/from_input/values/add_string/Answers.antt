use Rattle.std.proofs.Common.{chars}
use Rattle.jsonc_layout.proofs.lemmas.from_input.Leaves.{string_built}
use Rattle.jsonc_layout.proofs.from_input.values.add_string.Goals as goal

pub returns-clause-built : goal.returns-clause-built
returns-clause-built g c = string_built _ _ _ (chars c.args.text.now) c.add.result c.in_ok-literal.ensures.bytes c.add.new.self.tree c.add.ensures.number c.add.ensures.added

use Rattle.jsonc_ast.proofs.lemmas.to_ast.MadeTrees.{plain_string_made}
use Rattle.jsonc_ast.proofs.to_ast.values.TreeMakerReceiverString.string.Goals as goal

pub returns-clause-made : goal.returns-clause-made
returns-clause-made g c = plain_string_made c.args.self.now c.args.range c.range.result c.requires.stands c.range.ensures.value

use Rattle.std.proofs.Common.{◌∙◌}
use Rattle.jsonc_ast.proofs.lemmas.to_ast.Stacked.{no_property_yet}
use Rattle.jsonc_ast.proofs.to_ast.values.TreeMakerReceiverString.open_object.Goals as goal

pub returns-clause-held : goal.returns-clause-held
returns-clause-held g c = no_property_yet c.args.self.now c.len.result (c.len.ensures ∙ c.args.self.now.properties.ok.0)

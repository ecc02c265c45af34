use Rattle.std.proofs.Common.{refl}
use Rattle.jsonc_ast.proofs.lemmas.to_ast.Stacked.{property_stacked}
use Rattle.jsonc_ast.proofs.to_ast.values.TreeMakerReceiverString.property.Goals as goal

pub returns-clause-held : goal.returns-clause-held
returns-clause-held g c = λ s m k i ms n x held named made covers.
    property_stacked s m k c.args.self.now _ c.args._object.now c.property_of.result c.args.property c.args.item c.args.range ms n x held named made refl c.property_of.ensures.located c.property_of.ensures.spelled c.in_ok-push_property.ensures.pushed refl

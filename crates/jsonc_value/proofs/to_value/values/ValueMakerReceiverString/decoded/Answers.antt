use Rattle.std.proofs.Common.{refl}
use Rattle.std.specs.declared.borrow.CowStr.TheVariants.{Owned}
use Rattle.jsonc_value.proofs.lemmas.to_value.Lending.{string_made}
use Rattle.jsonc_value.proofs.to_value.values.ValueMakerReceiverString.decoded.Goals as goal

pub returns-clause-made : goal.returns-clause-made
returns-clause-made g c = string_made c.args.self.now c.args._range (Owned c.args.value) _ refl (λ owned. (c.args._range, c.requires.stands))

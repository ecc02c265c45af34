use Rattle.std.proofs.Common.{ap, chars}
use Rattle.std.specs.declared.borrow.CowStr.TheVariants.{Borrowed}
use Rattle.jsonc_value.proofs.lemmas.to_value.Lending.{string_made}
use Rattle.jsonc_value.proofs.to_value.values.ValueMakerReceiverString.string.Goals as goal

pub returns-clause-made : goal.returns-clause-made
returns-clause-made g c = string_made c.args.self.now c.args.range (Borrowed c.range.result) _ (ap chars c.range.ensures.value) (λ owned. absurd owned)

use Rattle.std.proofs.Common.{subst, sym}
use Rattle.std.specs.declared.borrow.CowStr.TheVariants.{Owned}
use Rattle.jsonc_walk.specs.Handed.{HasEscapedString}
use Rattle.jsonc_value.specs.to_value.Made.{source_in}
use Rattle.jsonc_value.proofs.lemmas.to_value.Lending.{string_made}
use Rattle.jsonc_value.proofs.to_value.values.ValueMakerReceiverString.passed.Goals as goal

pub returns-clause-made : goal.returns-clause-made
returns-clause-made g c =
    string_made c.args.self.now c.args.range (Owned c.in_ok-value.value) _ c.in_ok-value.ensures
    (λ owned. (c.args.range, subst (HasEscapedString (source_in c.args.self.now) c.args.range) (sym c.in_ok-value.ensures) c.requires.stands))

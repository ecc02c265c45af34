use Rattle.std.proofs.Common.{◌∙◌, ap, chars, refl}
use Rattle.jsonc_value.proofs.to_value.values.ValueMakerReceiverString.word_name.Goals as goal

pub returns-clause-named : goal.returns-clause-named
returns-clause-named g c = record {
  source = refl;
  stacks = (refl, refl);
  name = (c.lent.ensures.name ∙ ap chars c.range.ensures.value, c.lent.ensures.utf8);
  lent = λ owned. absurd (c.lent.ensures.lent owned);
}

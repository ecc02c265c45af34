use Rattle.std.proofs.Common.{refl}
use Rattle.std.proofs.lemmas.Str.{IsUtf8-string_bytes}
use Rattle.jsonc_value.proofs.to_value.values.ValueMakerReceiverString.decoded_name.Goals as goal

pub returns-clause-named : goal.returns-clause-named
returns-clause-named g c = record {
  source = refl;
  stacks = (refl, refl);
  name = (refl, IsUtf8-string_bytes c.args.value);
  lent = λ owned. (c.args._range, c.requires.stands);
}

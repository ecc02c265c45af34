use Rattle.std.proofs.Common.{refl, subst, sym}
use Rattle.jsonc_walk.specs.Handed.{HasEscapedString}
use Rattle.std.proofs.lemmas.Str.{IsUtf8-string_bytes}
use Rattle.jsonc_value.specs.to_value.Made.{source_in}
use Rattle.jsonc_value.proofs.to_value.values.ValueMakerReceiverString.passed_name.Goals as goal

pub returns-clause-named : goal.returns-clause-named
returns-clause-named g c = record {
  source = refl;
  stacks = (refl, refl);
  name = (c.in_ok-value.ensures, IsUtf8-string_bytes c.in_ok-value.value);
  lent = λ owned. (c.args.range, subst (HasEscapedString (source_in c.args.self.now) c.args.range) (sym c.in_ok-value.ensures) c.requires.stands);
}

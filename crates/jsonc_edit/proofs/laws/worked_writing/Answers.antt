use Rattle.std.proofs.Common.{false, [], codes, refl, rules}
use Rattle.jsonc_text.specs.Text.{stop, step}
use Rattle.jsonc_text.specs.Numbers.{NumberLit, Sign, Whole, Fraction, Exponent, Unsigned}
use Rattle.jsonc_edit.proofs.WrittenRows.{ascii_is_indent}
use Rattle.jsonc_edit.proofs.laws.worked_writing.Goals as goal

pub returns-clause-layout : goal.returns-clause-layout
returns-clause-layout c =
    λ o.
    record { current = ascii_is_indent [] (search rules) stop; single = ascii_is_indent (codes "  ") (search rules) (step refl (step refl stop)); commas = λ h. let never : ⊥ = cc in absurd never }

pub returns-clause-value : goal.returns-clause-value
returns-clause-value c =
    λ o.
    let one : NumberLit o (codes "1") = (false, codes "1", Sign.none, Unsigned.decimal (Whole.digits refl stop refl) (Fraction.none refl) (Exponent.none refl)) in
    record { texts = (refl, (refl, tt), tt); numbers = ((one, tt), tt) }

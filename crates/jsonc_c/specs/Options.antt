-- The options of a call: ten bits of a number.
use Rattle.std.specs.Prelude.{ℕ, Bool, bit_and, nat_eq, not}
use Rattle.jsonc_text.specs.Options.{Options}

-- the bit of this weight is set
abbrev pub has_bit : ℕ → ℕ → Bool
has_bit bits weight = not (nat_eq (bit_and bits weight) 0)

-- the options whose bits are set
abbrev pub options_of : ℕ → Options
options_of bits = record {
  comments = has_bit bits 1;
  loose_names = has_bit bits 2;
  trailing_commas = has_bit bits 4;
  missing_commas = has_bit bits 8;
  single_quoted_strings = has_bit bits 16;
  hexadecimal_numbers = has_bit bits 32;
  unary_plus_numbers = has_bit bits 64;
  bare_decimal_points = has_bit bits 128;
  non_finite_numbers = has_bit bits 256;
  extended_escapes = has_bit bits 512;
}

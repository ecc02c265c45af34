-- What a text may hold beyond JSON (RFC 8259). Most of it is JSON5's.
use Rattle.std.specs.Prelude.{◌≡◌, Bool, true, false, IsTrue}

pub record Options : Type 0 where
  pub single_quoted_strings : Bool
  pub hexadecimal_numbers : Bool
  pub unary_plus_numbers : Bool
  pub bare_decimal_points : Bool
  pub non_finite_numbers : Bool
  pub extended_escapes : Bool
  pub comments : Bool
  pub loose_names : Bool
  pub trailing_commas : Bool
  pub missing_commas : Bool

-- all of it
abbrev pub all_on : Options
all_on = record {
  single_quoted_strings = true;
  hexadecimal_numbers = true;
  unary_plus_numbers = true;
  bare_decimal_points = true;
  non_finite_numbers = true;
  extended_escapes = true;
  comments = true;
  loose_names = true;
  trailing_commas = true;
  missing_commas = true;
}

-- nothing of it: JSON, save that the blanks are more and a string may hold control characters
abbrev pub plain_json : Options
plain_json = record {
  single_quoted_strings = false;
  hexadecimal_numbers = false;
  unary_plus_numbers = false;
  bare_decimal_points = false;
  non_finite_numbers = false;
  extended_escapes = false;
  comments = false;
  loose_names = false;
  trailing_commas = false;
  missing_commas = false;
}

-- JSON with comments, as VS Code reads it: comments and trailing commas besides
abbrev pub json_with_comments : Options
json_with_comments = record plain_json { comments = true; trailing_commas = true }

-- o without missing commas
abbrev pub with_commas : Options → Options
with_commas o = record o { missing_commas = false }

-- o without trailing commas
abbrev pub without_trailing : Options → Options
without_trailing o = record o { trailing_commas = false }

-- o and p agree on the six options that lexemes look at
pub record AgreeOnLexemes (o p : Options) : Type 0 where
  pub single_quoted_strings : o.single_quoted_strings ≡ p.single_quoted_strings
  pub hexadecimal_numbers : o.hexadecimal_numbers ≡ p.hexadecimal_numbers
  pub unary_plus_numbers : o.unary_plus_numbers ≡ p.unary_plus_numbers
  pub bare_decimal_points : o.bare_decimal_points ≡ p.bare_decimal_points
  pub non_finite_numbers : o.non_finite_numbers ≡ p.non_finite_numbers
  pub extended_escapes : o.extended_escapes ≡ p.extended_escapes

-- the same lexemes, and p allows around them what o allows, or more
pub record AllowsMore (o p : Options) : Type 0 where
  pub lexemes : AgreeOnLexemes o p
  pub comments : IsTrue o.comments → IsTrue p.comments
  pub loose_names : IsTrue o.loose_names → IsTrue p.loose_names
  pub trailing_commas : IsTrue o.trailing_commas → IsTrue p.trailing_commas
  pub missing_commas : IsTrue o.missing_commas → IsTrue p.missing_commas

-- What the structs of options stand for.
use Rattle.std.specs.Prelude.{true}
use Rattle.jsonc_text.specs.declared.options.ParseOptions.{ParseOptions}
use Rattle.jsonc_text.specs.declared.options.ScannerOptions.{ScannerOptions}
use Rattle.jsonc_text.specs.Options.{Options}

abbrev pub parse_options : ParseOptions → Options
parse_options p = record {
  single_quoted_strings = p.allow_single_quoted_strings;
  hexadecimal_numbers = p.allow_hexadecimal_numbers;
  unary_plus_numbers = p.allow_unary_plus_numbers;
  bare_decimal_points = p.allow_bare_decimal_point_numbers;
  non_finite_numbers = p.allow_non_finite_numbers;
  extended_escapes = p.allow_extended_string_escapes;
  comments = p.allow_comments;
  loose_names = p.allow_loose_object_property_names;
  trailing_commas = p.allow_trailing_commas;
  missing_commas = p.allow_missing_commas;
}

-- a scanner looks at six of the options; the others are taken as on
abbrev pub scanner_options : ScannerOptions → Options
scanner_options s = record {
  single_quoted_strings = s.allow_single_quoted_strings;
  hexadecimal_numbers = s.allow_hexadecimal_numbers;
  unary_plus_numbers = s.allow_unary_plus_numbers;
  bare_decimal_points = s.allow_bare_decimal_point_numbers;
  non_finite_numbers = s.allow_non_finite_numbers;
  extended_escapes = s.allow_extended_string_escapes;
  comments = true;
  loose_names = true;
  trailing_commas = true;
  missing_commas = true;
}

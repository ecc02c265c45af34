-- Worked rows.
use Rattle.std.proofs.Common.{ℕ, refl, true, false, List, [], ◌∷◌, codes, IsTrue, not, ◌==◌}
use Rattle.jsonc_text.proofs.Basics.{clash, eq_test}
use Rattle.jsonc_text.specs.declared.errors.ParseErrorKind.TheVariants.{ExpectedComma, UnterminatedArray}
use Rattle.jsonc_text.specs.Gaps.{none, blank}
use Rattle.jsonc_text.specs.Lexemes.{Lexeme, string, number}
use Rattle.jsonc_text.specs.Numbers.{Sign, Unsigned, Whole, Fraction, Exponent}
use Rattle.jsonc_text.specs.Options.{plain_json}
use Rattle.jsonc_text.specs.Strings.{Piece, Pieces}
use Rattle.jsonc_text.specs.Text.{stop}
use Rattle.jsonc_walk.specs.declared.container.Container.TheVariants.{Array}
use Rattle.jsonc_walk.specs.Reached.{container, at, comma, of_text, of_array, first_item, takes_literal, opens, here, on}
use Rattle.jsonc_walk.specs.Faults.{fault, HasFault, wrong_lexeme, wrong_ending}

-- a string of one character
one_string : (c : ℕ) (r : List ℕ) → IsTrue (not (c == 0x22)) → IsTrue (not (c == 0x5C)) → Lexeme plain_json (string (c ∷ [])) (0x22 ∷ c ∷ 0x22 ∷ r) r
one_string c r a b = (0x22, c ∷ [], refl, refl, Pieces.piece (Piece.itself (λ e. clash (c == 0x22) a (eq_test c 0x22 e)) (λ e. clash (c == 0x5C) b (eq_test c 0x5C e))) Pieces.done refl)

pub comma_told : HasFault plain_json true (codes "[\"a\" 1") (fault ExpectedComma (codes " 1") (codes " 1"))
comma_told = (
  at (container Array (codes "[\"a\" 1") ∷ []) (comma Array (codes " 1")) (codes " 1"),
  on (opens Array of_text refl none) (on (takes_literal (string (codes "a")) (codes " 1") (of_array first_item) refl none (one_string 0x61 (codes " 1") refl refl) refl) here),
  wrong_lexeme (number (codes "1")) [] (blank refl none) (refl, (false, codes "1", Sign.none, Unsigned.decimal (Whole.digits refl stop refl) (Fraction.none refl) (Exponent.none refl))) refl,
)

pub array_told : HasFault plain_json true (codes "[\"@\"") (fault UnterminatedArray (codes "[\"@\"") [])
array_told = (
  at (container Array (codes "[\"@\"") ∷ []) (comma Array []) [],
  on (opens Array of_text refl none) (on (takes_literal (string (codes "@")) [] (of_array first_item) refl none (one_string 0x40 [] refl refl) refl) here),
  wrong_ending none refl,
)

-- The worked text and its trees.
use Rattle.std.proofs.Common.{ℕ, ◌≡◌, refl, true, false, List, [], ◌∷◌, ◌++◌, codes, chars, arith, rules}
use Rattle.std.proofs.lemmas.Str.{chars-IsAscii}
use lib.Utf8.{encode}
use Rattle.jsonc_sound.specs.Shape.{printed_text}
use Rattle.jsonc_text.specs.Options.{all_on}
use Rattle.jsonc_text.specs.Text.{stop, step}
use Rattle.jsonc_text.specs.Gaps.{LineComment, line}
use Rattle.jsonc_text.specs.Letters.{is_wide_letter}
use Rattle.jsonc_text.specs.Numbers.{Sign, Whole, Fraction, Exponent, Unsigned}
use Rattle.jsonc_text.specs.Strings.{Piece, Pieces}
use Rattle.jsonc_text.specs.Words.{Keyword, IsKeyword}
use Rattle.jsonc_text.specs.Lexemes.{LexemeKind, Lexeme, lexeme, line_comment}
use Rattle.jsonc_text.proofs.Basics.{apart}
use Rattle.jsonc_sound.specs.Marks.{Mark, AreMarks, no_more, blank, one, marks}
use Rattle.jsonc_sound.specs.WorkedMarks.{worked_text, worked_marks, worked_tree, other_tree}

-- the lexemes where they stand
abbrev behind_a : List ℕ
behind_a = codes ":1, // x \n \"b\":[null]}"

abbrev behind_one : List ℕ
behind_one = codes ", // x \n \"b\":[null]}"

abbrev behind_b : List ℕ
behind_b = codes ":[null]}"

no_keyword_a : (k : Keyword) (u : List ℕ) → IsKeyword k (codes "a") u → ⊥
no_keyword_a (Keyword.boolean true) u h = apart refl h.0
no_keyword_a (Keyword.boolean false) u h = apart refl h.0
no_keyword_a Keyword.null u h = apart refl h.0

word_a : Lexeme all_on (LexemeKind.word (codes "a")) (codes "a" ++ behind_a) behind_a
unfolding is_wide_letter
word_a = (refl, record { begins = refl; goes_on = step refl stop; ends = refl; no_keyword = no_keyword_a; no_number = λ p. (λ h. apart refl h, λ h. apart refl h) })

number_one : Lexeme all_on (LexemeKind.number (codes "1")) (codes "1" ++ behind_one) behind_one
number_one = (refl, (false, codes "1" ++ behind_one, Sign.none, Unsigned.decimal (Whole.digits refl stop refl) (Fraction.none refl) (Exponent.none refl)))

string_b : Lexeme all_on (LexemeKind.string (codes "b")) (codes "\"b\"" ++ behind_b) behind_b
string_b = (0x22, codes "b", refl, refl, Pieces.piece (Piece.itself (λ e. absurd (omega (arith, e))) (λ e. absurd (omega (arith, e)))) Pieces.done refl)

null_there : Lexeme all_on (LexemeKind.keyword Keyword.null) (codes "null]}") (codes "]}")
unfolding is_wide_letter
null_there = (refl, refl)

comment_there : LineComment (codes "// x \n \"b\":[null]}") (codes "\n \"b\":[null]}")
comment_there = line (step refl (step refl (step refl stop))) refl

-- the marks of the value of `"b"`, and of all behind the comma
last_marks : AreMarks all_on behind_b (Mark.literal (codes "null") ∷ [])
last_marks =
    one (lexeme (LexemeKind.punctuation 0x3A)) (codes ":") (refl, refl) refl
    (one (lexeme (LexemeKind.punctuation 0x5B)) (codes "[") (refl, refl) refl
    (one (lexeme (LexemeKind.keyword Keyword.null)) (codes "null") null_there refl
    (one (lexeme (LexemeKind.punctuation 0x5D)) (codes "]") (refl, refl) refl (one (lexeme (LexemeKind.punctuation 0x7D)) (codes "}") (refl, refl) refl no_more))))

comment_and_last : AreMarks all_on (codes " // x \n \"b\":[null]}") (Mark.comment (codes "// x") ∷ Mark.literal (codes "\"b\"") ∷ Mark.literal (codes "null") ∷ [])
comment_and_last =
    blank refl
    (one (line_comment (codes " x ")) (codes "// x ") (comment_there, refl) refl
    (blank refl (blank refl (one (lexeme (LexemeKind.string (codes "b"))) (codes "\"b\"") string_b refl last_marks))))

pub text_marks : AreMarks all_on worked_text worked_marks
text_marks =
    one (lexeme (LexemeKind.punctuation 0x7B)) (codes "{") (refl, refl) refl
    (one (lexeme (LexemeKind.word (codes "a"))) (codes "a") word_a refl
    (one (lexeme (LexemeKind.punctuation 0x3A)) (codes ":") (refl, refl) refl
    (one (lexeme (LexemeKind.number (codes "1"))) (codes "1") number_one refl (one (lexeme (LexemeKind.punctuation 0x2C)) (codes ",") (refl, refl) refl comment_and_last))))

-- the texts of the leaves
a_chars : chars (codes "a") ≡ codes "a"
a_chars = chars-IsAscii (codes "a") (search rules)

one_chars : chars (codes "1") ≡ codes "1"
one_chars = chars-IsAscii (codes "1") (search rules)

b_chars : chars (codes "\"b\"") ≡ codes "\"b\""
b_chars = chars-IsAscii (codes "\"b\"") (search rules)

comment_chars : chars (codes "// x ") ≡ codes "// x "
comment_chars = chars-IsAscii (codes "// x ") (search rules)

short_chars : chars (codes "// x") ≡ codes "// x"
short_chars = chars-IsAscii (codes "// x") (search rules)

pub tree_marks : marks worked_tree ≡ worked_marks
tree_marks = rw (a_chars, one_chars, comment_chars, b_chars) refl

pub other_marks : marks other_tree ≡ worked_marks
other_marks = rw (a_chars, one_chars, short_chars, b_chars) refl

pub tree_text : printed_text worked_tree ≡ worked_text
unfolding encode
tree_text = chars-IsAscii worked_text (search rules)

pub other_text : printed_text other_tree ≡ worked_text
unfolding encode
other_text = chars-IsAscii worked_text (search rules)

-- Options that agree on what lexemes look at have the same lexemes.
use Rattle.std.proofs.Common.{ℕ, ◌≡◌, sym, Bool, List, Option, IsTrue}
use Rattle.jsonc_text.specs.Options.{Options, AgreeOnLexemes}
use Rattle.jsonc_text.specs.Words.{WordLit}
use Rattle.jsonc_text.specs.Numbers.{Sign, Fraction, Unsigned, Number}
use Rattle.jsonc_text.specs.Strings.{Piece, itself, plain, unit, pair, other, zero, byte, line, lone_cr, cr_lf, Pieces, done, piece, IsQuote, IsString}
use Rattle.jsonc_text.specs.Lexemes.{LexemeKind, Lexeme, Scanned, lexeme, line_comment, block_comment, IsScanned}

also : {x y : Bool} → x ≡ y → IsTrue x → IsTrue y
also e h = rw e at h

sign_same : {o p : Options} {b : Bool} {t r : List ℕ} → AgreeOnLexemes o p → Sign o b t r → Sign p b t r
sign_same a Sign.none = Sign.none
sign_same a Sign.minus = Sign.minus
sign_same a (Sign.plus h) = Sign.plus (also a.unary_plus_numbers h)

fraction_same : {o p : Options} {t r : List ℕ} → AgreeOnLexemes o p → Fraction o t r → Fraction p t r
fraction_same a (Fraction.none n) = Fraction.none n
fraction_same a (Fraction.point g) = Fraction.point g
fraction_same a (Fraction.bare_point h n) = Fraction.bare_point (also a.bare_decimal_points h) n

unsigned_same : {o p : Options} {b : Bool} {t r : List ℕ} → AgreeOnLexemes o p → Unsigned o b t r → Unsigned p b t r
unsigned_same a (Unsigned.hex h q g) = Unsigned.hex (also a.hexadecimal_numbers h) q g
unsigned_same a (Unsigned.decimal w f z) = Unsigned.decimal w (fraction_same a f) z
unsigned_same a (Unsigned.bare_point h g z) = Unsigned.bare_point (also a.bare_decimal_points h) g z
unsigned_same a (Unsigned.infinity h n) = Unsigned.infinity (also a.non_finite_numbers h) n
unsigned_same a (Unsigned.nan h n) = Unsigned.nan (also a.non_finite_numbers h) n

number_same : {o p : Options} {t r : List ℕ} → AgreeOnLexemes o p → Number o t r → Number p t r
number_same a (b, u, s, n) = (b, u, sign_same a s, unsigned_same a n)

piece_same : {o p : Options} {q : ℕ} {t w r : List ℕ} → AgreeOnLexemes o p → Piece o q t w r → Piece p q t w r
piece_same a (itself h k) = itself h k
piece_same a (plain h) = plain h
piece_same a (unit h k) = unit h k
piece_same a (pair h k l m) = pair h k l m
piece_same a (other h k) = other (also a.extended_escapes h) k
piece_same a (zero h k) = zero (also a.extended_escapes h) k
piece_same a (byte h k) = byte (also a.extended_escapes h) k
piece_same a (line h k) = line (also a.extended_escapes h) k
piece_same a (lone_cr h k) = lone_cr (also a.extended_escapes h) k
piece_same a (cr_lf h) = cr_lf (also a.extended_escapes h)

pub pieces_same : {o p : Options} {q : ℕ} {t v r : List ℕ} → AgreeOnLexemes o p → Pieces o q t v r → Pieces p q t v r
pieces_same a done = done
pieces_same a (piece k g e) = piece (piece_same a k) (pieces_same a g) e

quote_same : {o p : Options} (q : ℕ) → AgreeOnLexemes o p → IsQuote o q → IsQuote p q
quote_same q a h = rw a.single_quoted_strings at h

string_same : {o p : Options} {t v r : List ℕ} → AgreeOnLexemes o p → IsString o t v r → IsString p t v r
string_same a (q, s, h, e, d) = (q, s, quote_same q a h, e, pieces_same a d)

word_same : {o p : Options} {s : List ℕ} {n : Option ℕ} → AgreeOnLexemes o p → WordLit o s n → WordLit p s n
word_same a w = record { begins = w.begins; goes_on = w.goes_on; ends = w.ends; no_keyword = w.no_keyword; no_number = λ h. w.no_number (also (sym a.non_finite_numbers) h) }

pub lexeme_same : {o p : Options} → AgreeOnLexemes o p → (k : LexemeKind) (t r : List ℕ) → Lexeme o k t r → Lexeme p k t r
lexeme_same a (LexemeKind.string v) t r x = string_same a x
lexeme_same a (LexemeKind.number s) t r (e, n) = (e, number_same a n)
lexeme_same a (LexemeKind.word s) t r (e, w) = (e, word_same a w)
lexeme_same a (LexemeKind.keyword k) t r x = x
lexeme_same a (LexemeKind.punctuation c) t r x = x

pub scanned_same : {o p : Options} → AgreeOnLexemes o p → (w : Scanned) (t r : List ℕ) → IsScanned o w t r → IsScanned p w t r
scanned_same a (lexeme k) t r x = lexeme_same a k t r x
scanned_same a (line_comment s) t r x = x
scanned_same a (block_comment s) t r x = x

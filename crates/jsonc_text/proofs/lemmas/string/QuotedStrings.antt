-- Strings of the grammar, and strings in given quotes.
use Rattle.std.proofs.Common.{ℕ, ◌≡◌, ◌∙◌, sym, Bool, true, false, List, ◌∷◌, IsTrue, arith, ◌==◌, ◌||◌, ◌&&◌}
use Rattle.jsonc_text.specs.Options.{Options, all_on}
use Rattle.jsonc_text.specs.Strings.{Piece, itself, plain, unit, pair, other, zero, byte, line, lone_cr, cr_lf, Pieces, done, piece, IsQuote, IsString}
use Rattle.jsonc_text.specs.Text.{next, no}
use Rattle.jsonc_text.specs.Lexemes.{IsScanned, lexeme, string}
use Rattle.jsonc_text.proofs.Basics.{clash, heads}
use Rattle.jsonc_text.specs.string.Between.{Between}
use Rattle.jsonc_text.specs.string.Escapes.{escapes, IsQuoted}

piece_taken : {o p : Options} {q : ℕ} {t w r : List ℕ} → (IsTrue o.extended_escapes → IsTrue p.extended_escapes) → Piece o q t w r → Piece p q t w r
piece_taken f (itself h k) = itself h k
piece_taken f (plain h) = plain h
piece_taken f (unit h k) = unit h k
piece_taken f (pair h k l m) = pair h k l m
piece_taken f (other h k) = other (f h) k
piece_taken f (zero h k) = zero (f h) k
piece_taken f (byte h k) = byte (f h) k
piece_taken f (line h k) = line (f h) k
piece_taken f (lone_cr h k) = lone_cr (f h) k
piece_taken f (cr_lf h) = cr_lf (f h)

pieces_taken : {o p : Options} {q : ℕ} {t v r : List ℕ} → (IsTrue o.extended_escapes → IsTrue p.extended_escapes) → Pieces o q t v r → Pieces p q t v r
pieces_taken f done = done
pieces_taken f (piece k g e) = piece (piece_taken f k) (pieces_taken f g) e

pub string_of_quoted : (o : Options) {q : ℕ} {t v r : List ℕ} → IsQuote o q → IsQuoted o.extended_escapes q v t r → IsString o t v r
string_of_quoted o {q} a (s, e, d) = (q, s, a, e, pieces_taken {o = escapes o.extended_escapes} {p = o} (λ h. h) d)

pub quoted_of_string : (o : Options) {q : ℕ} {t u v r : List ℕ} → t ≡ q ∷ u → IsString o t v r → IsQuoted o.extended_escapes q v t r
quoted_of_string o {q} e (x, s, a, f, d) =
    let same : x ≡ q = heads (sym f ∙ e) in
    (s, rw same at f, pieces_taken {o = o} {p = escapes o.extended_escapes} (λ h. h) (rw same at d))

pub scanned_of_quoted : (o : Options) (q : ℕ) (bytes v w : List ℕ) (i j : ℕ) → IsQuote o q → Between (IsQuoted o.extended_escapes q v) bytes i j → w ≡ v → Between (IsScanned o (lexeme (string w))) bytes i j
scanned_of_quoted o q bytes v w i j a b e = record { boundary = b.boundary; order = b.order; piece = rw e (string_of_quoted o a b.piece) }

-- where no quote stands that opens a string
pub no_string : (o : Options) {t v r : List ℕ} → IsTrue (no (λ c. c == 0x22 || (c == 0x27 && o.single_quoted_strings)) (next t)) → IsString o t v r → ⊥
no_string o n (q, s, a, e, d) = clash (q == 0x22 || (q == 0x27 && o.single_quoted_strings)) (rw e at n) a

quote_on : (q : ℕ) (b : Bool) → IsTrue (q == 0x22 || (q == 0x27 && b)) → IsTrue (q == 0x22 || (q == 0x27 && true))
quote_on q true h = h
quote_on q false h = grind arith

-- an allowed quote is one of the two
pub either_quote : (o : Options) (q : ℕ) → IsQuote o q → IsQuote all_on q
either_quote o q h = quote_on q o.single_quoted_strings h

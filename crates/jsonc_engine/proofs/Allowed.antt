-- What is a document under some options is one under all, of the same value.
use Rattle.std.proofs.Common.{◌≡◌, ◌≢◌, ◌∙◌, ◌⊎◌, ℕ, Bool, true, false, ◌&&◌, ◌||◌, ◌==◌, List, [], ◌∷◌, ◌++◌, Option, None, Some, IsTrue, ap, arith, codes, inl, inr, refl, subst, sym}
use Rattle.jsonc_text.specs.Options.{Options, all_on}
use Rattle.jsonc_text.specs.Gaps.{Gap, none, blank, comment}
use Rattle.jsonc_text.specs.Grammar.{IsValue, AreElements, AreProperties, IsProperty, IsName, IsDocument, literal, empty_array, array, empty_object, object, last_element, element, last_property, property, named, Separates, comma, no_comma, Closes, plain, trailing_comma, literal_value, may_name}
use Rattle.jsonc_text.specs.Lexemes.{Lexeme, LexemeKind}
use Rattle.jsonc_text.specs.Numbers.{Sign, Fraction, Unsigned, Number}
use Rattle.jsonc_text.specs.Plain.{Plain, Items, Members}
use Rattle.jsonc_text.specs.Strings.{Piece, itself, unit, pair, other, zero, byte, line, lone_cr, cr_lf, Pieces, done, piece, IsQuote, IsString}
use Rattle.jsonc_text.specs.Strings as strings
use Rattle.jsonc_text.specs.Text.{next, no}
use Rattle.jsonc_text.specs.Words.{EndsWhole, EndsWord, WordLit, goes_on, is_in_word}
use Rattle.jsonc_text.proofs.UniqueWords.{ends_word}
use Rattle.jsonc_scan.proofs.Reading.{no_also}

quote_all : (a b c : Bool) → IsTrue (a || (b && c)) → IsTrue (a || (b && true))
quote_all true b c h = refl
quote_all false true c h = refl
quote_all false false c h = h

module _ {o : Options} where
  gap_all : {t r : List ℕ} → Gap o t r → Gap all_on t r
  gap_all none = none
  gap_all (blank h g) = blank h (gap_all g)
  gap_all (comment h k g) = comment refl k (gap_all g)

  separates_all : {t r : List ℕ} → Separates o t r → Separates all_on t r
  separates_all (comma g h) = comma (gap_all g) (gap_all h)
  separates_all (no_comma k g) = no_comma refl (gap_all g)

  closes_all : {c : ℕ} {t r : List ℕ} → Closes o c t r → Closes all_on c t r
  closes_all (plain g) = plain (gap_all g)
  closes_all (trailing_comma k g h) = trailing_comma refl (gap_all g) (gap_all h)

  sign_all : {b : Bool} {t r : List ℕ} → Sign o b t r → Sign all_on b t r
  sign_all Sign.none = Sign.none
  sign_all Sign.minus = Sign.minus
  sign_all (Sign.plus h) = Sign.plus refl

  fraction_all : {t r : List ℕ} → Fraction o t r → Fraction all_on t r
  fraction_all (Fraction.none n) = Fraction.none n
  fraction_all (Fraction.point g) = Fraction.point g
  fraction_all (Fraction.bare_point h n) = Fraction.bare_point refl n

  unsigned_all : {b : Bool} {t r : List ℕ} → Unsigned o b t r → Unsigned all_on b t r
  unsigned_all (Unsigned.hex h q g) = Unsigned.hex refl q g
  unsigned_all (Unsigned.decimal w f z) = Unsigned.decimal w (fraction_all f) z
  unsigned_all (Unsigned.bare_point h g z) = Unsigned.bare_point refl g z
  unsigned_all (Unsigned.infinity h n) = Unsigned.infinity refl n
  unsigned_all (Unsigned.nan h n) = Unsigned.nan refl n

  number_all : {t r : List ℕ} → Number o t r → Number all_on t r
  number_all (b, u, s, n) = (b, u, sign_all s, unsigned_all n)

  piece_all : {q : ℕ} {t w r : List ℕ} → Piece o q t w r → Piece all_on q t w r
  piece_all (itself h k) = itself h k
  piece_all (strings.plain h) = strings.plain h
  piece_all (unit h k) = unit h k
  piece_all (pair h k l m) = pair h k l m
  piece_all (other h k) = other refl k
  piece_all (zero h k) = zero refl k
  piece_all (byte h k) = byte refl k
  piece_all (line h k) = line refl k
  piece_all (lone_cr h k) = lone_cr refl k
  piece_all (cr_lf h) = cr_lf refl

  pieces_all : {q : ℕ} {t v r : List ℕ} → Pieces o q t v r → Pieces all_on q t v r
  pieces_all done = done
  pieces_all (piece k g e) = piece (piece_all k) (pieces_all g) e

  string_all : {t v r : List ℕ} → IsString o t v r → IsString all_on t v r
  string_all (q, s, h, e, d) = (q, s, quote_all (q == 0x22) (q == 0x27) o.single_quoted_strings h, e, pieces_all d)

-- a list is another one, or not
compared : (a b : List ℕ) → (a ≡ b) ⊎ (a ≢ b)
compared [] [] = inl refl
compared [] (c ∷ b) = inr (λ e. cc)
compared (c ∷ a) [] = inr (λ e. cc)
compared (c ∷ a) (d ∷ b) = go (c == d) refl (compared a b)
  where
    go : (same : Bool) → (c == d) ≡ same → (a ≡ b) ⊎ (a ≢ b) → (c ∷ a ≡ d ∷ b) ⊎ (c ∷ a ≢ d ∷ b)
    go true e (inl f) = let is : c ≡ d = grind arith in inl cc
    go true e (inr f) = inr (λ g. f cc)
    go false e f = inr (λ g. (let is : c ≡ d = cc in let wrong : (c == d) ≡ true = grind arith in cc))

whole_in : (c : ℕ) → IsTrue (goes_on c || c == 0x2D || c == 0x5F) → IsTrue (is_in_word c)
whole_in c h = grind arith

-- a word that is `Infinity` or `NaN` is a number under all options
word_ends : (n : Option ℕ) → EndsWord n → EndsWhole n
word_ends n ends = no_also (λ c. goes_on c || c == 0x2D || c == 0x5F) is_in_word whole_in n (ends_word n ends)

-- the text of a word names as well
abbrev IsNamed : List ℕ → List ℕ → Type 0
IsNamed t r = (k : LexemeKind) × IsTrue (may_name k) × Lexeme all_on k t r

word_all : {o : Options} {s t r : List ℕ} → t ≡ s ++ r → WordLit o s (next r) → IsNamed t r
word_all {s = s} {t = t} {r = r} e w = go (compared s (codes "Infinity")) (compared s (codes "NaN"))
  where
    go : (s ≡ codes "Infinity") ⊎ (s ≢ codes "Infinity") → (s ≡ codes "NaN") ⊎ (s ≢ codes "NaN") → IsNamed t r
    go (inl i) n = (LexemeKind.number s, refl, (e, (false, t, Sign.none, subst (λ (x : List ℕ). Unsigned all_on false x r) (ap (λ (x : List ℕ). x ++ r) (sym i) ∙ sym e) (Unsigned.infinity refl (word_ends (next r) w.ends)))))
    go (inr i) (inl n) = (LexemeKind.number s, refl, (e, (false, t, Sign.none, subst (λ (x : List ℕ). Unsigned all_on false x r) (ap (λ (x : List ℕ). x ++ r) (sym n) ∙ sym e) (Unsigned.nan refl (word_ends (next r) w.ends)))))
    go (inr i) (inr n) = (LexemeKind.word s, refl, (e, record { begins = w.begins; goes_on = w.goes_on; ends = w.ends; no_keyword = w.no_keyword; no_number = λ h. (i, n) }))

module _ (o : Options) where
  loose_all : (k : LexemeKind) (t r : List ℕ) → IsTrue (may_name k) → Lexeme o k t r → IsNamed t r
  loose_all (LexemeKind.word s) t r h (e, w) = word_all e w
  loose_all (LexemeKind.number s) t r h (e, n) = (LexemeKind.number s, refl, (e, number_all n))
  loose_all (LexemeKind.keyword k) t r h x = (LexemeKind.keyword k, refl, x)
  loose_all (LexemeKind.string v) t r h x = cc
  loose_all (LexemeKind.punctuation c) t r h x = cc

  name_all : {name t r : List ℕ} → IsName o t name r → IsName all_on t name r
  name_all (inl l) = inl (string_all l)
  name_all {t = t} {r = r} (inr l) = (let k = loose_all l.2 t r l.3 l.4 in inr (refl, l.1, k.0, k.1, k.2))

  literal_all : (k : LexemeKind) {v : Plain} (t r : List ℕ) → Lexeme o k t r → literal_value k ≡ Some v → Lexeme all_on k t r
  literal_all (LexemeKind.string v) t r x e = string_all x
  literal_all (LexemeKind.number s) t r x e = (x.0, number_all x.1)
  literal_all (LexemeKind.keyword k) t r x e = x
  literal_all (LexemeKind.word s) t r x e = cc
  literal_all (LexemeKind.punctuation c) t r x e = x

mutual
  value_all : {o : Options} {v : Plain} {t r : List ℕ} → IsValue o t v r → IsValue all_on t v r
  value_all (literal k {t = t} {r = r} l e) = literal k (literal_all _ k t r l e) e
  value_all (empty_array g) = empty_array (gap_all g)
  value_all (array g e) = array (gap_all g) (elements_all e)
  value_all (empty_object g) = empty_object (gap_all g)
  value_all (object g e) = object (gap_all g) (properties_all e)

  elements_all : {o : Options} {vs : Items} {t r : List ℕ} → AreElements o t vs r → AreElements all_on t vs r
  elements_all (last_element v c) = last_element (value_all v) (closes_all c)
  elements_all (element v s e) = element (value_all v) (separates_all s) (elements_all e)

  properties_all : {o : Options} {ms : Members} {t r : List ℕ} → AreProperties o t ms r → AreProperties all_on t ms r
  properties_all (last_property x c) = last_property (property_all x) (closes_all c)
  properties_all (property x s e) = property (property_all x) (separates_all s) (properties_all e)

  property_all : {o : Options} {name : List ℕ} {v : Plain} {t r : List ℕ} → IsProperty o t name v r → IsProperty all_on t name v r
  property_all (named n g h v) = named (name_all _ n) (gap_all g) (gap_all h) (value_all v)

pub document_all : (o : Options) (t : List ℕ) (w : Option Plain) → IsDocument o t w → IsDocument all_on t w
document_all o t None g = gap_all g
document_all o t (Some v) (u, r, g, x, h) = (u, r, gap_all g, value_all x, gap_all h)

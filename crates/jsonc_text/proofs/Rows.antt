-- Worked rows on lexemes and documents.
use Rattle.std.proofs.Common.{ℕ, ◌≡◌, Bool, true, false, refl, List, [], ◌∷◌, ◌++◌, Some, IsTrue, codes, ap, drop, inl, inr}
use Rattle.jsonc_text.specs.Options.{Options, all_on}
use Rattle.jsonc_text.specs.Text.{Many, stop, step, all_of}
use Rattle.jsonc_text.specs.Gaps.{Gap, IsComment, LineComment, BlockComment, UpToBlockEnd}
use Rattle.jsonc_text.specs.Letters.{is_wide_letter}
use Rattle.jsonc_text.specs.Words.{Keyword, IsKeyword}
use Rattle.jsonc_text.specs.Numbers.{Sign, Whole, Fraction, Exponent, Unsigned, Number}
use Rattle.jsonc_text.specs.Strings.{Piece, Pieces, Decodes}
use Rattle.jsonc_text.specs.Lexemes.{LexemeKind, Lexeme, is_punctuation}
use Rattle.jsonc_text.specs.Grammar.{IsDocument, IsValue, AreElements, AreProperties, IsProperty, Separates, Closes}
use Rattle.jsonc_text.specs.Rows.{five_five, infinity_x, clef_escaped, low_escaped}
use Rattle.jsonc_text.proofs.Basics.{clash, apart, heads, tails}
use Rattle.jsonc_text.proofs.UniqueLexemes.{lexeme_unique}
use Rattle.jsonc_text.proofs.Begins.{string_begins, keyword_begins, word_begins}

no_tail : {c : ℕ} {t : List ℕ} → c ∷ t ≡ [] → ⊥
no_tail e = cc

number_texts : {s u : List ℕ} → LexemeKind.number s ≡ LexemeKind.number u → s ≡ u
number_texts e = cc

no_word_number : {k : Keyword} {s : List ℕ} → LexemeKind.keyword k ≡ LexemeKind.word s → ⊥
no_word_number e = cc

-- `5.` before `.5]`
five_point : Lexeme all_on (LexemeKind.number (codes "5.")) (codes "5..5]") (codes ".5]")
five_point = (refl, (false, codes "5..5]", Sign.none, Unsigned.decimal (Whole.digits refl stop refl) (Fraction.bare_point refl refl) (Exponent.none refl)))

point_five : Lexeme all_on (LexemeKind.number (codes ".5")) (codes ".5]") (codes "]")
point_five = (refl, (false, codes ".5]", Sign.none, Unsigned.bare_point refl (all_of refl stop refl) (Exponent.none refl)))

pub five_five_document : IsDocument all_on (codes "[5..5]") (Some five_five)
five_five_document = (
  codes "[5..5]",
  [],
  Gap.none,
  IsValue.array Gap.none
      (AreElements.element (IsValue.literal (LexemeKind.number (codes "5.")) five_point refl) (Separates.no_comma refl Gap.none)
      (AreElements.last_element (IsValue.literal (LexemeKind.number (codes ".5")) point_five refl) (Closes.plain Gap.none))),
  Gap.none,
)

-- `01` is two numbers
pub zero_first : (o : Options) → Lexeme o (LexemeKind.number (codes "0")) (codes "01") (codes "1")
zero_first o = (refl, (false, codes "01", Sign.none, Unsigned.decimal (Whole.zero refl) (Fraction.none refl) (Exponent.none refl)))

pub no_zero_one : (o : Options) (r : List ℕ) → Lexeme o (LexemeKind.number (codes "01")) (codes "01") r → ⊥
no_zero_one o r x =
    let p = lexeme_unique o (LexemeKind.number (codes "01")) (LexemeKind.number (codes "0")) (codes "01") r (codes "1") x (zero_first o) in
    no_tail (tails (number_texts p.0))

-- `1e` is no lexeme
one_e_exponent : {t r : List ℕ} → t ≡ codes "e" → Exponent t r → ⊥
one_e_exponent p (Exponent.none n) = clash true (rw p at n) refl
one_e_exponent p (Exponent.digits h (all_of a g n)) = no_tail (tails p)
one_e_exponent p (Exponent.signed h k g) = no_tail (tails p)

one_e_fraction : {o : Options} {t u r : List ℕ} → t ≡ codes "e" → Fraction o t u → Exponent u r → ⊥
one_e_fraction p (Fraction.none n) x = one_e_exponent p x
one_e_fraction p (Fraction.point g) x = apart refl p
one_e_fraction p (Fraction.bare_point b n) x = apart refl p

one_e_whole : {o : Options} {u v r : List ℕ} → Whole (codes "1e") u → Fraction o u v → Exponent v r → ⊥
one_e_whole (Whole.digits a Many.stop n) y x = one_e_fraction refl y x
one_e_whole (Whole.digits a (Many.step b k) n) y x = clash true b refl

one_e_number : {o : Options} {r : List ℕ} → Number o (codes "1e") r → ⊥
one_e_number (b, u, s, n) = signed s n
  where
    signed : {o : Options} {b : Bool} {u r : List ℕ} → Sign o b (codes "1e") u → Unsigned o b u r → ⊥
    signed Sign.none (Unsigned.decimal w y x) = one_e_whole w y x

first_mark : {c d : ℕ} {t u : List ℕ} → IsTrue (is_punctuation c) → d ∷ t ≡ c ∷ u → IsTrue (is_punctuation d)
first_mark {c} {d} h e = let p : d ≡ c = heads e in rw p h

pub one_e_none : (o : Options) (k : LexemeKind) (r : List ℕ) → Lexeme o k (codes "1e") r → ⊥
unfolding is_wide_letter
one_e_none o (LexemeKind.string v) r x = clash true (string_begins {o = o} x) refl
one_e_none o (LexemeKind.number s) r (e, n) = one_e_number n
one_e_none o (LexemeKind.word s) r (e, w) = clash true (word_begins r e w) refl
one_e_none o (LexemeKind.keyword k) r x = clash true (keyword_begins k r x) refl
one_e_none o (LexemeKind.punctuation c) r x = clash true (first_mark x.0 x.1) refl

-- `true_` is `true`, then the word `_`
pub true_first : (o : Options) → Lexeme o (LexemeKind.keyword (Keyword.boolean true)) (codes "true_") (codes "_")
unfolding is_wide_letter
true_first o = (refl, refl)

no_keyword_underline : (k : Keyword) (u : List ℕ) → IsKeyword k (codes "_") u → ⊥
no_keyword_underline (Keyword.boolean true) u h = apart refl h.0
no_keyword_underline (Keyword.boolean false) u h = apart refl h.0
no_keyword_underline Keyword.null u h = apart refl h.0

pub underline : (o : Options) → Lexeme o (LexemeKind.word (codes "_")) (codes "_") []
unfolding is_wide_letter
underline o = (refl, record { begins = refl; goes_on = step refl stop; ends = refl; no_keyword = no_keyword_underline; no_number = λ p. (λ h. apart refl h, λ h. apart refl h) })

pub true_no_word : (o : Options) (s r : List ℕ) → Lexeme o (LexemeKind.word s) (codes "true_") r → ⊥
true_no_word o s r x = no_word_number (lexeme_unique o (LexemeKind.keyword (Keyword.boolean true)) (LexemeKind.word s) (codes "true_") (codes "_") r (true_first o) x).0

-- `{Infinity-x: 1}` is one property named `Infinity-x`
no_keyword_i : (k : Keyword) (u : List ℕ) → IsKeyword k (codes "Infinity-x") u → ⊥
no_keyword_i (Keyword.boolean true) u h = apart refl h.0
no_keyword_i (Keyword.boolean false) u h = apart refl h.0
no_keyword_i Keyword.null u h = apart refl h.0

infinity_word : Lexeme all_on (LexemeKind.word (codes "Infinity-x")) (codes "Infinity-x: 1}") (codes ": 1}")
unfolding is_wide_letter
infinity_word = (
  refl,
  record {
    begins = refl;
    goes_on = step refl (step refl (step refl (step refl (step refl (step refl (step refl (step refl (step refl (step refl stop)))))))));
    ends = refl;
    no_keyword = no_keyword_i;
    no_number = λ p. (λ h. no_tail (ap (λ l. drop 8 l) h), λ h. apart refl h);
  },
)

one : Lexeme all_on (LexemeKind.number (codes "1")) (codes "1}") (codes "}")
one = (refl, (false, codes "1}", Sign.none, Unsigned.decimal (Whole.digits refl stop refl) (Fraction.none refl) (Exponent.none refl)))

pub infinity_document : IsDocument all_on (codes "{Infinity-x: 1}") (Some infinity_x)
infinity_document = (
  codes "{Infinity-x: 1}",
  [],
  Gap.none,
  IsValue.object Gap.none
      (AreProperties.last_property
      (IsProperty.named (inr (refl, refl, LexemeKind.word (codes "Infinity-x"), refl, infinity_word)) Gap.none (Gap.blank refl Gap.none) (IsValue.literal (LexemeKind.number (codes "1")) one refl))
      (Closes.plain Gap.none)),
  Gap.none,
)

-- the escape of U+1D11E by a pair
pub clef_decodes : (o : Options) → Decodes o 0x22 clef_escaped (0x1D11E ∷ [])
clef_decodes o = Pieces.piece (Piece.pair refl refl refl refl) Pieces.done refl

-- a low surrogate alone is no piece
low_no_piece : {o : Options} {p r : List ℕ} → Piece o 0x22 (low_escaped ++ 0x22 ∷ []) p r → ⊥
low_no_piece (Piece.itself a b) = b refl
low_no_piece (Piece.plain e) = cc
low_no_piece (Piece.unit a b) = cc
low_no_piece (Piece.other a b) = cc
low_no_piece (Piece.line a b) = cc

pub low_nothing : (o : Options) (v : List ℕ) → Decodes o 0x22 low_escaped v → ⊥
low_nothing o v (Pieces.piece k g e) = low_no_piece k

-- `/*/` is no comment
no_block_end : (r : List ℕ) → UpToBlockEnd (codes "/") r → ⊥
no_block_end r (UpToBlockEnd.later a h) = no_block_end_nil r h
  where
    no_block_end_nil : (r : List ℕ) → UpToBlockEnd [] r → ⊥
    no_block_end_nil r h = elim h [ ]

pub slashes : (r : List ℕ) → IsComment (codes "/*/") r → ⊥
slashes r (inr (BlockComment.block h)) = no_block_end r h
slashes r (inl h) = no_line r h
  where
    no_line : (r : List ℕ) → LineComment (codes "/*/") r → ⊥
    no_line r h = elim h [ ]

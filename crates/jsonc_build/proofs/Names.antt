-- A name that is no string does not begin with a quote.
use Rattle.std.proofs.Common.{ℕ, ◌≡◌, ◌∙◌, sym, ap, refl, Bool, true, false, ◌||◌, ◌==◌, Option, List, [], ◌∷◌, ◌++◌, IsTrue, inl, inr}
use Rattle.std.proofs.lemmas.Bool.{cases_eq, ne_eqb}
use Rattle.std.specs.Int.{is_in_range}
use Rattle.jsonc_text.specs.Options.{Options}
use Rattle.jsonc_text.specs.Text.{next, starts}
use Rattle.jsonc_text.specs.Letters.{is_wide_letter}
use Rattle.jsonc_text.specs.Words as words
use Rattle.jsonc_text.specs.Words.{WordLit, Keyword, IsKeyword, begins_word}
use Rattle.jsonc_text.specs.Numbers as numbers
use Rattle.jsonc_text.specs.Numbers.{Sign, Whole, Unsigned, Number}
use Rattle.jsonc_text.specs.Lexemes as lexemes
use Rattle.jsonc_text.specs.Lexemes.{LexemeKind, Lexeme}
use Rattle.jsonc_text.specs.Grammar.{may_name}
use Rattle.jsonc_build.specs.Laid.{is_quote}

-- the text begins with a quote
abbrev begins_quoted : List ℕ → Bool
begins_quoted t = starts is_quote (next t)

-- a test that no quote passes
not_quote : (p : ℕ → Bool) → p 0x22 ≡ false → p 0x27 ≡ false → (c : ℕ) → IsTrue (p c) → is_quote c ≡ false
not_quote p double single c h =
    elim (cases_eq c 0x22) [
      | inl e ↦ absurd (let wrong : true ≡ false = sym h ∙ ap p e ∙ double in cc)
      | inr other ↦ elim (cases_eq c 0x27) [
        | inl e ↦ absurd (let wrong : true ≡ false = sym h ∙ ap p e ∙ single in cc)
        | inr neither ↦ ap (λ b. b || (c == 0x27)) (ne_eqb c 0x22 other) ∙ ne_eqb c 0x27 neither
      ]
    ]

word_start : (c : ℕ) → IsTrue (begins_word c) → is_quote c ≡ false
unfolding is_wide_letter
word_start = not_quote begins_word refl refl

word_first : (o : Options) (s : List ℕ) (n : Option ℕ) (r : List ℕ) → WordLit o s n → begins_quoted (s ++ r) ≡ false
word_first o [] n r w = absurd (let wrong : false ≡ true = w.begins in cc)
word_first o (c ∷ s) n r w = word_start c w.begins

whole_first : {t r : List ℕ} → Whole t r → begins_quoted t ≡ false
whole_first (numbers.zero h) = refl
whole_first (numbers.digits {c = c} h m n) = not_quote (is_in_range 0x31 0x39) refl refl c h

unsigned_first : {o : Options} {b : Bool} {t r : List ℕ} → Unsigned o b t r → begins_quoted t ≡ false
unsigned_first (numbers.hex a x h) = refl
unsigned_first (numbers.decimal w f e) = whole_first w
unsigned_first (numbers.bare_point a d e) = refl
unsigned_first (numbers.infinity a e) = refl
unsigned_first (numbers.nan a e) = refl

signed_first : {o : Options} {b : Bool} {t u r : List ℕ} → Sign o b t u → Unsigned o b u r → begins_quoted t ≡ false
signed_first Sign.none h = unsigned_first h
signed_first Sign.minus h = refl
signed_first (Sign.plus a) h = refl

keyword_first : (k : Keyword) (t r : List ℕ) → IsKeyword k t r → begins_quoted t ≡ false
keyword_first (words.boolean true) t r h = ap begins_quoted h.0
keyword_first (words.boolean false) t r h = ap begins_quoted h.0
keyword_first words.null t r h = ap begins_quoted h.0

pub loose_first : (o : Options) (k : LexemeKind) (t r : List ℕ) → IsTrue (may_name k) → Lexeme o k t r → begins_quoted t ≡ false
loose_first o (lexemes.word s) t r may h = ap begins_quoted h.0 ∙ word_first o s (next r) r h.1
loose_first o (lexemes.number s) t r may h = signed_first h.1.2 h.1.3
loose_first o (lexemes.keyword k) t r may h = keyword_first k t r h
loose_first o (lexemes.string v) t r may h = absurd (let wrong : false ≡ true = may in cc)
loose_first o (lexemes.punctuation c) t r may h = absurd (let wrong : false ≡ true = may in cc)

-- With which characters a lexeme of each kind begins.
use Rattle.std.proofs.Common.{ℕ, ◌≡◌, ◌<◌, ◌≤◌, Bool, true, false, not, ◌||◌, ◌&&◌, ◌==◌, refl, List, ◌++◌, Option, IsTrue, arith, inl, inr}
use Rattle.std.specs.Int.{is_in_range}
use Rattle.jsonc_text.specs.Options.{Options}
use Rattle.jsonc_text.specs.Text.{next, starts, is_digit, is_ascii_letter}
use Rattle.jsonc_text.specs.Gaps.{is_blank}
use Rattle.jsonc_text.specs.Letters.{is_wide_letter}
use Rattle.jsonc_text.specs.Words.{Keyword, IsKeyword, WordLit, begins_word, boolean, null}
use Rattle.jsonc_text.specs.Numbers.{Number, Sign, Unsigned, Whole}
use Rattle.jsonc_text.specs.Strings.{IsString}
use Rattle.jsonc_text.specs.Lexemes.{LexemeKind, Lexeme, is_punctuation}
use Rattle.jsonc_text.proofs.Basics.{clash, or_cases, test_eq, starts_also, starts_front, Apart}
use Rattle.jsonc_text.proofs.UniqueGaps.{begins_gap}
use Rattle.jsonc_text.proofs.WideBlanks.{blank_not_wide, wide_past_ascii}

-- begins a lexeme that is no punctuation
abbrev pub begins_literal : ℕ → Bool
begins_literal c = not (begins_gap c || is_punctuation c)

-- begins a value or a name
abbrev pub begins_item : ℕ → Bool
begins_item c = not (begins_gap c || c == 0x7D || c == 0x5D || c == 0x2C || c == 0x3A)

-- a kind that is not punctuation
abbrev pub IsLiteral : LexemeKind → Type 0
IsLiteral (LexemeKind.punctuation c) = ⊥
IsLiteral _ = Unit {0}

abbrev pub is_quote : ℕ → Bool
is_quote c = c == 0x22 || c == 0x27

abbrev pub begins_number : ℕ → Bool
begins_number c = is_digit c || c == 0x2B || c == 0x2D || c == 0x2E || c == 0x49 || c == 0x4E

pub string_begins : {o : Options} {t v r : List ℕ} → IsString o t v r → IsTrue (starts is_quote (next t))
string_begins {o} {t} (q, s, a, e, h) = rw e (quote q o.single_quoted_strings a)
  where
    quote : (q : ℕ) (b : Bool) → IsTrue (q == 0x22 || (q == 0x27 && b)) → IsTrue (q == 0x22 || q == 0x27)
    quote q true h = grind arith
    quote q false h = grind arith

digit_begins : (c : ℕ) → IsTrue (is_in_range 0x31 0x39 c) → IsTrue (begins_number c)
digit_begins c h = grind arith

unsigned_begins_number : {o : Options} {b : Bool} {t r : List ℕ} → Unsigned o b t r → IsTrue (starts begins_number (next t))
unsigned_begins_number (Unsigned.hex p q g) = refl
unsigned_begins_number (Unsigned.decimal (Whole.zero a) y e) = refl
unsigned_begins_number (Unsigned.decimal (Whole.digits {c = c} h g a) y e) = digit_begins c h
unsigned_begins_number (Unsigned.bare_point p g e) = refl
unsigned_begins_number (Unsigned.infinity p n) = refl
unsigned_begins_number (Unsigned.nan p n) = refl

pub number_begins : {o : Options} {t r : List ℕ} → Number o t r → IsTrue (starts begins_number (next t))
number_begins (b, u, s, n) = signed s n
  where
    signed : {o : Options} {b : Bool} {t u r : List ℕ} → Sign o b t u → Unsigned o b u r → IsTrue (starts begins_number (next t))
    signed Sign.none n = unsigned_begins_number n
    signed Sign.minus n = refl
    signed (Sign.plus p) n = refl

abbrev pub begins_keyword : ℕ → Bool
begins_keyword c = c == 0x74 || c == 0x66 || c == 0x6E

pub keyword_begins : (k : Keyword) {t : List ℕ} (r : List ℕ) → IsKeyword k t r → IsTrue (starts begins_keyword (next t))
keyword_begins (boolean true) r a = rw a.0 refl
keyword_begins (boolean false) r a = rw a.0 refl
keyword_begins null r a = rw a.0 refl

pub word_begins : {o : Options} {s t : List ℕ} (r : List ℕ) {n : Option ℕ} → t ≡ s ++ r → WordLit o s n → IsTrue (starts begins_word (next t))
word_begins {s = s} r e w = starts_front begins_word s r e w.begins

pub quote_number : Apart is_quote begins_number
unfolding Apart
quote_number c g h = grind arith

pub quote_keyword : Apart is_quote begins_keyword
unfolding Apart
quote_keyword c g h = grind arith

pub quote_word : Apart is_quote begins_word
unfolding Apart is_wide_letter
quote_word c g h = elim (or_cases (c == 0x22) (c == 0x27) g) [ inl e ↦ (let k : IsTrue (begins_word 0x22) = rw (test_eq c 0x22 e) at h in cc) | inr e ↦ (let k : IsTrue (begins_word 0x27) = rw (test_eq c 0x27 e) at h in cc) ]

pub number_keyword : Apart begins_number begins_keyword
unfolding Apart
number_keyword c g h = grind arith

-- begins a number that begins no word
unfoldable pub begins_plain_number : ℕ → Bool
begins_plain_number c = is_digit c || c == 0x2B || c == 0x2D || c == 0x2E

plain_small : (c : ℕ) → IsTrue (begins_plain_number c) → c < 0x80
unfolding begins_plain_number
plain_small c g = grind arith

plain_ascii : (c : ℕ) → IsTrue (begins_plain_number c) → IsTrue (is_ascii_letter c || c == 0x5F || c == 0x24) → ⊥
unfolding begins_plain_number
plain_ascii c g h = grind arith

pub plain_number_word : Apart begins_plain_number begins_word
unfolding Apart
plain_number_word c g h = elim (or_cases _ (is_wide_letter c) h) [ inl e ↦ plain_ascii c g e | inr e ↦ omega (arith, plain_small c g, wide_past_ascii c e) ]

pub digit_plain : (c : ℕ) → IsTrue (is_in_range 0x31 0x39 c) → IsTrue (begins_plain_number c)
unfolding begins_plain_number
digit_plain c h = grind arith

pub literal_no_punctuation : Apart is_punctuation begins_literal
unfolding Apart
literal_no_punctuation c m b = grind arith

no_ascii_blank : (c : ℕ) → 0x21 ≤ c → c < 0x80 → IsTrue (not (is_blank c))
no_ascii_blank c a b = grind arith

ascii_literal : (c : ℕ) → 0x21 ≤ c → c < 0x80 → IsTrue (not (c == 0x2F || is_punctuation c)) → IsTrue (begins_literal c)
ascii_literal c a b m = all (is_blank c) (c == 0x2F) (is_punctuation c) (no_ascii_blank c a b) m
  where
    all : (x y z : Bool) → IsTrue (not x) → IsTrue (not (y || z)) → IsTrue (not ((x || y) || z))
    all true y z h k = cc
    all false y z h k = k

quote_literal : (c : ℕ) → IsTrue (is_quote c) → IsTrue (begins_literal c)
quote_literal c h = elim (or_cases (c == 0x22) (c == 0x27) h) [ inl e ↦ rw (test_eq c 0x22 e) refl | inr e ↦ rw (test_eq c 0x27 e) refl ]

keyword_literal : (c : ℕ) → IsTrue (begins_keyword c) → IsTrue (begins_literal c)
keyword_literal c h = ascii_literal c (low c h) (high c h) (other c h)
  where
    low : (c : ℕ) → IsTrue (begins_keyword c) → 0x21 ≤ c
    low c h = grind arith

    high : (c : ℕ) → IsTrue (begins_keyword c) → c < 0x80
    high c h = grind arith

    other : (c : ℕ) → IsTrue (begins_keyword c) → IsTrue (not (c == 0x2F || is_punctuation c))
    other c h = grind arith

range_literal : (lo hi c : ℕ) → IsTrue (is_in_range lo hi c) → (lo ≤ c) × (c ≤ hi)
range_literal lo hi c h = (low lo hi c h, high lo hi c h)
  where
    low : (lo hi c : ℕ) → IsTrue (is_in_range lo hi c) → lo ≤ c
    low lo hi c h = grind arith

    high : (lo hi c : ℕ) → IsTrue (is_in_range lo hi c) → c ≤ hi
    high lo hi c h = grind arith

digits_no_punctuation : (c : ℕ) → 0x30 ≤ c → c ≤ 0x39 → IsTrue (not (c == 0x2F || is_punctuation c))
digits_no_punctuation c a b = grind arith

upper_no_punctuation : (c : ℕ) → 0x41 ≤ c → c ≤ 0x5A → IsTrue (not (c == 0x2F || is_punctuation c))
upper_no_punctuation c a b = grind arith

lower_no_punctuation : (c : ℕ) → 0x61 ≤ c → c ≤ 0x7A → IsTrue (not (c == 0x2F || is_punctuation c))
lower_no_punctuation c a b = grind arith

digit_literal : (c : ℕ) → IsTrue (is_digit c) → IsTrue (begins_literal c)
digit_literal c h = let r = range_literal 0x30 0x39 c h in ascii_literal c (omega (arith, r.0)) (omega (arith, r.1)) (digits_no_punctuation c r.0 r.1)

letter_literal : (c : ℕ) → IsTrue (is_ascii_letter c) → IsTrue (begins_literal c)
letter_literal c h =
    elim (or_cases (is_in_range 0x41 0x5A c) (is_in_range 0x61 0x7A c) h) [
      | inl e ↦ (let r = range_literal 0x41 0x5A c e in ascii_literal c (omega (arith, r.0)) (omega (arith, r.1)) (upper_no_punctuation c r.0 r.1))
      | inr e ↦ (let r = range_literal 0x61 0x7A c e in ascii_literal c (omega (arith, r.0)) (omega (arith, r.1)) (lower_no_punctuation c r.0 r.1))
    ]

number_literal : (c : ℕ) → IsTrue (begins_number c) → IsTrue (begins_literal c)
number_literal c h =
    elim (or_cases _ (c == 0x4E) h) [
      | inr e ↦ rw (test_eq c 0x4E e) refl
      | inl h ↦
          elim (or_cases _ (c == 0x49) h) [
            | inr e ↦ rw (test_eq c 0x49 e) refl
            | inl h ↦
                elim (or_cases _ (c == 0x2E) h) [
                  | inr e ↦ rw (test_eq c 0x2E e) refl
                  | inl h ↦
                      elim (or_cases _ (c == 0x2D) h) [
                        | inr e ↦ rw (test_eq c 0x2D e) refl
                        | inl h ↦
                            elim (or_cases (is_digit c) (c == 0x2B) h) [ inr e ↦ rw (test_eq c 0x2B e) refl | inl e ↦ digit_literal c e ]
                      ]
                ]
          ]
    ]

abbrev ascii_word : ℕ → Bool
ascii_word c = is_ascii_letter c || c == 0x5F || c == 0x24

ascii_word_literal : (c : ℕ) → IsTrue (ascii_word c) → IsTrue (begins_literal c)
ascii_word_literal c h =
    elim (or_cases _ (c == 0x24) h) [
      | inr e ↦ rw (test_eq c 0x24 e) refl
      | inl h ↦
          elim (or_cases (is_ascii_letter c) (c == 0x5F) h) [ inr e ↦ rw (test_eq c 0x5F e) refl | inl e ↦ letter_literal c e ]
    ]

wide_literal : (c : ℕ) → IsTrue (is_wide_letter c) → IsTrue (begins_literal c)
wide_literal c w = all (is_blank c) (c == 0x2F) (is_punctuation c) blank mark
  where
    all : (x y z : Bool) → IsTrue (not x) → IsTrue (not (y || z)) → IsTrue (not ((x || y) || z))
    all true y z h k = cc
    all false y z h k = k

    blank_at : (b : Bool) → (IsTrue b → IsTrue (not (is_wide_letter c))) → IsTrue (not b)
    blank_at true f = absurd (clash (is_wide_letter c) (f refl) w)
    blank_at false f = refl

    blank : IsTrue (not (is_blank c))
    blank = blank_at (is_blank c) (blank_not_wide c)

    high : (d : ℕ) → 0x7F < d → IsTrue (not (d == 0x2F || is_punctuation d))
    high d l = grind arith

    mark : IsTrue (not (c == 0x2F || is_punctuation c))
    mark = high c (wide_past_ascii c w)

word_literal : (c : ℕ) → IsTrue (begins_word c) → IsTrue (begins_literal c)
word_literal c h = elim (or_cases _ (is_wide_letter c) h) [ inl e ↦ ascii_word_literal c e | inr e ↦ wide_literal c e ]

pub lexeme_begins : (o : Options) (k : LexemeKind) (t r : List ℕ) → IsLiteral k → Lexeme o k t r → IsTrue (starts begins_literal (next t))
lexeme_begins o (LexemeKind.string v) t r a x = starts_also is_quote begins_literal quote_literal (next t) (string_begins {o = o} x)
lexeme_begins o (LexemeKind.number v) t r a (e, n) = starts_also begins_number begins_literal number_literal (next t) (number_begins n)
lexeme_begins o (LexemeKind.word v) t r a (e, x) = starts_also begins_word begins_literal word_literal (next t) (word_begins r e x)
lexeme_begins o (LexemeKind.keyword v) t r a x = starts_also begins_keyword begins_literal keyword_literal (next t) (keyword_begins v r x)
lexeme_begins o (LexemeKind.punctuation c) t r a x = absurd a

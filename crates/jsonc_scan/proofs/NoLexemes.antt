-- Where no lexeme and no comment stands.
use Rattle.std.proofs.Common.{inl, inr, ℕ, ◌+◌, ◌≡◌, ◌∙◌, sym, refl, Bool, true, false, not, List, [], ◌∷◌, ◌++◌, Option, IsTrue, arith, ◌==◌, ◌||◌, ◌&&◌, codes}
use Rattle.std.specs.Int.{is_in_range}
use Rattle.jsonc_text.specs.Options.{Options}
use Rattle.jsonc_text.specs.Text.{rest, next, no, starts, all_of, is_digit}
use Rattle.jsonc_text.specs.Chars.{Steps}
use Rattle.jsonc_text.specs.Gaps.{IsComment}
use Rattle.jsonc_text.specs.Letters.{is_wide_letter}
use Rattle.jsonc_text.specs.Lexemes.{lexeme, line_comment, block_comment, LexemeKind, is_punctuation}
use Rattle.jsonc_text.specs.Numbers.{Sign, Whole, Unsigned, Number}
use Rattle.jsonc_text.specs.Strings.{IsString}
use Rattle.jsonc_text.specs.Words.{Keyword, IsKeyword, begins_word}
use Rattle.jsonc_text.specs.string.Between.{LacksAt, NoneFrom}
use Rattle.jsonc_scan.specs.Between.{IsWhole}
use Rattle.jsonc_scan.specs.Reads.{begins_number, NoNames, NoNameOrWord, NoWord, NothingAt}
use Rattle.jsonc_text.specs.string.Quotes.{OpensNoString, OpensString}
use Rattle.jsonc_text.proofs.Basics.{clash, or_cases, or_left, or_right, and_both, heads, no_both, no_starts, Apart}
use Rattle.jsonc_text.proofs.Begins.{is_quote, begins_keyword, begins_plain_number, string_begins, number_begins, keyword_begins, word_begins, plain_number_word, quote_number, number_keyword, quote_keyword, quote_word}
use Rattle.jsonc_text.proofs.Begins.{begins_number as begins_any_number}
use Rattle.jsonc_text.proofs.UniqueGaps.{comment_begins}
use Rattle.jsonc_text.specs.string.Escapes.{NoQuoted}
use Rattle.jsonc_text.proofs.lemmas.string.QuotedStrings.{no_string, quoted_of_string}

never : IsTrue false → ⊥
never h = cc

-- no string stands at a place
abbrev NoString : Options → List ℕ → ℕ → Type 0
NoString o bytes start = (v r : List ℕ) → IsString o (rest bytes start) v r → ⊥

abbrev NoKeyword : List ℕ → ℕ → Type 0
NoKeyword bytes start = (k : Keyword) → NoneFrom (IsKeyword k) bytes start

-- each kind in turn
nothing : (o : Options) (bytes : List ℕ) (i : ℕ) → NoString o bytes i → NoneFrom (Number o) bytes i → NoWord o bytes i → NoKeyword bytes i → LacksAt is_punctuation bytes i → NoneFrom IsComment bytes i → NothingAt o bytes i
nothing o bytes i s n w k p c (lexeme (LexemeKind.string v)) r x = s v r x
nothing o bytes i s n w k p c (lexeme (LexemeKind.number v)) r x = n r x.1
nothing o bytes i s n w k p c (lexeme (LexemeKind.word v)) r x = w v r x
nothing o bytes i s n w k p c (lexeme (LexemeKind.keyword v)) r x = k v r x
nothing o bytes i s n w k p c (lexeme (LexemeKind.punctuation v)) r x = clash (is_punctuation v) (rw x.1 at p) x.0
nothing o bytes i s n w k p c (line_comment v) r x = c r (inl x.0)
nothing o bytes i s n w k p c (block_comment v) r x = c r (inr x.0)

-- a first character with which none of a kind begins
no_string_first : {o : Options} {t v r u : List ℕ} (c : ℕ) → t ≡ c ∷ u → IsTrue (not (is_quote c)) → IsString o t v r → ⊥
no_string_first {o} c e n x = clash (is_quote c) n (rw e at (string_begins {o = o} x))

no_number_first : {o : Options} {t r u : List ℕ} (c : ℕ) → t ≡ c ∷ u → IsTrue (not (begins_any_number c)) → Number o t r → ⊥
no_number_first c e n x = clash (begins_any_number c) n (rw e at (number_begins x))

no_word_first : {o : Options} {u : List ℕ} (bytes : List ℕ) (i c : ℕ) → rest bytes i ≡ c ∷ u → IsTrue (not (begins_word c)) → NoWord o bytes i
no_word_first bytes i c e n s r x = clash (begins_word c) n (rw e at (word_begins r x.0 x.1))

no_keyword_first : {u : List ℕ} (bytes : List ℕ) (i c : ℕ) → rest bytes i ≡ c ∷ u → IsTrue (not (begins_keyword c)) → NoKeyword bytes i
no_keyword_first bytes i c e n k r x = clash (begins_keyword c) n (rw e at (keyword_begins k r x))

no_comment_first : {t r u : List ℕ} (c : ℕ) → t ≡ c ∷ u → IsTrue (not (c == 0x2F)) → IsComment t r → ⊥
no_comment_first c e n x = clash (c == 0x2F) n (rw e at (comment_begins x))

pub slash_word : IsTrue (not (begins_word 0x2F))
unfolding is_wide_letter
slash_word = refl

-- where a slash begins no comment
pub lone_slash_nothing : (o : Options) (bytes : List ℕ) (i : ℕ) → Steps bytes i 0x2F (i + 1) → NoneFrom IsComment bytes i → NothingAt o bytes i
lone_slash_nothing o bytes i s n =
    nothing o bytes i (λ v r x. no_string_first {o = o} 0x2F s.0 refl x) (λ r x. no_number_first 0x2F s.0 refl x) (no_word_first bytes i 0x2F s.0 slash_word) (no_keyword_first bytes i 0x2F s.0 refl) (rw s.0 refl) n

apostrophe_word : IsTrue (not (begins_word 0x27))
unfolding is_wide_letter
apostrophe_word = refl

apostrophe_no_string : (o : Options) {t u v r : List ℕ} → t ≡ 0x27 ∷ u → IsTrue (not o.single_quoted_strings) → IsString o t v r → ⊥
apostrophe_no_string o e n (q, s, a, f, d) = clash o.single_quoted_strings n (rw (heads (sym f ∙ e)) at a)

-- where a single quote opens no string
pub apostrophe_nothing : (o : Options) (bytes : List ℕ) (i : ℕ) → Steps bytes i 0x27 (i + 1) → OpensNoString o bytes i → NothingAt o bytes i
apostrophe_nothing o bytes i s n =
    nothing o bytes i (λ v r x. apostrophe_no_string o s.0 (rw s.0 at n) x) (λ r x. no_number_first 0x27 s.0 refl x) (no_word_first bytes i 0x27 s.0 apostrophe_word) (no_keyword_first bytes i 0x27 s.0 refl) (rw s.0 refl) (λ r x. no_comment_first 0x27 s.0 refl x)

-- what begins a number that is no name
plain_first : (t : List ℕ) → begins_number t ≡ true → IsTrue (starts begins_plain_number (next t))
unfolding begins_plain_number
plain_first [] h = cc
plain_first (c ∷ t) h =
    elim (or_cases (is_digit c || c == 0x2B || c == 0x2D) (c == 0x2E && starts is_digit (next t)) h) [
      | inl e ↦ or_left (is_digit c || c == 0x2B || c == 0x2D) (c == 0x2E) e
      | inr e ↦ or_right (is_digit c || c == 0x2B || c == 0x2D) (c == 0x2E) (and_both (c == 0x2E) (starts is_digit (next t)) e).0
    ]

plain_quote : Apart begins_plain_number is_quote
unfolding Apart begins_plain_number
plain_quote c g h = quote_number c h (or_left _ (c == 0x4E) (or_left _ (c == 0x49) g))

plain_keyword : Apart begins_plain_number begins_keyword
unfolding Apart begins_plain_number
plain_keyword c g h = number_keyword c (or_left _ (c == 0x4E) (or_left _ (c == 0x49) g)) h

plain_punctuation : Apart begins_plain_number is_punctuation
unfolding Apart begins_plain_number
plain_punctuation c g h = grind arith

plain_slash : Apart begins_plain_number (λ c. c == 0x2F)
unfolding Apart begins_plain_number
plain_slash c g h = grind arith

apart_no : (p q : ℕ → Bool) → Apart p q → (n : Option ℕ) → IsTrue (starts p n) → IsTrue (no q n)
unfolding Apart
apart_no p q a Option.None h = refl
apart_no p q a (Option.Some c) h = go (q c) (a c h)
  where
    go : (b : Bool) → (IsTrue b → ⊥) → IsTrue (not b)
    go true f = absurd (f refl)
    go false f = refl

infinity_no_number : {t r : List ℕ} → t ≡ codes "Infinity" ++ r → begins_number t ≡ true → ⊥
infinity_no_number e h = never (rw e at h)

nan_no_number : {t r : List ℕ} → t ≡ codes "NaN" ++ r → begins_number t ≡ true → ⊥
nan_no_number e h = never (rw e at h)

pub lacks_names : (bytes : List ℕ) (i : ℕ) → LacksAt (λ c. c == 0x49 || c == 0x4E) bytes i → NoNames bytes i
lacks_names bytes i h = (λ r x. never (rw x.0 at h), λ r x. never (rw x.0 at h))

pub number_no_names : (bytes : List ℕ) (i : ℕ) → begins_number (rest bytes i) ≡ true → NoNames bytes i
number_no_names bytes i h = (λ r x. infinity_no_number x.0 h, λ r x. nan_no_number x.0 h)

-- where what begins as a number is none
pub number_nothing : (o : Options) (bytes : List ℕ) (i : ℕ) → begins_number (rest bytes i) ≡ true → NoneFrom (Number o) bytes i → NothingAt o bytes i
number_nothing o bytes i h n =
    let t = rest bytes i in
    let f = plain_first t h in
    nothing
    o
    bytes
    i
    (λ v r x. no_both begins_plain_number is_quote plain_quote (next t) f (string_begins {o = o} x))
    n
    (λ s r x. no_both begins_plain_number begins_word plain_number_word (next t) f (word_begins r x.0 x.1))
    (λ k r x. no_both begins_plain_number begins_keyword plain_keyword (next t) f (keyword_begins k r x))
    (apart_no begins_plain_number is_punctuation plain_punctuation (next t) f)
    (λ r x. no_both begins_plain_number (λ c. c == 0x2F) plain_slash (next t) f (comment_begins x))

differ : {b : Bool} → b ≡ false → IsTrue b → ⊥
differ h k = let both : true ≡ false = sym k ∙ h in cc

nonzero_digit : (c : ℕ) → IsTrue (is_in_range 0x31 0x39 c) → IsTrue (is_digit c)
nonzero_digit c h = grind arith

-- a number that begins with none of these is a name
unsigned_name : {o : Options} {t r : List ℕ} → begins_number t ≡ false → (IsTrue o.non_finite_numbers → (s : List ℕ) → IsWhole (codes "Infinity") t s → ⊥) → (IsTrue o.non_finite_numbers → (s : List ℕ) → IsWhole (codes "NaN") t s → ⊥) → Unsigned o false t r → ⊥
unsigned_name h i n (Unsigned.hex p q g) = cc
unsigned_name h i n (Unsigned.decimal (Whole.zero a) f e) = cc
unsigned_name h i n (Unsigned.decimal (Whole.digits {c = c} k g a) f e) =
    differ h (or_left _ _ (or_left _ (c == 0x2D) (or_left (is_digit c) (c == 0x2B) (nonzero_digit c k))))
unsigned_name h i n (Unsigned.bare_point p (all_of k g a) e) = differ h k
unsigned_name {r = r} h i n (Unsigned.infinity p m) = i p r (refl, m)
unsigned_name {r = r} h i n (Unsigned.nan p m) = n p r (refl, m)

pub number_name : {o : Options} {t r : List ℕ} → begins_number t ≡ false → (IsTrue o.non_finite_numbers → (s : List ℕ) → IsWhole (codes "Infinity") t s → ⊥) → (IsTrue o.non_finite_numbers → (s : List ℕ) → IsWhole (codes "NaN") t s → ⊥) → Number o t r → ⊥
number_name h i n (b, u, s, x) = signed s h i n x
  where
    signed : {o : Options} {b : Bool} {t u r : List ℕ} → Sign o b t u → begins_number t ≡ false → (IsTrue o.non_finite_numbers → (s : List ℕ) → IsWhole (codes "Infinity") t s → ⊥) → (IsTrue o.non_finite_numbers → (s : List ℕ) → IsWhole (codes "NaN") t s → ⊥) → Unsigned o b u r → ⊥
    signed Sign.none h i n x = unsigned_name h i n x
    signed Sign.minus h i n x = cc
    signed (Sign.plus p) h i n x = cc

-- where no word stands, and nothing that begins otherwise
pub word_nothing : (o : Options) (bytes : List ℕ) (i : ℕ) → OpensNoString o bytes i → LacksAt is_punctuation bytes i → LacksAt (λ c. c == 0x2F) bytes i → begins_number (rest bytes i) ≡ false → NoKeyword bytes i → NoNameOrWord o bytes i → NothingAt o bytes i
word_nothing o bytes i q p c n k w =
    nothing
    o
    bytes
    i
    (λ v r x. no_string o q x)
    (λ r x. number_name n (λ a. (w.0 a).0) (λ a. (w.0 a).1) x)
    w.1
    k
    p
    (λ r x. no_starts (λ c. c == 0x2F) (next (rest bytes i)) c (comment_begins x))

quote_punctuation : Apart is_quote is_punctuation
unfolding Apart
quote_punctuation c g h = grind arith

quote_slash : Apart is_quote (λ c. c == 0x2F)
unfolding Apart
quote_slash c g h = grind arith

allowed_quote : (q : ℕ) (b : Bool) → IsTrue (q == 0x22 || (q == 0x27 && b)) → IsTrue (is_quote q)
allowed_quote q true h = grind arith
allowed_quote q false h = grind arith

-- where no string with that quote stands
pub string_nothing : (o : Options) (bytes : List ℕ) (i q : ℕ) → OpensString o bytes i q → NoQuoted o.extended_escapes q bytes i → NothingAt o bytes i
string_nothing o bytes i q h n =
    let t = rest bytes i in
    let f : IsTrue (starts is_quote (next t)) = rw h.here.0 (allowed_quote q o.single_quoted_strings h.allowed) in
    nothing
    o
    bytes
    i
    (λ v r x. n v r (quoted_of_string o h.here.0 x))
    (λ r x. no_both is_quote begins_any_number quote_number (next t) f (number_begins x))
    (λ s r x. no_both is_quote begins_word quote_word (next t) f (word_begins r x.0 x.1))
    (λ k r x. no_both is_quote begins_keyword quote_keyword (next t) f (keyword_begins k r x))
    (apart_no is_quote is_punctuation quote_punctuation (next t) f)
    (λ r x. no_both is_quote (λ c. c == 0x2F) quote_slash (next t) f (comment_begins x))

-- Where a fault is told, no lexeme and no comment stands.
use Rattle.std.proofs.Common.{ℕ, ◌<◌, ◌≡◌, ◌∙◌, ◌⊎◌, inl, inr, sym, ap, refl, Bool, true, false, not, List, [], ◌∷◌, ◌++◌, IsTrue, arith, ◌==◌, ◌||◌, ◌&&◌}
use Rattle.jsonc_text.specs.declared.errors.ParseErrorKind.{ParseErrorKind}
use Rattle.jsonc_text.specs.Gaps.{LineComment, BlockComment, UpToBlockEnd, line, block}
use Rattle.jsonc_text.specs.Letters.{is_wide_letter}
use Rattle.jsonc_text.specs.Lexemes.{LexemeKind, Scanned, lexeme, line_comment, block_comment, IsScanned, is_punctuation}
use Rattle.jsonc_text.specs.Numbers.{Sign, Unsigned, Number}
use Rattle.jsonc_text.specs.Options.{Options}
use Rattle.jsonc_text.specs.Strings.{IsString}
use Rattle.jsonc_text.specs.Text.{next, starts, is_ascii_letter}
use Rattle.jsonc_text.specs.Words.{Keyword, boolean, null, IsKeyword, WordLit, begins_word}
use Rattle.jsonc_text.proofs.lemmas.string.OneFault.{no_string_told}
use Rattle.jsonc_text.proofs.lemmas.string.QuotedStrings.{quoted_of_string}
use Rattle.jsonc_scan.specs.Reads.{begins_number}
use Rattle.jsonc_scan.specs.Faults.{LexemeFault, begins_digits}
use Rattle.jsonc_text.proofs.Basics.{heads, tails, or_cases}
use Rattle.jsonc_text.proofs.Begins.{word_begins}
use Rattle.jsonc_text.proofs.UniqueGaps.{many_unique, all_starts}
use Rattle.jsonc_text.proofs.UniqueNumbers.{whole_begins}
use Rattle.jsonc_text.proofs.UniqueWords.{ends_word, word_run}
use Rattle.jsonc_text.proofs.WideBlanks.{wide_past_ascii}
use Rattle.jsonc_scan.proofs.OneNumberFault.{never, false_of, digits_begin, no_number_told}
use Rattle.jsonc_scan.proofs.OneFault.{comment, string, number, word, nothing, group, group_of, Grouped, of_comment, of_string, of_number, of_word, of_nothing, grouped, string_begins, string_group, word_group, signed_group}

-- strings
no_string : {o : Options} {k : ParseErrorKind} {s v t r u : List ℕ} → LexemeFault o k s t r → IsString o s v u → ⊥
no_string {o} {s = s} {v = v} {u = u} x (q, i, a, e, d) = go (rw (ap (group_of o) e ∙ string_group o q (i ++ q ∷ u) a) at (grouped x))
  where
    allowed : (q : ℕ) (b : Bool) → IsTrue (q == 0x22 || (q == 0x27 && b)) → IsTrue (q == 0x22 || (q == 0x27 && true))
    allowed q true h = h
    allowed q false h = grind arith

    go : {k : ParseErrorKind} {t r : List ℕ} → Grouped o s string k t r → ⊥
    go (of_string {q = p} {k = k} {t = t} {r = r} y) =
        let same : p ≡ q = heads (sym (string_begins y).1 ∙ e) in
        no_string_told o.extended_escapes q k s t r v u (allowed q o.single_quoted_strings a) (rw same at y) (quoted_of_string o e (q, i, a, e, d))

-- numbers
name_first : {m u : List ℕ} {o : Options} → Unsigned o false m u → IsTrue (begins_digits m) ⊎ IsTrue (starts begins_word (next m))
name_first (Unsigned.hex p q g) = inl refl
name_first {m = m} (Unsigned.decimal w f e) = inl (digits_begin m (whole_begins w))
name_first (Unsigned.bare_point p g e) = inl (all_starts g)
name_first (Unsigned.infinity p n) = inr refl
name_first (Unsigned.nan p n) = inr refl

first_word : (o : Options) (s : List ℕ) → IsTrue (starts begins_word (next s)) → group_of o s ≡ word
first_word o [] h = absurd (never h)
first_word o (c ∷ s) h = word_group o c s h

number_or_word : {o : Options} {s u : List ℕ} → Number o s u → (group_of o s ≡ number) ⊎ (group_of o s ≡ word)
number_or_word {o} {s} (d, n, c, g) = go c g
  where
    signed_never : (m : List ℕ) → true ≡ false → IsTrue (begins_digits m)
    signed_never m e = cc

    by_first : (s : List ℕ) → IsTrue (begins_digits s) ⊎ IsTrue (starts begins_word (next s)) → (group_of o s ≡ number) ⊎ (group_of o s ≡ word)
    by_first s (inl h) = inl (signed_group {o = o} {s = s} Sign.none (λ e. h))
    by_first s (inr h) = inr (first_word o s h)

    go : {d : Bool} {s n u : List ℕ} → Sign o d s n → Unsigned o d n u → (group_of o s ≡ number) ⊎ (group_of o s ≡ word)
    go {s = s} Sign.none g = by_first s (name_first g)
    go (Sign.minus {r = m}) g = inl (signed_group {o = o} {s = 0x2D ∷ m} Sign.minus (signed_never m))
    go (Sign.plus {r = m} p) g = inl (signed_group {o = o} {s = 0x2B ∷ m} (Sign.plus p) (signed_never m))

no_number : {o : Options} {k : ParseErrorKind} {s t r u : List ℕ} → LexemeFault o k s t r → Number o s u → ⊥
no_number {o} {s = s} {u = u} x n = elim (number_or_word n) [
  | inl e ↦ as_number (rw e at (grouped x))
  | inr e ↦ as_word (rw e at (grouped x))
]
  where
    as_number : {k : ParseErrorKind} {t r : List ℕ} → Grouped o s number k t r → ⊥
    as_number (of_number y) = no_number_told y n

    as_word : {k : ParseErrorKind} {t r : List ℕ} → Grouped o s word k t r → ⊥
    as_word (of_word b) = b.no_number u n

-- words and keywords
no_word : {o : Options} {k : ParseErrorKind} {s w t r : List ℕ} (u : List ℕ) → LexemeFault o k s t r → s ≡ w ++ u → WordLit o w (next u) → ⊥
no_word {o} {s = s} u x e w = go (rw (first_word o s (word_begins u e w)) at (grouped x))
  where
    go : {k : ParseErrorKind} {t r : List ℕ} → Grouped o s word k t r → ⊥
    go (of_word b) = b.no_end (rw (many_unique (word_run e w) b.goes_on (ends_word (next u) w.ends) b.all) at w.ends)

keyword_first : (k : Keyword) {s : List ℕ} (u : List ℕ) → IsKeyword k s u → IsTrue (starts begins_word (next s))
keyword_first (boolean true) u x = rw x.0 refl
keyword_first (boolean false) u x = rw x.0 refl
keyword_first null u x = rw x.0 refl

no_keyword : {o : Options} {k : ParseErrorKind} {s t r : List ℕ} (u : List ℕ) (w : Keyword) → LexemeFault o k s t r → IsKeyword w s u → ⊥
no_keyword {o} {s = s} u w x h = go (rw (first_word o s (keyword_first w u h)) at (grouped x))
  where
    go : {k : ParseErrorKind} {t r : List ℕ} → Grouped o s word k t r → ⊥
    go (of_word b) = b.no_keyword w u h

-- punctuation
punctuation_group : (o : Options) (c : ℕ) (s : List ℕ) → IsTrue (is_punctuation c) → group_of o (c ∷ s) ≡ nothing
punctuation_group o c s h = go (c == 0x2F) (starts (λ d. d == 0x2A) (next s)) (c == 0x22 || (c == 0x27 && o.single_quoted_strings)) (c == 0x27) (c == 0x2B) o.unary_plus_numbers (begins_digits (c ∷ s) || c == 0x2D) (begins_word c) (false_of _ (no_slash c h)) (false_of _ (no_open c o.single_quoted_strings h)) (false_of _ (no_quote c h)) (false_of _ (no_plus c h)) (false_of _ (no_digits c s h)) (false_of _ (no_letter c h))
  where
    go : (a b c d e f g h : Bool) → a ≡ false → c ≡ false → d ≡ false → e ≡ false → g ≡ false → h ≡ false → group a b c d e f g h ≡ nothing
    go a b c d e f g h p q r s t u = rw (p, q, r, s, t, u) refl

    no_slash : (c : ℕ) → IsTrue (is_punctuation c) → IsTrue (c == 0x2F) → ⊥
    no_slash c h e = grind arith

    no_open : (c : ℕ) (b : Bool) → IsTrue (is_punctuation c) → IsTrue (c == 0x22 || (c == 0x27 && b)) → ⊥
    no_open c true h e = grind arith
    no_open c false h e = grind arith

    no_quote : (c : ℕ) → IsTrue (is_punctuation c) → IsTrue (c == 0x27) → ⊥
    no_quote c h e = grind arith

    no_plus : (c : ℕ) → IsTrue (is_punctuation c) → IsTrue (c == 0x2B) → ⊥
    no_plus c h e = grind arith

    no_digits : (c : ℕ) (s : List ℕ) → IsTrue (is_punctuation c) → IsTrue (begins_digits (c ∷ s) || c == 0x2D) → ⊥
    no_digits c s h e = grind arith

    no_letter : (c : ℕ) → IsTrue (is_punctuation c) → IsTrue (begins_word c) → ⊥
    no_letter c h e = elim (or_cases _ (is_wide_letter c) e) [ inl g ↦ no_ascii c h g | inr g ↦ omega (arith, small c h, wide_past_ascii c g) ]
      where
        small : (c : ℕ) → IsTrue (is_punctuation c) → c < 0x80
        small c h = grind arith

        no_ascii : (c : ℕ) → IsTrue (is_punctuation c) → IsTrue (is_ascii_letter c || c == 0x5F || c == 0x24) → ⊥
        no_ascii c h g = elim (or_cases (is_ascii_letter c || c == 0x5F) (c == 0x24) g) [ inl l ↦ elim (or_cases (is_ascii_letter c) (c == 0x5F) l) [ inl a ↦ no_ascii_letter c h a | inr b ↦ no_low c h b ] | inr d ↦ no_dollar c h d ]
          where
            no_ascii_letter : (c : ℕ) → IsTrue (is_punctuation c) → IsTrue (is_ascii_letter c) → ⊥
            no_ascii_letter c h a = grind arith

            no_low : (c : ℕ) → IsTrue (is_punctuation c) → IsTrue (c == 0x5F) → ⊥
            no_low c h a = grind arith

            no_dollar : (c : ℕ) → IsTrue (is_punctuation c) → IsTrue (c == 0x24) → ⊥
            no_dollar c h a = grind arith

no_punctuation : {o : Options} {k : ParseErrorKind} {s t r u : List ℕ} (c : ℕ) → LexemeFault o k s t r → IsTrue (is_punctuation c) → s ≡ c ∷ u → ⊥
no_punctuation {o} {s = s} {u = u} c x h e = go (rw (ap (group_of o) e ∙ punctuation_group o c u h) at (grouped x))
  where
    first : (p x y n z : Bool) → IsTrue (not (p || x || y || n || z)) → IsTrue p → ⊥
    first true x y n z g h = cc
    first false x y n z g h = cc

    go : {k : ParseErrorKind} {t r : List ℕ} → Grouped o s nothing k t r → ⊥
    go (of_nothing {c = d} {r = r} f g) =
        let same : d ≡ c = heads (sym f ∙ e) in
        first (is_punctuation d) (d == 0x22) (d == 0x27) (begins_number (d ∷ r)) (d == 0x2F && starts (λ x. x == 0x2F || x == 0x2A) (next r)) g (rw same h)

-- comments
no_line : {o : Options} {k : ParseErrorKind} {s t r u : List ℕ} → LexemeFault o k s t r → LineComment s u → ⊥
no_line x (line g n) = go refl (grouped x)
  where
    go : {o : Options} {s v : List ℕ} {k : ParseErrorKind} {t r : List ℕ} → s ≡ 0x2F ∷ 0x2F ∷ v → Grouped o s nothing k t r → ⊥
    go e (of_nothing {r = r} f g) = never (rw (heads (sym f ∙ e), tails (sym f ∙ e)) at g)

no_block : {o : Options} {k : ParseErrorKind} {s t r u : List ℕ} → LexemeFault o k s t r → BlockComment s u → ⊥
no_block {u = u} x (block g) = go refl g (grouped x)
  where
    go : {o : Options} {s v : List ℕ} {k : ParseErrorKind} {t r : List ℕ} → s ≡ 0x2F ∷ 0x2A ∷ v → UpToBlockEnd v u → Grouped o s comment k t r → ⊥
    go e g (of_comment f n) = n u (rw (tails (tails (sym e ∙ f))) at g)

pub no_lexeme_told : (o : Options) (s : List ℕ) (k : ParseErrorKind) (t r u : List ℕ) (what : Scanned) → LexemeFault o k s t r → IsScanned o what s u → ⊥
no_lexeme_told o s k t r u (lexeme (LexemeKind.string v)) x y = no_string x y
no_lexeme_told o s k t r u (lexeme (LexemeKind.number v)) x y = no_number x y.1
no_lexeme_told o s k t r u (lexeme (LexemeKind.word v)) x y = no_word u x y.0 y.1
no_lexeme_told o s k t r u (lexeme (LexemeKind.keyword v)) x y = no_keyword u v x y
no_lexeme_told o s k t r u (lexeme (LexemeKind.punctuation v)) x y = no_punctuation v x y.0 y.1
no_lexeme_told o s k t r u (line_comment v) x y = no_line x y.0
no_lexeme_told o s k t r u (block_comment v) x y = no_block x y.0

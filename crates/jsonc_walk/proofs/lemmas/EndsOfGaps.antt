-- A gap ends at one place, before what is neither a blank nor a comment.
use Rattle.std.proofs.Common.{ℕ, ◌<◌, ◌≤◌, ◌≡◌, ap, refl, Bool, true, false, not, ◌||◌, ◌&&◌, ◌==◌, List, [], ◌∷◌, Option, IsTrue, arith, inl, inr}
use Rattle.std.specs.Int.{is_in_range}
use Rattle.jsonc_text.specs.declared.errors.ParseErrorKind.{ParseErrorKind}
use Rattle.jsonc_text.specs.Gaps.{Gap, none, blank, comment, is_blank, IsComment, line, block}
use Rattle.jsonc_text.specs.Letters.{is_wide_letter}
use Rattle.jsonc_text.specs.Lexemes.{LexemeKind, Lexeme, Scanned, lexeme, line_comment, block_comment, IsScanned}
use Rattle.jsonc_text.specs.Numbers.{Sign, Whole}
use Rattle.jsonc_text.specs.Options.{Options}
use Rattle.jsonc_text.specs.Text.{next, no, starts, is_ascii_letter}
use Rattle.jsonc_text.specs.Words.{begins_word}
use Rattle.jsonc_text.proofs.Basics.{clash, or_cases, or_right, and_both, test_eq, no_starts, starts_also}
use Rattle.jsonc_text.proofs.BlockComments.{block_inside}
use Rattle.jsonc_text.proofs.Cuts.{many_split}
use Rattle.jsonc_text.proofs.UniqueGaps.{begins_gap, comment_unique, comment_begins, comment_no_blank}
use Rattle.jsonc_text.proofs.UniqueLexemes.{scanned_unique}
use Rattle.jsonc_text.proofs.WideBlanks.{blank_not_wide}
use Rattle.jsonc_scan.specs.Faults.{LexemeFault, BarePoint, Mantissa, mantissa, bare_mantissa, leading, signed_leading, trailing}
use Rattle.jsonc_scan.proofs.OneFault.{string_begins}
use Rattle.jsonc_scan.proofs.RefusedLexemes.{no_lexeme_told}
use Rattle.jsonc_walk.proofs.lemmas.Refusals.{token_no_gap}

-- neither a blank nor a comment that is allowed stands there
pub record EndsGap (o : Options) (u : List ℕ) : Type 0 where
  pub blank : IsTrue (no is_blank (next u))
  pub comment : (r : List ℕ) → IsTrue o.comments → IsComment u r → ⊥

pub gap_end : {o : Options} {t u w : List ℕ} → Gap o t u → Gap o t w → EndsGap o u → EndsGap o w → u ≡ w
gap_end none none a b = refl
gap_end none (blank {c} h g) a b = absurd (clash (is_blank c) a.blank h)
gap_end none (comment {u = u} h k g) a b = absurd (a.comment u h k)
gap_end (blank {c} h g) none a b = absurd (clash (is_blank c) b.blank h)
gap_end (comment {u = u} h k g) none a b = absurd (b.comment u h k)
gap_end (blank h g) (blank i l) a b = gap_end g l a b
gap_end (blank h g) (comment i k l) a b = absurd (comment_no_blank k h)
gap_end (comment i k l) (blank h g) a b = absurd (comment_no_blank k h)
gap_end (comment i k g) (comment j m l) a b = gap_end g (rw (comment_unique k m) l) a b

no_gap_blank : (u : List ℕ) → IsTrue (no begins_gap (next u)) → IsTrue (no is_blank (next u))
no_gap_blank [] h = refl
no_gap_blank (c ∷ u) h = go (is_blank c) (c == 0x2F) h
  where
    go : (x y : Bool) → IsTrue (not (x || y)) → IsTrue (not x)
    go true y h = h
    go false y h = refl

slash_gap : (c : ℕ) → IsTrue (c == 0x2F) → IsTrue (begins_gap c)
slash_gap c h = or_right (is_blank c) (c == 0x2F) h

no_gap_ends : {o : Options} (u : List ℕ) → IsTrue (no begins_gap (next u)) → EndsGap o u
no_gap_ends u h = record {
  blank = no_gap_blank u h;
  comment = λ r a k. no_starts begins_gap (next u) h (starts_also (λ c. c == 0x2F) begins_gap slash_gap (next u) (comment_begins k));
}

pub lexeme_ends : {o : Options} (l : LexemeKind) {u : List ℕ} (r : List ℕ) → Lexeme o l u r → EndsGap o u
lexeme_ends {o} l {u} r x = no_gap_ends u (token_no_gap o u (inr (l, r, x)))

pub end_ends : {o : Options} → EndsGap o []
end_ends {o} = no_gap_ends [] (token_no_gap o [] (inl refl))

slash_no_blank : (c : ℕ) → IsTrue (c == 0x2F) → IsTrue (not (is_blank c))
slash_no_blank c h = rw (test_eq c 0x2F h) refl

starts_no : (p q : ℕ → Bool) → ((c : ℕ) → IsTrue (p c) → IsTrue (not (q c))) → (n : Option ℕ) → IsTrue (starts p n) → IsTrue (no q n)
starts_no p q f Option.None h = refl
starts_no p q f (Option.Some c) h = f c h

pub comment_ends : {o : Options} {u r : List ℕ} → o.comments ≡ false → IsComment u r → EndsGap o u
comment_ends {o} {u} off k = record {
  blank = starts_no (λ c. c == 0x2F) is_blank slash_no_blank (next u) (comment_begins k);
  comment = λ r a m. cc;
}

-- a refused lexeme begins with no blank
sign_first : {o : Options} {t r : List ℕ} → Sign o true t r → IsTrue (starts (λ c. not (is_blank c)) (next t))
sign_first Sign.minus = refl
sign_first (Sign.plus p) = refl

no_ascii_blank : (c : ℕ) → 0x21 ≤ c → c < 0x80 → IsTrue (not (is_blank c))
no_ascii_blank c a b = grind arith

range_no_blank : (lo hi c : ℕ) → 0x21 ≤ lo → hi < 0x80 → IsTrue (is_in_range lo hi c) → IsTrue (not (is_blank c))
range_no_blank lo hi c a b h = no_ascii_blank c (omega (arith, a, low lo hi c h)) (omega (arith, b, high lo hi c h))
  where
    low : (lo hi c : ℕ) → IsTrue (is_in_range lo hi c) → lo ≤ c
    low lo hi c h = grind arith

    high : (lo hi c : ℕ) → IsTrue (is_in_range lo hi c) → c ≤ hi
    high lo hi c h = grind arith

whole_first : {t r : List ℕ} → Whole t r → IsTrue (starts (λ c. not (is_blank c)) (next t))
whole_first (Whole.zero a) = refl
whole_first (Whole.digits {c = c} h g a) = range_no_blank 0x31 0x39 c (omega arith) (omega arith) h

signed_first : {o : Options} {b : Bool} {t r : List ℕ} → Sign o b t r → IsTrue (starts (λ c. not (is_blank c)) (next r)) → IsTrue (starts (λ c. not (is_blank c)) (next t))
signed_first Sign.none h = h
signed_first Sign.minus h = refl
signed_first (Sign.plus p) h = refl

mantissa_first : {o : Options} {t r : List ℕ} → Mantissa o t r → IsTrue (starts (λ c. not (is_blank c)) (next t))
mantissa_first (mantissa w f) = whole_first w
mantissa_first (bare_mantissa a g) = refl

point_first : {o : Options} {t r : List ℕ} → BarePoint o t r → IsTrue (starts (λ c. not (is_blank c)) (next t))
point_first (leading h) = refl
point_first (signed_leading s h) = sign_first s
point_first (trailing s w h) = signed_first s (whole_first w)

word_first : (c : ℕ) → IsTrue (begins_word c) → IsTrue (not (is_blank c))
word_first c h = go (is_blank c) refl
  where
    ascii : (c : ℕ) → IsTrue (is_ascii_letter c || c == 0x5F || c == 0x24) → IsTrue (not (is_blank c))
    ascii c h =
        elim (or_cases _ (c == 0x24) h) [
          | inr e ↦ rw (test_eq c 0x24 e) refl
          | inl h ↦
              elim (or_cases (is_ascii_letter c) (c == 0x5F) h) [
                | inr e ↦ rw (test_eq c 0x5F e) refl
                | inl e ↦
                    elim (or_cases (is_in_range 0x41 0x5A c) (is_in_range 0x61 0x7A c) e) [ inl r ↦ range_no_blank 0x41 0x5A c (omega arith) (omega arith) r | inr r ↦ range_no_blank 0x61 0x7A c (omega arith) (omega arith) r ]
              ]
        ]

    go : (b : Bool) → is_blank c ≡ b → IsTrue (not (is_blank c))
    go false e = rw e refl
    go true e = elim (or_cases _ (is_wide_letter c) h) [ inl g ↦ ascii c g | inr g ↦ absurd (clash (is_wide_letter c) (blank_not_wide c e) g) ]

quote_first : (q : ℕ) (b : Bool) → IsTrue (q == 0x22 || (q == 0x27 && b)) → IsTrue (not (is_blank q))
quote_first q b h = elim (or_cases (q == 0x22) (q == 0x27 && b) h) [ inl e ↦ rw (test_eq q 0x22 e) refl | inr e ↦ rw (test_eq q 0x27 (and_both (q == 0x27) b e).0) refl ]

pub tells_first : {o : Options} {k : ParseErrorKind} {s a b : List ℕ} → LexemeFault o k s a b → IsTrue (starts (λ c. not (is_blank c)) (next s))
tells_first (LexemeFault.bare_point f b) = point_first b
tells_first (LexemeFault.lone_sign s g n) = sign_first s
tells_first (LexemeFault.hex_digits a s h n c) = signed_first s refl
tells_first (LexemeFault.exponent s m b n) = signed_first s (mantissa_first m)
tells_first (LexemeFault.hexadecimal f s h) = signed_first s refl
tells_first (LexemeFault.non_finite f s n) = sign_first s
tells_first (LexemeFault.unary_plus f) = refl
tells_first (LexemeFault.single_quote f) = refl
tells_first {s = s} (LexemeFault.broken_word b) = starts_also begins_word (λ c. not (is_blank c)) word_first (next s) b.begins
tells_first (LexemeFault.lone_character b w h) = b
tells_first (LexemeFault.open_block f) = refl
tells_first {o} (LexemeFault.string_fault {q = q} a x) = let s = string_begins x in rw s.1 (quote_first q o.single_quoted_strings a)

-- each comment is one that a scanner answers
pub comment_scanned : (o : Options) {t r : List ℕ} → IsComment t r → ((w : Scanned) → ((k : LexemeKind) → w ≡ lexeme k → ⊥) → IsScanned o w t r → ⊥) → ⊥
comment_scanned o {t} {r} (inl (line g e)) n = let s = many_split _ g in n (line_comment s.0) (λ k e. cc) (line g e, ap (λ x. 0x2F ∷ 0x2F ∷ x) s.1)
comment_scanned o {t} {r} (inr (block g)) n = let s = block_inside (block g) in n (block_comment s.0) (λ k e. cc) (block g, s.1)

pub tells_no_lexeme : {o : Options} {k : ParseErrorKind} {u a b : List ℕ} (l : LexemeKind) (r : List ℕ) → LexemeFault o k u a b → Lexeme o l u r → ⊥
tells_no_lexeme {o} {k} {u} {a} {b} l r x y = no_lexeme_told o u k a b r (lexeme l) x y

pub tells_no_comment : {o : Options} {k : ParseErrorKind} {u a b : List ℕ} (r : List ℕ) → LexemeFault o k u a b → IsComment u r → ⊥
tells_no_comment {o} {k} {u} {a} {b} r x c = comment_scanned o c (λ w n y. no_lexeme_told o u k a b r w x y)

pub comment_no_lexeme : (o : Options) {u r : List ℕ} (l : LexemeKind) (s : List ℕ) → IsComment u r → Lexeme o l u s → ⊥
comment_no_lexeme o {u} {r} l s c x = comment_scanned o c (λ w n y. n l (scanned_unique o w (lexeme l) u r s y x).0)

pub tells_ends : {o : Options} {k : ParseErrorKind} {u a b : List ℕ} → LexemeFault o k u a b → EndsGap o u
tells_ends {o} {u = u} x = record { blank = no_of u (tells_first x); comment = λ r f c. tells_no_comment r x c }
  where
    no_of : (u : List ℕ) → IsTrue (starts (λ c. not (is_blank c)) (next u)) → IsTrue (no is_blank (next u))
    no_of [] h = refl
    no_of (c ∷ u) h = h

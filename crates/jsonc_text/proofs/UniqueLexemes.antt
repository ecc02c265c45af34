-- At every place stands at most one lexeme or comment.
use Rattle.std.proofs.Common.{ℕ, ◌≡◌, ◌∙◌, sym, ap, Bool, false, not, refl, List, ◌∷◌, ◌++◌, Option, Some, None, IsTrue, ◌==◌, arith, inl, inr, codes}
use Rattle.jsonc_text.specs.Options.{Options}
use Rattle.jsonc_text.specs.Text.{next, no, starts, Many, stop, step}
use Rattle.jsonc_text.specs.Gaps.{IsComment}
use Rattle.jsonc_text.specs.Words.{WordLit, EndsWhole, is_in_word, begins_word}
use Rattle.jsonc_text.specs.Numbers.{Number, Sign, Unsigned, Whole}
use Rattle.jsonc_text.specs.Lexemes.{LexemeKind, Lexeme, Scanned, lexeme, line_comment, block_comment, IsScanned, is_punctuation}
use Rattle.jsonc_text.proofs.Basics.{clash, no_both, starts_also, Apart, heads, tails, front_same, text_same}
use Rattle.jsonc_text.proofs.UniqueGaps.{many_unique, comment_unique, comment_begins, line_no_block}
use Rattle.jsonc_text.proofs.UniqueNumbers.{number_unique}
use Rattle.jsonc_text.proofs.UniqueStrings.{string_unique}
use Rattle.jsonc_text.proofs.UniqueWords.{ends_word, word_run, word_unique, keyword_unique, word_no_keyword}
use Rattle.jsonc_text.proofs.Begins.{IsLiteral, is_quote, begins_number, begins_keyword, begins_literal, begins_plain_number, string_begins, number_begins, keyword_begins, word_begins, quote_number, quote_keyword, quote_word, number_keyword, plain_number_word, digit_plain, lexeme_begins, literal_no_punctuation}

whole_ends : (n : Option ℕ) → EndsWhole n → IsTrue (no is_in_word n)
whole_ends None h = refl
whole_ends (Some c) h = grind arith

infinity_run : (r : List ℕ) → Many is_in_word (codes "Infinity" ++ r) r
infinity_run r = step refl (step refl (step refl (step refl (step refl (step refl (step refl (step refl stop)))))))

nan_run : (r : List ℕ) → Many is_in_word (codes "NaN" ++ r) r
nan_run r = step refl (step refl (step refl stop))

plain_first : {o : Options} (c : ℕ) {t s : List ℕ} (r : List ℕ) {n : Option ℕ} → IsTrue (begins_plain_number c) → c ∷ t ≡ s ++ r → WordLit o s n → ⊥
unfolding Apart
plain_first c r p e w = plain_number_word c p (word_begins r e w)

-- an unsigned `Infinity` or `NaN` that ends there is the whole run of a word
name_is_word : {o : Options} {t s r x : List ℕ} → Many is_in_word t r → EndsWhole (next r) → t ≡ s ++ x → WordLit o s (next x) → r ≡ x
name_is_word {r = r} {x = x} g n e w = many_unique g (word_run e w) (whole_ends (next r) n) (ends_word (next x) w.ends)

unsigned_no_word : {o : Options} {t s r : List ℕ} (x : List ℕ) → Unsigned o false t r → t ≡ s ++ x → WordLit o s (next x) → ⊥
unfolding begins_plain_number
unsigned_no_word x (Unsigned.hex p q g) e w = plain_first 0x30 _ refl e w
unsigned_no_word x (Unsigned.decimal (Whole.zero a) y z) e w = plain_first 0x30 _ refl e w
unsigned_no_word x (Unsigned.decimal (Whole.digits {c = c} h g a) y z) e w = plain_first c _ (digit_plain c h) e w
unsigned_no_word x (Unsigned.bare_point p g z) e w = plain_first 0x2E _ refl e w
unsigned_no_word {r = r} x (Unsigned.infinity p n) e w = (w.no_number p).0 (front_same (sym (name_is_word (infinity_run r) n e w)) (sym e))
unsigned_no_word {r = r} x (Unsigned.nan p n) e w = (w.no_number p).1 (front_same (sym (name_is_word (nan_run r) n e w)) (sym e))

number_no_word : {o : Options} {t s r : List ℕ} (x : List ℕ) → Number o t r → t ≡ s ++ x → WordLit o s (next x) → ⊥
unfolding begins_plain_number
number_no_word x (b, u, a, n) e w = signed x a n e w
  where
    signed : {o : Options} {b : Bool} {t u s r : List ℕ} (x : List ℕ) → Sign o b t u → Unsigned o b u r → t ≡ s ++ x → WordLit o s (next x) → ⊥
    signed x Sign.none n e w = unsigned_no_word x n e w
    signed x Sign.minus n e w = plain_first 0x2D _ refl e w
    signed x (Sign.plus p) n e w = plain_first 0x2B _ refl e w

literal_no_mark : (o : Options) (k : LexemeKind) (c : ℕ) {t : List ℕ} (r s : List ℕ) → IsLiteral k → Lexeme o k t r → IsTrue (is_punctuation c) × (t ≡ c ∷ s) → ⊥
literal_no_mark o k c {t} r s a x y = no_both is_punctuation begins_literal literal_no_punctuation (next t) (rw y.1 y.0) (lexeme_begins o k t r a x)

mark_unique : {c d : ℕ} {t r s : List ℕ} → t ≡ c ∷ r → t ≡ d ∷ s → (LexemeKind.punctuation c ≡ LexemeKind.punctuation d) × (r ≡ s)
mark_unique e f = (ap LexemeKind.punctuation (heads (sym e ∙ f)), tails (sym e ∙ f))

pub lexeme_unique : (o : Options) (k l : LexemeKind) (t r s : List ℕ) → Lexeme o k t r → Lexeme o l t s → (k ≡ l) × (r ≡ s)
lexeme_unique o (LexemeKind.string v) (LexemeKind.string w) t r s x y = let p = string_unique {o = o} x y in (ap LexemeKind.string p.0, p.1)
lexeme_unique o (LexemeKind.string v) (LexemeKind.number w) t r s x (e, n) = absurd (no_both is_quote begins_number quote_number (next t) (string_begins {o = o} x) (number_begins n))
lexeme_unique o (LexemeKind.string v) (LexemeKind.word w) t r s x (e, y) = absurd (no_both is_quote begins_word quote_word (next t) (string_begins {o = o} x) (word_begins s e y))
lexeme_unique o (LexemeKind.string v) (LexemeKind.keyword w) t r s x y = absurd (no_both is_quote begins_keyword quote_keyword (next t) (string_begins {o = o} x) (keyword_begins w s y))
lexeme_unique o (LexemeKind.number v) (LexemeKind.string w) t r s (e, n) y = absurd (no_both is_quote begins_number quote_number (next t) (string_begins {o = o} y) (number_begins n))
lexeme_unique o (LexemeKind.number v) (LexemeKind.number w) t r s (e, n) (i, m) = let p = number_unique n m in (ap LexemeKind.number (text_same e i p), p)
lexeme_unique o (LexemeKind.number v) (LexemeKind.word w) t r s (e, n) (i, y) = absurd (number_no_word s n i y)
lexeme_unique o (LexemeKind.number v) (LexemeKind.keyword w) t r s (e, n) y = absurd (no_both begins_number begins_keyword number_keyword (next t) (number_begins n) (keyword_begins w s y))
lexeme_unique o (LexemeKind.word v) (LexemeKind.string w) t r s (e, x) y = absurd (no_both is_quote begins_word quote_word (next t) (string_begins {o = o} y) (word_begins r e x))
lexeme_unique o (LexemeKind.word v) (LexemeKind.number w) t r s (i, x) (e, n) = absurd (number_no_word r n i x)
lexeme_unique o (LexemeKind.word v) (LexemeKind.word w) t r s (e, x) (i, y) = let p = word_unique e i x y in (ap LexemeKind.word (text_same e i p), p)
lexeme_unique o (LexemeKind.word v) (LexemeKind.keyword w) t r s (e, x) y = absurd (word_no_keyword w r s e x y)
lexeme_unique o (LexemeKind.keyword v) (LexemeKind.string w) t r s x y = absurd (no_both is_quote begins_keyword quote_keyword (next t) (string_begins {o = o} y) (keyword_begins v r x))
lexeme_unique o (LexemeKind.keyword v) (LexemeKind.number w) t r s x (e, n) = absurd (no_both begins_number begins_keyword number_keyword (next t) (number_begins n) (keyword_begins v r x))
lexeme_unique o (LexemeKind.keyword v) (LexemeKind.word w) t r s x (e, y) = absurd (word_no_keyword v s r e y x)
lexeme_unique o (LexemeKind.keyword v) (LexemeKind.keyword w) t r s x y = let p = keyword_unique {k = v} {l = w} x y in (ap LexemeKind.keyword p.0, p.1)
lexeme_unique o (LexemeKind.punctuation c) (LexemeKind.punctuation d) t r s x y = mark_unique x.1 y.1
lexeme_unique o (LexemeKind.punctuation c) (LexemeKind.string v) t r s x y = absurd (literal_no_mark o (LexemeKind.string v) c s r tt y x)
lexeme_unique o (LexemeKind.punctuation c) (LexemeKind.number v) t r s x y = absurd (literal_no_mark o (LexemeKind.number v) c s r tt y x)
lexeme_unique o (LexemeKind.punctuation c) (LexemeKind.word v) t r s x y = absurd (literal_no_mark o (LexemeKind.word v) c s r tt y x)
lexeme_unique o (LexemeKind.punctuation c) (LexemeKind.keyword v) t r s x y = absurd (literal_no_mark o (LexemeKind.keyword v) c s r tt y x)
lexeme_unique o (LexemeKind.string v) (LexemeKind.punctuation c) t r s x y = absurd (literal_no_mark o (LexemeKind.string v) c r s tt x y)
lexeme_unique o (LexemeKind.number v) (LexemeKind.punctuation c) t r s x y = absurd (literal_no_mark o (LexemeKind.number v) c r s tt x y)
lexeme_unique o (LexemeKind.word v) (LexemeKind.punctuation c) t r s x y = absurd (literal_no_mark o (LexemeKind.word v) c r s tt x y)
lexeme_unique o (LexemeKind.keyword v) (LexemeKind.punctuation c) t r s x y = absurd (literal_no_mark o (LexemeKind.keyword v) c r s tt x y)

is_slash : ℕ → Bool
is_slash c = c == 0x2F

not_slash : ℕ → Bool
not_slash c = not (c == 0x2F)

slash_apart : Apart is_slash not_slash
unfolding Apart is_slash not_slash
slash_apart c g h = clash (c == 0x2F) h g

literal_no_slash : (c : ℕ) → IsTrue (begins_literal c) → IsTrue (not_slash c)
unfolding not_slash
literal_no_slash c h = grind arith

mark_no_slash : (c : ℕ) → IsTrue (is_punctuation c) → IsTrue (not_slash c)
unfolding not_slash
mark_no_slash c h = grind arith

lexeme_no_slash : (o : Options) (k : LexemeKind) (t r : List ℕ) → Lexeme o k t r → IsTrue (starts not_slash (next t))
lexeme_no_slash o (LexemeKind.punctuation c) t r x = rw x.1 (mark_no_slash c x.0)
lexeme_no_slash o (LexemeKind.string v) t r x = starts_also begins_literal not_slash literal_no_slash (next t) (lexeme_begins o (LexemeKind.string v) t r tt x)
lexeme_no_slash o (LexemeKind.number v) t r x = starts_also begins_literal not_slash literal_no_slash (next t) (lexeme_begins o (LexemeKind.number v) t r tt x)
lexeme_no_slash o (LexemeKind.word v) t r x = starts_also begins_literal not_slash literal_no_slash (next t) (lexeme_begins o (LexemeKind.word v) t r tt x)
lexeme_no_slash o (LexemeKind.keyword v) t r x = starts_also begins_literal not_slash literal_no_slash (next t) (lexeme_begins o (LexemeKind.keyword v) t r tt x)

slash_begins : {t u : List ℕ} → IsComment t u → IsTrue (starts is_slash (next t))
unfolding is_slash
slash_begins c = comment_begins c

comment_no_lexeme : (o : Options) (k : LexemeKind) {t s : List ℕ} (r : List ℕ) → IsComment t s → Lexeme o k t r → ⊥
comment_no_lexeme o k {t} r c x = no_both is_slash not_slash slash_apart (next t) (slash_begins c) (lexeme_no_slash o k t r x)

pub scanned_unique : (o : Options) (w x : Scanned) (t r s : List ℕ) → IsScanned o w t r → IsScanned o x t s → (w ≡ x) × (r ≡ s)
scanned_unique o (lexeme k) (lexeme l) t r s a b = let p = lexeme_unique o k l t r s a b in (ap lexeme p.0, p.1)
scanned_unique o (lexeme k) (line_comment v) t r s a (c, e) = absurd (comment_no_lexeme o k r (inl c) a)
scanned_unique o (lexeme k) (block_comment v) t r s a (c, e) = absurd (comment_no_lexeme o k r (inr c) a)
scanned_unique o (line_comment v) (lexeme k) t r s (c, e) a = absurd (comment_no_lexeme o k s (inl c) a)
scanned_unique o (block_comment v) (lexeme k) t r s (c, e) a = absurd (comment_no_lexeme o k s (inr c) a)
scanned_unique o (line_comment v) (line_comment w) t r s (c, e) (d, f) =
    let p : r ≡ s = comment_unique (inl c) (inl d) in (ap line_comment (tails (tails (text_same e f p))), p)
scanned_unique o (block_comment v) (block_comment w) t r s (c, e) (d, f) =
    let p : r ≡ s = comment_unique (inr c) (inr d) in
    (ap block_comment (tails (tails (text_same e f (ap (λ x. 0x2A ∷ 0x2F ∷ x) p)))), p)
scanned_unique o (line_comment v) (block_comment w) t r s (c, e) (d, f) = absurd (line_no_block c d)
scanned_unique o (block_comment v) (line_comment w) t r s (c, e) (d, f) = absurd (line_no_block d c)

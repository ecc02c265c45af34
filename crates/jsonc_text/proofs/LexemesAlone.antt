-- A lexeme or comment at the front of a text is one by itself, and one by itself is one before what it can end before.
use Rattle.std.proofs.Common.{ℕ, ◌≡◌, ◌∙◌, sym, ap, refl, Bool, true, List, [], ◌∷◌, ◌++◌, append_assoc, append-nil, IsTrue}
use Rattle.jsonc_text.specs.Options.{Options}
use Rattle.jsonc_text.specs.Text.{next, no, starts, Many}
use Rattle.jsonc_text.specs.Gaps.{LineComment, line, BlockComment, is_in_line}
use Rattle.jsonc_text.specs.Words.{keyword_text, WordLit, EndsWord}
use Rattle.jsonc_text.specs.Strings.{IsString}
use Rattle.jsonc_text.specs.Lexemes.{LexemeKind, Scanned, lexeme, line_comment, block_comment, IsScanned, CanEndBefore}
use Rattle.jsonc_text.proofs.Basics.{clash, front_same}
use Rattle.jsonc_text.proofs.UniqueWords.{many_more}
use Rattle.jsonc_text.proofs.UniqueTokens.{not_blank, scanned_no_blank}
use Rattle.jsonc_text.proofs.BlockComments.{first_end, block_of}
use Rattle.jsonc_text.proofs.NumberFrames.{many_cut, number_whole, number_follows, number_there}

-- the text of what stands before r, alone
alone : (s n r : List ℕ) → s ++ r ≡ n ++ r → s ≡ n ++ []
alone s n r e = rw append-nil (front_same refl e)

before : (s n r : List ℕ) → s ≡ n ++ [] → s ++ r ≡ n ++ r
before s n r e = let p : s ≡ n = rw append-nil at e in rw p refl

string_alone : {o : Options} (s r : List ℕ) {v : List ℕ} → IsString o (s ++ r) v r → IsString o s v []
string_alone s r (q, x, h, e, d) = (q, x, h, front_same refl (e ∙ sym (append_assoc (q ∷ x) (q ∷ []) r)), d)

string_before : {o : Options} (s r : List ℕ) {v : List ℕ} → IsString o s v [] → IsString o (s ++ r) v r
string_before s r (q, x, h, e, d) = (q, x, h, ap (λ y. y ++ r) e ∙ append_assoc (q ∷ x) (q ∷ []) r, d)

ends_now : {o : Options} {s : List ℕ} (r : List ℕ) → WordLit o s (next r) → WordLit o s (next [])
ends_now r w = record { begins = w.begins; goes_on = w.goes_on; ends = refl; no_keyword = w.no_keyword; no_number = w.no_number }

ends_before : {o : Options} {s : List ℕ} (r : List ℕ) → WordLit o s (next []) → EndsWord (next r) → WordLit o s (next r)
ends_before r w h = record { begins = w.begins; goes_on = w.goes_on; ends = h; no_keyword = w.no_keyword; no_number = w.no_number }

line_alone : {t r : List ℕ} (s : List ℕ) → t ≡ s ++ r → LineComment t r → LineComment s [] × IsTrue (no is_in_line (next r))
line_alone {r = r} s e (line g n) =
    let k = many_cut [] r g refl in
    let p : s ≡ 0x2F ∷ 0x2F ∷ k.text = front_same refl (sym e ∙ ap (λ x. 0x2F ∷ 0x2F ∷ x) k.split) in
    (rw p (line k.here refl), n)

line_before : {s u : List ℕ} (r : List ℕ) → u ≡ [] → LineComment s u → IsTrue (no is_in_line (next r)) → LineComment (s ++ r) r
line_before r e (line {t = t} g n) h = line (run_to (rw e at g)) h
  where
    run_to : Many is_in_line t [] → Many is_in_line (t ++ r) r
    run_to g = many_more g r

block_alone : (s c r : List ℕ) → s ++ r ≡ (0x2F ∷ 0x2A ∷ c) ++ 0x2A ∷ 0x2F ∷ r → BlockComment (s ++ r) r → BlockComment s [] × (s ≡ (0x2F ∷ 0x2A ∷ c) ++ 0x2A ∷ 0x2F ∷ [])
block_alone s c r e b =
    let p : s ≡ (0x2F ∷ 0x2A ∷ c) ++ 0x2A ∷ 0x2F ∷ [] = front_same refl (e ∙ sym (append_assoc (0x2F ∷ 0x2A ∷ c) (0x2A ∷ 0x2F ∷ []) r)) in
    (rw p (block_of c [] (first_end c r (rw e at b))), p)

block_before : (s c r : List ℕ) → s ≡ (0x2F ∷ 0x2A ∷ c) ++ 0x2A ∷ 0x2F ∷ [] → BlockComment s [] → BlockComment (s ++ r) r × (s ++ r ≡ (0x2F ∷ 0x2A ∷ c) ++ 0x2A ∷ 0x2F ∷ r)
block_before s c r e b =
    let p : s ++ r ≡ (0x2F ∷ 0x2A ∷ c) ++ 0x2A ∷ 0x2F ∷ r = ap (λ y. y ++ r) e ∙ append_assoc (0x2F ∷ 0x2A ∷ c) (0x2A ∷ 0x2F ∷ []) r in
    (rw p (block_of c r (first_end c [] (rw e at b))), p)

pub scanned_alone : (o : Options) (w : Scanned) (s r : List ℕ) → IsScanned o w (s ++ r) r → IsScanned o w s [] × CanEndBefore w s r
scanned_alone o (lexeme (LexemeKind.string v)) s r x = (string_alone s r x, tt)
scanned_alone o (lexeme (LexemeKind.number n)) s r (e, x) = ((alone s n r e, number_whole s r x), number_follows s r x)
scanned_alone o (lexeme (LexemeKind.word n)) s r (e, w) = ((alone s n r e, ends_now r w), w.ends)
scanned_alone o (lexeme (LexemeKind.keyword k)) s r (e, h) = ((alone s (keyword_text k) r e, refl), h)
scanned_alone o (lexeme (LexemeKind.punctuation c)) s r (h, e) = ((h, alone s (c ∷ []) r e), tt)
scanned_alone o (line_comment c) s r (l, e) = let k = line_alone s refl l in ((k.0, alone s (0x2F ∷ 0x2F ∷ c) r e), k.1)
scanned_alone o (block_comment c) s r (b, e) = let k = block_alone s c r e b in ((k.0, k.1), tt)

pub scanned_before : (o : Options) (w : Scanned) (s r : List ℕ) → IsScanned o w s [] → CanEndBefore w s r → IsScanned o w (s ++ r) r
scanned_before o (lexeme (LexemeKind.string v)) s r x h = string_before s r x
scanned_before o (lexeme (LexemeKind.number n)) s r (e, x) h = (before s n r e, number_there s r x h)
scanned_before o (lexeme (LexemeKind.word n)) s r (e, w) h = (before s n r e, ends_before r w h)
scanned_before o (lexeme (LexemeKind.keyword k)) s r (e, x) h = (before s (keyword_text k) r e, h)
scanned_before o (lexeme (LexemeKind.punctuation c)) s r (x, e) h = (x, before s (c ∷ []) r e)
scanned_before o (line_comment c) s r (l, e) h = (line_before r refl l h, before s (0x2F ∷ 0x2F ∷ c) r e)
scanned_before o (block_comment c) s r (b, e) h = block_before s c r e b

-- what stands at the front of a text, and its text
pub own_text : (o : Options) (w : Scanned) (t r : List ℕ) → IsScanned o w t r → (s : List ℕ) × (t ≡ s ++ r)
own_text o (lexeme (LexemeKind.string v)) t r (q, x, h, e, d) = ((q ∷ x) ++ q ∷ [], e ∙ sym (append_assoc (q ∷ x) (q ∷ []) r))
own_text o (lexeme (LexemeKind.number n)) t r (e, x) = (n, e)
own_text o (lexeme (LexemeKind.word n)) t r (e, w) = (n, e)
own_text o (lexeme (LexemeKind.keyword k)) t r (e, h) = (keyword_text k, e)
own_text o (lexeme (LexemeKind.punctuation c)) t r (h, e) = (c ∷ [], e)
own_text o (line_comment c) t r (l, e) = (0x2F ∷ 0x2F ∷ c, e)
own_text o (block_comment c) t r (b, e) = ((0x2F ∷ 0x2A ∷ c) ++ 0x2A ∷ 0x2F ∷ [], e ∙ sym (append_assoc (0x2F ∷ 0x2A ∷ c) (0x2A ∷ 0x2F ∷ []) r))

nonempty : (p : ℕ → Bool) (s : List ℕ) → IsTrue (starts p (next s)) → (c : ℕ) × (u : List ℕ) × (s ≡ c ∷ u)
nonempty p [] h = absurd (clash true h refl)
nonempty p (c ∷ u) h = (c, u, refl)

pub some_text : (o : Options) (w : Scanned) (t r : List ℕ) → IsScanned o w t r → (c : ℕ) × (s : List ℕ) × (t ≡ (c ∷ s) ++ r)
some_text o w t r x =
    let k = own_text o w t r x in
    let a = scanned_alone o w k.0 r (rw k.1 at x) in
    let n = nonempty not_blank k.0 (scanned_no_blank o w k.0 [] a.0) in
    (n.0, n.1, k.1 ∙ ap (λ y. y ++ r) n.2)

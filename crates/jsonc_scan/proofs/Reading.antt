-- From places to lexemes and comments.
use Rattle.std.proofs.Common.{inl, inr, ℕ, ◌+◌, ◌≡◌, ◌∙◌, sym, ap, refl, List, [], ◌∷◌, ◌++◌, arith, IsUtf8, IsTrue, Bool, true, false, not, IsCharBoundary, chars, slice_range, ◌==◌, ◌||◌, codes, Option, Some, None, append_assoc}
use Rattle.jsonc_text.specs.Options.{Options}
use Rattle.jsonc_text.specs.Text.{rest, next, no, starts, Many, Spans, is_digit, is_ascii_letter}
use Rattle.jsonc_text.specs.Chars.{Steps}
use Rattle.jsonc_text.specs.string.Between.{Between, Reaches, LacksAt, is_neither, NoneFrom}
use Rattle.jsonc_scan.specs.Between.{IsWhole, PassesWord}
use Rattle.jsonc_text.specs.Comments.{HoldsBlock}
use Rattle.jsonc_text.specs.Gaps.{line, block, UpToBlockEnd, IsComment}
use Rattle.jsonc_text.specs.Letters.{is_wide_letter}
use Rattle.jsonc_text.specs.Lexemes.{IsScanned, lexeme, line_comment, block_comment, word, number, is_punctuation}
use Rattle.jsonc_scan.specs.Reads.{NoWord}
use Rattle.jsonc_text.specs.Numbers.{Sign, Unsigned, Number}
use Rattle.jsonc_text.specs.Words.{Keyword, IsKeyword, keyword_text, WordLit, EndsWhole, goes_on, begins_word, is_in_word}
use Rattle.jsonc_text.proofs.Ascii.{OnlyAscii}
use Rattle.jsonc_text.proofs.Basics.{or_left, or_right, no_starts, starts_also, front_same, clash, tails, apart}
use Rattle.std.proofs.lemmas.List.{append_cancel_left}
use Rattle.jsonc_text.proofs.BlockComments.{block_of}
use Rattle.jsonc_text.proofs.Cuts.{chars_between, many_split}
use Rattle.jsonc_text.proofs.UniqueWords.{ends_word, word_run}
use Rattle.jsonc_text.proofs.Begins.{word_begins}

-- the text between two places stands there
slice_here : (bytes w : List ℕ) (i j : ℕ) → IsUtf8 bytes → Spans bytes i j → w ≡ slice_range bytes i j → rest bytes i ≡ chars w ++ rest bytes j
slice_here bytes w i j u s e = rw e (chars_between bytes i j u s)

spans_of : {R : List ℕ → List ℕ → Type 0} (bytes : List ℕ) (i j : ℕ) → IsCharBoundary bytes i → Between R bytes i j → Spans bytes i j
spans_of bytes i j b n = record { from = b; to = n.boundary; order = omega (arith, n.order) }

pub number_read : (o : Options) (bytes w : List ℕ) (i j : ℕ) → IsUtf8 bytes → IsCharBoundary bytes i → w ≡ slice_range bytes i j → Between (Number o) bytes i j → Between (IsScanned o (lexeme (number (chars w)))) bytes i j
number_read o bytes w i j u b e n =
    record { boundary = n.boundary; order = n.order; piece = (slice_here bytes w i j u (spans_of bytes i j b n) e, n.piece) }

pub infinity_whole : (bytes : List ℕ) (i j : ℕ) → Between (IsWhole (codes "Infinity")) bytes i j → (o : Options) → IsTrue o.non_finite_numbers → Between (Number o) bytes i j
infinity_whole bytes i j n o a =
    record { boundary = n.boundary; order = n.order; piece = (false, rest bytes i, Sign.none, rw n.piece.0 (Unsigned.infinity a n.piece.1)) }

pub nan_whole : (bytes : List ℕ) (i j : ℕ) → Between (IsWhole (codes "NaN")) bytes i j → (o : Options) → IsTrue o.non_finite_numbers → Between (Number o) bytes i j
nan_whole bytes i j n o a =
    record { boundary = n.boundary; order = n.order; piece = (false, rest bytes i, Sign.none, rw n.piece.0 (Unsigned.nan a n.piece.1)) }

-- a number that goes on is not whole
pub not_whole : (bytes w r : List ℕ) (i j : ℕ) (p : ℕ → Bool) → rest bytes i ≡ w ++ rest bytes j → IsTrue (starts p (next (rest bytes j))) → ((c : ℕ) → IsTrue (p c) → IsTrue (goes_on c || c == 0x2D || c == 0x5F)) → IsWhole w (rest bytes i) r → ⊥
not_whole bytes w r i j p e s f h =
    let same : r ≡ rest bytes j = append_cancel_left w r (rest bytes j) (sym h.0 ∙ e) in
    no_starts (λ c. goes_on c || c == 0x2D || c == 0x5F) (next (rest bytes j)) (rw same at h.1) (starts_also p (λ c. goes_on c || c == 0x2D || c == 0x5F) f (next (rest bytes j)) s)

dash_or_low : (c : ℕ) → IsTrue (c == 0x2D || c == 0x5F) → IsTrue (goes_on c || c == 0x2D || c == 0x5F)
dash_or_low c h = shuffle (goes_on c) (c == 0x2D) (c == 0x5F) h
  where
    shuffle : (x y z : Bool) → IsTrue (y || z) → IsTrue (x || y || z)
    shuffle true y z h = refl
    shuffle false y z h = h

pub not_whole_name : (bytes w r : List ℕ) (i j c k : ℕ) → rest bytes i ≡ w ++ rest bytes j → IsTrue (c == 0x2D || c == 0x5F) → Steps bytes j c k → IsWhole w (rest bytes i) r → ⊥
not_whole_name bytes w r i j c k e h s n =
    not_whole bytes w r i j (λ d. d == 0x2D || d == 0x5F) e (rw s.0 h) dash_or_low n

-- what ends a word ends a keyword and a number
front_starts : (p : ℕ → Bool) (s r : List ℕ) {t : List ℕ} → t ≡ s ++ r → IsTrue (no p (next r)) → IsTrue (starts p (next t)) → IsTrue (starts p (next s))
front_starts p [] r e n h = absurd (no_starts p (next r) n (rw e at h))
front_starts p (c ∷ s) r e n h = rw e at h

pub no_also : (p q : ℕ → Bool) → ((c : ℕ) → IsTrue (p c) → IsTrue (q c)) → (n : Option ℕ) → IsTrue (no q n) → IsTrue (no p n)
no_also p q f None h = refl
no_also p q f (Some c) h = go (p c) refl
  where
    go : (b : Bool) → p c ≡ b → IsTrue (not (p c))
    go false e = ap not e
    go true e = let both : true ≡ false = sym h ∙ ap not (f c e) in cc

begins_in : (c : ℕ) → IsTrue (begins_word c) → IsTrue (is_in_word c)
begins_in c h = or_left _ (c == 0x2D) (or_left (begins_word c) _ h)

more_in : (l d s w u m : Bool) → IsTrue (l || d || s || w || m || u) → IsTrue (l || u || s || w || d || m)
more_in true d s w u m h = refl
more_in false true s w u m h = or_left _ m (or_right (false || u || s || w) true refl)
more_in false false true w u m h = or_left _ m (or_left _ false (or_left _ w (or_right (false || u) true refl)))
more_in false false false true u m h = or_left _ m (or_left _ false (or_right (false || u || false) true refl))
more_in false false false false u true h = or_right (false || u || false || false || false) true refl
more_in false false false false true false h = refl
more_in false false false false false false h = cc

whole_in : (c : ℕ) → IsTrue (goes_on c || c == 0x2D || c == 0x5F) → IsTrue (is_in_word c)
whole_in c h = more_in (is_ascii_letter c) (is_digit c) (c == 0x24) (is_wide_letter c) (c == 0x5F) (c == 0x2D) h

keyword_in : (c : ℕ) → IsTrue (goes_on c) → IsTrue (is_in_word c)
keyword_in c h = whole_in c (or_left _ (c == 0x5F) (or_left (goes_on c) (c == 0x2D) h))

no_front_more : (p : ℕ → Bool) (u r : List ℕ) → IsTrue (no p (next u)) → IsTrue (no p (next r)) → IsTrue (no p (next (u ++ r)))
no_front_more p [] r h n = n
no_front_more p (c ∷ u) r h n = h

-- the word s before r, where neither a keyword nor a number stands
word_stands : (o : Options) (t s r : List ℕ) → t ≡ s ++ r → PassesWord t r → ((k : Keyword) (u : List ℕ) → IsKeyword k t u → ⊥) → (IsTrue o.non_finite_numbers → (u : List ℕ) → IsWhole (codes "Infinity") t u → ⊥) → (IsTrue o.non_finite_numbers → (u : List ℕ) → IsWhole (codes "NaN") t u → ⊥) → WordLit o s (next r)
word_stands o t s r e w no_keyword no_infinity no_nan =
    let all = many_split is_in_word w.goes_on in
    let same : all.0 ≡ s = front_same refl (sym all.1 ∙ e) in
    let out = ends_word (next r) w.ends in
    record {
      begins = front_starts begins_word s r e (no_also begins_word is_in_word begins_in (next r) out) w.begins;
      goes_on = rw same at all.2;
      ends = w.ends;
      no_keyword = λ k u h. no_keyword k (u ++ r) (e ∙ ap (λ x. x ++ r) h.0 ∙ append_assoc (keyword_text k) u r, no_front_more goes_on u r h.1 (no_also goes_on is_in_word keyword_in (next r) out));
      no_number = λ a.
          let ends : EndsWhole (next r) = no_also (λ c. goes_on c || c == 0x2D || c == 0x5F) is_in_word whole_in (next r) out in
          (λ f. no_infinity a r (e ∙ ap (λ x. x ++ r) f, ends), λ f. no_nan a r (e ∙ ap (λ x. x ++ r) f, ends));
    }

pub word_read : (o : Options) (bytes w : List ℕ) (i j : ℕ) → IsUtf8 bytes → IsCharBoundary bytes i → w ≡ slice_range bytes i j → ((k : Keyword) (u : List ℕ) → IsKeyword k (rest bytes i) u → ⊥) → (IsTrue o.non_finite_numbers → (u : List ℕ) → IsWhole (codes "Infinity") (rest bytes i) u → ⊥) → (IsTrue o.non_finite_numbers → (u : List ℕ) → IsWhole (codes "NaN") (rest bytes i) u → ⊥) → Between PassesWord bytes i j → Between (IsScanned o (lexeme (word (chars w)))) bytes i j
word_read o bytes w i j u b e no_keyword no_infinity no_nan n =
    let here = slice_here bytes w i j u (spans_of bytes i j b n) e in
    record { boundary = n.boundary; order = n.order; piece = (here, word_stands o (rest bytes i) (chars w) (rest bytes j) here n.piece no_keyword no_infinity no_nan) }

pub line_read : (o : Options) (bytes w : List ℕ) (i j : ℕ) → IsUtf8 bytes → Steps bytes i 0x2F (i + 1) → Steps bytes (i + 1) 0x2F (i + 1 + 1) → Reaches (Many (is_neither 0x0A 0x0D)) bytes (i + 2) j → LacksAt (is_neither 0x0A 0x0D) bytes j → w ≡ slice_range bytes (i + 2) j → Between (IsScanned o (line_comment (chars w))) bytes i j
line_read o bytes w i j u s d m n e =
    let two : i + 1 + 1 ≡ i + 2 = omega arith in
    let slash = rw two at d in
    let spans : Spans bytes (i + 2) j = record { from = slash.1; to = m.boundary; order = m.order } in
    let opening : rest bytes i ≡ 0x2F ∷ 0x2F ∷ rest bytes (i + 2) = s.0 ∙ ap (λ t. 0x2F ∷ t) slash.0 in
    record {
      boundary = m.boundary;
      order = omega (arith, m.order);
      piece = (rw opening (line m.piece n), opening ∙ ap (λ t. 0x2F ∷ 0x2F ∷ t) (slice_here bytes w (i + 2) j u spans e));
    }

pub block_read : (o : Options) (bytes w : List ℕ) (i j : ℕ) → IsUtf8 bytes → Steps bytes i 0x2F (i + 1) → Steps bytes (i + 1) 0x2A (i + 1 + 1) → HoldsBlock bytes (i + 2) j → w ≡ slice_range bytes (i + 2) j → Between (IsScanned o (block_comment (chars w))) bytes i (j + 2)
block_read o bytes w i j u s d h e =
    let two : i + 1 + 1 ≡ i + 2 = omega arith in
    let star = rw two at d in
    let spans : Spans bytes (i + 2) j = record { from = star.1; to = h.boundary; order = h.order } in
    let opening : rest bytes i ≡ 0x2F ∷ 0x2A ∷ rest bytes (i + 2) = s.0 ∙ ap (λ t. 0x2F ∷ t) star.0 in
    let closing : rest bytes j ≡ 0x2A ∷ 0x2F ∷ rest bytes (j + 2) = h.star.0 ∙ ap (λ t. 0x2A ∷ t) h.slash.0 in
    let text : rest bytes i ≡ (0x2F ∷ 0x2A ∷ chars w) ++ 0x2A ∷ 0x2F ∷ rest bytes (j + 2) =
    opening ∙ ap (λ t. 0x2F ∷ 0x2A ∷ t) (slice_here bytes w (i + 2) j u spans e ∙ ap (λ t. chars w ++ t) closing) in
    record {
      boundary = h.slash.1;
      order = omega (arith, h.order);
      piece = (rw text (block_of (chars w) (rest bytes (j + 2)) (rw e h.text)), text);
    }

-- punctuation is one byte
pub punctuation_small : OnlyAscii is_punctuation
punctuation_small c h = grind arith

-- where no comment stands
no_mark : {t u r : List ℕ} → t ≡ 0x2F ∷ u → IsTrue (no (λ c. c == 0x2F) (next u)) → IsTrue (no (λ c. c == 0x2A) (next u)) → IsComment t r → ⊥
no_mark e a b (inl (line g n)) = clash true (rw (sym (tails e)) at a) refl
no_mark e a b (inr (block g)) = clash true (rw (sym (tails e)) at b) refl

pub lone_slash : (bytes : List ℕ) (i : ℕ) → Steps bytes i 0x2F (i + 1) → LacksAt (λ c. c == 0x2F) bytes (i + 1) → LacksAt (λ c. c == 0x2A) bytes (i + 1) → NoneFrom IsComment bytes i
lone_slash bytes i s a b r c = no_mark s.0 a b c

no_block_end : {t u r : List ℕ} → t ≡ 0x2F ∷ 0x2A ∷ u → ((s : List ℕ) → UpToBlockEnd u s → ⊥) → IsComment t r → ⊥
no_block_end e n (inl (line g a)) = apart refl (tails e)
no_block_end {r = r} e n (inr (block g)) = n r (rw (tails (tails e)) at g)

pub open_block : (bytes : List ℕ) (i : ℕ) → Steps bytes i 0x2F (i + 1) → Steps bytes (i + 1) 0x2A (i + 1 + 1) → NoneFrom UpToBlockEnd bytes (i + 2) → NoneFrom IsComment bytes i
open_block bytes i s d n r c =
    let two : i + 1 + 1 ≡ i + 2 = omega arith in
    let star = rw two at d in
    no_block_end (s.0 ∙ ap (λ t. 0x2F ∷ t) star.0) n c

-- where no word stands
pub no_word : (o : Options) (bytes : List ℕ) (i : ℕ) → NoneFrom PassesWord bytes i → NoWord o bytes i
no_word o bytes i n s r w =
    n r (record { begins = word_begins r w.0 w.1; goes_on = word_run w.0 w.1; ends = w.1.ends })

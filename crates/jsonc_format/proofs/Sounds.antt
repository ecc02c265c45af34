-- The pieces of a document, each without the blanks that end it, are sound.
use Rattle.std.proofs.Common.{ℕ, zero, suc, ◌≡◌, ◌∙◌, sym, ap, refl, Bool, true, false, not, ◌&&◌, ◌||◌, ◌==◌, List, [], ◌∷◌, ◌++◌, take, IsTrue, append-nil}
use Rattle.jsonc_text.specs.Options.{Options}
use Rattle.jsonc_text.specs.Text.{next, no, starts, Many, stop, step, is_line_end}
use Rattle.jsonc_text.specs.Gaps.{is_blank, is_in_line, LineComment, line}
use Rattle.jsonc_text.specs.Places.{is_comment}
use Rattle.jsonc_text.specs.Lexemes.{LexemeKind, Scanned, lexeme, line_comment, block_comment, IsScanned}
use Rattle.jsonc_text.proofs.Basics.{test_eq}
use Rattle.jsonc_text.proofs.LexemesAlone.{scanned_alone}
use Rattle.jsonc_text.proofs.UniqueTokens.{scanned_no_blank}
use Rattle.jsonc_format.specs.Format.{Piece, IsPieces, no_more, piece, mark, in_line, written}
use Rattle.jsonc_format.proofs.Trim.{kept, kept_step, kept_again}
use Rattle.jsonc_format.proofs.DocumentPieces.{Named, names_next, word_named}
use Rattle.jsonc_format.proofs.Apart.{Sound, none, some, breaks_next}

abbrev pub trim_what : Scanned → Scanned
trim_what (line_comment s) = line_comment (kept s)
trim_what w = w

abbrev pub trim : Piece → Piece
trim p = record { gap = p.gap; what = trim_what p.what; text = written p.what p.text }

abbrev pub trimmed_pieces : List Piece → List Piece
trimmed_pieces [] = []
trimmed_pieces (p ∷ ps) = trim p ∷ trimmed_pieces ps

pub many_take : {q : ℕ → Bool} (n : ℕ) {s : List ℕ} → Many q s [] → Many q (take n s) []
many_take zero m = stop
many_take (suc n) stop = stop
many_take (suc n) (step h m) = step h (many_take n m)

-- a line comment without the blanks that end it
comment_kept : (c : List ℕ) → kept (0x2F ∷ 0x2F ∷ c) ≡ 0x2F ∷ 0x2F ∷ kept c
comment_kept c = kept_step 0x2F (0x2F ∷ c) ∙ ap (λ s. 0x2F ∷ s) (kept_step 0x2F c)

line_trimmed : (o : Options) (c text : List ℕ) → IsScanned o (line_comment c) text [] → IsScanned o (line_comment (kept c)) (kept text) [] × (kept (kept text) ≡ kept text)
line_trimmed o c text (l, e) =
    let same : text ≡ 0x2F ∷ 0x2F ∷ c = e ∙ append-nil (0x2F ∷ 0x2F ∷ c) in
    let short : kept text ≡ 0x2F ∷ 0x2F ∷ kept c = ap kept same ∙ comment_kept c in
    ((rw short (by_line (rw same at l)), short ∙ sym (append-nil (0x2F ∷ 0x2F ∷ kept c))), kept_again text)
  where
    by_line : LineComment (0x2F ∷ 0x2F ∷ c) [] → LineComment (0x2F ∷ 0x2F ∷ kept c) []
    by_line (line g n) = line (many_take _ g) refl

names_trimmed : (ps : List Piece) → IsTrue (names_next ps) → IsTrue (names_next (trimmed_pieces ps))
names_trimmed [] h = h
names_trimmed (p ∷ ps) h = by_kind p.what h
  where
    by_kind : (w : Scanned) → IsTrue (is_comment w || mark w == 0x3A) → IsTrue (is_comment (trim_what w) || mark (trim_what w) == 0x3A)
    by_kind (lexeme k) h = h
    by_kind (line_comment s) h = h
    by_kind (block_comment s) h = h

-- after a line comment a line ends
breaks_trimmed : (o : Options) {tail u : List ℕ} {ps : List Piece} → IsPieces o tail u ps → IsTrue (no is_in_line (next u)) → IsTrue (breaks_next (trimmed_pieces ps))
breaks_trimmed o (no_more h) n = refl
breaks_trimmed o (piece p {u = v} g x e l) n = by_gap p.gap p.what p.text x (rw e at n)
  where
    none_first : (t : List ℕ) → IsTrue (starts (λ c. not (is_blank c)) (next t)) → IsTrue (no is_in_line (next t)) → ⊥
    none_first [] h n = cc
    none_first (c ∷ t) h n = each (c == 0x0A) (c == 0x0D) n (λ k. let e : c ≡ 0x0A = test_eq c 0x0A k in let z : IsTrue false = rw e at h in cc) (λ k. let e : c ≡ 0x0D = test_eq c 0x0D k in let z : IsTrue false = rw e at h in cc)
      where
        each : (x y : Bool) → IsTrue (not (not (x || y))) → (x ≡ true → ⊥) → (y ≡ true → ⊥) → ⊥
        each true y n f g = f refl
        each false true n f g = g refl
        each false false n f g = cc

    by_gap : (g : List ℕ) (w : Scanned) (s : List ℕ) → IsScanned o w (s ++ v) v → IsTrue (no is_in_line (next (g ++ (s ++ v)))) → IsTrue (not (in_line g))
    by_gap [] w s x n = absurd (none_first (s ++ v) (scanned_no_blank o w (s ++ v) v x) n)
    by_gap (c ∷ g) w s x n = each (is_line_end c) (in_line g) n
      where
        each : (a b : Bool) → IsTrue (not (not a)) → IsTrue (not (not a && b))
        each true b n = refl
        each false b n = cc

pub sound_pieces : (o : Options) {tail t : List ℕ} {ps : List Piece} → IsPieces o tail t ps → Named ps → Sound o (trimmed_pieces ps)
sound_pieces o (no_more h) n = none
sound_pieces o (piece p {u = u} {ps = ps} g x e l) n = by_kind p.gap p.what p.text x n.0 (sound_pieces o l n.1)
  where
    by_kind : (gap : List ℕ) (w : Scanned) (s : List ℕ) → IsScanned o w (s ++ u) u → IsTrue (word_named w ps) → Sound o (trimmed_pieces ps) → Sound o (trim (record { gap = gap; what = w; text = s }) ∷ trimmed_pieces ps)
    by_kind gap (lexeme (LexemeKind.string v)) s x k others = let a = scanned_alone o (lexeme (LexemeKind.string v)) s u x in some _ u a.0 a.1 refl refl others
    by_kind gap (lexeme (LexemeKind.number v)) s x k others = let a = scanned_alone o (lexeme (LexemeKind.number v)) s u x in some _ u a.0 a.1 refl refl others
    by_kind gap (lexeme (LexemeKind.word v)) s x k others = let a = scanned_alone o (lexeme (LexemeKind.word v)) s u x in some _ u a.0 a.1 refl (names_trimmed ps k) others
    by_kind gap (lexeme (LexemeKind.keyword v)) s x k others = let a = scanned_alone o (lexeme (LexemeKind.keyword v)) s u x in some _ u a.0 a.1 refl refl others
    by_kind gap (lexeme (LexemeKind.punctuation v)) s x k others = let a = scanned_alone o (lexeme (LexemeKind.punctuation v)) s u x in some _ u a.0 a.1 refl refl others
    by_kind gap (block_comment c) s x k others = let a = scanned_alone o (block_comment c) s u x in some _ u a.0 a.1 refl refl others
    by_kind gap (line_comment c) s x k others =
        let a = scanned_alone o (line_comment c) s u x in
        let b = line_trimmed o c s a.0 in
        some _ u b.0 a.1 b.1 (breaks_trimmed o l a.1) others

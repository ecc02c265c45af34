-- What stands before a quote stands for the same string before any other follower.
use Rattle.std.proofs.Common.{ℕ, ◌≡◌, ◌∙◌, Bool, sym, ap, refl, List, [], ◌∷◌, ◌++◌, append_assoc, IsTrue}
use Rattle.jsonc_text.specs.Options.{Options}
use Rattle.jsonc_text.specs.Text.{next, starts}
use Rattle.jsonc_text.specs.Strings.{Piece, itself, plain, unit, pair, other, zero, byte, line, lone_cr, cr_lf, Pieces, done, piece, Decodes}
use Rattle.jsonc_text.proofs.Basics.{front_same}

-- the characters of a piece, which is that piece before any text that begins alike
record PieceFrame (o : Options) (q : ℕ) (t p r : List ℕ) : Type 0 where
  pub text : List ℕ
  pub split : t ≡ text ++ r
  pub elsewhere : (x : List ℕ) → next r ≡ next x → Piece o q (text ++ x) p x

before : (p : ℕ → Bool) (r x : List ℕ) → next r ≡ next x → IsTrue (starts p (next r)) → IsTrue (starts p (next x))
before p r x e h = rw e at h

piece_frame : {o : Options} {q : ℕ} {t p r : List ℕ} → Piece o q t p r → PieceFrame o q t p r
piece_frame (itself {c = c} a b) = record { text = c ∷ []; split = refl; elsewhere = λ x e. itself a b }
piece_frame (plain {c = c} h) = record { text = 0x5C ∷ c ∷ []; split = refl; elsewhere = λ x e. plain h }
piece_frame (unit {a = a} {b = b} {c = c} {d = d} h k) = record { text = 0x5C ∷ 0x75 ∷ a ∷ b ∷ c ∷ d ∷ []; split = refl; elsewhere = λ x e. unit h k }
piece_frame (pair {a = a} {b = b} {c = c} {d = d} {e = e} {f = f} {g = g} {h = h} i j k l) =
    record { text = 0x5C ∷ 0x75 ∷ a ∷ b ∷ c ∷ d ∷ 0x5C ∷ 0x75 ∷ e ∷ f ∷ g ∷ h ∷ []; split = refl; elsewhere = λ x e. pair i j k l }
piece_frame (other {c = c} p h) = record { text = 0x5C ∷ c ∷ []; split = refl; elsewhere = λ x e. other p h }
piece_frame (zero {r = r} p h) = record { text = 0x5C ∷ 0x30 ∷ []; split = refl; elsewhere = λ x e. zero p (before _ r x e h) }
piece_frame (byte {a = a} {b = b} p h) = record { text = 0x5C ∷ 0x78 ∷ a ∷ b ∷ []; split = refl; elsewhere = λ x e. byte p h }
piece_frame (line {c = c} p h) = record { text = 0x5C ∷ c ∷ []; split = refl; elsewhere = λ x e. line p h }
piece_frame (lone_cr {r = r} p h) = record { text = 0x5C ∷ 0x0D ∷ []; split = refl; elsewhere = λ x e. lone_cr p (before _ r x e h) }
piece_frame (cr_lf p) = record { text = 0x5C ∷ 0x0D ∷ 0x0A ∷ []; split = refl; elsewhere = λ x e. cr_lf p }

-- the text before the quote, which stands for the same string whatever follows the quote
pub record StringFrame (o : Options) (q : ℕ) (t v r : List ℕ) : Type 0 where
  pub text : List ℕ
  pub split : t ≡ text ++ q ∷ r
  pub anywhere : (x : List ℕ) → Pieces o q (text ++ q ∷ x) v (q ∷ x)

same_next : (s : List ℕ) (q : ℕ) (r x : List ℕ) → next (s ++ q ∷ r) ≡ next (s ++ q ∷ x)
same_next [] q r x = refl
same_next (c ∷ s) q r x = refl

one_more : {o : Options} {q : ℕ} {t u p v w r : List ℕ} → PieceFrame o q t p u → StringFrame o q u v r → w ≡ p ++ v → StringFrame o q t w r
one_more {q = q} {r = r} f g e =
    record {
      text = f.text ++ g.text;
      split = f.split ∙ ap (λ x. f.text ++ x) g.split ∙ sym (append_assoc f.text g.text (q ∷ r));
      anywhere = λ x. rw (append_assoc f.text g.text (q ∷ x)) (piece (f.elsewhere (g.text ++ q ∷ x) (ap next g.split ∙ same_next g.text q r x)) (g.anywhere x) e);
    }

pub pieces_frame : {o : Options} {q : ℕ} {t v x r : List ℕ} → Pieces o q t v x → x ≡ q ∷ r → StringFrame o q t v r
pieces_frame {o} {q} {t} {r = r} done e = record { text = []; split = e; anywhere = λ x. done }
pieces_frame (piece k g a) e = one_more (piece_frame k) (pieces_frame g e) a

-- from a frame of this very text to its pieces before any follower
at_text : {o : Options} {q : ℕ} (s r : List ℕ) {v : List ℕ} → StringFrame o q (s ++ q ∷ r) v r → (x : List ℕ) → Pieces o q (s ++ q ∷ x) v (q ∷ x)
at_text {o} {q} s r f x = let p : s ≡ f.text = front_same refl f.split in rw p (f.anywhere x)

pub pieces_of_decodes : {o : Options} {q : ℕ} (s : List ℕ) {v : List ℕ} (r : List ℕ) → Decodes o q s v → Pieces o q (s ++ q ∷ r) v (q ∷ r)
pieces_of_decodes s r d = at_text s [] (pieces_frame d refl) r

pub decodes_of_pieces : {o : Options} {q : ℕ} (s r : List ℕ) {v : List ℕ} → Pieces o q (s ++ q ∷ r) v (q ∷ r) → Decodes o q s v
decodes_of_pieces s r p = at_text s r (pieces_frame p refl) []

pub pieces_decode : {o : Options} {q : ℕ} {t v r : List ℕ} → Pieces o q t v (q ∷ r) → (s : List ℕ) × (t ≡ s ++ q ∷ r) × Decodes o q s v
pieces_decode p = let f = pieces_frame p refl in (f.text, f.split, f.anywhere [])

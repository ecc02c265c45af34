-- A string stands for one text, and ends at one place.
use Rattle.std.proofs.Common.{ℕ, ◌≡◌, ◌≢◌, ◌∙◌, sym, ap, Bool, true, false, not, refl, List, [], ◌∷◌, ◌++◌, IsTrue, arith}
use Rattle.std.proofs.lemmas.Bool.{false≢true}
use Rattle.jsonc_text.specs.Options.{Options}
use Rattle.jsonc_text.specs.Strings.{Meaning, Piece, itself, plain, unit, pair, other, zero, byte, line, lone_cr, cr_lf, Pieces, done, piece, IsString, IsQuote, is_high_surrogate, is_surrogate, hex4, Decodes}
use Rattle.jsonc_text.proofs.StringFrames.{pieces_of_decodes}
use Rattle.jsonc_text.proofs.Basics.{heads, tails}

surrogate : (n : ℕ) → IsTrue (not (is_surrogate n)) → IsTrue (is_high_surrogate n) → ⊥
surrogate n a b = grind arith

same_given : {m : Meaning} {d e : ℕ} → m ≡ Meaning.gives d → m ≡ Meaning.gives e → d ≡ e
same_given p q = cc

same_extended : {m : Meaning} {d e : ℕ} → m ≡ Meaning.extended d → m ≡ Meaning.extended e → d ≡ e
same_extended p q = cc

-- what an escape means tells the cases apart: named so, it is not sought among all the facts of each case
abbrev is_given : Meaning → Bool
is_given (Meaning.gives d) = true
is_given _ = false

abbrev is_extended : Meaning → Bool
is_extended (Meaning.extended d) = true
is_extended _ = false

abbrev is_end : Meaning → Bool
is_end Meaning.line_end = true
is_end _ = false

no_given : {m : Meaning} {d : ℕ} → is_given m ≡ false → m ≡ Meaning.gives d → ⊥
no_given differs is = false≢true (sym differs ∙ ap is_given is)

no_extended : {m : Meaning} {d : ℕ} → is_extended m ≡ false → m ≡ Meaning.extended d → ⊥
no_extended differs is = false≢true (sym differs ∙ ap is_extended is)

no_end : {m : Meaning} → is_end m ≡ false → m ≡ Meaning.line_end → ⊥
no_end differs is = false≢true (sym differs ∙ ap is_end is)

one_char : {d e : ℕ} {r : List ℕ} → d ≡ e → (d ∷ [] ≡ e ∷ []) × (r ≡ r)
one_char p = (ap (λ x. x ∷ []) p, refl)

pub piece_unique : {o : Options} {q : ℕ} {t p w r s : List ℕ} → Piece o q t p r → Piece o q t w s → (p ≡ w) × (r ≡ s)
piece_unique (itself a b) (itself c d) = (refl, refl)
piece_unique (itself a b) (plain e) = absurd (b refl)
piece_unique (itself a b) (unit e f) = absurd (b refl)
piece_unique (itself a b) (pair e f g h) = absurd (b refl)
piece_unique (itself a b) (other e f) = absurd (b refl)
piece_unique (itself a b) (zero e f) = absurd (b refl)
piece_unique (itself a b) (byte e f) = absurd (b refl)
piece_unique (itself a b) (line e f) = absurd (b refl)
piece_unique (itself a b) (lone_cr e f) = absurd (b refl)
piece_unique (itself a b) (cr_lf e) = absurd (b refl)
piece_unique (plain e) (itself a b) = absurd (b refl)
piece_unique (plain e) (plain f) = one_char (same_given e f)
piece_unique (plain e) (unit a b) = absurd (no_given refl e)
piece_unique (plain e) (pair a b c d) = absurd (no_given refl e)
piece_unique (plain e) (other a f) = absurd (no_given (ap is_given f) e)
piece_unique (plain e) (zero a b) = absurd (no_given refl e)
piece_unique (plain e) (byte a b) = absurd (no_given refl e)
piece_unique (plain e) (line a f) = absurd (no_given (ap is_given f) e)
piece_unique (plain e) (lone_cr a f) = absurd (no_given refl e)
piece_unique (plain e) (cr_lf a) = absurd (no_given refl e)
piece_unique (unit a b) (itself c d) = absurd (d refl)
piece_unique (unit a b) (plain e) = absurd (no_given refl e)
piece_unique (unit a b) (unit c d) = (refl, refl)
piece_unique (unit {a = a} {b = b} {c = c} {d = d} x y) (pair z u v w) = absurd (surrogate (hex4 a b c d) y u)
piece_unique (unit a b) (other c f) = absurd (no_extended refl f)
piece_unique (unit a b) (line c f) = absurd (no_end refl f)
piece_unique (pair a b c d) (itself e f) = absurd (f refl)
piece_unique (pair a b c d) (plain e) = absurd (no_given refl e)
piece_unique (pair {a = a} {b = b} {c = c} {d = d} z u v w) (unit x y) = absurd (surrogate (hex4 a b c d) y u)
piece_unique (pair a b c d) (pair e f g h) = (refl, refl)
piece_unique (pair a b c d) (other e f) = absurd (no_extended refl f)
piece_unique (pair a b c d) (line e f) = absurd (no_end refl f)
piece_unique (other a e) (itself c d) = absurd (d refl)
piece_unique (other a e) (plain f) = absurd (no_given (ap is_given e) f)
piece_unique (other a e) (unit c d) = absurd (no_extended refl e)
piece_unique (other a e) (pair c d f g) = absurd (no_extended refl e)
piece_unique (other a e) (other c f) = one_char (same_extended e f)
piece_unique (other a e) (zero c d) = absurd (no_extended refl e)
piece_unique (other a e) (byte c d) = absurd (no_extended refl e)
piece_unique (other a e) (line c d) = absurd (no_extended (ap is_extended d) e)
piece_unique (other a e) (lone_cr c d) = absurd (no_extended refl e)
piece_unique (other a e) (cr_lf c) = absurd (no_extended refl e)
piece_unique (zero a b) (itself c d) = absurd (d refl)
piece_unique (zero a b) (plain e) = absurd (no_given refl e)
piece_unique (zero a b) (other c e) = absurd (no_extended refl e)
piece_unique (zero a b) (zero c d) = (refl, refl)
piece_unique (zero a b) (line c e) = absurd (no_end refl e)
piece_unique (byte a b) (itself c d) = absurd (d refl)
piece_unique (byte a b) (plain e) = absurd (no_given refl e)
piece_unique (byte a b) (other c e) = absurd (no_extended refl e)
piece_unique (byte a b) (byte c d) = (refl, refl)
piece_unique (byte a b) (line c e) = absurd (no_end refl e)
piece_unique (line a e) (itself c d) = absurd (d refl)
piece_unique (line a e) (plain f) = absurd (no_given (ap is_given e) f)
piece_unique (line a e) (unit c d) = absurd (no_end refl e)
piece_unique (line a e) (pair c d f g) = absurd (no_end refl e)
piece_unique (line a e) (other c f) = absurd (no_extended (ap is_extended e) f)
piece_unique (line a e) (zero c d) = absurd (no_end refl e)
piece_unique (line a e) (byte c d) = absurd (no_end refl e)
piece_unique (line a e) (line c d) = (refl, refl)
piece_unique (line a e) (lone_cr c d) = absurd (no_end refl e)
piece_unique (line a e) (cr_lf c) = absurd (no_end refl e)
piece_unique (lone_cr a b) (itself c d) = absurd (d refl)
piece_unique (lone_cr a b) (plain e) = absurd (no_given refl e)
piece_unique (lone_cr a b) (other c e) = absurd (no_extended refl e)
piece_unique (lone_cr a b) (line c e) = absurd (no_end refl e)
piece_unique (lone_cr a b) (lone_cr c d) = (refl, refl)
piece_unique (lone_cr a b) (cr_lf c) = absurd cc
piece_unique (cr_lf a) (itself c d) = absurd (d refl)
piece_unique (cr_lf a) (plain e) = absurd (no_given refl e)
piece_unique (cr_lf a) (other c e) = absurd (no_extended refl e)
piece_unique (cr_lf a) (line c e) = absurd (no_end refl e)
piece_unique (cr_lf a) (lone_cr c d) = absurd cc
piece_unique (cr_lf a) (cr_lf c) = (refl, refl)

-- no piece begins with the quote
pub no_piece : {o : Options} {q : ℕ} {r p u : List ℕ} → q ≢ 0x5C → Piece o q (q ∷ r) p u → ⊥
no_piece n (itself a b) = a refl
no_piece n (plain e) = n refl
no_piece n (unit a b) = n refl
no_piece n (pair a b c d) = n refl
no_piece n (other a b) = n refl
no_piece n (zero a b) = n refl
no_piece n (byte a b) = n refl
no_piece n (line a b) = n refl
no_piece n (lone_cr a b) = n refl
no_piece n (cr_lf a) = n refl

row_same : {v w p r x y : List ℕ} → x ≡ p ++ v → y ≡ r ++ w → p ≡ r → v ≡ w → x ≡ y
row_same a b c d = cc

pub pieces_unique : {o : Options} {q : ℕ} {t v w x y r s : List ℕ} → q ≢ 0x5C → Pieces o q t v x → Pieces o q t w y → x ≡ q ∷ r → y ≡ q ∷ s → (v ≡ w) × (x ≡ y)
pieces_unique n done done e f = (refl, refl)
pieces_unique n done (piece k g a) e f = absurd (no_piece n (rw e at k))
pieces_unique n (piece k g a) done e f = absurd (no_piece n (rw f at k))
pieces_unique n (piece k g a) (piece l h b) e f =
    let p = piece_unique k l in
    let z = pieces_unique n g (rw (sym p.1) at h) e f in
    (row_same a b p.0 z.0, z.1)

pub no_backslash : (o : Options) {q : ℕ} → IsQuote o q → q ≢ 0x5C
no_backslash o a e = let k = rw e at a in cc

same_string : (o : Options) {q : ℕ} (s u r x : List ℕ) {v w t : List ℕ} → IsQuote o q → t ≡ (q ∷ s) ++ q ∷ r → t ≡ (q ∷ u) ++ q ∷ x → Decodes o q s v → Decodes o q u w → (v ≡ w) × (r ≡ x)
same_string o {q} s u r x a e f h k =
    let p : s ++ q ∷ r ≡ u ++ q ∷ x = tails (sym e ∙ f) in
    let z = pieces_unique (no_backslash o a) (pieces_of_decodes s r h) (rw p (pieces_of_decodes u x k)) refl refl in
    (z.0, tails z.1)

pub string_unique : {o : Options} {t v w r s : List ℕ} → IsString o t v r → IsString o t w s → (v ≡ w) × (r ≡ s)
string_unique {o} {r = r} {s = s} (q, u, a, e, h) (x, y, b, f, k) =
    let p : x ≡ q = heads (sym f ∙ e) in same_string o u y r s a e (rw p at f) h (rw p at k)

pub decodes_unique : (o : Options) {q : ℕ} (s : List ℕ) {v w : List ℕ} → IsQuote o q → Decodes o q s v → Decodes o q s w → v ≡ w
decodes_unique o s a h k = (pieces_unique (no_backslash o a) h k refl refl).0

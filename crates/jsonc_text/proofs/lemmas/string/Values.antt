-- What a literal stands for, computed and by its pieces.
use Rattle.std.proofs.Common.{ℕ, ◌≡◌, ◌≢◌, ◌∙◌, sym, ap, refl, List, [], ◌∷◌, ◌++◌, append_assoc, arith, IsUtf8, IsTrue, Bool, true, false, not, IsCharBoundary, chars, slice_range, ◌==◌, if◌then◌else◌, Option, Some, None}
use Rattle.std.proofs.lemmas.List.{append-nil}
use Rattle.jsonc_text.specs.Options.{Options, all_on}
use Rattle.jsonc_text.specs.Text.{rest, next, starts}
use Rattle.jsonc_text.specs.Strings.{hex2, hex4, pair_char, is_surrogate, is_high_surrogate, Piece, itself, plain, unit, pair, other, zero as nul_piece, byte, line, lone_cr, cr_lf, Pieces, done, piece, Decodes, IsQuote, IsString}
use Rattle.jsonc_text.specs.StringValue.{Escaped, escaped, pair_of, escape_of, escape_before, value_before, literal_value, string_value}
use Rattle.jsonc_text.specs.string.Between.{Between}
use Rattle.jsonc_text.specs.string.Escapes.{escapes, IsQuoted}
use Rattle.jsonc_text.proofs.Basics.{test_eq, eq_test}
use Rattle.jsonc_text.proofs.Cuts.{slice_chars}
use Rattle.jsonc_text.proofs.UniqueStrings.{no_backslash}

-- two characters that differ fail the test
differ : (c d : ℕ) → c ≢ d → (c == d) ≡ false
differ c d n = go (c == d) refl
  where
    go : (b : Bool) → (c == d) ≡ b → (c == d) ≡ false
    go false e = e
    go true e = absurd (n (test_eq c d e))

no_high : (n : ℕ) → IsTrue (not (is_surrogate n)) → is_high_surrogate n ≡ false
no_high n h = grind arith

-- a CR that no LF follows
no_feed : (n : Option ℕ) → IsTrue (starts (λ c. not (c == 0x0A)) n) → starts (λ c. c == 0x0A) n ≡ false
no_feed None h = cc
no_feed (Some c) h = go (c == 0x0A) h
  where
    go : (b : Bool) → IsTrue (not b) → b ≡ false
    go false h = refl
    go true h = cc

if_not : (x y : List ℕ) (b : Bool) → b ≡ false → (if b then x else y) ≡ y
if_not x y false e = refl
if_not x y true e = cc

-- an escape is read at its backslash
escape_value : (q : ℕ) (t : List ℕ) (e : Escaped) → q ≢ 0x5C → escape_before q t ≡ e → value_before q 0 (0x5C ∷ t) ≡ e.value ++ value_before q e.width t
escape_value q t e n h =
    if_not [] ((escape_before q t).value ++ value_before q (escape_before q t).width t) (0x5C == q) (differ 0x5C q (λ f. n (sym f)))
    ∙ ap (λ x. x.value ++ value_before q x.width t) h

itself_value : (q c : ℕ) (t : List ℕ) → c ≢ q → c ≢ 0x5C → value_before q 0 (c ∷ t) ≡ c ∷ value_before q 0 t
itself_value q c t a b =
    let other = if c == 0x5C then (escape_before q t).value ++ value_before q (escape_before q t).width t else c ∷ value_before q 0 t in
    if_not [] other (c == q) (differ c q a)
    ∙ if_not ((escape_before q t).value ++ value_before q (escape_before q t).width t) (c ∷ value_before q 0 t) (c == 0x5C) (differ c 0x5C b)

-- a piece is read as it stands
piece_value : {o : Options} {q : ℕ} {t p r : List ℕ} → q ≢ 0x5C → Piece o q t p r → value_before q 0 t ≡ p ++ value_before q 0 r
piece_value {q = q} n (itself {c = c} {r = r} a b) = itself_value q c r a b
piece_value {q = q} n (plain {c = c} {d = d} {r = r} h) = escape_value q (c ∷ r) (escaped (d ∷ []) 1) n (ap (λ m. escape_of m r) h)
piece_value {q = q} n (unit {a = a} {b = b} {c = c} {d = d} {r = r} h k) =
    escape_value q (0x75 ∷ a ∷ b ∷ c ∷ d ∷ r) (escaped (hex4 a b c d ∷ []) 5) n
    (ap (λ x. if x then pair_of (hex4 a b c d) r else escaped (hex4 a b c d ∷ []) 5) (no_high (hex4 a b c d) k))
piece_value {q = q} n (pair {a = a} {b = b} {c = c} {d = d} {e = e} {f = f} {g = g} {h = h} {r = r} i j k l) =
    escape_value q (0x75 ∷ a ∷ b ∷ c ∷ d ∷ 0x5C ∷ 0x75 ∷ e ∷ f ∷ g ∷ h ∷ r) (escaped (pair_char (hex4 a b c d) (hex4 e f g h) ∷ []) 11) n
    (ap (λ x. if x then escaped (pair_char (hex4 a b c d) (hex4 e f g h) ∷ []) 11 else escaped (hex4 a b c d ∷ []) 5) j)
piece_value {q = q} n (other {c = c} {d = d} {r = r} h k) = escape_value q (c ∷ r) (escaped (d ∷ []) 1) n (ap (λ m. escape_of m r) k)
piece_value {q = q} n (nul_piece {r = r} h k) = escape_value q (0x30 ∷ r) (escaped (0 ∷ []) 1) n refl
piece_value {q = q} n (byte {a = a} {b = b} {r = r} h k) = escape_value q (0x78 ∷ a ∷ b ∷ r) (escaped (hex2 a b ∷ []) 3) n refl
piece_value {q = q} n (line {c = c} {r = r} h k) = escape_value q (c ∷ r) (escaped [] 1) n (ap (λ m. escape_of m r) k)
piece_value {q = q} n (lone_cr {r = r} h k) = escape_value q (0x0D ∷ r) (escaped [] 1) n (ap (λ x. escaped [] (if x then 2 else 1)) (no_feed (next r) k))
piece_value {q = q} n (cr_lf {r = r} h) = escape_value q (0x0D ∷ 0x0A ∷ r) (escaped [] 2) n refl

pieces_value : {o : Options} {q : ℕ} {t v r : List ℕ} → q ≢ 0x5C → Pieces o q t v r → value_before q 0 t ≡ v ++ value_before q 0 r
pieces_value n done = refl
pieces_value {q = q} {r = r} n (piece {p = p} {v = v} k g e) =
    piece_value n k ∙ ap (λ x. p ++ x) (pieces_value n g) ∙ sym (append_assoc p v (value_before q 0 r)) ∙ ap (λ x. x ++ value_before q 0 r) (sym e)

-- at the closing quote nothing more is read
ends_there : (q : ℕ) → value_before q 0 (q ∷ []) ≡ []
ends_there q = if_so (if q == 0x5C then (escape_before q []).value ++ value_before q (escape_before q []).width [] else q ∷ value_before q 0 []) (q == q) (eq_test q q refl)
  where
    if_so : (y : List ℕ) (b : Bool) → b ≡ true → (if b then [] else y) ≡ []
    if_so y true e = refl
    if_so y false e = cc

literal_decodes : (o : Options) (q : ℕ) (s v : List ℕ) → q ≢ 0x5C → Decodes o q s v → literal_value (q ∷ s ++ q ∷ []) ≡ v
literal_decodes o q s v n d = pieces_value n d ∙ ap (λ x. v ++ x) (ends_there q) ∙ append-nil v

-- of a literal by itself
pub literal_is : (o : Options) (t v : List ℕ) → IsString o t v [] → literal_value t ≡ v
literal_is o t v (q, s, a, e, d) = ap literal_value e ∙ literal_decodes o q s v (no_backslash o a) d

-- the string that stands somewhere is what its literal stands for
decoded_value : (o : Options) (q : ℕ) (bytes s v : List ℕ) (start end : ℕ) → IsUtf8 bytes → IsCharBoundary bytes start → IsCharBoundary bytes end → q ≢ 0x5C → rest bytes start ≡ (q ∷ s) ++ q ∷ rest bytes end → Decodes o q s v → string_value bytes start end ≡ v
decoded_value o q bytes s v start end u b c n e d =
    let text : rest bytes start ≡ (q ∷ s ++ q ∷ []) ++ rest bytes end = e ∙ ap (λ x. q ∷ x) (sym (append_assoc s (q ∷ []) (rest bytes end))) in
    let literal : chars (slice_range bytes start end) ≡ q ∷ s ++ q ∷ [] = slice_chars bytes (q ∷ s ++ q ∷ []) start end u b c text in
    ap literal_value literal ∙ literal_decodes o q s v n d

pub value_of_string : (o : Options) (bytes v : List ℕ) (start end : ℕ) → IsUtf8 bytes → IsCharBoundary bytes start → IsCharBoundary bytes end → IsString o (rest bytes start) v (rest bytes end) → string_value bytes start end ≡ v
value_of_string o bytes v start end u b c (q, s, a, e, d) = decoded_value o q bytes s v start end u b c (no_backslash o a) e d

pub value_stands : (taken : Bool) (q : ℕ) (bytes v : List ℕ) (start end : ℕ) → IsUtf8 bytes → IsCharBoundary bytes start → IsQuote all_on q → Between (IsQuoted taken q v) bytes start end → string_value bytes start end ≡ v
value_stands taken q bytes v start end u b a stands =
    decoded_value (escapes taken) q bytes stands.piece.0 v start end u b stands.boundary (no_backslash all_on a) stands.piece.1 stands.piece.2

pub quoted_as_computed : (taken : Bool) (q : ℕ) (bytes v : List ℕ) (start end : ℕ) → IsUtf8 bytes → IsCharBoundary bytes start → IsQuote all_on q → Between (IsQuoted taken q v) bytes start end → Between (IsQuoted taken q (string_value bytes start end)) bytes start end
quoted_as_computed taken q bytes v start end u b a stands = rw (value_stands taken q bytes v start end u b a stands) stands

-- Pieces that begin with a backslash, and what they need.
use Rattle.std.proofs.Common.{ℕ, ◌+◌, ◌*◌, ◌<◌, ◌≤◌, ◌≡◌, ◌≢◌, ◌∙◌, sym, ap, refl, subst, List, [], ◌∷◌, arith, IsTrue, Bool, true, false, not, IsCharBoundary, ◌==◌, ◌&&◌, ◌||◌, nat_lt, nat_le}
use Rattle.std.specs.Char.{digit_value, len_utf8}
use Rattle.jsonc_text.specs.Text.{rest, next, no, starts, is_digit, is_hex_digit, Spans}
use Rattle.jsonc_text.specs.Chars.{Steps}
use Rattle.jsonc_text.specs.Strings.{Meaning, gives, extended, code_unit, code_byte, nul, line_end, carriage_return, refused, meaning, AreHex4, hex2, hex4, is_surrogate, is_high_surrogate, is_low_surrogate, pair_char, itself, plain, unit, pair, other, zero, byte, line, lone_cr, cr_lf}
use Rattle.jsonc_text.proofs.Basics.{heads, tails, clash, and_both, no_starts}
use Rattle.jsonc_text.specs.string.Between.{Between, NoneFrom, LacksAt}
use Rattle.jsonc_text.specs.string.Escapes.{IsUnit, unit_of, IsPiece, NoPiece, NoPieceAnyhow, is_plain}

-- a unit stands at the front, which is no surrogate, or the first of a pair
pub data StartsUnits (t : List ℕ) : Type 0 where
  alone : (n : ℕ) (r : List ℕ) → IsUnit n t r → IsTrue (not (is_surrogate n)) → StartsUnits t
  paired : (n m : ℕ) (u r : List ℕ) → IsUnit n t u → IsTrue (is_high_surrogate n) → IsUnit m u r → IsTrue (is_low_surrogate m) → StartsUnits t

-- two hex digits stand at the front
pub data StartsByte : List ℕ → Type 0 where
  two_digits : {a b : ℕ} {r : List ℕ} → IsTrue (is_hex_digit a && is_hex_digit b) → StartsByte (a ∷ b ∷ r)

-- a character stands at the front
pub data StartsSome : List ℕ → Type 0 where
  some : {c : ℕ} {r : List ℕ} → StartsSome (c ∷ r)

-- what a backslash and the character c, of this meaning, need after them so that a piece begins with them
abbrev pub Needs : Bool → ℕ → Meaning → List ℕ → Type 0
Needs taken c (gives d) u = Unit {0}
Needs taken c (extended d) u = IsTrue taken
Needs taken c code_unit u = StartsUnits (0x5C ∷ c ∷ u)
Needs taken c code_byte u = IsTrue taken × StartsByte u
Needs taken c nul u = IsTrue taken × IsTrue (starts (λ d. not (is_digit d)) (next u))
Needs taken c line_end u = IsTrue taken
Needs taken c carriage_return u = IsTrue taken × StartsSome u
Needs taken c refused u = ⊥

starts_some : (p : ℕ → Bool) (u : List ℕ) → IsTrue (starts p (next u)) → StartsSome u
starts_some p [] h = cc
starts_some p (c ∷ u) h = some

pub needs : (taken : Bool) (q c : ℕ) (u : List ℕ) {p r : List ℕ} → IsPiece taken q p (0x5C ∷ c ∷ u) r → Needs taken c (meaning q c) u
needs taken q c u (itself a b) = absurd (b refl)
needs taken q c u (plain e) = rw e tt
needs taken q _ _ (unit {r = r} h k) = alone _ r (unit_of h refl) k
needs taken q _ _ (pair {r = r} h k i l) = paired _ _ _ r (unit_of h refl) k (unit_of i refl) l
needs taken q c u (other h e) = rw e h
needs taken q _ u (zero h k) = (h, k)
needs taken q _ _ (byte h k) = (h, two_digits k)
needs taken q c u (line h e) = rw e h
needs taken q _ u (lone_cr h k) = (h, starts_some (λ d. not (d == 0x0A)) u k)
needs taken q _ _ (cr_lf h) = (h, some)

-- no piece begins with a backslash at the end of the text
pub none_at_end : (taken : Bool) (q : ℕ) {p r t : List ℕ} → t ≡ 0x5C ∷ [] → IsPiece taken q p t r → ⊥
none_at_end taken q e (itself a b) = b (heads e)
none_at_end taken q e (plain k) = let f = tails e in cc
none_at_end taken q e (unit h k) = let f = tails e in cc
none_at_end taken q e (pair h k i l) = let f = tails e in cc
none_at_end taken q e (other h k) = let f = tails e in cc
none_at_end taken q e (zero h k) = let f = tails e in cc
none_at_end taken q e (byte h k) = let f = tails e in cc
none_at_end taken q e (line h k) = let f = tails e in cc
none_at_end taken q e (lone_cr h k) = let f = tails e in cc
none_at_end taken q e (cr_lf h) = let f = tails e in cc

pub unit_unique : {n m : ℕ} {t r s : List ℕ} → IsUnit n t r → IsUnit m t s → (n ≡ m) × (r ≡ s)
unit_unique (unit_of h e) (unit_of k f) = (e ∙ sym f, refl)

pub hex_parts : (a b c d : ℕ) → AreHex4 a b c d → IsTrue (is_hex_digit a) × IsTrue (is_hex_digit b) × IsTrue (is_hex_digit c) × IsTrue (is_hex_digit d)
hex_parts a b c d h =
    let p = and_both (is_hex_digit a && is_hex_digit b && is_hex_digit c) (is_hex_digit d) h in
    let q = and_both (is_hex_digit a && is_hex_digit b) (is_hex_digit c) p.0 in
    let r = and_both (is_hex_digit a) (is_hex_digit b) q.0 in
    (r.0, r.1, q.1, p.1)

-- where one of the four digits is missing
no_first : {n x y : ℕ} {t u r : List ℕ} → IsUnit n t r → t ≡ x ∷ y ∷ u → IsTrue (no is_hex_digit (next u)) → ⊥
no_first (unit_of {a = a} {b = b} {c = c} {d = d} h k) e l = clash (is_hex_digit a) (rw (sym (tails (tails e))) at l) (hex_parts a b c d h).0

no_second : {n x y z : ℕ} {t u r : List ℕ} → IsUnit n t r → t ≡ x ∷ y ∷ z ∷ u → IsTrue (no is_hex_digit (next u)) → ⊥
no_second (unit_of {a = a} {b = b} {c = c} {d = d} h k) e l = clash (is_hex_digit b) (rw (sym (tails (tails (tails e)))) at l) (hex_parts a b c d h).1

no_third : {n x y z v : ℕ} {t u r : List ℕ} → IsUnit n t r → t ≡ x ∷ y ∷ z ∷ v ∷ u → IsTrue (no is_hex_digit (next u)) → ⊥
no_third (unit_of {a = a} {b = b} {c = c} {d = d} h k) e l = clash (is_hex_digit c) (rw (sym (tails (tails (tails (tails e))))) at l) (hex_parts a b c d h).2

no_fourth : {n x y z v w : ℕ} {t u r : List ℕ} → IsUnit n t r → t ≡ x ∷ y ∷ z ∷ v ∷ w ∷ u → IsTrue (no is_hex_digit (next u)) → ⊥
no_fourth (unit_of {a = a} {b = b} {c = c} {d = d} h k) e l = clash (is_hex_digit d) (rw (sym (tails (tails (tails (tails (tails e)))))) at l) (hex_parts a b c d h).3

-- a step, by another name of its end
pub leads : (bytes : List ℕ) (i c j k : ℕ) → Steps bytes i c j → j ≡ k → Steps bytes i c k
leads bytes i c j k s e = let P : ℕ → Type 0 = λ n. Steps bytes i c n in subst P e s

-- the character of a step, by its value
pub steps_known : (bytes : List ℕ) (i c d j k : ℕ) → Steps bytes i c j → c ≡ d → j ≡ k → Steps bytes i d k
steps_known bytes i c d j k s e f = let P : ℕ → Type 0 = λ x. Steps bytes i x k in subst P e (leads bytes i c j k s f)

-- the two marks of a unit, and its digits so far
pub two : (bytes : List ℕ) (i x y : ℕ) → Steps bytes i x (i + 1) → Steps bytes (i + 1) y (i + 2) → rest bytes i ≡ x ∷ y ∷ rest bytes (i + 2)
two bytes i x y s u = rw (s.0, u.0) refl

one_on : (bytes : List ℕ) (i x j k : ℕ) → Steps bytes j x (j + 1) → j + 1 ≡ k → rest bytes j ≡ x ∷ rest bytes k
one_on bytes i x j k s e = (leads bytes j x (j + 1) k s e).0

three : (bytes : List ℕ) (i x y a : ℕ) → Steps bytes i x (i + 1) → Steps bytes (i + 1) y (i + 2) → Steps bytes (i + 2) a (i + 2 + 1) → rest bytes i ≡ x ∷ y ∷ a ∷ rest bytes (i + 3)
three bytes i x y a s u sa = rw (two bytes i x y s u, one_on bytes i a (i + 2) (i + 3) sa (omega arith)) refl

four : (bytes : List ℕ) (i x y a b : ℕ) → Steps bytes i x (i + 1) → Steps bytes (i + 1) y (i + 2) → Steps bytes (i + 2) a (i + 2 + 1) → Steps bytes (i + 3) b (i + 3 + 1) → rest bytes i ≡ x ∷ y ∷ a ∷ b ∷ rest bytes (i + 4)
four bytes i x y a b s u sa sb = rw (three bytes i x y a s u sa, one_on bytes i b (i + 3) (i + 4) sb (omega arith)) refl

pub five : (bytes : List ℕ) (i x y a b c : ℕ) → Steps bytes i x (i + 1) → Steps bytes (i + 1) y (i + 2) → Steps bytes (i + 2) a (i + 2 + 1) → Steps bytes (i + 3) b (i + 3 + 1) → Steps bytes (i + 4) c (i + 4 + 1) → rest bytes i ≡ x ∷ y ∷ a ∷ b ∷ c ∷ rest bytes (i + 5)
five bytes i x y a b c s u sa sb sc = rw (four bytes i x y a b s u sa sb, one_on bytes i c (i + 4) (i + 5) sc (omega arith)) refl

pub unit_found : (bytes : List ℕ) (i n a b c d : ℕ) → Steps bytes i 0x5C (i + 1) → Steps bytes (i + 1) 0x75 (i + 2) → Steps bytes (i + 2) a (i + 2 + 1) → Steps bytes (i + 3) b (i + 3 + 1) → Steps bytes (i + 4) c (i + 4 + 1) → Steps bytes (i + 5) d (i + 5 + 1)
    → IsTrue (is_hex_digit a) → IsTrue (is_hex_digit b) → IsTrue (is_hex_digit c) → IsTrue (is_hex_digit d) → n ≡ hex4 a b c d → Between (IsUnit n) bytes i (i + 6)
unit_found bytes i n a b c d s u sa sb sc sd ha hb hc hd e =
    let last : Steps bytes (i + 5) d (i + 6) = leads bytes (i + 5) d (i + 5 + 1) (i + 6) sd (omega arith) in
    let all : AreHex4 a b c d = rw (ha, hb, hc) hd in
    let text : rest bytes i ≡ 0x5C ∷ 0x75 ∷ a ∷ b ∷ c ∷ d ∷ rest bytes (i + 6) = rw (five bytes i 0x5C 0x75 a b c s u sa sb sc, last.0) refl in
    record { boundary = last.1; order = omega arith; piece = rw text (unit_of all e) }

pub no_unit_first : (bytes : List ℕ) (i : ℕ) → Steps bytes i 0x5C (i + 1) → Steps bytes (i + 1) 0x75 (i + 2) → LacksAt is_hex_digit bytes (i + 2) → (n : ℕ) → NoneFrom (IsUnit n) bytes i
no_unit_first bytes i s u l n r w = no_first w (two bytes i 0x5C 0x75 s u) l

pub no_unit_second : (bytes : List ℕ) (i a : ℕ) → Steps bytes i 0x5C (i + 1) → Steps bytes (i + 1) 0x75 (i + 2) → Steps bytes (i + 2) a (i + 2 + 1) → LacksAt is_hex_digit bytes (i + 3) → (n : ℕ) → NoneFrom (IsUnit n) bytes i
no_unit_second bytes i a s u sa l n r w = no_second w (three bytes i 0x5C 0x75 a s u sa) l

pub no_unit_third : (bytes : List ℕ) (i a b : ℕ) → Steps bytes i 0x5C (i + 1) → Steps bytes (i + 1) 0x75 (i + 2) → Steps bytes (i + 2) a (i + 2 + 1) → Steps bytes (i + 3) b (i + 3 + 1) → LacksAt is_hex_digit bytes (i + 4) → (n : ℕ) → NoneFrom (IsUnit n) bytes i
no_unit_third bytes i a b s u sa sb l n r w = no_third w (four bytes i 0x5C 0x75 a b s u sa sb) l

pub no_unit_fourth : (bytes : List ℕ) (i a b c : ℕ) → Steps bytes i 0x5C (i + 1) → Steps bytes (i + 1) 0x75 (i + 2) → Steps bytes (i + 2) a (i + 2 + 1) → Steps bytes (i + 3) b (i + 3 + 1) → Steps bytes (i + 4) c (i + 4 + 1) → LacksAt is_hex_digit bytes (i + 5) → (n : ℕ) → NoneFrom (IsUnit n) bytes i
no_unit_fourth bytes i a b c s u sa sb sc l n r w = no_fourth w (five bytes i 0x5C 0x75 a b c s u sa sb sc) l

-- a unit that is no surrogate, and a pair of units, are pieces
unit_piece : (taken : Bool) (q : ℕ) {n : ℕ} {t r : List ℕ} → IsUnit n t r → IsTrue (not (is_surrogate n)) → IsPiece taken q (n ∷ []) t r
unit_piece taken q (unit_of h e) k = rw e (unit h (rw e at k))

pair_piece : (taken : Bool) (q : ℕ) {n m : ℕ} {t u r : List ℕ} → IsUnit n t u → IsTrue (is_high_surrogate n) → IsUnit m u r → IsTrue (is_low_surrogate m) → IsPiece taken q (pair_char n m ∷ []) t r
pair_piece taken q (unit_of h e) k (unit_of i f) l = rw (e, f) (pair h (rw e at k) i (rw f at l))

pub alone_found : (bytes : List ℕ) (i j n c : ℕ) → Between (IsUnit n) bytes i j → IsTrue (not (is_surrogate n)) → c ≡ n → (taken : Bool) (q : ℕ) → Between (IsPiece taken q (c ∷ [])) bytes i j
alone_found bytes i j n c u k e taken q = record { boundary = u.boundary; order = u.order; piece = rw e (unit_piece taken q u.piece k) }

pub pair_found : (bytes : List ℕ) (i j k n m c : ℕ) → Between (IsUnit n) bytes i j → IsTrue (is_high_surrogate n) → Between (IsUnit m) bytes j k → IsTrue (is_low_surrogate m) → c ≡ pair_char n m → (taken : Bool) (q : ℕ) → Between (IsPiece taken q (c ∷ [])) bytes i k
pair_found bytes i j k n m c u h v l e taken q =
    record { boundary = v.boundary; order = omega (arith, u.order, v.order); piece = rw e (pair_piece taken q u.piece h v.piece l) }

-- where units begin no piece
no_units : (bytes u : List ℕ) (i : ℕ) → rest bytes i ≡ 0x5C ∷ 0x75 ∷ u → (StartsUnits (rest bytes i) → ⊥) → NoPieceAnyhow bytes i
no_units bytes u i e f taken q p r k = let w : StartsUnits (0x5C ∷ 0x75 ∷ u) = needs taken q 0x75 u (rw e at k) in f (rw e w)

pub no_unit : (bytes : List ℕ) (i : ℕ) → Steps bytes i 0x5C (i + 1) → Steps bytes (i + 1) 0x75 (i + 2) → ((n : ℕ) → NoneFrom (IsUnit n) bytes i) → NoPieceAnyhow bytes i
no_unit bytes i s u none = no_units bytes (rest bytes (i + 2)) i (two bytes i 0x5C 0x75 s u) go
  where
    go : StartsUnits (rest bytes i) → ⊥
    go (alone n r w k) = none n r w
    go (paired n m v r w h x l) = none n v w

pub is_neither_half : (n : ℕ) → IsTrue (is_low_surrogate n) → IsTrue (not (is_surrogate n)) → ⊥
is_neither_half n h k = grind arith

pub is_either_half : (n : ℕ) → IsTrue (is_low_surrogate n) → IsTrue (is_high_surrogate n) → ⊥
is_either_half n h k = grind arith

pub is_no_high : (n : ℕ) → IsTrue (is_high_surrogate n) → IsTrue (not (is_surrogate n)) → ⊥
is_no_high n h k = grind arith

pub unit_begins : {n : ℕ} {t r : List ℕ} → IsUnit n t r → (u : List ℕ) × (t ≡ 0x5C ∷ 0x75 ∷ u)
unit_begins (unit_of {a = a} {b = b} {c = c} {d = d} {r = r} h e) = (a ∷ b ∷ c ∷ d ∷ r, refl)

pub lone_low : (bytes : List ℕ) (i j n : ℕ) → Between (IsUnit n) bytes i j → IsTrue (is_low_surrogate n) → NoPieceAnyhow bytes i
lone_low bytes i j n u l = let begins = unit_begins u.piece in no_units bytes begins.0 i begins.1 go
  where
    go : StartsUnits (rest bytes i) → ⊥
    go (alone m r w k) = let e = (unit_unique w u.piece).0 in is_neither_half n l (rw e at k)
    go (paired m x v r w h y k) = let e = (unit_unique w u.piece).0 in is_either_half n l (rw e at h)

pub lone_high : (bytes : List ℕ) (i j n : ℕ) → Between (IsUnit n) bytes i j → IsTrue (is_high_surrogate n) → ((m : ℕ) (r : List ℕ) → IsUnit m (rest bytes j) r → IsTrue (is_low_surrogate m) → ⊥) → NoPieceAnyhow bytes i
lone_high bytes i j n u l none = let begins = unit_begins u.piece in no_units bytes begins.0 i begins.1 go
  where
    go : StartsUnits (rest bytes i) → ⊥
    go (alone m r w k) = let e = (unit_unique w u.piece).0 in is_no_high n l (rw e at k)
    go (paired m x v r w h y k) = let e = (unit_unique w u.piece).1 in none x r (rw e at y) k

pub no_backslash_next : (bytes : List ℕ) (j : ℕ) → LacksAt (λ c. c == 0x5C) bytes j → (m : ℕ) (r : List ℕ) → IsUnit m (rest bytes j) r → ⊥
no_backslash_next bytes j l m r w = let begins = unit_begins w in no_starts (λ c. c == 0x5C) (next (rest bytes j)) l (rw begins.1 refl)

pub no_u_next : (bytes : List ℕ) (j : ℕ) → Steps bytes j 0x5C (j + 1) → LacksAt (λ c. c == 0x75) bytes (j + 1) → (m : ℕ) (r : List ℕ) → IsUnit m (rest bytes j) r → ⊥
no_u_next bytes j s l m r w =
    let begins = unit_begins w in
    let same : rest bytes (j + 1) ≡ 0x75 ∷ begins.0 = tails (sym s.0 ∙ begins.1) in
    no_starts (λ c. c == 0x75) (next (rest bytes (j + 1))) l (rw same refl)

pub no_low_next : (bytes : List ℕ) (j k n : ℕ) → Between (IsUnit n) bytes j k → (IsTrue (is_low_surrogate n) → ⊥) → (m : ℕ) (r : List ℕ) → IsUnit m (rest bytes j) r → IsTrue (is_low_surrogate m) → ⊥
no_low_next bytes j k n u f m r w l = let e = (unit_unique w u.piece).0 in f (rw e at l)

-- two hex digits after `\x`
pub byte_found : (bytes : List ℕ) (i a b c x y : ℕ) → Steps bytes i 0x5C (i + 1) → Steps bytes (i + 1) 0x78 (i + 2) → Steps bytes (i + 2) a (i + 2 + 1) → Steps bytes (i + 3) b (i + 3 + 1) → IsTrue (is_hex_digit a) → IsTrue (is_hex_digit b)
    → x ≡ digit_value a → y ≡ digit_value b → c ≡ x * 16 + y → (q : ℕ) → Between (IsPiece true q (c ∷ [])) bytes i (i + 4)
byte_found bytes i a b c x y s u sa sb ha hb ea eb e q =
    let last : Steps bytes (i + 3) b (i + 4) = leads bytes (i + 3) b (i + 3 + 1) (i + 4) sb (omega arith) in
    let both : IsTrue (is_hex_digit a && is_hex_digit b) = rw ha hb in
    let text : rest bytes i ≡ 0x5C ∷ 0x78 ∷ a ∷ b ∷ rest bytes (i + 4) = rw (three bytes i 0x5C 0x78 a s u sa, last.0) refl in
    let value : c ≡ hex2 a b = e ∙ ap (λ n. n * 16 + y) ea ∙ ap (λ n. digit_value a * 16 + n) eb in
    record { boundary = last.1; order = omega arith; piece = rw (text, value) (byte refl both) }

byte_first : {u t : List ℕ} → StartsByte t → t ≡ u → IsTrue (no is_hex_digit (next u)) → ⊥
byte_first (two_digits {a = a} {b = b} h) e l = clash (is_hex_digit a) (rw (sym e) at l) (and_both (is_hex_digit a) (is_hex_digit b) h).0

pub no_byte_first : (bytes : List ℕ) (i : ℕ) → Steps bytes i 0x5C (i + 1) → Steps bytes (i + 1) 0x78 (i + 2) → LacksAt is_hex_digit bytes (i + 2) → (q : ℕ) → NoPiece true q bytes i
no_byte_first bytes i s u l q p r k =
    let w : IsTrue true × StartsByte (rest bytes (i + 2)) = needs true q 0x78 (rest bytes (i + 2)) (rw (two bytes i 0x5C 0x78 s u) at k) in
    byte_first w.1 refl l

byte_second : {a : ℕ} {u t : List ℕ} → StartsByte t → t ≡ a ∷ u → IsTrue (no is_hex_digit (next u)) → ⊥
byte_second (two_digits {a = a} {b = b} h) e l = clash (is_hex_digit b) (rw (sym (tails e)) at l) (and_both (is_hex_digit a) (is_hex_digit b) h).1

pub no_byte_second : (bytes : List ℕ) (i a : ℕ) → Steps bytes i 0x5C (i + 1) → Steps bytes (i + 1) 0x78 (i + 2) → Steps bytes (i + 2) a (i + 2 + 1) → LacksAt is_hex_digit bytes (i + 3) → (q : ℕ) → NoPiece true q bytes i
no_byte_second bytes i a s u sa l q p r k =
    let w : IsTrue true × StartsByte (rest bytes (i + 2)) = needs true q 0x78 (rest bytes (i + 2)) (rw (two bytes i 0x5C 0x78 s u) at k) in
    byte_second w.1 (one_on bytes i a (i + 2) (i + 3) sa (omega arith)) l

-- `\0` before a character that is no digit
pub zero_found : (bytes : List ℕ) (i c j : ℕ) → Steps bytes i 0x5C (i + 1) → Steps bytes (i + 1) 0x30 (i + 2) → Steps bytes (i + 2) c j → is_digit c ≡ false → (q : ℕ) → Between (IsPiece true q (0 ∷ [])) bytes i (i + 2)
zero_found bytes i c j s u sc f q =
    let follows : IsTrue (starts (λ d. not (is_digit d)) (next (rest bytes (i + 2)))) = rw sc.0 (ap not f) in
    record { boundary = u.1; order = omega arith; piece = rw (two bytes i 0x5C 0x30 s u) (zero refl follows) }

pub no_zero : (bytes : List ℕ) (i c j : ℕ) → Steps bytes i 0x5C (i + 1) → Steps bytes (i + 1) 0x30 (i + 2) → Steps bytes (i + 2) c j → is_digit c ≡ true → (q : ℕ) → NoPiece true q bytes i
no_zero bytes i c j s u sc h q p r k =
    let w : IsTrue true × IsTrue (starts (λ d. not (is_digit d)) (next (rest bytes (i + 2)))) = needs true q 0x30 (rest bytes (i + 2)) (rw (two bytes i 0x5C 0x30 s u) at k) in
    clash (is_digit c) (rw sc.0 at w.1) h

-- a backslash before a CR, with an LF after it or another character
pub cr_lf_found : (bytes : List ℕ) (i c j : ℕ) → Steps bytes i 0x5C (i + 1) → Steps bytes (i + 1) 0x0D (i + 2) → Steps bytes (i + 2) c j → c ≡ 0x0A → j ≡ i + 3 → (q : ℕ) → Between (IsPiece true q []) bytes i (i + 3)
cr_lf_found bytes i c j s u sc e f q =
    let last = steps_known bytes (i + 2) c 0x0A j (i + 3) sc e f in
    let text : rest bytes i ≡ 0x5C ∷ 0x0D ∷ 0x0A ∷ rest bytes (i + 3) = rw (two bytes i 0x5C 0x0D s u, last.0) refl in
    record { boundary = last.1; order = omega arith; piece = rw text (cr_lf refl) }

differs : (c d : ℕ) → c ≢ d → IsTrue (not (c == d))
differs c d n = grind arith

pub lone_cr_found : (bytes : List ℕ) (i c j : ℕ) → Steps bytes i 0x5C (i + 1) → Steps bytes (i + 1) 0x0D (i + 2) → Steps bytes (i + 2) c j → c ≢ 0x0A → (q : ℕ) → Between (IsPiece true q []) bytes i (i + 2)
lone_cr_found bytes i c j s u sc n q =
    let follows : IsTrue (starts (λ d. not (d == 0x0A)) (next (rest bytes (i + 2)))) = rw sc.0 (differs c 0x0A n) in
    record { boundary = u.1; order = omega arith; piece = rw (two bytes i 0x5C 0x0D s u) (lone_cr refl follows) }

-- the characters after a backslash, by what they mean
pub given_found : (taken : Bool) (bytes : List ℕ) (q i c d j : ℕ) → Steps bytes i 0x5C (i + 1) → Steps bytes (i + 1) c j → i < j → gives d ≡ meaning q c → Between (IsPiece taken q (d ∷ [])) bytes i j
given_found taken bytes q i c d j s u l e = record { boundary = u.1; order = l; piece = rw (s.0, u.0) (plain (sym e)) }

pub other_found : (taken : Bool) (bytes : List ℕ) (q i c d j : ℕ) → IsTrue taken → Steps bytes i 0x5C (i + 1) → Steps bytes (i + 1) c j → i < j → extended d ≡ meaning q c → Between (IsPiece taken q (d ∷ [])) bytes i j
other_found taken bytes q i c d j h s u l e = record { boundary = u.1; order = l; piece = rw (s.0, u.0) (other h (sym e)) }

pub line_found : (taken : Bool) (bytes : List ℕ) (q i c j : ℕ) → IsTrue taken → Steps bytes i 0x5C (i + 1) → Steps bytes (i + 1) c j → i < j → line_end ≡ meaning q c → Between (IsPiece taken q []) bytes i j
line_found taken bytes q i c j h s u l e = record { boundary = u.1; order = l; piece = rw (s.0, u.0) (line h (sym e)) }

pub no_refused : (taken : Bool) (bytes : List ℕ) (q i c j : ℕ) → Steps bytes i 0x5C (i + 1) → Steps bytes (i + 1) c j → refused ≡ meaning q c → NoPiece taken q bytes i
no_refused taken bytes q i c j s u e p r k = rw (sym e) at (needs taken q c (rest bytes j) (rw (s.0 ∙ ap (λ t. 0x5C ∷ t) u.0) at k))

needs_taken : (c : ℕ) (m : Meaning) (u : List ℕ) → is_plain m ≡ false → Needs false c m u → ⊥
needs_taken c (gives d) u f w = cc
needs_taken c (extended d) u f w = cc
needs_taken c code_unit u f w = cc
needs_taken c code_byte u f w = let h = w.0 in cc
needs_taken c nul u f w = let h = w.0 in cc
needs_taken c line_end u f w = cc
needs_taken c carriage_return u f w = let h = w.0 in cc
needs_taken c refused u f w = w

no_extended : (taken : Bool) (bytes : List ℕ) (q i c j : ℕ) → taken ≡ false → Steps bytes i 0x5C (i + 1) → Steps bytes (i + 1) c j → is_plain (meaning q c) ≡ false → NoPiece taken q bytes i
no_extended taken bytes q i c j e s u f p r k = needs_taken c (meaning q c) (rest bytes j) f (rw e at (needs taken q c (rest bytes j) (rw (s.0 ∙ ap (λ t. 0x5C ∷ t) u.0) at k)))

pub no_character : (taken : Bool) (bytes : List ℕ) (q i : ℕ) → Steps bytes i 0x5C (i + 1) → rest bytes (i + 1) ≡ [] → NoPiece taken q bytes i
no_character taken bytes q i s e p r k = none_at_end taken q (s.0 ∙ ap (λ t. 0x5C ∷ t) e) k

-- a high surrogate without the other half after it
pub high_no_backslash : (bytes : List ℕ) (i j n : ℕ) → Between (IsUnit n) bytes i j → IsTrue (is_high_surrogate n) → LacksAt (λ c. c == 0x5C) bytes j → NoPieceAnyhow bytes i
high_no_backslash bytes i j n u h l = lone_high bytes i j n u h (λ m r w k. no_backslash_next bytes j l m r w)

pub high_no_u : (bytes : List ℕ) (i j k n : ℕ) → Between (IsUnit n) bytes i j → IsTrue (is_high_surrogate n) → Steps bytes j 0x5C (j + 1) → j + 1 ≡ k → LacksAt (λ c. c == 0x75) bytes k → NoPieceAnyhow bytes i
high_no_u bytes i j k n u h s e l = lone_high bytes i j n u h (λ m r w x. no_u_next bytes j s (rw e l) m r w)

pub high_no_digits : (bytes : List ℕ) (i j n : ℕ) → Between (IsUnit n) bytes i j → IsTrue (is_high_surrogate n) → ((m : ℕ) → NoneFrom (IsUnit m) bytes j) → NoPieceAnyhow bytes i
high_no_digits bytes i j n u h f = lone_high bytes i j n u h (λ m r w k. f m r w)

no_low : (n : ℕ) → IsTrue (nat_lt n 0xDC00 || nat_lt 0xDFFF n) → IsTrue (is_low_surrogate n) → ⊥
no_low n h k = grind arith

pub high_no_low : (bytes : List ℕ) (i j k n m : ℕ) → Between (IsUnit n) bytes i j → IsTrue (is_high_surrogate n) → Between (IsUnit m) bytes j k → IsTrue (nat_lt m 0xDC00 || nat_lt 0xDFFF m) → NoPieceAnyhow bytes i
high_no_low bytes i j k n m u h v l = lone_high bytes i j n u h (no_low_next bytes j k m v (no_low m l))

-- the ranges of surrogates, as they are tested
pub low_of : (n : ℕ) → IsTrue (nat_le 0xDC00 n && nat_le n 0xDFFF) → IsTrue (is_low_surrogate n)
low_of n h = grind arith

pub low_left : (n : ℕ) → (nat_lt n 0xDC00 || nat_lt 0xDFFF n) ≡ false → IsTrue (is_low_surrogate n)
low_left n h = grind arith

pub alone_left : (n : ℕ) → (nat_le 0xDC00 n && nat_le n 0xDFFF) ≡ false → (nat_le 0xD800 n && nat_le n 0xDBFF) ≡ false → IsTrue (not (is_surrogate n))
alone_left n h k = grind arith

-- two places, by another name of the second, from a place before them
pub span_on : (bytes : List ℕ) (i j k : ℕ) → IsCharBoundary bytes i → Spans bytes (i + 6) j → j ≡ k → i ≤ k → Spans bytes i k
span_on bytes i j k b s e l = let P : ℕ → Type 0 = λ n. IsCharBoundary bytes n in record { from = b; to = subst P e s.to; order = l }

pub unit_on : (bytes : List ℕ) (i j k n : ℕ) → Between (IsUnit n) bytes i j → j ≡ k → Between (IsUnit n) bytes i k
unit_on bytes i j k n u e = let P : ℕ → Type 0 = λ x. Between (IsUnit n) bytes i x in subst P e u

-- an LF is one byte
pub line_feed_after : (i c : ℕ) → c ≡ 0x0A → i + 2 + len_utf8 c ≡ i + 3
line_feed_after i c e = let one : len_utf8 c ≡ 1 = ap len_utf8 e in omega arith

-- the end of a character, by its length as it was counted
pub counted : (bytes : List ℕ) (i c n : ℕ) → Steps bytes (i + 1) c (i + 1 + len_utf8 c) → n ≡ len_utf8 c → Steps bytes (i + 1) c (i + 1 + n)
counted bytes i c n s e = leads bytes (i + 1) c (i + 1 + len_utf8 c) (i + 1 + n) s (ap (λ k. i + 1 + k) (sym e))

-- what is taken, or is not
pub not_taken : (x y : Bool) → (x || y) ≡ false → (x ≡ false) × (y ≡ false)
not_taken true y h = cc
not_taken false y h = (refl, h)

pub taken_extended : (m : Meaning) (y : Bool) → IsTrue (is_plain m || y) → is_plain m ≡ false → IsTrue y
taken_extended m y h e = rw e at h

pub where_taken : (taken : Bool) (P : Bool → Type 0) → IsTrue taken → P true → P taken
where_taken true P h p = p
where_taken false P h p = cc

pub no_taken : (taken : Bool) (bytes : List ℕ) (q i c j : ℕ) (m : Meaning) → (is_plain m || taken) ≡ false → m ≡ meaning q c → Steps bytes i 0x5C (i + 1) → Steps bytes (i + 1) c j → NoPiece taken q bytes i
no_taken taken bytes q i c j m h e s u =
    let both = not_taken (is_plain m) taken h in
    no_extended taken bytes q i c j both.1 s u (ap is_plain (sym e) ∙ both.0)

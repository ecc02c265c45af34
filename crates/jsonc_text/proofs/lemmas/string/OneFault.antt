-- Of a string at most one fault is told.
use Rattle.std.proofs.Common.{ℕ, ◌+◌, ◌≡◌, ◌≢◌, ◌<◌, ◌∙◌, sym, ap, refl, List, [], ◌∷◌, ◌==◌, ◌||◌, IsTrue, Bool, true, not, arith, ◌⊎◌, inl, inr, Option, None, Some}
use Rattle.jsonc_text.specs.declared.errors.ParseStringErrorKind.{ParseStringErrorKind}
use Rattle.jsonc_text.specs.declared.errors.ParseStringErrorKind.TheVariants as kind
use Rattle.jsonc_text.specs.declared.errors.SurrogateFault.{SurrogateFault}
use Rattle.jsonc_text.specs.declared.errors.SurrogateFault.TheVariants as surrogate
use Rattle.jsonc_text.specs.Options.{Options, all_on}
use Rattle.jsonc_text.specs.Text.{next, starts, is_digit, is_hex_digit}
use Rattle.jsonc_text.specs.Strings.{Meaning, meaning, refused, AreHex4, hex4, is_high_surrogate, is_low_surrogate, IsQuote, Piece, Pieces, done, piece}
use Rattle.jsonc_text.proofs.Basics.{clash, heads, tails, and_both, or_cases, test_eq}
use Rattle.jsonc_text.proofs.StringFrames.{pieces_of_decodes}
use Rattle.jsonc_text.proofs.UniqueStrings.{piece_unique, no_piece, no_backslash as quote_no_backslash}
use Rattle.jsonc_text.specs.string.Escapes.{is_plain, IsUnit, unit_of, IsPiece, IsQuoted}
use Rattle.jsonc_text.specs.string.Faults.{FewDigits, missing, digit, Writes, writes, of_one, of_second, of_byte, LacksUnit, no_backslash, no_u, unknown, decimal, octal, EscapeFaultAt, Ends, at_once, within, within_longer, StringFaultAt, escape, unterminated}
use Rattle.jsonc_text.proofs.lemmas.string.Escapes.{StartsUnits, alone, paired, StartsByte, two_digits, StartsSome, some, Needs, needs, none_at_end, is_neither_half, is_either_half, is_no_high, unit_begins, hex_parts}
use Rattle.jsonc_text.proofs.lemmas.string.Decoding.{no_piece_at_end}

-- digits that lack some
few_none : {n : ℕ} {t r : List ℕ} → n ≡ 0 → FewDigits n t r → ⊥
few_none e (missing l s) = let none : 0 < 0 = rw (sym e) l in omega (arith, none)
few_none e (digit f h g) = omega (arith, e, f)

few_cons : {n c : ℕ} {t r : List ℕ} → IsTrue (is_hex_digit c) → FewDigits n (c ∷ t) r → (m : ℕ) × (n ≡ m + 1) × FewDigits m t r
few_cons {c = c} h (missing l s) = absurd (clash (is_hex_digit c) s.0 h)
few_cons h (digit {m = m} e k f) = (m, e, f)

-- where all four stand, none is missing
no_few : {a b c d : ℕ} {t r : List ℕ} → AreHex4 a b c d → FewDigits 4 (a ∷ b ∷ c ∷ d ∷ t) r → ⊥
no_few {a} {b} {c} {d} h f =
    let all = hex_parts a b c d h in
    let first = few_cons all.0 f in
    let second = few_cons all.1 first.2 in
    let third = few_cons all.2 second.2 in
    let fourth = few_cons all.3 third.2 in
    few_none (omega (arith, first.1, second.1, third.1, fourth.1)) fourth.2

few_unique : {n m : ℕ} {t r s : List ℕ} → n ≡ m → FewDigits n t r → FewDigits m t s → r ≡ s
few_unique e (missing a h) (missing b k) = h.1 ∙ sym k.1
few_unique e (missing a h) (digit {c = c} f k g) = absurd (clash (is_hex_digit c) h.0 k)
few_unique e (digit {c = c} f k g) (missing a h) = absurd (clash (is_hex_digit c) h.0 k)
few_unique e (digit f h g) (digit i k j) = few_unique (omega (arith, e, f, i)) g j

-- two escapes of a code unit at one place
writes_unique : {p q : ℕ → Bool} {ds es t r s : List ℕ} → Writes p ds t r → Writes q es t s → (ds ≡ es) × (r ≡ s)
writes_unique (writes h e) (writes k f) = (refl, refl)

writes_value : {p : ℕ → Bool} {n : ℕ} {ds t r s : List ℕ} → Writes p ds t r → IsUnit n t s → IsTrue (p n) × (r ≡ s)
writes_value (writes h e) (unit_of k f) = (rw f e, refl)

writes_apart : {p q : ℕ → Bool} {ds es t r s : List ℕ} → ((n : ℕ) → IsTrue (p n) → IsTrue (q n) → ⊥) → Writes p ds t r → Writes q es t s → ⊥
writes_apart f (writes {a = a} {b = b} {c = c} {d = d} h e) (writes k g) = f (hex4 a b c d) e g

writes_few : {p : ℕ → Bool} {ds t u r s : List ℕ} → Writes p ds t r → t ≡ 0x5C ∷ 0x75 ∷ u → FewDigits 4 u s → ⊥
writes_few (writes h e) f g = no_few h (rw (sym (tails (tails f))) at g)

unit_few : {n : ℕ} {t u r s : List ℕ} → IsUnit n t r → t ≡ 0x5C ∷ 0x75 ∷ u → FewDigits 4 u s → ⊥
unit_few (unit_of h e) f g = no_few h (rw (sym (tails (tails f))) at g)

lacks_marks : {t u r : List ℕ} → LacksUnit t r → t ≡ 0x5C ∷ 0x75 ∷ u → ⊥
lacks_marks (no_backslash h) e = let w = rw e at h.0 in cc
lacks_marks (no_u h) e = let w = rw (tails e) at h.0 in cc

lacks_writes : {p : ℕ → Bool} {ds t r s : List ℕ} → LacksUnit t r → Writes p ds t s → ⊥
lacks_writes l (writes h e) = lacks_marks l refl

lacks_unique : {t r s : List ℕ} → LacksUnit t r → LacksUnit t s → r ≡ s
lacks_unique (no_backslash h) (no_backslash k) = h.1 ∙ sym k.1
lacks_unique (no_backslash h) (no_u k) = absurd (let w = h.0 in cc)
lacks_unique (no_u k) (no_backslash h) = absurd (let w = h.0 in cc)
lacks_unique (no_u h) (no_u k) = h.1 ∙ sym k.1

halves_apart : (n : ℕ) → IsTrue (is_low_surrogate n) → IsTrue (is_high_surrogate n) → ⊥
halves_apart n h k = is_either_half n h k

-- the faults of `\u`
pub data UnitFault : ParseStringErrorKind → List ℕ → List ℕ → Type 0 where
  first : {t u r : List ℕ} → t ≡ 0x5C ∷ 0x75 ∷ u → FewDigits 4 u r → UnitFault kind.ExpectedFourHexDigits t r
  second : {ds t v u r : List ℕ} → Writes is_high_surrogate ds t v → v ≡ 0x5C ∷ 0x75 ∷ u → FewDigits 4 u r → UnitFault kind.ExpectedFourHexDigits t r
  low : {ds t r : List ℕ} → Writes is_low_surrogate ds t r → UnitFault (kind.InvalidUnicodeEscapeSequence ds surrogate.UnpairedLowSurrogate) t r
  high : {ds t u r : List ℕ} → Writes is_high_surrogate ds t u → LacksUnit u r → UnitFault (kind.InvalidUnicodeEscapeSequence ds surrogate.UnpairedHighSurrogate) t r
  high_alone : {ds es t u r : List ℕ} → Writes is_high_surrogate ds t u → Writes (λ n. not (is_low_surrogate n)) es u r → UnitFault (kind.InvalidUnicodeEscapeSequence ds surrogate.HighSurrogateNotFollowedByLowSurrogate) t r

same_lone : (reason : SurrogateFault) {ds es : List ℕ} → ds ≡ es → kind.InvalidUnicodeEscapeSequence ds reason ≡ kind.InvalidUnicodeEscapeSequence es reason
same_lone reason e = ap (λ ds. kind.InvalidUnicodeEscapeSequence ds reason) e

pub unit_fault_unique : {k l : ParseStringErrorKind} {t r s : List ℕ} → UnitFault k t r → UnitFault l t s → (k ≡ l) × (r ≡ s)
unit_fault_unique (first e f) (first g h) = (refl, few_unique refl f (rw (tails (tails (sym g ∙ e))) at h))
unit_fault_unique (first e f) (second w g h) = absurd (writes_few w e f)
unit_fault_unique (first e f) (low w) = absurd (writes_few w e f)
unit_fault_unique (first e f) (high w l) = absurd (writes_few w e f)
unit_fault_unique (first e f) (high_alone w x) = absurd (writes_few w e f)
unit_fault_unique (second w g h) (first e f) = absurd (writes_few w e f)
unit_fault_unique (second w g h) (second x i j) =
    let same = tails (tails (sym i ∙ sym (writes_unique w x).1 ∙ g)) in (refl, few_unique refl h (rw same at j))
unit_fault_unique (second w g h) (low x) = absurd (writes_apart halves_apart x w)
unit_fault_unique (second w g h) (high x l) = absurd (lacks_marks l (sym (writes_unique w x).1 ∙ g))
unit_fault_unique (second w g h) (high_alone x y) = absurd (writes_few y (sym (writes_unique w x).1 ∙ g) h)
unit_fault_unique (low w) (first e f) = absurd (writes_few w e f)
unit_fault_unique (low w) (second x g h) = absurd (writes_apart halves_apart w x)
unit_fault_unique (low w) (low x) = let same = writes_unique w x in (same_lone surrogate.UnpairedLowSurrogate same.0, same.1)
unit_fault_unique (low w) (high x l) = absurd (writes_apart halves_apart w x)
unit_fault_unique (low w) (high_alone x y) = absurd (writes_apart halves_apart w x)
unit_fault_unique (high w l) (first e f) = absurd (writes_few w e f)
unit_fault_unique (high w l) (second x g h) = absurd (lacks_marks l ((writes_unique w x).1 ∙ g))
unit_fault_unique (high w l) (low x) = absurd (writes_apart halves_apart x w)
unit_fault_unique (high w l) (high x m) =
    let same = writes_unique w x in (same_lone surrogate.UnpairedHighSurrogate same.0, lacks_unique l (rw (sym same.1) at m))
unit_fault_unique (high w l) (high_alone x y) = absurd (lacks_writes l (rw (sym (writes_unique w x).1) at y))
unit_fault_unique (high_alone w y) (first e f) = absurd (writes_few w e f)
unit_fault_unique (high_alone w y) (second x g h) = absurd (writes_few y ((writes_unique w x).1 ∙ g) h)
unit_fault_unique (high_alone w y) (low x) = absurd (writes_apart halves_apart x w)
unit_fault_unique (high_alone w y) (high x l) = absurd (lacks_writes l (rw (writes_unique w x).1 at y))
unit_fault_unique (high_alone w y) (high_alone x z) =
    let same = writes_unique w x in (same_lone surrogate.HighSurrogateNotFollowedByLowSurrogate same.0, (writes_unique y (rw (sym same.1) at z)).1)

-- a text with such a fault begins with no unit that is a piece
pub unit_fault_units : {k : ParseStringErrorKind} {t r : List ℕ} → UnitFault k t r → StartsUnits t → ⊥
unit_fault_units (first e f) (alone n r u h) = unit_few u e f
unit_fault_units (first e f) (paired n m v r u h w l) = unit_few u e f
unit_fault_units (second w g h) (alone n r u k) = is_no_high n (writes_value w u).0 k
unit_fault_units (second w g h) (paired n m v r u k x l) = unit_few x (sym (writes_value w u).1 ∙ g) h
unit_fault_units (low w) (alone n r u k) = is_neither_half n (writes_value w u).0 k
unit_fault_units (low w) (paired n m v r u k x l) = is_either_half n (writes_value w u).0 k
unit_fault_units (high w l) (alone n r u k) = is_no_high n (writes_value w u).0 k
unit_fault_units (high w l) (paired n m v r u k x h) = let begins = unit_begins x in lacks_marks l ((writes_value w u).1 ∙ begins.1)
unit_fault_units (high_alone w y) (alone n r u k) = is_no_high n (writes_value w u).0 k
unit_fault_units (high_alone w y) (paired n m v r u k x l) = clash (is_low_surrogate m) (writes_value (rw (writes_value w u).1 at y) x).0 l

writes_begins : {p : ℕ → Bool} {ds t r : List ℕ} → Writes p ds t r → (u : List ℕ) × (t ≡ 0x5C ∷ 0x75 ∷ u)
writes_begins (writes {a = a} {b = b} {c = c} {d = d} {r = r} h e) = (a ∷ b ∷ c ∷ d ∷ r, refl)

-- the faults of escapes, by the character after the backslash
pub data EscapeFault (taken : Bool) (q : ℕ) : ParseStringErrorKind → List ℕ → List ℕ → Type 0 where
  in_single : {r : List ℕ} → IsTrue (not taken) → q ≡ 0x27 → EscapeFault taken q kind.InvalidEscapeInSingleQuoteString (0x5C ∷ 0x22 ∷ r) r
  in_double : {r : List ℕ} → IsTrue (not taken) → q ≡ 0x22 → EscapeFault taken q kind.InvalidEscapeInDoubleQuoteString (0x5C ∷ 0x27 ∷ r) r
  of_unit : {k : ParseStringErrorKind} {u r : List ℕ} → UnitFault k (0x5C ∷ 0x75 ∷ u) r → EscapeFault taken q k (0x5C ∷ 0x75 ∷ u) r
  of_two : {u r : List ℕ} → IsTrue taken → FewDigits 2 u r → EscapeFault taken q kind.ExpectedTwoHexDigits (0x5C ∷ 0x78 ∷ u) r
  not_known : {c : ℕ} {r : List ℕ} → IsTrue (not taken) → IsTrue (not (is_plain (meaning q c))) → IsTrue (not (c == 0x22 || c == 0x27)) → EscapeFault taken q kind.InvalidEscape (0x5C ∷ c ∷ r) r
  of_digit : {c : ℕ} {r : List ℕ} → IsTrue taken → meaning q c ≡ refused → EscapeFault taken q kind.InvalidEscape (0x5C ∷ c ∷ r) r
  of_nul : {r : List ℕ} → IsTrue taken → IsTrue (starts is_digit (next r)) → EscapeFault taken q kind.InvalidEscape (0x5C ∷ 0x30 ∷ r) r

unit_case : {taken : Bool} {q : ℕ} {k : ParseStringErrorKind} {t r : List ℕ} → UnitFault k t r → (u : List ℕ) × (t ≡ 0x5C ∷ 0x75 ∷ u) → EscapeFault taken q k t r
unit_case x (u, e) = rw e (of_unit (rw e at x))

pub escape_case : (taken : Bool) (q : ℕ) (k : ParseStringErrorKind) {t r : List ℕ} → EscapeFaultAt taken q k t r → EscapeFault taken q k t r
escape_case taken q kind.InvalidEscapeInSingleQuoteString (n, e, f) = rw f (in_single n e)
escape_case taken q kind.InvalidEscapeInDoubleQuoteString (n, e, f) = rw f (in_double n e)
escape_case taken q kind.ExpectedFourHexDigits (of_one f) = of_unit (first refl f)
escape_case taken q kind.ExpectedFourHexDigits (of_second w f) = unit_case (second w refl f) (writes_begins w)
escape_case taken q kind.ExpectedTwoHexDigits (of_byte h f) = of_two h f
escape_case taken q (kind.InvalidUnicodeEscapeSequence ds surrogate.UnpairedLowSurrogate) w = unit_case (low w) (writes_begins w)
escape_case taken q (kind.InvalidUnicodeEscapeSequence ds surrogate.UnpairedHighSurrogate) (u, w, l) = unit_case (high w l) (writes_begins w)
escape_case taken q (kind.InvalidUnicodeEscapeSequence ds surrogate.HighSurrogateNotFollowedByLowSurrogate) (u, es, w, x) = unit_case (high_alone w x) (writes_begins w)
escape_case taken q kind.InvalidEscape (unknown n p h) = not_known n p h
escape_case taken q kind.InvalidEscape (decimal h e) = of_digit h e
escape_case taken q kind.InvalidEscape (octal h e) = of_nul h e
escape_case taken q kind.UnterminatedStringLiteral x = absurd x
escape_case taken q kind.OutOfMemory x = absurd x

plain_refused : (q c : ℕ) (m : Meaning) → meaning q c ≡ m → is_plain m ≡ true → meaning q c ≡ refused → ⊥
plain_refused q c m e f g = let same : m ≡ refused = sym e ∙ g in let h = rw same at f in cc

pub escape_unique : {taken : Bool} {q : ℕ} {k l : ParseStringErrorKind} {t r s : List ℕ} → EscapeFault taken q k t r → EscapeFault taken q l t s → (k ≡ l) × (r ≡ s)
escape_unique (in_single n e) (in_single m f) = (refl, refl)
escape_unique (in_single n e) (not_known m p h) = absurd cc
escape_unique {taken = taken} (in_single n e) (of_digit h g) = absurd (clash taken n h)
escape_unique (in_double n e) (in_double m f) = (refl, refl)
escape_unique (in_double n e) (not_known m p h) = absurd cc
escape_unique {taken = taken} (in_double n e) (of_digit h g) = absurd (clash taken n h)
escape_unique (of_unit x) (of_unit y) = unit_fault_unique x y
escape_unique (of_unit x) (not_known m p h) = absurd cc
escape_unique (of_unit x) (of_digit h g) = absurd cc
escape_unique (of_two h f) (of_two k g) = (refl, few_unique refl f g)
escape_unique {taken = taken} (of_two h f) (not_known m p g) = absurd (clash taken m h)
escape_unique (of_two h f) (of_digit k g) = absurd cc
escape_unique (not_known m p h) (in_single n e) = absurd cc
escape_unique (not_known m p h) (in_double n e) = absurd cc
escape_unique (not_known m p h) (of_unit x) = absurd cc
escape_unique {taken = taken} (not_known m p g) (of_two h f) = absurd (clash taken m h)
escape_unique (not_known m p h) (not_known n o g) = (refl, refl)
escape_unique (not_known m p h) (of_digit k g) = (refl, refl)
escape_unique (not_known m p h) (of_nul k g) = (refl, refl)
escape_unique {taken = taken} (of_digit h g) (in_single n e) = absurd (clash taken n h)
escape_unique {taken = taken} (of_digit h g) (in_double n e) = absurd (clash taken n h)
escape_unique (of_digit h g) (of_unit x) = absurd cc
escape_unique (of_digit k g) (of_two h f) = absurd cc
escape_unique (of_digit k g) (not_known m p h) = (refl, refl)
escape_unique (of_digit k g) (of_digit h e) = (refl, refl)
escape_unique (of_digit k g) (of_nul h e) = (refl, refl)
escape_unique (of_nul k g) (not_known m p h) = (refl, refl)
escape_unique (of_nul k g) (of_digit h e) = (refl, refl)
escape_unique (of_nul k g) (of_nul h e) = (refl, refl)

-- where such a fault is, no piece stands
few_byte : {u r : List ℕ} → FewDigits 2 u r → StartsByte u → ⊥
few_byte f (two_digits {a = a} {b = b} h) =
    let both = and_both (is_hex_digit a) (is_hex_digit b) h in
    let first = few_cons both.0 f in
    let second = few_cons both.1 first.2 in
    few_none (omega (arith, first.1, second.1)) second.2

starts_neither : (n : Option ℕ) → IsTrue (starts is_digit n) → IsTrue (starts (λ d. not (is_digit d)) n) → ⊥
starts_neither None h k = cc
starts_neither (Some c) h k = clash (is_digit c) k h

needs_taken : (taken : Bool) (c : ℕ) (m : Meaning) (u : List ℕ) → IsTrue (not taken) → IsTrue (not (is_plain m)) → Needs taken c m u → ⊥
needs_taken taken c (Meaning.gives d) u n p w = cc
needs_taken taken c (Meaning.extended d) u n p w = clash taken n w
needs_taken taken c Meaning.code_unit u n p w = cc
needs_taken taken c Meaning.code_byte u n p w = clash taken n w.0
needs_taken taken c Meaning.nul u n p w = clash taken n w.0
needs_taken taken c Meaning.line_end u n p w = clash taken n w
needs_taken taken c Meaning.carriage_return u n p w = clash taken n w.0
needs_taken taken c Meaning.refused u n p w = w

escape_no_piece : {taken : Bool} {q : ℕ} {k : ParseStringErrorKind} {t r : List ℕ} → EscapeFault taken q k t r → {p x : List ℕ} → IsPiece taken q p t x → ⊥
escape_no_piece {taken} {q} (in_single {r = r} n e) z = let w = rw e at (needs taken q 0x22 r z) in clash taken n w
escape_no_piece {taken} {q} (in_double {r = r} n e) z = let w = rw e at (needs taken q 0x27 r z) in clash taken n w
escape_no_piece {taken} {q} (of_unit {u = u} x) z = unit_fault_units x (needs taken q 0x75 u z)
escape_no_piece {taken} {q} (of_two {u = u} h f) z = few_byte f (needs taken q 0x78 u z).1
escape_no_piece {taken} {q} (not_known {c = c} {r = r} n p h) z = needs_taken taken c (meaning q c) r n p (needs taken q c r z)
escape_no_piece {taken} {q} (of_digit {c = c} {r = r} h e) z = rw e at (needs taken q c r z)
escape_no_piece {taken} {q} (of_nul {r = r} h s) z = starts_neither (next r) s (needs taken q 0x30 r z).1

longer_cases : (c : ℕ) → IsTrue (c == 0x30 || c == 0x0D) → (c ≡ 0x30) ⊎ (c ≡ 0x0D)
longer_cases c h = go (or_cases (c == 0x30) (c == 0x0D) h)
  where
    go : IsTrue (c == 0x30) ⊎ IsTrue (c == 0x0D) → (c ≡ 0x30) ⊎ (c ≡ 0x0D)
    go (inl x) = inl (test_eq c 0x30 x)
    go (inr x) = inr (test_eq c 0x0D x)

longer_needs : (taken : Bool) (q c : ℕ) → (c ≡ 0x30) ⊎ (c ≡ 0x0D) → Needs taken c (meaning q c) [] → ⊥
longer_needs taken q c (inl e) w = let z = (rw e at w).1 in cc
longer_needs taken q c (inr e) w = nothing_starts refl (rw e at w).1
  where
    nothing_starts : {t : List ℕ} → t ≡ [] → StartsSome t → ⊥
    nothing_starts e some = cc

ends_no_piece : {taken : Bool} {q : ℕ} {t : List ℕ} → Ends taken t → {p x : List ℕ} → IsPiece taken q p t x → ⊥
ends_no_piece at_once z = no_piece_at_end refl z
ends_no_piece {taken} {q} within z = none_at_end taken q refl z
ends_no_piece {taken} {q} (within_longer {c = c} h k) z = longer_needs taken q c (longer_cases c k) (needs taken q c [] z)

-- nor does the text end there
longer_refused : (q c : ℕ) → (c ≡ 0x30) ⊎ (c ≡ 0x0D) → meaning q c ≡ refused → ⊥
longer_refused q c (inl e) f = let g = rw e at f in cc
longer_refused q c (inr e) f = let g = rw e at f in cc

two_begin : {taken : Bool} {q : ℕ} {k : ParseStringErrorKind} {t r : List ℕ} → EscapeFault taken q k t r → (c d : ℕ) × (u : List ℕ) × (t ≡ c ∷ d ∷ u)
two_begin (in_single {r = r} n e) = (0x5C, 0x22, r, refl)
two_begin (in_double {r = r} n e) = (0x5C, 0x27, r, refl)
two_begin (of_unit {u = u} x) = (0x5C, 0x75, u, refl)
two_begin (of_two {u = u} h f) = (0x5C, 0x78, u, refl)
two_begin (not_known {c = c} {r = r} n p h) = (0x5C, c, r, refl)
two_begin (of_digit {c = c} {r = r} h e) = (0x5C, c, r, refl)
two_begin (of_nul {r = r} h e) = (0x5C, 0x30, r, refl)

ends_no_escape : {taken : Bool} {q : ℕ} {k : ParseStringErrorKind} {t r : List ℕ} → Ends taken t → EscapeFault taken q k t r → ⊥
ends_no_escape at_once x = let e = (two_begin x).3 in cc
ends_no_escape within x = let e = (two_begin x).3 in cc
ends_no_escape (within_longer h k) (in_single n e) = cc
ends_no_escape (within_longer h k) (in_double n e) = cc
ends_no_escape (within_longer h k) (of_unit x) = cc
ends_no_escape (within_longer h k) (of_two g f) = cc
ends_no_escape {taken} (within_longer h k) (not_known n p g) = clash taken n h
ends_no_escape {taken} {q} (within_longer {c = c} h k) (of_digit g e) = longer_refused q c (longer_cases c k) e
ends_no_escape (within_longer h k) (of_nul g s) = cc

-- pieces from one place that end where none stands end at one place
abbrev BeginsNoPiece : Options → ℕ → List ℕ → Type 0
BeginsNoPiece o q t = (p x : List ℕ) → Piece o q t p x → ⊥

pieces_meet : {o : Options} {q : ℕ} {s v w t u : List ℕ} → Pieces o q s v t → Pieces o q s w u → BeginsNoPiece o q t → BeginsNoPiece o q u → t ≡ u
pieces_meet done done n m = refl
pieces_meet done (piece k g e) n m = absurd (n _ _ k)
pieces_meet (piece k g e) done n m = absurd (m _ _ k)
pieces_meet (piece k g e) (piece l h f) n m = pieces_meet g (rw (sym (piece_unique k l).1) at h) n m

same_fault : (taken : Bool) (q : ℕ) {k l : ParseStringErrorKind} {s v t u r w : List ℕ} → s ≡ v → StringFaultAt taken q k s t r → StringFaultAt taken q l v u w → (k ≡ l) × (t ≡ u) × (r ≡ w)
same_fault taken q {k} {l} e (escape p x) (escape g y) =
    let a = escape_case taken q k x in
    let b = escape_case taken q l y in
    let same = pieces_meet p (rw (sym (tails e)) at g) (λ z v. escape_no_piece a) (λ z v. escape_no_piece b) in
    let both = escape_unique a (rw (sym same) at b) in
    (both.0, same, both.1)
same_fault taken q {k} e (escape p x) (unterminated g y) =
    let a = escape_case taken q k x in
    let same = pieces_meet p (rw (sym (tails e)) at g) (λ z v. escape_no_piece a) (λ z v. ends_no_piece y) in
    absurd (ends_no_escape y (rw same at a))
same_fault taken q {l = l} e (unterminated g y) (escape p x) =
    let a = escape_case taken q l x in
    let same = pieces_meet p (rw (tails e) at g) (λ z v. escape_no_piece a) (λ z v. ends_no_piece y) in
    absurd (ends_no_escape y (rw same at a))
same_fault taken q e (unterminated p x) (unterminated g y) = (refl, e, refl)

pub fault_unique : (taken : Bool) (q : ℕ) (k l : ParseStringErrorKind) (s t u r w : List ℕ) → StringFaultAt taken q k s t r → StringFaultAt taken q l s u w → (k ≡ l) × (t ≡ u) × (r ≡ w)
fault_unique taken q k l s t u r w x y = same_fault taken q refl x y

-- such a fault does not begin with the quote
escape_no_quote : {taken : Bool} {q : ℕ} {k : ParseStringErrorKind} {t u r : List ℕ} → q ≢ 0x5C → EscapeFault taken q k t r → t ≡ q ∷ u → ⊥
escape_no_quote n (in_single m e) f = n (sym (heads f))
escape_no_quote n (in_double m e) f = n (sym (heads f))
escape_no_quote n (of_unit x) f = n (sym (heads f))
escape_no_quote n (of_two h x) f = n (sym (heads f))
escape_no_quote n (not_known m p h) f = n (sym (heads f))
escape_no_quote n (of_digit h e) f = n (sym (heads f))
escape_no_quote n (of_nul h e) f = n (sym (heads f))

ends_no_quote : {taken : Bool} {q : ℕ} {t u : List ℕ} → q ≢ 0x5C → Ends taken t → t ≡ q ∷ u → ⊥
ends_no_quote n at_once f = cc
ends_no_quote n within f = n (sym (heads f))
ends_no_quote n (within_longer h k) f = n (sym (heads f))

pub no_string_told : (taken : Bool) (q : ℕ) (k : ParseStringErrorKind) (s t r v u : List ℕ) → IsQuote all_on q → StringFaultAt taken q k s t r → IsQuoted taken q v s u → ⊥
no_string_told taken q k _ t r v u quote (escape p x) (inside, e, d) =
    let n = quote_no_backslash all_on quote in
    let a = escape_case taken q k x in
    let all = rw (sym (tails e)) at (pieces_of_decodes inside u d) in
    escape_no_quote n a (pieces_meet p all (λ z w. escape_no_piece a) (λ z w. no_piece n))
no_string_told taken q _ _ _ _ v u quote (unterminated p y) (inside, e, d) =
    let n = quote_no_backslash all_on quote in
    let all = rw (sym (tails e)) at (pieces_of_decodes inside u d) in
    ends_no_quote n y (pieces_meet p all (λ z w. ends_no_piece y) (λ z w. no_piece n))

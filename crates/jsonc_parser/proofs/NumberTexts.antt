-- What a text with no sign writes, by its scan or its hex digits, and what its sign adds.
use Rattle.std.proofs.Common.{◌≡◌, ◌≢◌, ℕ, ◌+◌, ◌*◌, ◌^◌, ◌<◌, ◌≤◌, Bool, true, false, eqb, ltb, List, [], ◌∷◌, ◌++◌, length, get_or, drop, IsTrue, Option, Some, None, IfSome, IfNone, MatchOption, SomeIff, Bor, refl, sym, ap, subst, ◌∙◌, ◌⊎◌, inl, inr, arith, length-append}
use Rattle.std.proofs.lemmas.Bool.{cases_lt, ltb-true}
use Rattle.std.specs.Float.Numeral.{Parts, scan_numeral, has_digits, numeral_digits, tens_up, tens_down}
use Rattle.std.specs.Str.Parse.{AllDigits, IsNumeral, digits_value}
use Rattle.fast_float.specs.Text.{IsWhole, whole_of}
use Rattle.fast_float.proofs.Reading.{scan_numeral-AllDigits}
use Rattle.jsonc_text.specs.Numbers.{is_x, is_e}
use Rattle.jsonc_parser.specs.Numbers.{Whole, Fraction, Exponent, Decimal, Hexadecimal, Unsigned, WritesWhole}
use Rattle.jsonc_parser.proofs.NumberScan.{scanned, parsed}
use Rattle.jsonc_parser.proofs.NumberValues.{AllDigits-append, whole_value, value_whole}

-- a zero is first only alone
abbrev pub HasLoneZero : List ℕ → Type 0
HasLoneZero w = get_or w 0 0 ≡ 0x30 → length w ≡ 1

pub scan_AllDigits : (u : List ℕ) → AllDigits 10 ((scan_numeral u).whole ++ (scan_numeral u).fraction)
scan_AllDigits u = let h = scan_numeral-AllDigits u in AllDigits-append _ _ h.0 h.1

-- a scan of all of the text, with a digit and no leading zero, is that of a decimal number
scan_decimal : (u : List ℕ) → (scan_numeral u).len ≡ length u → has_digits (scan_numeral u) ≡ true → HasLoneZero (scan_numeral u).whole
    → Decimal u (numeral_digits (scan_numeral u) * 10 ^ tens_up (scan_numeral u)) (10 ^ tens_down (scan_numeral u))
scan_decimal u long some lone =
    let q = scan_numeral u in
    let s = parsed u long in
    let h : Whole q.whole = record { digits = (scan_numeral-AllDigits u).0; lone_zero = lone } in
    let more : 0 < length (q.whole ++ q.fraction) = omega (arith, ltb-true 0 (length q.whole + length q.fraction) some, length-append q.whole q.fraction) in
    subst (λ t. Decimal t (numeral_digits q * 10 ^ tens_up q) (10 ^ tens_down q)) (sym s.is) (Decimal.decimal h s.fraction s.exponent more)

pub parts_decimal : (u : List ℕ) (q : Parts) → q ≡ scan_numeral u → q.len ≡ length u → has_digits q ≡ true → HasLoneZero q.whole → Decimal u (numeral_digits q * 10 ^ tens_up q) (10 ^ tens_down q)
parts_decimal u q e = subst (λ p. p.len ≡ length u → has_digits p ≡ true → HasLoneZero p.whole → Decimal u (numeral_digits p * 10 ^ tens_up p) (10 ^ tens_down p)) (sym e) (scan_decimal u)

-- and a decimal number has such a scan, which gives its value
pub record IsScanned (u : List ℕ) (q : Parts) (m d : ℕ) : Type 0 where
  pub long : q.len ≡ length u
  pub some : has_digits q ≡ true
  pub lone : HasLoneZero q.whole
  pub digits : numeral_digits q * 10 ^ tens_up q ≡ m
  pub tens : 10 ^ tens_down q ≡ d

some_test : (n : ℕ) → 0 < n → ltb 0 n ≡ true
some_test n h = grind arith

decimal_scan : {u : List ℕ} {m d : ℕ} → Decimal u m d → IsScanned u (scan_numeral u) m d
decimal_scan (Decimal.decimal {w = w} {p = p} {f = f} {x = x} {up = up} {down = down} h fraction exponent more) =
    let s = scanned h fraction exponent in
    record {
      long = s.long;
      some = rw (s.whole, s.fraction) (some_test (length w + length f) (omega (arith, more, length-append w f)));
      lone = rw s.whole h.lone_zero;
      digits = rw (s.whole, s.fraction, s.up_is);
      tens = ap (λ k. 10 ^ k) s.down_is;
    }

pub decimal_parts : (u : List ℕ) (q : Parts) → q ≡ scan_numeral u → (m d : ℕ) → Decimal u m d → IsScanned u q m d
decimal_parts u q e m d h = subst (λ p. IsScanned u p m d) (sym e) (decimal_scan h)

-- what the tests of a leading zero say
pub lone_first : (w : List ℕ) (b : Bool) → b ≡ eqb (get_or w 0 0) 0x30 → b ≡ false → HasLoneZero w
lone_first w b e f h = grind arith

pub lone_short : (w : List ℕ) → length w ≤ 1 → HasLoneZero w
lone_short [] l h = absurd (omega (arith, h))
lone_short (c ∷ w) l h = omega arith

pub padded : (w : List ℕ) (b : Bool) → b ≡ eqb (get_or w 0 0) 0x30 → b ≡ true → get_or w 0 0 ≡ 0x30
padded w b e f = grind arith

-- u is the prefix of a hexadecimal number, and then ds
abbrev pub HasHexPrefix : List ℕ → List ℕ → Type 0
HasHexPrefix u ds = (x : ℕ) × IsTrue (is_x x) × (u ≡ 0x30 ∷ x ∷ ds)

x_no_e : (x e : ℕ) → IsTrue (is_x x) → IsTrue (is_e e) → e ≡ x → ⊥
x_no_e x e h k q = grind arith

x_no_point : (x : ℕ) → IsTrue (is_x x) → 0x2E ≡ x → ⊥
x_no_point x h q = grind arith

first_is : {a b : ℕ} {s t : List ℕ} → a ∷ s ≡ b ∷ t → a ≡ b
first_is e = ap (λ l. get_or l 0 0) e

second_is : {a b c d : ℕ} {s t : List ℕ} → a ∷ b ∷ s ≡ c ∷ d ∷ t → b ≡ d
second_is e = ap (λ l. get_or l 1 0) e

no_hex : (w p f x : List ℕ) (up down y : ℕ) (ds : List ℕ) → Whole w → Fraction p f → Exponent x up down → 0 < length (w ++ f) → IsTrue (is_x y) → w ++ (p ++ x) ≡ 0x30 ∷ y ∷ ds → ⊥
no_hex [] _ _ x up down y ds h Fraction.none e some is q = absurd (omega (arith, some))
no_hex [] _ _ x up down y ds h (Fraction.point g) e some is q = absurd (omega (arith, first_is q))
no_hex (c ∷ []) _ _ _ _ _ y ds h Fraction.none Exponent.none some is q = absurd (omega (arith, ap length q))
no_hex (c ∷ []) _ _ _ _ _ y ds h Fraction.none (Exponent.digits {e = e} k n) some is q = x_no_e y e is k (second_is q)
no_hex (c ∷ []) _ _ _ _ _ y ds h Fraction.none (Exponent.plus {e = e} k n) some is q = x_no_e y e is k (second_is q)
no_hex (c ∷ []) _ _ _ _ _ y ds h Fraction.none (Exponent.minus {e = e} k n) some is q = x_no_e y e is k (second_is q)
no_hex (c ∷ []) _ _ x up down y ds h (Fraction.point g) e some is q = x_no_point y is (second_is q)
no_hex (c ∷ b ∷ w) p f x up down y ds h fraction e some is q = absurd (omega (arith, h.lone_zero (first_is q)))

pub decimal_no_hex : {u : List ℕ} {m d : ℕ} (ds : List ℕ) → Decimal u m d → HasHexPrefix u ds → ⊥
decimal_no_hex ds (Decimal.decimal {w = w} {p = p} {f = f} {x = x} {up = up} {down = down} h fraction exponent more) hex =
    no_hex w p f x up down hex.0 ds h fraction exponent more hex.1 hex.2

-- a hexadecimal number has the value of the digits after its prefix
pub record IsHexValue (ds : List ℕ) (m d : ℕ) : Type 0 where
  pub numeral : IsNumeral 16 ds
  pub digits : m ≡ digits_value 16 ds
  pub one : d ≡ 1

after_two : {a b c d : ℕ} {s t : List ℕ} → a ∷ b ∷ s ≡ c ∷ d ∷ t → s ≡ t
after_two e = ap (λ l. drop 2 l) e

pub hex_value : (u ds : List ℕ) (m d : ℕ) → HasHexPrefix u ds → Unsigned u m d → IsHexValue ds m d
hex_value u ds m d hex (Unsigned.decimal h) = absurd (decimal_no_hex ds h hex)
hex_value u ds m d hex (Unsigned.hexadecimal h) = go h hex
  where
    go : {u : List ℕ} {n : ℕ} → Hexadecimal u n → HasHexPrefix u ds → IsHexValue ds n 1
    go (Hexadecimal.hexadecimal {ds = es} is k) hex =
        let e : es ≡ ds = after_two hex.2 in
        record { numeral = subst (IsNumeral 16) e k; digits = ap (digits_value 16) e; one = refl }

pub hex_is : (u ds : List ℕ) → HasHexPrefix u ds → IsNumeral 16 ds → Hexadecimal u (digits_value 16 ds)
hex_is u ds hex n = subst (λ t. Hexadecimal t (digits_value 16 ds)) (sym hex.2) (Hexadecimal.hexadecimal hex.1 n)

-- a number without that prefix is decimal
pub no_prefix : {u : List ℕ} {m d : ℕ} → Unsigned u m d → ((ds : List ℕ) → HasHexPrefix u ds → ⊥) → Decimal u m d
no_prefix (Unsigned.decimal h) none = h
no_prefix (Unsigned.hexadecimal (Hexadecimal.hexadecimal {x = x} {ds = ds} is n)) none = absurd (none ds (x, is, refl))

-- whole numbers: what a call on hex digits answers
module _ (u ds : List ℕ) (r : Option ℕ) (hex : HasHexPrefix u ds) (h : SomeIff r (IsNumeral 16 ds × (digits_value 16 ds < 2 ^ 64)) (digits_value 16 ds)) where
  pub hex_some : IfSome r (WritesWhole u)
  hex_some = go r h
    where
      go : (r : Option ℕ) → SomeIff r (IsNumeral 16 ds × (digits_value 16 ds < 2 ^ 64)) (digits_value 16 ds) → IfSome r (WritesWhole u)
      go None h = tt
      go (Some n) h = (digits_value 16 ds, 1, Unsigned.hexadecimal (hex_is u ds hex h.0.0), omega (arith, h.1))

  pub hex_only : IfSome r (λ n. (k : ℕ) → WritesWhole u k → n ≡ k)
  hex_only = go r h
    where
      go : (r : Option ℕ) → SomeIff r (IsNumeral 16 ds × (digits_value 16 ds < 2 ^ 64)) (digits_value 16 ds) → IfSome r (λ n. (k : ℕ) → WritesWhole u k → n ≡ k)
      go None h = tt
      go (Some n) h = λ k w. (let v = hex_value u ds w.0 w.1 hex w.2 in let e : k * 1 ≡ w.0 = rw v.one at w.3 in omega (arith, h.1, v.digits))

  pub hex_none : IfNone r ((k : ℕ) → WritesWhole u k → 2 ^ 64 ≤ k)
  hex_none = go r h
    where
      go : (r : Option ℕ) → SomeIff r (IsNumeral 16 ds × (digits_value 16 ds < 2 ^ 64)) (digits_value 16 ds) → IfNone r ((k : ℕ) → WritesWhole u k → 2 ^ 64 ≤ k)
      go None h = λ k w.
          let v = hex_value u ds w.0 w.1 hex w.2 in
          let e : k * 1 ≡ w.0 = rw v.one at w.3 in
          elim (cases_lt (digits_value 16 ds) (2 ^ 64)) [ inl l ↦ absurd (h (v.numeral, l)) | inr l ↦ omega (arith, v.digits) ]
      go (Some n) h = tt

  -- the same where there is no answer
  pub hex_long : r ≡ None → (m d : ℕ) → Unsigned u m d → Hexadecimal u m × (2 ^ 64 ≤ m)
  hex_long e m d w =
      let v = hex_value u ds m d hex w in
      let no : (IsNumeral 16 ds × (digits_value 16 ds < 2 ^ 64)) → ⊥ = subst (λ o. SomeIff o (IsNumeral 16 ds × (digits_value 16 ds < 2 ^ 64)) (digits_value 16 ds)) e h in
      elim (cases_lt (digits_value 16 ds) (2 ^ 64)) [
        | inl l ↦ absurd (no (v.numeral, l))
        | inr l ↦ (subst (Hexadecimal u) (sym v.digits) (hex_is u ds hex v.numeral), omega (arith, v.digits))
      ]

-- and what the parts of a decimal number do
module _ (u : List ℕ) (q : Parts) (r : Option ℕ) (none : (ds : List ℕ) → HasHexPrefix u ds → ⊥) (digits : AllDigits 10 (q.whole ++ q.fraction))
    (is : Decimal u (numeral_digits q * 10 ^ tens_up q) (10 ^ tens_down q))
    (only : (m d : ℕ) → Decimal u m d → (numeral_digits q * 10 ^ tens_up q ≡ m) × (10 ^ tens_down q ≡ d))
    (h : SomeIff r (IsWhole q × (whole_of q < 2 ^ 64)) (whole_of q)) where
  whole_is : (k : ℕ) → WritesWhole u k → IsWhole q × (whole_of q ≡ k)
  whole_is k w = let o = only w.0 w.1 (no_prefix w.2 none) in value_whole q k digits (rw (o.0, o.1) w.3)

  pub decimal_some : IfSome r (WritesWhole u)
  decimal_some = go r h
    where
      go : (r : Option ℕ) → SomeIff r (IsWhole q × (whole_of q < 2 ^ 64)) (whole_of q) → IfSome r (WritesWhole u)
      go None h = tt
      go (Some n) h = (numeral_digits q * 10 ^ tens_up q, 10 ^ tens_down q, Unsigned.decimal is, rw h.1 (whole_value q digits h.0.0))

  pub decimal_only : IfSome r (λ n. (k : ℕ) → WritesWhole u k → n ≡ k)
  decimal_only = go r h
    where
      go : (r : Option ℕ) → SomeIff r (IsWhole q × (whole_of q < 2 ^ 64)) (whole_of q) → IfSome r (λ n. (k : ℕ) → WritesWhole u k → n ≡ k)
      go None h = tt
      go (Some n) h = λ k w. h.1 ∙ (whole_is k w).1

  pub decimal_none : IfNone r ((k : ℕ) → WritesWhole u k → 2 ^ 64 ≤ k)
  decimal_none = go r h
    where
      go : (r : Option ℕ) → SomeIff r (IsWhole q × (whole_of q < 2 ^ 64)) (whole_of q) → IfNone r ((k : ℕ) → WritesWhole u k → 2 ^ 64 ≤ k)
      go None h = λ k w. (let v = whole_is k w in elim (cases_lt (whole_of q) (2 ^ 64)) [ inl l ↦ absurd (h (v.0, l)) | inr l ↦ omega (arith, v.1) ])
      go (Some n) h = tt

-- neither prefix of a hexadecimal number
pub no_hex_prefix : (u rest : List ℕ) (r : Option (Bor (List ℕ))) → u ≡ 0x30 ∷ rest → ((t : List ℕ) → rest ≢ 0x78 ∷ t) → MatchOption r ((t : List ℕ) → rest ≢ 0x58 ∷ t) (λ x. rest ≡ 0x58 ∷ x.now)
    → IfNone r ((x : ℕ) (ds : List ℕ) → IsTrue (is_x x) → u ≡ 0x30 ∷ x ∷ ds → ⊥)
no_hex_prefix u rest None e lower upper = λ x ds is q.
    let t : rest ≡ x ∷ ds = ap (λ l. drop 1 l) (sym e ∙ q) in
    elim (x_cases x is) [ inl k ↦ lower ds (rw k at t) | inr k ↦ upper ds (rw k at t) ]
  where
    x_cases : (x : ℕ) → IsTrue (is_x x) → (x ≡ 0x78) ⊎ (x ≡ 0x58)
    x_cases x h = grind arith
no_hex_prefix u rest (Some x) e lower upper = tt

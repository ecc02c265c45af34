-- What the scan of a decimal number reads: its parts.
use Rattle.std.proofs.Common.{◌≡◌, ℕ, suc, ◌+◌, ◌-◌, ◌<◌, ◌≤◌, Bool, true, false, cond, ◌&&◌, ◌||◌, eqb, List, [], ◌∷◌, ◌++◌, length, get_or, take, drop, slice_range, IsTrue, refl, sym, ap, ap₂, subst, zero, ◌∙◌, arith, inl, inr, length-append, length-drop, append-nil, append_assoc, add-zero}
use Rattle.std.proofs.Math.Seq.{get_or-append-add, drop_at, take_at}
use Rattle.std.specs.Char.{is_ascii_digit, digit_value}
use Rattle.std.specs.Str.Parse.{AllDigits, IsNumeral, digits_value}
use Rattle.std.specs.Float.Numeral.{digits_len, digits_end, exponent_start, has_exponent, scan_numeral, tens_up, tens_down}
use Rattle.jsonc_text.specs.Numbers.{is_e}
use Rattle.std.proofs.lemmas.Bool.{cases_Bool, cases_lt, and_parts}
use Rattle.std.proofs.lemmas.List.Folds.{drop_split}
use Rattle.std.proofs.lemmas.List.Sums.{prefix_len-le-length}
use Rattle.std.proofs.lemmas.List.{drop_more, get_or_past, take_all, drop_all}
use Rattle.std.proofs.lemmas.Str.Parse.{digit_from_value}
use Rattle.jsonc_parser.specs.Numbers.{Whole, Fraction, Exponent}

is_digit : (x : ℕ) → 48 ≤ x → x ≤ 57 → is_ascii_digit x ≡ true
is_digit x lo hi = grind arith

digits_len-append : (ds rest : List ℕ) → AllDigits 10 ds → digits_len (ds ++ rest) ≡ length ds + digits_len rest
digits_len-append [] rest h = omega arith
digits_len-append (d ∷ ds) rest h = let r = digit_from_value d h.0 in rw (is_digit d r.0 r.1) (omega (arith, digits_len-append ds rest h.1))

module _ (front ds rest : List ℕ) (i : ℕ) (at : length front ≡ i) (digits : AllDigits 10 ds) (ends : digits_len rest ≡ 0) where
  run_end : digits_end (front ++ (ds ++ rest)) i ≡ i + length ds
  run_end = rw (drop_at front _ i at, digits_len-append ds rest digits, ends, add-zero)

  run_is : slice_range (front ++ (ds ++ rest)) i (i + length ds) ≡ ds
  run_is = rw (drop_at front _ i at) (take_at ds rest (i + length ds - i) (omega arith))

byte_after : (front rest : List ℕ) (i k : ℕ) → length front ≡ i → get_or (front ++ rest) (i + k) 0 ≡ get_or rest k 0
byte_after front rest i k e = rw (← e) (get_or-append-add front rest k 0)

byte_at_end : (front rest : List ℕ) (i : ℕ) → length front ≡ i → get_or (front ++ rest) i 0 ≡ get_or rest 0 0
byte_at_end front rest i e = rw add-zero at (byte_after front rest i 0 e)

-- from b on the bytes bs have an exponent with these digits and this sign
record Tail (bs : List ℕ) (b : ℕ) (negative : Bool) (ds : List ℕ) : Type 0 where
  sign : (has_exponent bs b && eqb (get_or bs (b + 1) 0) 45) ≡ negative
  digits : cond (has_exponent bs b) (slice_range bs (exponent_start bs b) (digits_end bs (exponent_start bs b))) [] ≡ ds
  long : cond (has_exponent bs b) (digits_end bs (exponent_start bs b)) b ≡ length bs

tail_of : (bs : List ℕ) (b c : ℕ) (negative : Bool) (ds : List ℕ) → has_exponent bs b ≡ true → exponent_start bs b ≡ c → eqb (get_or bs (b + 1) 0) 45 ≡ negative
    → digits_end bs c ≡ c + length ds → slice_range bs c (c + length ds) ≡ ds → c + length ds ≡ length bs → Tail bs b negative ds
tail_of bs b c negative ds has start sign end is long = record { sign = rw has sign; digits = rw (has, start, end) is; long = rw (has, start, end) long }

-- the first of some digits is a digit, and no sign
record FirstDigit (d : ℕ) : Type 0 where
  is : is_ascii_digit d ≡ true
  no_minus : eqb d 45 ≡ false
  no_plus : eqb d 43 ≡ false

first_digit : (d : ℕ) → digit_value d < 10 → FirstDigit d
first_digit d h = let r = digit_from_value d h in record { is = is_digit d r.0 r.1; no_minus = grind arith; no_plus = grind arith }

tail_bare : (front ds : List ℕ) (e b : ℕ) → length front ≡ b → IsTrue (is_e e) → IsNumeral 10 ds → Tail (front ++ e ∷ ds) b false ds
tail_bare front [] e b at is n = absurd (omega (arith, n.0))
tail_bare front (d ∷ ds) e b at is n =
    let r = first_digit d n.1.0 in
    let bs = front ++ e ∷ d ∷ ds in
    let next : get_or bs (b + 1) 0 ≡ d = byte_after front _ b 1 at in
    let start : exponent_start bs b ≡ b + 1 = rw (next, r.no_minus, r.no_plus) in
    let cut : (front ++ e ∷ []) ++ ((d ∷ ds) ++ []) ≡ bs = rw (append-nil, append_assoc) in
    let long : length (front ++ e ∷ []) ≡ b + 1 = rw (length-append, at) in
    tail_of bs b (b + 1) false (d ∷ ds) (rw (start, next, byte_at_end front _ b at, r.is, is)) start (rw next r.no_minus)
    (rw cut at (run_end _ (d ∷ ds) [] (b + 1) long n.1 refl)) (rw cut at (run_is _ (d ∷ ds) [] (b + 1) long n.1 refl)) (omega (arith, length-append front (e ∷ d ∷ ds)))

tail_signed : (front ds : List ℕ) (e s b : ℕ) (negative : Bool) → length front ≡ b → IsTrue (is_e e) → (eqb s 45 || eqb s 43) ≡ true → eqb s 45 ≡ negative → IsNumeral 10 ds → Tail (front ++ e ∷ s ∷ ds) b negative ds
tail_signed front [] e s b negative at is sign minus n = absurd (omega (arith, n.0))
tail_signed front (d ∷ ds) e s b negative at is sign minus n =
    let r = first_digit d n.1.0 in
    let bs = front ++ e ∷ s ∷ d ∷ ds in
    let next : get_or bs (b + 1) 0 ≡ s = byte_after front _ b 1 at in
    let start : exponent_start bs b ≡ b + 2 = rw (next, sign) in
    let cut : (front ++ e ∷ s ∷ []) ++ ((d ∷ ds) ++ []) ≡ bs = rw (append-nil, append_assoc) in
    let long : length (front ++ e ∷ s ∷ []) ≡ b + 2 = rw (length-append, at) in
    tail_of bs b (b + 2) negative (d ∷ ds) (rw (start, byte_after front _ b 2 at, byte_at_end front _ b at, r.is, is)) start (rw next minus)
    (rw cut at (run_end _ (d ∷ ds) [] (b + 2) long n.1 refl)) (rw cut at (run_is _ (d ∷ ds) [] (b + 2) long n.1 refl)) (omega (arith, length-append front (e ∷ s ∷ d ∷ ds)))

-- the exponent that these digits and this sign write
record Powers (negative : Bool) (ds : List ℕ) (up down : ℕ) : Type 0 where
  up_is : cond negative 0 (digits_value 10 ds) ≡ up
  down_is : cond negative (digits_value 10 ds) 0 ≡ down

-- an exponent x ends a run of digits, begins with no point, and is read from any place b
record ReadsTail (x : List ℕ) (up down : ℕ) : Type 0 where
  no_digit : digits_len x ≡ 0
  no_point : eqb (get_or x 0 0) 46 ≡ false
  negative : Bool
  ds : List ℕ
  powers : Powers negative ds up down
  tail : (front : List ℕ) (b : ℕ) → length front ≡ b → Tail (front ++ x) b negative ds

e_no_digit : (e : ℕ) (xs : List ℕ) → IsTrue (is_e e) → digits_len (e ∷ xs) ≡ 0
e_no_digit e xs h = let no : is_ascii_digit e ≡ false = grind arith in rw no

e_no_point : (e : ℕ) → IsTrue (is_e e) → eqb e 46 ≡ false
e_no_point e h = grind arith

reads_tail : {x : List ℕ} {up down : ℕ} → Exponent x up down → ReadsTail x up down
reads_tail Exponent.none = record {
  no_digit = refl;
  no_point = refl;
  negative = false;
  ds = [];
  powers = record { up_is = refl; down_is = refl };
  tail = λ front b at. (let has : has_exponent (front ++ []) b ≡ false = rw (byte_at_end front [] b at) in record { sign = rw has; digits = rw has; long = rw (has, append-nil) (sym at) });
}
reads_tail (Exponent.digits {e = e} {ds = ds} is n) = record {
  no_digit = e_no_digit e ds is;
  no_point = e_no_point e is;
  negative = false;
  ds = ds;
  powers = record { up_is = refl; down_is = refl };
  tail = λ front b at. tail_bare front ds e b at is n;
}
reads_tail (Exponent.plus {e = e} {ds = ds} is n) = record {
  no_digit = e_no_digit e (0x2B ∷ ds) is;
  no_point = e_no_point e is;
  negative = false;
  ds = ds;
  powers = record { up_is = refl; down_is = refl };
  tail = λ front b at. tail_signed front ds e 0x2B b false at is refl refl n;
}
reads_tail (Exponent.minus {e = e} {ds = ds} is n) = record {
  no_digit = e_no_digit e (0x2D ∷ ds) is;
  no_point = e_no_point e is;
  negative = true;
  ds = ds;
  powers = record { up_is = refl; down_is = refl };
  tail = λ front b at. tail_signed front ds e 0x2D b true at is refl refl n;
}

scan_is : (bs whole fraction exponent : List ℕ) (point negative : Bool) (a b : ℕ) → digits_end bs 0 ≡ a → eqb (get_or bs a 0) 46 ≡ point → cond point (digits_end bs (a + 1)) a ≡ b
    → slice_range bs 0 a ≡ whole → cond point (slice_range bs (a + 1) b) [] ≡ fraction → Tail bs b negative exponent
    → scan_numeral bs ≡ record { whole = whole; point = point; fraction = fraction; exponent_negative = negative; exponent = exponent; len = length bs }
unfolding scan_numeral
scan_is bs whole fraction exponent point negative a b ea ep eb ew ef t =
    rw (ea, ep, eb) (λ i. record { whole = ew i; point = point; fraction = ef i; exponent_negative = t.sign i; exponent = t.digits i; len = t.long i })

-- the scan of u takes all of it: the digits w and f, and the exponent
pub record Scans (u w f : List ℕ) (up down : ℕ) : Type 0 where
  pub whole : (scan_numeral u).whole ≡ w
  pub fraction : (scan_numeral u).fraction ≡ f
  pub up_is : tens_up (scan_numeral u) ≡ up
  pub down_is : tens_down (scan_numeral u) ≡ length f + down
  pub long : (scan_numeral u).len ≡ length u

scans_as : (u w f ds : List ℕ) (point negative : Bool) (up down : ℕ) → scan_numeral u ≡ record { whole = w; point = point; fraction = f; exponent_negative = negative; exponent = ds; len = length u }
    → Powers negative ds up down → Scans u w f up down
scans_as u w f ds point negative up down e p = record {
  whole = ap (λ q. q.whole) e;
  fraction = ap (λ q. q.fraction) e;
  up_is = ap (λ q. tens_up q) e ∙ p.up_is;
  down_is = ap (λ q. tens_down q) e ∙ ap (λ k. length f + k) p.down_is;
  long = ap (λ q. q.len) e;
}

-- a decimal number is scanned into its parts
pub scanned : {w p f x : List ℕ} {up down : ℕ} → Whole w → Fraction p f → Exponent x up down → Scans (w ++ (p ++ x)) w f up down
scanned {w = w} {x = x} {up = up} {down = down} h Fraction.none e =
    let t = reads_tail e in
    let a = 0 + length w in
    let at : length w ≡ a = omega arith in
    scans_as (w ++ x) w [] t.ds false t.negative up down
    (scan_is (w ++ x) w [] t.ds false t.negative a a (run_end [] w x 0 refl h.digits t.no_digit) (rw (byte_at_end w x a at) t.no_point) refl (run_is [] w x 0 refl h.digits t.no_digit) refl (t.tail w a at)) t.powers
scanned {w = w} {x = x} {up = up} {down = down} h (Fraction.point {f = f} digits) e =
    let t = reads_tail e in
    let a = 0 + length w in
    let at : length w ≡ a = omega arith in
    let cut : (w ++ 46 ∷ []) ++ (f ++ x) ≡ w ++ 46 ∷ (f ++ x) = append_assoc w (46 ∷ []) _ in
    let long : length (w ++ 46 ∷ []) ≡ a + 1 = omega (arith, length-append w (46 ∷ [])) in
    let front : (w ++ 46 ∷ f) ++ x ≡ w ++ 46 ∷ (f ++ x) = append_assoc w (46 ∷ f) x in
    scans_as (w ++ 46 ∷ (f ++ x)) w f t.ds true t.negative up down
    (scan_is (w ++ 46 ∷ (f ++ x)) w f t.ds true t.negative a (a + 1 + length f) (run_end [] w _ 0 refl h.digits refl) (rw (byte_at_end w _ a at)) (rw cut at (run_end _ f x (a + 1) long digits t.no_digit))
    (run_is [] w _ 0 refl h.digits refl) (rw cut at (run_is _ f x (a + 1) long digits t.no_digit))
    (rw front at (t.tail (w ++ 46 ∷ f) (a + 1 + length f) (omega (arith, length-append w (46 ∷ f)))))) t.powers

-- past the end `get_or` gives 0
within : (u : List ℕ) (i : ℕ) → 0 < get_or u i 0 → i < length u
within u i h = elim (cases_lt i (length u)) [ inl l ↦ l | inr l ↦ absurd (omega (arith, get_or_past u i 0 l)) ]

small_digit : (x : ℕ) → is_ascii_digit x ≡ true → digit_value x < 10
small_digit x h = grind arith

run_digits : (xs : List ℕ) (n : ℕ) → n ≤ digits_len xs → AllDigits 10 (take n xs)
run_digits xs zero h = tt
run_digits [] (suc n) h = tt
run_digits (x ∷ xs) (suc n) h = go (run_digits xs n) (is_ascii_digit x) refl h
  where
    go : (n ≤ digits_len xs → AllDigits 10 (take n xs)) → (b : Bool) → is_ascii_digit x ≡ b → suc n ≤ cond b (1 + digits_len xs) 0 → (digit_value x < 10) × AllDigits 10 (take n xs)
    go more true e k = (small_digit x e, more (omega arith))
    go more false e k = absurd (omega arith)

-- the digits from c on, where they go to the end
to_end : (u : List ℕ) (c : ℕ) → digits_end u c ≡ length u → (slice_range u c (digits_end u c) ≡ drop c u) × AllDigits 10 (drop c u)
to_end u c e = (
  take_all _ _ (omega (arith, length-drop c u)),
  subst (AllDigits 10) (take_all (digits_len (drop c u)) (drop c u) (omega (arith, length-drop c u))) (run_digits (drop c u) (digits_len (drop c u)) (omega arith)),
)

e_some : (e : ℕ) → is_e e ≡ true → 0 < e
e_some e h = grind arith

digit_some : (d : ℕ) → is_ascii_digit d ≡ true → 0 < d
digit_some d h = grind arith

sign_some : (s : ℕ) → (eqb s 45 || eqb s 43) ≡ true → 0 < s
sign_some s h = grind arith

is_minus : (s : ℕ) → eqb s 45 ≡ true → s ≡ 0x2D
is_minus s h = grind arith

is_plus : (s : ℕ) → (eqb s 45 || eqb s 43) ≡ true → eqb s 45 ≡ false → s ≡ 0x2B
is_plus s h m = grind arith

is_no_minus : (s : ℕ) → (eqb s 45 || eqb s 43) ≡ false → eqb s 45 ≡ false
is_no_minus s h = grind arith

-- the exponent that the scan found from b to the end
abbrev FoundExponent : List ℕ → ℕ → Type 0
FoundExponent u b =
    let negative = has_exponent u b && eqb (get_or u (b + 1) 0) 45 in
    let value = digits_value 10 (cond (has_exponent u b) (slice_range u (exponent_start u b) (digits_end u (exponent_start u b))) []) in
    Exponent (drop b u) (cond negative 0 value) (cond negative value 0)

numeral_to_end : (u : List ℕ) (c : ℕ) → is_ascii_digit (get_or u c 0) ≡ true → digits_end u c ≡ length u → IsNumeral 10 (drop c u)
numeral_to_end u c d e = (omega (arith, within u c (digit_some _ d), length-drop c u), (to_end u c e).1)

bare_read : (u : List ℕ) (b : ℕ) → has_exponent u b ≡ true → (eqb (get_or u (b + 1) 0) 45 || eqb (get_or u (b + 1) 0) 43) ≡ false → digits_end u (exponent_start u b) ≡ length u → FoundExponent u b
bare_read u b has plain e =
    let parts = and_parts _ _ has in
    let start : exponent_start u b ≡ b + 1 = rw plain in
    let end : digits_end u (b + 1) ≡ length u = rw start at e in
    let n = numeral_to_end u (b + 1) (rw start at parts.1) end in
    rw (has, start, (to_end u (b + 1) end).0, is_no_minus _ plain, drop_more u b 0 (within u b (e_some _ parts.0))) (Exponent.digits parts.0 n)

one_more : (u : List ℕ) (b : ℕ) → b + 1 < length u → drop (b + 1) u ≡ get_or u (b + 1) 0 ∷ drop (b + 2) u
one_more u b l = let on : b + 1 + 1 ≡ b + 2 = omega arith in rw on at (drop_more u (b + 1) 0 l)

signed_read : (u : List ℕ) (b : ℕ) → has_exponent u b ≡ true → (eqb (get_or u (b + 1) 0) 45 || eqb (get_or u (b + 1) 0) 43) ≡ true → digits_end u (exponent_start u b) ≡ length u → FoundExponent u b
signed_read u b has sign e =
    let parts = and_parts _ _ has in
    let start : exponent_start u b ≡ b + 2 = rw sign in
    let end : digits_end u (b + 2) ≡ length u = rw start at e in
    let n = numeral_to_end u (b + 2) (rw start at parts.1) end in
    let first = drop_more u b 0 (within u b (e_some _ parts.0)) in
    let second : drop (b + 1) u ≡ get_or u (b + 1) 0 ∷ drop (b + 2) u = one_more u b (within u (b + 1) (sign_some _ sign)) in
    elim (cases_Bool (eqb (get_or u (b + 1) 0) 45)) [
      | inl m ↦ rw (has, start, (to_end u (b + 2) end).0, m, first, second, is_minus _ m) (Exponent.minus parts.0 n)
      | inr m ↦ rw (has, start, (to_end u (b + 2) end).0, m, first, second, is_plus _ sign m) (Exponent.plus parts.0 n)
    ]

tail_read : (u : List ℕ) (b : ℕ) → b ≤ length u → cond (has_exponent u b) (digits_end u (exponent_start u b)) b ≡ length u → FoundExponent u b
tail_read u b l e =
    elim (cases_Bool (has_exponent u b)) [
      | inl has ↦ elim (cases_Bool (eqb (get_or u (b + 1) 0) 45 || eqb (get_or u (b + 1) 0) 43)) [
        | inl sign ↦ signed_read u b has sign (rw has at e)
        | inr plain ↦ bare_read u b has plain (rw has at e)
      ]
      | inr hasnt ↦ (let whole : b ≡ length u = rw hasnt at e in rw (hasnt, drop_all b u (omega arith)) Exponent.none)
    ]

-- u is digits w, then a fraction with digits f, and then an exponent
pub record Splits (u w f : List ℕ) (up down : ℕ) : Type 0 where
  pub p : List ℕ
  pub x : List ℕ
  pub is : u ≡ w ++ (p ++ x)
  pub fraction : Fraction p f
  pub exponent : Exponent x up down

splits : (u : List ℕ) (a b : ℕ) (point : Bool) (up down : ℕ) → eqb (get_or u a 0) 46 ≡ point → cond point (digits_end u (a + 1)) a ≡ b → Exponent (drop b u) up down
    → Splits u (slice_range u 0 a) (cond point (slice_range u (a + 1) b) []) up down
splits u a b false up down ep eb h = record {
  p = [];
  x = drop a u;
  is = drop_split u 0 a (omega arith);
  fraction = Fraction.none;
  exponent = rw (sym eb) at h;
}
splits u a b true up down ep eb h =
    let below = within u a (omega (arith, is_point _ ep)) in
    record {
      p = 46 ∷ slice_range u (a + 1) b;
      x = drop b u;
      is = drop_split u 0 a (omega arith) ∙ ap (λ t. slice_range u 0 a ++ t) (drop_more u a 0 below ∙ ap₂ (λ c t. c ∷ t) (is_point _ ep) (drop_split u (a + 1) b (omega arith)));
      fraction = Fraction.point (run_digits (drop (a + 1) u) (b - (a + 1)) (omega arith));
      exponent = h;
    }
  where
    is_point : (c : ℕ) → eqb c 46 ≡ true → c ≡ 46
    is_point c h = grind arith

run_within : (u : List ℕ) (a : ℕ) → a ≤ length u → digits_end u a ≤ length u
run_within u a l = omega (arith, prefix_len-le-length is_ascii_digit (drop a u), length-drop a u)

point_within : (u : List ℕ) (a : ℕ) (point : Bool) → a ≤ length u → eqb (get_or u a 0) 46 ≡ point → cond point (digits_end u (a + 1)) a ≤ length u
point_within u a false l e = l
point_within u a true l e = run_within u (a + 1) (let below = within u a (some _ e) in omega arith)
  where
    some : (c : ℕ) → eqb c 46 ≡ true → 0 < c
    some c h = grind arith

-- a text that is scanned to its end is its parts
pub parsed : (u : List ℕ) → (scan_numeral u).len ≡ length u
    → Splits u (scan_numeral u).whole (scan_numeral u).fraction (tens_up (scan_numeral u)) (cond (scan_numeral u).exponent_negative (digits_value 10 (scan_numeral u).exponent) 0)
unfolding scan_numeral
parsed u e =
    let a = digits_end u 0 in
    let point = eqb (get_or u a 0) 46 in
    let b = cond point (digits_end u (a + 1)) a in
    splits u a b point _ _ refl refl (tail_read u b (point_within u a point (run_within u 0 (omega arith)) refl) e)

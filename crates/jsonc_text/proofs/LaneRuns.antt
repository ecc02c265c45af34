-- From the mask of sixteen bytes to the bytes.
use Rattle.std.proofs.Common.{ℕ, ◌≡◌, ◌∙◌, inl, inr, ◌+◌, ◌<◌, ◌≤◌, ◌%◌, ◌^◌, ◌*◌, ◌/◌, ◌-◌, zero, suc, drop, take, refl, sym, ap, subst, ap₂, arith, List, [], ◌∷◌, map, length, replicate, get_or, Bool, true, false, not, cond, eqb, ◌||◌, bit_or}
use Rattle.std.proofs.lemmas.List.{length-map, drop-map, drop-take, drop-drop}
use Rattle.std.proofs.Math.Nat.{div-one, zero-div, pow-suc, mul_comm, div-div-eq-div-mul}
use Rattle.std.proofs.lemmas.Simd.{zip2_splat, zip2_splat_left, mask_l-mod, mask_l-lt, none_from_empty_mask, trailing_mask_l, run_in_chunk_le, run_in_chunk_fails, run_in_chunk_stops, length-chunk}
use Rattle.std.proofs.lemmas.Bool.{cases_lt}
use lib.Lanes.{chunk, zip2, mask_l, top}
use lib.Count.{count_trailing_zeros}
use lib.Dec.{ltb}
use borrow.Author.Numbers.{trailing_lt}
use Rattle.jsonc_text.specs.Runs.{IsDigitMask, RunsTo, is_either, is_no_digit}
use Rattle.jsonc_text.specs.Text.{is_digit}
use Rattle.jsonc_text.specs.string.Between.{is_neither}
use Rattle.jsonc_text.proofs.lemmas.string.ByteRuns.{BytesPass}

-- what a comparison leaves in a lane
abbrev pub hit : ℕ → ℕ → ℕ
hit a b = cond (eqb a b) 255 0

abbrev pub hit_below : ℕ → ℕ → ℕ
hit_below a b = cond (ltb a b) 255 0

one_lane : (b c : Bool) → top 7 (bit_or (cond b 255 0) (cond c 255 0)) ≡ (b || c)
one_lane true true = refl
one_lane true false = refl
one_lane false true = refl
one_lane false false = refl

-- two comparisons joined, in each lane
two_compared : (a b t : ℕ → Bool) → ((c : ℕ) → (a c || b c) ≡ t c) → (v : List ℕ)
    → map (top 7) (zip2 bit_or (map (λ x. cond (a x) 255 0) v) (map (λ x. cond (b x) 255 0) v)) ≡ map t v
two_compared a b t same [] = refl
two_compared a b t same (x ∷ v) = ap₂ (λ d l. d ∷ l) (one_lane (a x) (b x) ∙ same x) (two_compared a b t same v)

-- the mask of sixteen tests
mask_of : (t : ℕ → Bool) (v : List ℕ) → length v ≡ 16 → mask_l (map t v) % 2 ^ 64 ≡ mask_l (map t v)
mask_of t v long = mask_l-mod (map t v) 64 (omega (arith, length-map v t, long))

-- the mask of two comparisons
pub either_mask : (f s : ℕ) (v : List ℕ) → length v ≡ 16
    → mask_l (map (top 7) (zip2 bit_or (zip2 hit v (replicate 16 f)) (zip2 hit v (replicate 16 s)))) % 2 ^ 64 ≡ mask_l (map (is_either f s) v)
either_mask f s v long =
    ap (λ l. mask_l (map (top 7) l) % 2 ^ 64) (ap₂ (zip2 bit_or) (zip2_splat hit v 16 f long) (zip2_splat hit v 16 s long))
    ∙ ap (λ l. mask_l l % 2 ^ 64) (two_compared (λ x. eqb x f) (λ x. eqb x s) (is_either f s) (λ c. refl) v)
    ∙ mask_of (is_either f s) v long

out_of_digits : (c : ℕ) → (ltb c 48 || ltb 57 c) ≡ is_no_digit c
out_of_digits c = grind arith

-- the mask of a comparison with the first digit and one with the last
pub no_digit_mask : (v : List ℕ) → length v ≡ 16
    → mask_l (map (top 7) (zip2 bit_or (zip2 hit_below v (replicate 16 48)) (zip2 hit_below (replicate 16 57) v))) % 2 ^ 64 ≡ mask_l (map is_no_digit v)
no_digit_mask v long =
    ap (λ l. mask_l (map (top 7) l) % 2 ^ 64) (ap₂ (zip2 bit_or) (zip2_splat hit_below v 16 48 long) (zip2_splat_left hit_below 57 16 v long))
    ∙ ap (λ l. mask_l l % 2 ^ 64) (two_compared (λ x. ltb x 48) (λ x. ltb 57 x) is_no_digit out_of_digits v)
    ∙ mask_of is_no_digit v long

-- what passes is what the mask has no bit of
abbrev pub Opposite : (ℕ → Bool) → (ℕ → Bool) → Type 0
Opposite p t = (c : ℕ) → p c ≡ not (t c)

pub neither_opposite : (f s : ℕ) → Opposite (is_neither f s) (is_either f s)
neither_opposite f s c = refl

pub digit_opposite : Opposite is_digit is_no_digit
digit_opposite c = go (is_digit c)
  where
    go : (b : Bool) → b ≡ not (not b)
    go true = refl
    go false = refl

-- where the mask is empty, all sixteen pass
pub pass_sixteen : (p t : ℕ → Bool) → Opposite p t → (bytes : List ℕ) (start place : ℕ) → BytesPass p bytes start place → place + 16 ≤ length bytes
    → mask_l (map t (chunk place 16 bytes)) ≡ 0 → BytesPass p bytes start (place + 16)
pass_sixteen p t other bytes start place held room none = record {
  order = omega (arith, held.order);
  within = room;
  pass = λ k from to. elim (cases_lt k place) [
    | inl before ↦ held.pass k from before
    | inr after ↦ other (get_or bytes k 0) ∙ ap not (none_from_empty_mask t bytes place 16 0 room none k after to)
  ];
}

-- where it is not, the lowest bit is that of the first one that does not
pub stop_in_lanes : (n : ℕ) → n ≤ 16 → (p t : ℕ → Bool) → Opposite p t → (bytes : List ℕ) (start place r : ℕ) → BytesPass p bytes start place → place + n ≤ length bytes
    → 0 < mask_l (map t (chunk place n bytes)) → r ≡ count_trailing_zeros 64 (mask_l (map t (chunk place n bytes))) → RunsTo p bytes start (place + r)
stop_in_lanes n few p t other bytes start place r held room some found =
    let long = length-chunk place n bytes room in
    let counted = found ∙ trailing_mask_l t 64 (chunk place n bytes) (omega (arith, long)) some in
    let small : mask_l (map t (chunk place n bytes)) < 2 ^ n = subst (λ m. mask_l (map t (chunk place n bytes)) < 2 ^ m) (length-map (chunk place n bytes) t ∙ long) (mask_l-lt (map t (chunk place n bytes))) in
    let short : r < n = omega (arith, counted, sym (trailing_mask_l t n (chunk place n bytes) (omega (arith, long)) some), trailing_lt n _ some small) in
    record {
      order = omega (arith, held.order);
      within = omega (arith, run_in_chunk_le t bytes place n r 0 room counted);
      pass = λ k from to. elim (cases_lt k place) [
        | inl before ↦ held.pass k from before
        | inr after ↦ other (get_or bytes k 0) ∙ ap not (run_in_chunk_fails t bytes place n r 0 room counted k after to)
      ];
      stops = λ more. other (get_or bytes (place + r) 0) ∙ ap not (run_in_chunk_stops t bytes place n r 0 room counted short);
    }

-- without its lowest bits, a mask is that of the later lanes
mask_l-drop : (n : ℕ) (ms : List Bool) → mask_l ms / 2 ^ n ≡ mask_l (drop n ms)
mask_l-drop zero ms = div-one (mask_l ms)
mask_l-drop (suc n) [] = zero-div (2 ^ suc n)
mask_l-drop (suc n) (m ∷ ms) =
    ap (λ d. mask_l (m ∷ ms) / d) (pow-suc 2 n ∙ mul_comm (2 ^ n) 2) ∙ sym (div-div-eq-div-mul (mask_l (m ∷ ms)) 2 (2 ^ n)) ∙ ap (λ d. d / 2 ^ n) (half m (mask_l ms)) ∙ mask_l-drop n ms
  where
    half : (b : Bool) (x : ℕ) → (cond b 1 0 + 2 * x) / 2 ≡ x
    half true x = omega arith
    half false x = omega arith

later_mask : (t : ℕ → Bool) (bytes : List ℕ) (place from n : ℕ) → from + n ≡ 16 → mask_l (map t (chunk place 16 bytes)) / 2 ^ from ≡ mask_l (map t (chunk (place + from) n bytes))
later_mask t bytes place from n whole =
    mask_l-drop from (map t (chunk place 16 bytes)) ∙ ap mask_l (drop-map t from (chunk place 16 bytes))
    ∙ ap (λ l. mask_l (map t l)) (ap (λ k. drop from (take k (drop place bytes))) (sym whole) ∙ drop-take from n (drop place bytes) ∙ ap (take n) (drop-drop from place bytes))

-- a run of digits within the sixteen bytes of a mask
pub digits_by_mask : (bytes : List ℕ) (near mask start from : ℕ) → IsDigitMask bytes near mask → from < 16 → start ≡ near + from
    → 0 < mask / 2 ^ from → RunsTo is_digit bytes start (start + count_trailing_zeros 64 (mask / 2 ^ from))
digits_by_mask bytes near mask start from (inl none) few here some = absurd (omega (arith, some, ap (λ m. m / 2 ^ from) none.1, zero-div (2 ^ from)))
digits_by_mask bytes near mask start from (inr (room, marks)) few here some =
    let rest = ap (λ m. m / 2 ^ from) marks ∙ later_mask is_no_digit bytes near from (16 - from) (omega arith) ∙ ap (λ k. mask_l (map is_no_digit (chunk k (16 - from) bytes))) (sym here) in
    stop_in_lanes (16 - from) (omega arith) is_digit is_no_digit digit_opposite bytes start start _ (record { order = omega arith; within = omega arith; pass = λ k h l. absurd (omega arith) }) (omega arith) (omega (arith, rest, some)) (ap (count_trailing_zeros 64) rest)

-- Blanks of ASCII, sixteen at a time.
use Rattle.std.proofs.Common.{ℕ, ◌≡◌, ◌∙◌, ◌+◌, ◌<◌, ◌≤◌, ◌%◌, ◌^◌, zero, suc, add-zero, refl, sym, ap, ap₂, subst, arith, List, [], ◌∷◌, map, length, replicate, get_or, Bool, true, false, not, cond, eqb, ◌||◌, ◌&&◌, bit_or, bit_and, IsTrue, IsUtf8, nat_lt}
use Rattle.std.proofs.lemmas.List.{length-map}
use Rattle.std.proofs.lemmas.Simd.{zip2_splat, zip2_splat_left, mask_l-mod}
use lib.Lanes.{chunk, zip2, mask_l, top}
use lib.Count.{count_trailing_zeros}
use lib.Dec.{ltb}
use Rattle.jsonc_text.specs.Gaps.{is_blank}
use Rattle.jsonc_text.specs.Text.{rest, next, no}
use Rattle.jsonc_text.proofs.Ascii.{blank_step, past_space}
use Rattle.jsonc_text.proofs.CharRuns.{Passes, passes_more}
use Rattle.jsonc_text.proofs.LaneRuns.{hit_below, Opposite, pass_sixteen, stop_in_lanes}
use Rattle.jsonc_text.proofs.lemmas.string.ByteRuns.{pass_none}
use Rattle.jsonc_scan.specs.Blanks.{is_narrow_blank, is_no_narrow_blank}

-- what a comparison for difference leaves in a lane
abbrev pub miss : ℕ → ℕ → ℕ
miss a b = cond (not (eqb a b)) 255 0

one_lane : (b c d : Bool) → top 7 (bit_and (bit_or (cond b 255 0) (cond c 255 0)) (cond d 255 0)) ≡ ((b || c) && d)
one_lane true true true = refl
one_lane true true false = refl
one_lane true false true = refl
one_lane true false false = refl
one_lane false true true = refl
one_lane false true false = refl
one_lane false false true = refl
one_lane false false false = refl

same_blank : (c : ℕ) → ((ltb c 9 || ltb 13 c) && not (eqb c 32)) ≡ is_no_narrow_blank c
same_blank c = grind arith

three_compared : (v : List ℕ)
    → map (top 7) (zip2 bit_and (zip2 bit_or (map (λ x. hit_below x 9) v) (map (λ x. hit_below 13 x) v)) (map (λ x. miss x 32) v)) ≡ map is_no_narrow_blank v
three_compared [] = refl
three_compared (x ∷ v) = ap₂ (λ d l. d ∷ l) (one_lane (ltb x 9) (ltb 13 x) (not (eqb x 32)) ∙ same_blank x) (three_compared v)

-- the mask of the three comparisons
pub no_blank_mask : (v : List ℕ) → length v ≡ 16
    → mask_l (map (top 7) (zip2 bit_and (zip2 bit_or (zip2 hit_below v (replicate 16 9)) (zip2 hit_below (replicate 16 13) v)) (zip2 miss v (replicate 16 32)))) % 2 ^ 64 ≡ mask_l (map is_no_narrow_blank v)
no_blank_mask v long =
    ap (λ l. mask_l (map (top 7) l) % 2 ^ 64) (ap₂ (zip2 bit_and) (ap₂ (zip2 bit_or) (zip2_splat hit_below v 16 9 long) (zip2_splat_left hit_below 13 16 v long)) (zip2_splat miss v 16 32 long))
    ∙ ap (λ l. mask_l l % 2 ^ 64) (three_compared v)
    ∙ mask_l-mod (map is_no_narrow_blank v) 64 (omega (arith, length-map v is_no_narrow_blank, long))

blank_opposite : Opposite is_narrow_blank is_no_narrow_blank
blank_opposite c = go (is_narrow_blank c)
  where
    go : (b : Bool) → b ≡ not (not b)
    go true = refl
    go false = refl

narrow_small : (c : ℕ) → IsTrue (is_narrow_blank c) → c < 128
narrow_small c h = grind arith

-- so many more blanks
passes_narrow : (bytes : List ℕ) (start i n : ℕ) → IsUtf8 bytes → Passes is_blank bytes start i → i + n ≤ length bytes
    → ((k : ℕ) → i ≤ k → k < i + n → IsTrue (is_narrow_blank (get_or bytes k 0))) → Passes is_blank bytes start (i + n)
passes_narrow bytes start i zero u held room all = rw (add-zero i) held
passes_narrow bytes start i (suc n) u held room all =
    let before : Passes is_blank bytes start (i + n) = passes_narrow bytes start i n u held (omega arith) (λ k h l. all k h (omega arith)) in
    let here = all (i + n) (omega arith) (omega arith) in
    let one = blank_step bytes (i + n) u (omega arith) (narrow_small (get_or bytes (i + n) 0) here) here in
    let same : i + n + 1 ≡ i + suc n = omega arith in
    let P : ℕ → Type 0 = λ j. Passes is_blank bytes start j in
    subst P same (passes_more is_blank bytes start (i + n) one.0 (i + n + 1) before (omega arith) one.1 one.2)

-- the blanks before the first byte of sixteen that is none
pub narrow_stop : (text bytes : List ℕ) (start place others : ℕ) → bytes ≡ text → IsUtf8 text → Passes is_blank text start place → place + 16 ≤ length bytes
    → others ≡ mask_l (map is_no_narrow_blank (chunk place 16 bytes)) → 0 < others → Passes is_blank text start (place + count_trailing_zeros 64 others)
narrow_stop text bytes start place others same u held room mask some =
    let here = subst (λ b. others ≡ mask_l (map is_no_narrow_blank (chunk place 16 b))) same mask in
    let run = stop_in_lanes 16 (omega arith) is_narrow_blank is_no_narrow_blank blank_opposite text place place (count_trailing_zeros 64 others)
    (pass_none is_narrow_blank text place held.boundary) (rw same at room) (omega (arith, here, some)) (ap (count_trailing_zeros 64) here) in
    passes_narrow text start place (count_trailing_zeros 64 others) u held run.within run.pass

-- sixteen blanks
pub narrow_sixteen : (text bytes : List ℕ) (start place others : ℕ) → bytes ≡ text → IsUtf8 text → Passes is_blank text start place → place + 16 ≤ length bytes
    → others ≡ mask_l (map is_no_narrow_blank (chunk place 16 bytes)) → others ≡ 0 → Passes is_blank text start (place + 16)
narrow_sixteen text bytes start place others same u held room mask none =
    let here = subst (λ b. others ≡ mask_l (map is_no_narrow_blank (chunk place 16 b))) same mask in
    let passed = pass_sixteen is_narrow_blank is_no_narrow_blank blank_opposite text place place (pass_none is_narrow_blank text place held.boundary) (rw same at room) (sym here ∙ none) in
    passes_narrow text start place 16 u held passed.within passed.pass

above : (c : ℕ) → IsTrue (nat_lt 32 c && nat_lt c 128) → 32 < c
above c h = grind arith

below : (c : ℕ) → IsTrue (nat_lt 32 c && nat_lt c 128) → c < 128
below c h = grind arith

-- a character of ASCII that is no blank
pub no_blank_here : (text bytes : List ℕ) (i : ℕ) → bytes ≡ text → IsUtf8 text → i < length bytes → IsTrue (nat_lt 32 (get_or bytes i 0) && nat_lt (get_or bytes i 0) 128)
    → IsTrue (no is_blank (next (rest text i)))
no_blank_here text bytes i same u within h =
    let here = subst (λ b. IsTrue (nat_lt 32 (get_or b i 0) && nat_lt (get_or b i 0) 128)) same h in
    past_space text i u (rw same at within) (above (get_or text i 0) here) (below (get_or text i 0) here)

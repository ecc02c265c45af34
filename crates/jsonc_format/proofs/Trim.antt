-- A text without the blanks that end it.
use Rattle.std.specs.List.{suffix_len, prefix_len}
use Rattle.std.proofs.Common.{ℕ, suc, ◌≡◌, ◌∙◌, ◌+◌, ◌-◌, ◌<◌, ◌≤◌, sym, ap, refl, Bool, true, false, cond, ◌&&◌, ◌==◌, List, [], ◌∷◌, ◌++◌, length, take, reverse, arith}
use Rattle.std.specs.Str.{drop_trailing_whitespace}
use Rattle.std.proofs.lemmas.List.{reverse-append, length-reverse, length-take-le}
use Rattle.std.proofs.lemmas.List.Sums.{suffix_len-le-length}
use Rattle.std.proofs.lemmas.List.Folds.{prefix_len-append}
use Rattle.jsonc_text.specs.Gaps.{is_blank}
use Rattle.jsonc_text.proofs.Basics.{test_eq}

abbrev pub kept : List ℕ → List ℕ
kept s = take (length s - suffix_len is_blank s) s

suffix_step : (c : ℕ) (s : List ℕ) → suffix_len is_blank (c ∷ s) ≡ cond (suffix_len is_blank s == length s) (length s + cond (is_blank c) 1 0) (suffix_len is_blank s)
suffix_step c s =
    let back : reverse (c ∷ s) ≡ reverse s ++ c ∷ [] = reverse-append (c ∷ []) s in
    let same : length (reverse s) ≡ length s = length-reverse s in
    ap (prefix_len is_blank) back ∙ prefix_len-append is_blank (reverse s) (c ∷ []) ∙ ap (λ n. cond (prefix_len is_blank (reverse s) == n) (n + prefix_len is_blank (c ∷ [])) (prefix_len is_blank (reverse s))) same

take_less : (c n m : ℕ) (s : List ℕ) → n ≤ m → take (suc m - n) (c ∷ s) ≡ c ∷ take (m - n) s
take_less c n m s h = let e : suc m - n ≡ suc (m - n) = omega (arith, h) in rw e refl

-- by its first character
pub kept_step : (c : ℕ) (s : List ℕ) → kept (c ∷ s) ≡ cond (is_blank c && length (kept s) == 0) [] (c ∷ kept s)
kept_step c s = each (suffix_len is_blank s) (length s) (is_blank c) (suffix_len-le-length is_blank s) refl (suffix_step c s)
  where
    none : (n m : ℕ) → n ≡ m → take (m - n) s ≡ []
    none n m e = let z : m - n ≡ 0 = omega (arith, e) in rw z refl

    each : (n m : ℕ) (b : Bool) → n ≤ m → length s ≡ m → suffix_len is_blank (c ∷ s) ≡ cond (n == m) (m + cond b 1 0) n → take (suc (length s) - suffix_len is_blank (c ∷ s)) (c ∷ s) ≡ cond (b && length (take (length s - n) s) == 0) [] (c ∷ take (length s - n) s)
    each n m b h l e = by_test (n == m) b refl e
      where
        less : n ≤ m → (n == m) ≡ false → n < m
        less h t = grind (arith, t)

        some : (k : ℕ) → 0 < k → (k == 0) ≡ false
        some k h = grind (arith, h)

        and_false : (b : Bool) → b && false ≡ false
        and_false true = refl
        and_false false = refl

        by_test : (t b : Bool) → (n == m) ≡ t → suffix_len is_blank (c ∷ s) ≡ cond t (m + cond b 1 0) n → take (suc (length s) - suffix_len is_blank (c ∷ s)) (c ∷ s) ≡ cond (b && length (take (length s - n) s) == 0) [] (c ∷ take (length s - n) s)
        by_test true true t e =
            let same : n ≡ m = test_eq n m t in
            let z : suc (length s) - suffix_len is_blank (c ∷ s) ≡ 0 = omega (arith, l, e) in
            let w : length s - n ≡ 0 = omega (arith, l, same) in
            rw (z, w) refl
        by_test true false t e =
            let same : n ≡ m = test_eq n m t in
            let z : suc (length s) - suffix_len is_blank (c ∷ s) ≡ 1 = omega (arith, l, e) in
            let w : length s - n ≡ 0 = omega (arith, l, same) in
            rw (z, w) refl
        by_test false b t e =
            let z : suc (length s) - suffix_len is_blank (c ∷ s) ≡ suc (length s - n) = omega (arith, l, e, h) in
            let long : length (take (length s - n) s) ≡ length s - n = length-take-le (length s - n) s (omega arith) in
            let k : (length (take (length s - n) s) == 0) ≡ false = some _ (omega (arith, long, l, less h t)) in
            rw (z, k, and_false b) refl

-- what is written of a line comment
pub trimmed : (s : List ℕ) → drop_trailing_whitespace s ≡ kept s
trimmed [] = refl
trimmed (c ∷ s) = ap (λ t. cond (is_blank c && length t == 0) [] (c ∷ t)) (trimmed s) ∙ sym (kept_step c s)

again_by : (c : ℕ) (s : List ℕ) → kept (kept s) ≡ kept s → (b : Bool) → (is_blank c && length (kept s) == 0) ≡ b → kept (cond b [] (c ∷ kept s)) ≡ cond b [] (c ∷ kept s)
again_by c s h true e = refl
again_by c s h false e = kept_step c (kept s) ∙ ap (λ t. cond (is_blank c && length t == 0) [] (c ∷ t)) h ∙ rw e refl

pub kept_again : (s : List ℕ) → kept (kept s) ≡ kept s
kept_again [] = refl
kept_again (c ∷ s) = rw (kept_step c s) (again_by c s (kept_again s) (is_blank c && length (kept s) == 0) refl)

-- How many nodes at the front of a row, or at its end, pass a test.
use Rattle.std.proofs.Common.{◌≡◌, refl, ap, ℕ, ◌+◌, ◌-◌, ◌<◌, ◌≤◌, Bool, true, false, List, length, get_or, drop, take, arith}
use Rattle.std.specs.List.{prefix_len, suffix_len}
use Rattle.std.proofs.lemmas.List.Sums.{prefix_len-drop_yes, prefix_len-drop_no, prefix_len-drop_all, prefix_len-le-length, suffix_len-take_yes, suffix_len-take_no}

module _ (p : ℕ → Bool) (xs : List ℕ) where
  -- all before this place pass
  abbrev pub FrontPasses : ℕ → Type 0
  FrontPasses i = prefix_len p xs ≡ i + prefix_len p (drop i xs)

  pub front_more : (i : ℕ) → FrontPasses i → i < length xs → p (get_or xs i 0) ≡ true → FrontPasses (i + 1)
  front_more i so_far within passes = omega (arith, so_far, prefix_len-drop_yes p xs i 0 within passes)

  pub front_ends : (i : ℕ) → FrontPasses i → i < length xs → p (get_or xs i 0) ≡ false → i ≡ prefix_len p xs
  front_ends i so_far within fails = omega (arith, so_far, prefix_len-drop_no p xs i 0 within fails)

  pub front_whole : (i : ℕ) → FrontPasses i → length xs ≤ i → length xs ≡ prefix_len p xs
  front_whole i so_far past = omega (arith, so_far, prefix_len-drop_all p xs i past, prefix_len-le-length p xs)

  -- all from this place on pass
  pub record BackPasses (n : ℕ) : Type 0 where
    pub within : n ≤ length xs
    pub passes : n + suffix_len p xs ≡ length xs + suffix_len p (take n xs)

  pub back_more : (n : ℕ) → BackPasses n → 0 < n → p (get_or xs (n - 1) 0) ≡ true → BackPasses (n - 1)
  back_more n so_far some passes = record {
    within = omega (arith, so_far.within);
    passes = omega (arith, so_far.passes, suffix_len-take_yes p xs n 0 some so_far.within passes);
  }

  pub back_ends : (n : ℕ) → BackPasses n → 0 < n → p (get_or xs (n - 1) 0) ≡ false → length xs - n ≡ suffix_len p xs
  back_ends n so_far some fails = omega (arith, so_far.passes, so_far.within, suffix_len-take_no p xs n 0 some so_far.within fails)

  pub back_whole : (n : ℕ) → BackPasses n → n ≤ 0 → length xs ≡ suffix_len p xs
  back_whole n so_far none =
      let first : n ≡ 0 = omega arith in
      let nothing : suffix_len p (take 0 xs) ≡ 0 = refl in
      omega (arith, so_far.passes, first, ap (λ k. suffix_len p (take k xs)) first, nothing)

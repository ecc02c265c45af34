-- The first place at which a test passes, and what a search for it answers.
use Rattle.std.proofs.Common.{◌≡◌, ℕ, zero, suc, ◌+◌, ◌<◌, Bool, true, false, ◌||◌, List, [], ◌∷◌, length, get_or, position, Option, Some, None, is_some, refl, sym, ap, ◌∙◌, arith, true≢false}
use Rattle.std.proofs.Math.Bool.{or-true}
use Rattle.std.proofs.lemmas.Bool.{cond_below, cond_above}
use Rattle.std.proofs.lemmas.List.Quantifiers.{position-Some}
use Rattle.std.proofs.lemmas.List.Sums.{position_or_len_is}
use Rattle.std.specs.List.{list_any, position_or_len}
use borrow.Author.Count.{below_more}

pub apart : (b c : Bool) → b || c ≡ false → (b ≡ false) × (c ≡ false)
apart true c e = absurd (true≢false e)
apart false c e = (refl, e)

module _ {K : Type 0} (p : K → Bool) where
  -- i is the first place at which p passes
  abbrev pub First : List K → ℕ → Type 0
  First ks i = (i < length ks) × ((d : K) → p (get_or ks i d) ≡ true) × ((j : ℕ) (d : K) → j < i → p (get_or ks j d) ≡ false)

  pub first_later : (k : K) (ks : List K) (i : ℕ) → First (k ∷ ks) (suc i) → First ks i
  first_later k ks i f = (let h : suc i < suc (length ks) = f.0 in omega arith, λ d. f.1 d, λ j d h. f.2 (suc j) d (omega arith))

  pub first_at : (ks : List K) (i : ℕ) → i < length ks → position p ks ≡ Some i → First ks i
  first_at ks i h e = (h, λ d. (position-Some p ks i d e).1, λ j d lt. (position-Some p ks i d e).2 j lt)

  -- p fails at each key before the i-th
  abbrev pub FailsBefore : List K → ℕ → Type 0
  FailsBefore ks i = (k : ℕ) → k < i → (d : K) → p (get_or ks k d) ≡ false

  -- what a search answers
  pub record Searched (ks : List K) (r : Option ℕ) : Type 0 where
    pub index : r ≡ position p ks
    pub found : is_some r ≡ list_any p ks

  fails_all : (ks : List K) → FailsBefore ks (length ks) → list_any p ks ≡ false
  fails_all [] f = refl
  fails_all (k ∷ ks) f = rw (f 0 (omega arith) k) (fails_all ks (λ j lt d. f (suc j) (omega (arith, lt)) d))

  pub place_absent : (ks : List K) → list_any p ks ≡ false → position_or_len p ks ≡ length ks
  place_absent [] e = refl
  place_absent (k ∷ ks) e = let both = apart (p k) (list_any p ks) e in rw both.0 (let below = place_absent ks both.1 in omega (arith, below))

  passes_one : (ks : List K) (i : ℕ) (d : K) → i < length ks → p (get_or ks i d) ≡ true → list_any p ks ≡ true
  passes_one [] i d lt e = absurd (omega (arith, lt))
  passes_one (k ∷ ks) zero d lt e = rw e refl
  passes_one (k ∷ ks) (suc i) d lt e = ap (λ b. p k || b) (passes_one ks i d (omega (arith, lt)) e) ∙ or-true (p k)

  pub found_at : (ks : List K) (i : ℕ) (d : K) → i < length ks → FailsBefore ks i → p (get_or ks i d) ≡ true → Searched ks (Some i)
  found_at ks i d lt f e =
      let at : position_or_len p ks ≡ i = position_or_len_is p ks i d (omega (arith, lt)) (λ k below. f k below d) (λ _. e) in
      record {
        index = ap Some (sym at) ∙ cond_below (position_or_len p ks) (length ks) (Some (position_or_len p ks)) None (omega (arith, at, lt));
        found = sym (passes_one ks i d lt e);
      }

  pub found_none : (ks : List K) → list_any p ks ≡ false → Searched ks None
  found_none ks none =
      let end_of : position_or_len p ks ≡ length ks = place_absent ks none in
      record {
        index = cond_above (position_or_len p ks) (length ks) (Some (position_or_len p ks)) None None (omega (arith, end_of)) refl;
        found = sym none;
      }

  pub found_nowhere : (ks : List K) → FailsBefore ks (length ks) → Searched ks None
  found_nowhere ks f = found_none ks (fails_all ks f)

  pub fails_more : (ks : List K) (i : ℕ) → FailsBefore ks i → ((d : K) → p (get_or ks i d) ≡ false) → FailsBefore ks (i + 1)
  fails_more ks i f here = below_more (λ n. (d : K) → p (get_or ks n d) ≡ false) i f here

-- A walk over a row, node by node.
use Rattle.std.proofs.Common.{◌≡◌, sym, ap, ◌∙◌, ℕ, zero, suc, ◌+◌, ◌-◌, ◌<◌, ◌≤◌, [], ◌∷◌, ◌++◌, Bool, true, false, cond, List, filter, length, slice_get, Some, arith}
use Rattle.std.specs.List.{find, prefix_len}
use Rattle.std.proofs.lemmas.List.{append_assoc, append-nil}
use Rattle.jsonc_tree.specs.Tree.{Node}
use Rattle.jsonc_layout.specs.nodes.Siblings.{AreThere, IsThere}

-- the first that passes a test stands here, or further on
module _ (test : ℕ → Bool) (row : List ℕ) (x : ℕ) (rest : List ℕ) (e : row ≡ x ∷ rest) where
  pub find_here : test x ≡ true → find test row ≡ Some x
  find_here h = ap (find test) e ∙ ap (λ b. cond b (Some x) (find test rest)) h

  pub find_later : test x ≡ false → find test row ≡ find test rest
  find_later h = ap (find test) e ∙ ap (λ b. cond b (Some x) (find test rest)) h

  -- those that pass it, with this one and without
  pub filter_here : test x ≡ true → filter test row ≡ x ∷ filter test rest
  filter_here h = ap (filter test) e ∙ ap (λ b. cond b (x ∷ filter test rest) (filter test rest)) h

  pub filter_later : test x ≡ false → filter test row ≡ filter test rest
  filter_later h = ap (filter test) e ∙ ap (λ b. cond b (x ∷ filter test rest) (filter test rest)) h

-- how many in front pass it
module _ (test : ℕ → Bool) (row : List ℕ) (x : ℕ) (rest : List ℕ) (e : row ≡ x ∷ rest) where
  pub front_one : test x ≡ true → prefix_len test row ≡ 1 + prefix_len test rest
  front_one h = ap (prefix_len test) e ∙ ap (λ b. cond b (1 + prefix_len test rest) 0) h

  pub front_none : test x ≡ false → prefix_len test row ≡ 0
  front_none h = ap (prefix_len test) e ∙ ap (λ b. cond b (1 + prefix_len test rest) 0) h

-- no more pass it than there are
pub filter_short : (test : ℕ → Bool) (xs : List ℕ) → length (filter test xs) ≤ length xs
filter_short test [] = omega arith
filter_short test (x ∷ xs) = go (test x) (filter_short test xs)
  where
    go : (b : Bool) → length (filter test xs) ≤ length xs → length (cond b (x ∷ filter test xs) (filter test xs)) ≤ length (x ∷ xs)
    go true further = omega arith
    go false further = omega arith

-- one more is pushed, and those that were pushed are all
pub pushed_on : (so_far now row rest : List ℕ) (x : ℕ) → now ≡ so_far ++ x ∷ [] → row ≡ x ∷ rest → now ++ rest ≡ so_far ++ row
pushed_on so_far now row rest x pushed e = ap (λ l. l ++ rest) pushed ∙ append_assoc so_far (x ∷ []) rest ∙ ap (λ l. so_far ++ l) (sym e)

pub all_pushed : (so_far row whole : List ℕ) → so_far ++ row ≡ whole → row ≡ [] → so_far ≡ whole
all_pushed so_far row whole e none = sym (append-nil so_far) ∙ ap (λ l. so_far ++ l) (sym none) ∙ e

-- the one at a place, from the first on
pub got_first : (row : List ℕ) (x : ℕ) (rest : List ℕ) (n : ℕ) → row ≡ x ∷ rest → n ≡ 0 → slice_get row n ≡ Some x
got_first row x rest n e none = ap (slice_get row) none ∙ ap (λ l. slice_get l 0) e

pub got_later : (row : List ℕ) (x : ℕ) (rest : List ℕ) (n : ℕ) → row ≡ x ∷ rest → 0 < n → slice_get row n ≡ slice_get rest (n - 1)
got_later row x rest zero e some = absurd (omega arith)
got_later row x rest (suc n) e some = let before : suc n - 1 ≡ n = omega arith in ap (λ l. slice_get l (suc n)) e ∙ ap (slice_get rest) (sym before)

pub got_there : (ns : List Node) (xs : List ℕ) (n : ℕ) → AreThere ns xs → IsThere ns (slice_get xs n)
got_there ns [] n h = tt
got_there ns (x ∷ xs) zero h = h 0 0 (omega arith)
got_there ns (x ∷ xs) (suc n) h = got_there ns xs n (λ k d l. h (suc k) d (omega arith))

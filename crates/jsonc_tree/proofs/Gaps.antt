-- What stands at a place of a row, and before it, once a node came or went.
use Rattle.std.proofs.Common.{◌≡◌, ℕ, zero, suc, ◌+◌, ◌<◌, ◌≤◌, List, [], ◌∷◌, length, None, Some, inl, inr, slice_get, slice_index, refl, sym, ap, ◌∙◌, arith}
use Rattle.std.specs.List.{splice}
use Rattle.std.proofs.lemmas.Option.{slice_get-get_or, slice_get_past, slice_get_within, get_or_from_slice_get}
use Rattle.std.proofs.lemmas.Bool.{cases_lt}
use Rattle.jsonc_tree.specs.Tree.{Node, IsTree, children_at, parent_at, place_at}
use Rattle.jsonc_tree.specs.Siblings.{before}

module _ (x : ℕ) where
  pub came_low : (xs : List ℕ) (g k : ℕ) → g ≤ length xs → k < g → slice_get (splice xs g g (x ∷ [])) k ≡ slice_get xs k
  came_low [] g k h l = absurd (omega arith)
  came_low (y ∷ ys) zero k h l = absurd (omega arith)
  came_low (y ∷ ys) (suc g) zero h l = refl
  came_low (y ∷ ys) (suc g) (suc k) h l = came_low ys g k (omega arith) (omega arith)

  pub came_here : (xs : List ℕ) (g : ℕ) → g ≤ length xs → slice_get (splice xs g g (x ∷ [])) g ≡ Some x
  came_here [] zero h = refl
  came_here [] (suc g) h = absurd (omega arith)
  came_here (y ∷ ys) zero h = refl
  came_here (y ∷ ys) (suc g) h = came_here ys g (omega arith)

  pub came_high : (xs : List ℕ) (g k : ℕ) → g ≤ length xs → g ≤ k → slice_get (splice xs g g (x ∷ [])) (suc k) ≡ slice_get xs k
  came_high [] zero k h l = refl
  came_high [] (suc g) k h l = absurd (omega arith)
  came_high (y ∷ ys) zero k h l = refl
  came_high (y ∷ ys) (suc g) zero h l = absurd (omega arith)
  came_high (y ∷ ys) (suc g) (suc k) h l = came_high ys g k (omega arith) (omega arith)

  pub length_came : (xs : List ℕ) (g : ℕ) → g ≤ length xs → length (splice xs g g (x ∷ [])) ≡ length xs + 1
  length_came [] zero h = refl
  length_came [] (suc g) h = absurd (omega arith)
  length_came (y ∷ ys) zero h = omega arith
  length_came (y ∷ ys) (suc g) h = omega (arith, length_came ys g (omega arith))

pub went_low : (xs : List ℕ) (g k : ℕ) → g < length xs → k < g → slice_get (splice xs g (suc g) []) k ≡ slice_get xs k
went_low [] g k h l = absurd (omega arith)
went_low (y ∷ ys) zero k h l = absurd (omega arith)
went_low (y ∷ ys) (suc g) zero h l = refl
went_low (y ∷ ys) (suc g) (suc k) h l = went_low ys g k (omega arith) (omega arith)

pub went_high : (xs : List ℕ) (g k : ℕ) → g < length xs → g ≤ k → slice_get (splice xs g (suc g) []) k ≡ slice_get xs (suc k)
went_high [] g k h l = absurd (omega arith)
went_high (y ∷ ys) zero k h l = refl
went_high (y ∷ ys) (suc g) zero h l = absurd (omega arith)
went_high (y ∷ ys) (suc g) (suc k) h l = went_high ys g k (omega arith) (omega arith)

pub length_went : (xs : List ℕ) (g : ℕ) → g < length xs → length (splice xs g (suc g) []) + 1 ≡ length xs
length_went [] g h = absurd (omega arith)
length_went (y ∷ ys) zero h = omega arith
length_went (y ∷ ys) (suc g) h = omega (arith, length_went ys g (omega arith))

-- what stands before a gap, from what stands at the places
pub before_same : (xs ys : List ℕ) (k : ℕ) → ((m : ℕ) → m < k → slice_get xs m ≡ slice_get ys m) → before xs k ≡ before ys k
before_same xs ys zero h = refl
before_same xs ys (suc k) h = h k (omega arith)

module _ (ns : List Node) (tree : IsTree ns) where
  -- what stands in a row has the container as its parent
  pub at_named : (c k m : ℕ) → slice_get (children_at ns c) k ≡ Some m → parent_at ns m ≡ Some c
  at_named c k m e =
      ap (parent_at ns) (sym (get_or_from_slice_get (children_at ns c) k m 0 e)) ∙ tree.named c k (slice_get_within (children_at ns c) k m e)

  pub at_there : (c k m : ℕ) → slice_get (children_at ns c) k ≡ Some m → m < length ns
  at_there c k m e = omega (arith, tree.in_tree c k (slice_get_within (children_at ns c) k m e), get_or_from_slice_get (children_at ns c) k m 0 e)

  pub at_placed : (c k m : ℕ) → slice_get (children_at ns c) k ≡ Some m → place_at ns m ≡ k
  at_placed c k m e =
      ap (place_at ns) (sym (get_or_from_slice_get (children_at ns c) k m 0 e)) ∙ tree.placed c k (slice_get_within (children_at ns c) k m e)

  -- no two places of a row are alike
  pub at_once : (c k g : ℕ) → k ≤ length (children_at ns c) → g ≤ length (children_at ns c) → slice_get (children_at ns c) k ≡ slice_get (children_at ns c) g → k ≡ g
  at_once c k g hk hg e =
      elim (cases_lt k (length (children_at ns c))) [
        | inl l ↦
            let is = slice_get-get_or (children_at ns c) k 0 l in
            omega (arith, at_placed c k (slice_index (children_at ns c) k) is, at_placed c g (slice_index (children_at ns c) k) (sym e ∙ is))
        | inr past ↦ elim (cases_lt g (length (children_at ns c))) [
          | inl l ↦
              let wrong : None ≡ Some (slice_index (children_at ns c) g) = sym (slice_get_past (children_at ns c) k past) ∙ e ∙ slice_get-get_or (children_at ns c) g 0 l in
              cc
          | inr also ↦ omega arith
        ]
      ]

  pub before_named : (c k m : ℕ) → before (children_at ns c) k ≡ Some m → parent_at ns m ≡ Some c
  before_named c zero m e = let wrong : None ≡ Some m = e in cc
  before_named c (suc k) m e = at_named c k m e

  pub before_once : (c k g : ℕ) → k ≤ length (children_at ns c) → g ≤ length (children_at ns c) → before (children_at ns c) k ≡ before (children_at ns c) g → k ≡ g
  before_once c zero zero hk hg e = refl
  before_once c zero (suc g) hk hg e =
      let wrong : None ≡ Some (slice_index (children_at ns c) g) = e ∙ slice_get-get_or (children_at ns c) g 0 (omega arith) in cc
  before_once c (suc k) zero hk hg e =
      let wrong : None ≡ Some (slice_index (children_at ns c) k) = sym e ∙ slice_get-get_or (children_at ns c) k 0 (omega arith) in cc
  before_once c (suc k) (suc g) hk hg e = ap suc (at_once c k g (omega arith) (omega arith) e)

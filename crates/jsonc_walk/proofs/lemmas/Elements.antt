-- The elements of an array so far, and what is still to come.
use Rattle.std.proofs.Common.{ℕ, Bool, true, false, suc, max, ◌≡◌, ◌∙◌, sym, ap, subst, refl, arith, List, [], ◌∷◌, ◌++◌}
use Rattle.jsonc_text.specs.Options.{Options}
use Rattle.jsonc_text.specs.Gaps.{Gap}
use Rattle.jsonc_text.specs.Grammar.{Separates, Closes}
use Rattle.jsonc_text.specs.Plain.{array, around, depth, items_around, items_depth}
use Rattle.jsonc_walk.specs.Located.{Located, LocatedItems, no_items_at, item_at, range_at, value_at, items_at, Between, IsLocated, AreItems, AreFurtherItems, items_of}
use Rattle.jsonc_walk.specs.Reached.{size}

-- the elements so far, before those that follow
abbrev pub prepend : List Located → LocatedItems → LocatedItems
prepend [] ys = ys
prepend (x ∷ xs) ys = item_at x (prepend xs ys)

prepend_push : (xs : List Located) (x : Located) (ys : LocatedItems) → prepend (xs ++ x ∷ []) ys ≡ prepend xs (item_at x ys)
prepend_push [] x ys = refl
prepend_push (z ∷ xs) x ys = ap (item_at z) (prepend_push xs x ys)

prepend_none : (xs : List Located) → prepend xs no_items_at ≡ items_of xs
prepend_none [] = refl
prepend_none (x ∷ xs) = ap (item_at x) (prepend_none xs)

push_around : (xs : List Located) (x : Located) → items_around (items_at (items_of (xs ++ x ∷ []))) ≡ max (items_around (items_at (items_of xs))) (suc (around (value_at x)))
push_around [] x = omega arith
push_around (z ∷ xs) x = omega (arith, push_around xs x)

push_depth : (xs : List Located) (x : Located) → items_depth (items_at (items_of (xs ++ x ∷ []))) ≡ max (items_depth (items_at (items_of xs))) (depth (value_at x))
push_depth [] x = omega arith
push_depth (z ∷ xs) x = omega (arith, push_depth xs x)

-- what counts of one element more
pub push_size : (whole : Bool) (xs : List Located) (x : Located) → size whole (array (items_at (items_of (xs ++ x ∷ [])))) ≡ max (size whole (array (items_at (items_of xs)))) (suc (size whole (value_at x)))
push_size true xs x = push_around xs x
push_size false xs x = let most = push_depth xs x in omega (arith, most)

module _ (o : Options) (bytes : List ℕ) (i : ℕ) where
  -- an element from the place on, and what follows it, make the whole
  abbrev pub Open : List Located → ℕ → Type 0
  Open xs at = (x : Located) (ys : LocatedItems) (j : ℕ) → (range_at x).start ≡ at → IsLocated o bytes x → AreFurtherItems o bytes (range_at x).end ys j → AreItems o bytes i (prepend xs (item_at x ys)) j

  -- the elements are the whole, up to the place
  abbrev pub Whole : List Located → ℕ → Type 0
  Whole xs j = AreItems o bytes i (items_of xs) j

pub first_open : (o : Options) (bytes : List ℕ) (i at : ℕ) → Between bytes (Gap o) i at → Open o bytes i [] at
first_open o bytes i at gap x ys j e value more = (subst (λ k. Between bytes (Gap o) i k) (sym e) gap, value, more)

module _ (o : Options) (bytes : List ℕ) (i at k : ℕ) (xs : List Located) (x : Located) (held : Open o bytes i xs at) (starts : (range_at x).start ≡ at) (value : IsLocated o bytes x) (ends : (range_at x).end ≡ k) where
  pub next_open : (next : ℕ) → Between bytes (Separates o) k next → Open o bytes i (xs ++ x ∷ []) next
  next_open next parts y ys j e further more =
      let here = subst (λ a. Between bytes (Separates o) a (range_at y).start) (sym ends) (subst (λ b. Between bytes (Separates o) k b) (sym e) parts) in
      subst (λ zs. AreItems o bytes i zs j) (sym (prepend_push xs x (item_at y ys))) (held x (item_at y ys) j starts value (here, further, more))

  pub next_whole : (j : ℕ) → Between bytes (Closes o 0x5D) k j → Whole o bytes i (xs ++ x ∷ []) j
  next_whole j closes =
      let here = subst (λ a. Between bytes (Closes o 0x5D) a j) (sym ends) closes in
      subst (λ zs. AreItems o bytes i zs j) (sym (prepend_push xs x no_items_at) ∙ prepend_none (xs ++ x ∷ [])) (held x no_items_at j starts value here)

-- Lists: what all of a front or of a rest have, what a test keeps and finds; two truths at once.
use Rattle.std.proofs.Common.{◌≡◌, ◌∙◌, sym, ap, refl, ℕ, ◌<◌, true, false, List, [], ◌∷◌, ◌++◌, length, ◌-◌, ◌≤◌, ◌||◌, Bool, IsTrue, not, cond, filter, slice_index, arith, ◌&&◌, map, reverse}
use Rattle.std.proofs.lemmas.Bool.{false≢true}
use Rattle.std.proofs.lemmas.List.Elements.{All-cons, All-head, All-nil, All-tail}
use Rattle.std.proofs.lemmas.List.{get_or-reverse}
use Rattle.std.specs.List.{All, suffix_len}
use Rattle.std.proofs.lemmas.List.Sums.{prefix_len_passes, suffix_len-le-length}
use Rattle.jsonc_tree.specs.Content.{Content}

-- all of the front of a list, and of its rest
pub all_front : (P : ℕ → Type 0) (xs ys : List ℕ) → All P (xs ++ ys) → All P xs
all_front P [] ys all = All-nil P
all_front P (x ∷ xs) ys all = All-cons P x xs (All-head P x (xs ++ ys) all) (all_front P xs ys (All-tail P x (xs ++ ys) all))

pub all_rest : (P : ℕ → Type 0) (xs ys : List ℕ) → All P (xs ++ ys) → All P ys
all_rest P [] ys all = all
all_rest P (x ∷ xs) ys all = all_rest P xs ys (All-tail P x (xs ++ ys) all)

-- tests that agree keep the same of a list
pub filter_same : (f g : ℕ → Bool) → ((k : ℕ) → f k ≡ g k) → (xs : List ℕ) → filter f xs ≡ filter g xs
filter_same f g same [] = refl
filter_same f g same (x ∷ xs) = ap (λ b. cond b (x ∷ filter f xs) (filter f xs)) (same x) ∙ ap (λ l. cond (g x) (x ∷ l) l) (filter_same f g same xs)

pub contents_same : (f g : ℕ → Content) → ((k : ℕ) → f k ≡ g k) → (xs : List ℕ) → map f xs ≡ map g xs
contents_same f g same [] = refl
contents_same f g same (x ∷ xs) = ap (λ c. c ∷ map f xs) (same x) ∙ ap (λ l. g x ∷ l) (contents_same f g same xs)

pub suffix_passes : (p : ℕ → Bool) (row : List ℕ) (i : ℕ) → length row - suffix_len p row ≤ i → i < length row → p (slice_index row i) ≡ true
suffix_passes p row i low high =
    let place : length row - 1 - (length row - 1 - i) ≡ i = omega (arith, high) in
    let found = get_or-reverse row (length row - 1 - i) 0 (omega (arith, high)) ∙ ap (slice_index row) place in
    ap p (sym found) ∙ prefix_len_passes p (reverse row) (length row - 1 - i) 0 (omega (arith, low, high, suffix_len-le-length p row))

pub no_length : (xs : List ℕ) → length xs ≡ 0 → xs ≡ []
no_length [] e = refl
no_length (n ∷ xs) e = absurd (omega (arith, e))

-- two truths, and two that are none
pub both_true : (a b : Bool) → a && b ≡ true → (a ≡ true) × (b ≡ true)
both_true true b e = (refl, e)
both_true false b e = let wrong : false ≡ true = e in cc

pub either_off : (a b : Bool) → (a || b) ≡ false → (a ≡ false) × (b ≡ false)
either_off true b e = absurd (false≢true (sym e))
either_off false b e = (refl, e)

pub not_false : (b : Bool) → not b ≡ false → b ≡ true
not_false true e = refl
not_false false e = cc

pub both_so : (a b : Bool) → IsTrue a → IsTrue b → IsTrue (a && b)
both_so true b h k = k
both_so false b h k = absurd (let wrong : false ≡ true = h in cc)

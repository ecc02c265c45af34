-- The children of a sorted container: each that is no whitespace, end of a line or comma is one still, and once.
use Rattle.std.proofs.Common.{◌≡◌, ◌≢◌, ℕ, zero, suc, ◌+◌, ◌-◌, ◌<◌, ◌≤◌, Bool, cond, true, false, not, ◌&&◌, inl, inr, List, [], ◌∷◌, ◌++◌, length, take, drop, slice_index, Some, IsTrue, refl, sym, ap, subst, ◌∙◌, arith}
use Rattle.std.specs.Prelude.{IsPermutation}
use Rattle.std.specs.List.{range_with_len}
use Rattle.std.proofs.lemmas.Bool.{cases_Bool, cases_eq}
use Rattle.std.proofs.lemmas.List.{take-append-drop}
use Rattle.jsonc_tree.specs.Content as content
use Rattle.jsonc_tree.specs.Content.{Content}
use Rattle.jsonc_tree.specs.OrderedTree.{OrderedTree, Top, none, more}
use Rattle.jsonc_tree.specs.Tree.{Node, children_at, content_at, parent_at, place_at, IsTree}
use Rattle.jsonc_tree.proofs.Order.{parent_there}
use Rattle.jsonc_layout.specs.lines.Breadth.{newline_kind_at}
use Rattle.jsonc_edit.specs.remove.Removed.{has_brackets}
use Rattle.jsonc_edit.specs.multiline.Lines.{between}
use Rattle.jsonc_edit.specs.multiline.Multiline.{TakesRow}
use Rattle.jsonc_edit.proofs.lemmas.multiline.WholeRow.{two_there}
use Rattle.jsonc_sort.specs.Laws.{is_filling, IsOrderOf}
use Rattle.jsonc_sort.specs.Plans.{times}
use Rattle.jsonc_sort.specs.Rearranged.{moves, row_sorted, IsOrderIn, KeepsChildren, Rearranged, SortsChildren}
use Rattle.jsonc_sort.specs.Slots.{Slot, comes, stays, top_in}
use Rattle.jsonc_sort.specs.Sorting.{Headers, is_unchanged}
use Rattle.jsonc_sort.proofs.ChildrenOnce as once
use Rattle.jsonc_sort.proofs.SortedRow.{elements_between, filled_times, is_it, it_here, it_other, own_times}
use Rattle.jsonc_sort.proofs.Times.{each_once, found, times_here, times_other}
use Rattle.jsonc_sort.proofs.Sums.{added}
use Rattle.jsonc_sort.proofs.Weights.{sorted_whole}

times_joined : (n : ℕ) (xs ys : List ℕ) → times n (xs ++ ys) ≡ times n xs + times n ys
times_joined n [] ys = omega arith
times_joined n (x ∷ xs) ys =
    elim (cases_eq n x) [
      | inl e ↦ omega (arith, times_joined n xs ys, times_here n x (xs ++ ys) e, times_here n x xs e)
      | inr e ↦ omega (arith, times_joined n xs ys, times_other n x (xs ++ ys) e, times_other n x xs e)
    ]

times_parted : (n k : ℕ) (xs : List ℕ) → times n (take k xs) + times n (drop k xs) ≡ times n xs
times_parted n k xs = sym (times_joined n (take k xs) (drop k xs)) ∙ ap (times n) (take-append-drop k xs)

-- a number that is in a list has a place there
placed : (n : ℕ) (row : List ℕ) → 1 ≤ times n row → (k : ℕ) × (k < length row) × (slice_index row k ≡ n)
placed n [] h = absurd (omega arith)
placed n (x ∷ row) h =
    elim (cases_eq n x) [
      | inl e ↦ (0, omega arith, sym e)
      | inr e ↦ let (k, low, is) = placed n row (omega (arith, h, times_other n x row e)) in (suc k, omega (arith, low), is)
    ]

-- Each node of the row is told from the others by how much is below it, one more than its number.
abbrev deep : ℕ → OrderedTree
deep zero = none
deep (suc n) = more content.null none (deep n)

abbrev depth : OrderedTree → ℕ
depth none = 0
depth (more c below rest) = suc (depth rest)

depth_deep : (n : ℕ) → depth (deep n) ≡ n
depth_deep zero = refl
depth_deep (suc n) = ap suc (depth_deep n)

module _ (at : ℕ → Content) (n : ℕ) (solid : is_filling (at n) ≡ false) where
  abbrev told : ℕ → Top
  told m = record { content = at m; below = deep (suc m) }

  abbrev counts : Top → ℕ
  counts t = cond (is_filling t.content) 0 (is_it (suc n) (depth t.below))

  free : (t : Top) → IsTrue (is_filling t.content) → counts t ≡ 0
  free t h = ap (λ b. cond b 0 (is_it (suc n) (depth t.below))) h

  own_counts : (m : ℕ) → counts (told m) ≡ is_it n m
  own_counts m =
      elim (cases_eq n m) [
        | inl e ↦ ap (λ b. cond b 0 (is_it (suc n) (depth (deep (suc m))))) (ap (λ k. is_filling (at k)) (sym e) ∙ solid) ∙ it_here (suc n) (depth (deep (suc m))) (ap suc e ∙ sym (depth_deep (suc m))) ∙ sym (it_here n m e)
        | inr e ↦ none_counted m e (is_filling (at m)) ∙ sym (it_other n m e)
      ]
    where
      none_counted : (m : ℕ) → n ≢ m → (b : Bool) → cond b 0 (is_it (suc n) (depth (deep (suc m)))) ≡ 0
      none_counted m e true = refl
      none_counted m e false = it_other (suc n) (depth (deep (suc m))) (λ f. e (let same : suc n ≡ suc m = f ∙ depth_deep (suc m) in omega (arith, same)))

  slot_counts : (slot : Slot) → counts (top_in told slot) ≡ once.weight at (is_it n) slot
  slot_counts (stays m) = own_counts m
  slot_counts (comes c) = by (is_filling c)
    where
      by : (b : Bool) → cond b 0 (is_it (suc n) 0) ≡ 0
      by true = refl
      by false = it_other (suc n) 0 (λ e. omega (arith, e))

  slots_count : (slots : List Slot) → added (λ slot. counts (top_in told slot)) slots ≡ once.total at (is_it n) slots
  slots_count [] = refl
  slots_count (slot ∷ slots) = omega (arith, slot_counts slot, slots_count slots)

  row_counts : (row : List ℕ) → added (λ m. counts (told m)) row ≡ once.own at (is_it n) row
  row_counts [] = refl
  row_counts (m ∷ row) = omega (arith, own_counts m, row_counts row)

module _ (old new : List Node) (tree : IsTree old) (after : IsTree new) (c : ℕ) (h : Headers) (order : List ℕ) (all : IsOrderIn old c order) where
  abbrev kids : List ℕ
  kids = children_at old c

  -- it is a child as often as it was
  as_often : (n : ℕ) → n < length old → c < length old → is_filling (content_at old n) ≡ false → IsTrue (has_brackets old c) → TakesRow old new c (row_sorted old c h order)
      → times n (children_at new c) ≡ times n kids
  as_often n low there solid brackets t =
      let at : ℕ → Content = content_at old in
      let inner : List ℕ = between kids in
      let last : ℕ = length kids - 1 in
      let perm : IsOrderOf (told at n solid) inner order = subst (λ k. IsPermutation (range_with_len 0 k) order) (ap length (elements_between old c brackets)) all in
      let filled : times n t.row ≡ once.total at (is_it n) (row_sorted old c h order) = filled_times old t.ready at n low (row_sorted old c h order) t.row t.filled in
      let whole : times n t.row ≡ times n inner =
      filled ∙ sym (slots_count at n solid (row_sorted old c h order)) ∙ sorted_whole (told at n solid) (counts at n solid) (free at n solid) (newline_kind_at old c) h inner order perm
      ∙ row_counts at n solid inner ∙ own_times at n inner in
      let row : children_at new c ≡ take 1 kids ++ (t.row ++ drop last kids) = t.put.children ∙ ap (λ l. take 1 l ++ (t.row ++ drop last l)) (t.prepared.keeps.children c there) in
      let one_more : suc (last - 1) ≡ last = omega (arith, two_there old c brackets) in
      let rest : drop (last - 1) (drop 1 kids) ≡ drop last kids = drop_rest (last - 1) kids ∙ ap (λ k. drop k kids) one_more in
      ap (times n) row
      ∙ omega (arith, times_joined n (take 1 kids) (t.row ++ drop last kids), times_joined n t.row (drop last kids), whole, ap (times n) rest, times_parted n (last - 1) (drop 1 kids), times_parted n 1 kids)
    where
      drop_rest : (k : ℕ) (xs : List ℕ) → drop k (drop 1 xs) ≡ drop (suc k) xs
      drop_rest zero [] = refl
      drop_rest (suc k) [] = refl
      drop_rest k (x ∷ xs) = refl

  -- it was once, and so it is
  once_there : (n : ℕ) → parent_at old n ≡ Some c → times n kids ≡ 1
  once_there n said =
      let some : 1 ≤ times (slice_index kids (place_at old n)) kids = found kids (place_at old n) (tree.within n c said) in
      omega (arith, subst (λ k. 1 ≤ times k kids) (tree.found n c said) some, each_once kids kids_once n)
    where
      kids_once : (a b : ℕ) → a < length kids → b < length kids → slice_index kids a ≡ slice_index kids b → a ≡ b
      kids_once a b la lb e = sym (tree.placed c a la) ∙ ap (place_at old) e ∙ tree.placed c b lb

  child_of : (n : ℕ) → times n (children_at new c) ≡ 1 → parent_at new n ≡ Some c
  child_of n e = let (k, low, is) = placed n (children_at new c) (omega (arith, e)) in ap (parent_at new) (sym is) ∙ after.named c k low

  same_children : new ≡ old → KeepsChildren old new c
  same_children e = record {
    own = λ n said solid. (ap (λ ns. parent_at ns n) e ∙ said, ap (λ ns. times n (children_at ns c)) e ∙ once_there n said);
    others = λ k low other. ap (λ ns. children_at ns k) e;
    contents = λ k low. ap (λ ns. content_at ns k) e;
  }

  row_children : IsTrue (has_brackets old c) → TakesRow old new c (row_sorted old c h order) → KeepsChildren old new c
  row_children brackets t = record {
    own = λ n said solid.
        let low = parent_there old tree n c said in
        let once : times n (children_at new c) ≡ 1 = as_often n low.0 low.1 solid brackets t ∙ once_there n said in
        (child_of n once, once);
    others = λ k low other. t.put.others k other ∙ t.prepared.keeps.children k low;
    contents = λ k low. t.put.content k ∙ t.prepared.keeps.content k low;
  }

  kept_children : Rearranged old new c h order → KeepsChildren old new c
  kept_children made = elim (cases_Bool (moves old c order)) [
    | inl e ↦ row_children (first_and (has_brackets old c) (not (is_unchanged order)) e) (made.is e)
    | inr e ↦ same_children (made.was e)
  ]
    where
      first_and : (a b : Bool) → (a && b) ≡ true → a ≡ true
      first_and true b f = refl
      first_and false b f = cc

pub sorts_children : (old new : List Node) (c : ℕ) (h : Headers) (order : List ℕ) → SortsChildren old new c h order
sorts_children old new c h order tree after all made = kept_children old new tree after c h order all made

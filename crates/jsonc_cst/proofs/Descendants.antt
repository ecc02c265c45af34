-- The nodes below a node, in the order of the document.
use Rattle.std.proofs.Common.{◌≡◌, ◌∙◌, ap, ℕ, zero, suc, ◌<◌, List, [], ◌∷◌, ◌++◌, length, slice_index, Some}
use Rattle.std.specs.List.{All, flat_map}
use Rattle.std.proofs.lemmas.List.{append-nil}
use Rattle.std.proofs.lemmas.List.Elements.{All-append, All-cons, All-from_get_or, All-head, All-nil, All-tail, All-weaker}
use Rattle.jsonc_tree.specs.Tree.{Node, children_at, IsOver, IsTree, above, itself}
use Rattle.jsonc_tree.specs.Order.{below, in_order, rest_at}
use Rattle.jsonc_tree.proofs.Order.{following_end}
use Rattle.jsonc_cst.specs.Nodes.{IsNodeOf}
use Rattle.jsonc_cst.specs.Readings.{typed_all}
use Rattle.jsonc_cst.proofs.Readings.{typed_all_held}

-- the node is there, and the first one is it or is above it
abbrev pub IsUnder : List Node → ℕ → ℕ → Type 0
IsUnder ns top n = (n < length ns) × IsOver ns top n

pub all_flat : (P : ℕ → Type 0) (f : ℕ → List ℕ) (xs : List ℕ) → All (λ x. All P (f x)) xs → All P (flat_map f xs)
all_flat P f [] h = All-nil P
all_flat P f (x ∷ xs) h = All-append P (f x) (flat_map f xs) (All-head (λ y. All P (f y)) x xs h) (all_flat P f xs (All-tail (λ y. All P (f y)) x xs h))

module _ (ns : List Node) (tree : IsTree ns) where
  -- a walk that begins at a node has all below it ahead
  pub rest_at_top : (n : ℕ) → n < length ns → rest_at ns n (Some n) ≡ in_order ns n
  rest_at_top n h = ap (λ l. in_order ns n ++ l) (following_end ns tree n h) ∙ append-nil (in_order ns n)

  pub below_under : (depth top n : ℕ) → IsUnder ns top n → All (IsUnder ns top) (below depth ns n)
  below_under zero top n h = All-nil (IsUnder ns top)
  below_under (suc depth) top n h =
      let children : All (λ c. All (IsUnder ns top) (below depth ns c)) (children_at ns n) =
      All-from_get_or (λ c. All (IsUnder ns top) (below depth ns c)) (children_at ns n) 0 (λ i l. below_under depth top (slice_index (children_at ns n) i) (tree.in_tree n i l, above (tree.named n i l) h.1)) in
      All-cons (IsUnder ns top) n (flat_map (below depth ns) (children_at ns n)) h (all_flat (IsUnder ns top) (below depth ns) (children_at ns n) children)

  -- what is in the order of a node is below it, or is it
  pub order_under : (n : ℕ) → n < length ns → All (IsUnder ns n) (in_order ns n)
  unfolding in_order
  order_under n h = below_under (length ns) n n (h, itself)

  pub descendants_held : (n : ℕ) → n < length ns → All (IsNodeOf ns) (typed_all ns (in_order ns n))
  descendants_held n h = typed_all_held ns (in_order ns n) (All-weaker (IsUnder ns n) (λ m. m < length ns) (λ m u. u.0) (in_order ns n) (order_under n h))

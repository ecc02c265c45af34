-- The nodes below a node with their ranges, counted along the walk.
use Rattle.std.proofs.Common.{◌≡◌, ◌≢◌, ◌∙◌, refl, sym, ap, subst, arith, ℕ, ◌+◌, ◌<◌, ◌≤◌, ◌^◌, List, [], ◌∷◌, ◌++◌, length, drop, get_or, map, Option, Some, None, Bool, true, false, cond, nat_lt, IfSome, IfNone, inl, inr, ◌⊎◌, option_map}
use Rattle.std.specs.List.{All, flat_map}
use Rattle.std.proofs.lemmas.Bool.{cases_lt, ltb-false, ne_eqb}
use Rattle.std.proofs.lemmas.Grind.{flat_map-append}
use Rattle.std.proofs.lemmas.List.{append_assoc, length-append}
use Rattle.std.proofs.lemmas.List.Elements.{All-cons, All-head, All-nil, All-tail}
use Rattle.jsonc_text.specs.declared.common.Range.{Range}
use Rattle.jsonc_tree.specs.Tree.{Node, children_at, content_at, parent_at, place_at, IsOver, IsTree, above, itself}
use Rattle.jsonc_tree.specs.Order.{following, in_order, printed_at, rest_at, text_at, with_parent}
use Rattle.jsonc_tree.specs.OrderedTree.{ordered_tree, printed}
use Rattle.jsonc_tree.proofs.Order.{following_end, following_is, following_next, following_up, not_over_parent, parent_there, rest_down, rest_over}
use Rattle.jsonc_tree.proofs.OrderedTrees.{printed_at-ordered_tree}
use Rattle.jsonc_cst.specs.declared.cst.node.CstNode.{CstNode}
use Rattle.jsonc_cst.specs.Nodes.{number_of, typed_at}
use Rattle.jsonc_cst.specs.Ranges.{place_past, range_from, with_ranges, with_starts, IsBefore, IsRangeOf, IsStartOf}
use Rattle.jsonc_cst.specs.Readings.{typed_all}
use Rattle.jsonc_cst.proofs.Descendants.{IsUnder}
use Rattle.jsonc_cst.proofs.Family.{number_of-typed}
use Rattle.jsonc_cst.proofs.RangeWalk.{goes_on, no_more, stands_at, whole_size, HasCounted}

-- the nodes of such a list are those of its numbers
pub nodes_of_ranged : (ns : List Node) (at : Option ℕ) (row : List ℕ) → map (λ x. x.0) (with_ranges ns at row) ≡ typed_all ns row
nodes_of_ranged ns at [] = refl
nodes_of_ranged ns at (n ∷ row) = ap (λ l. typed_at ns n ∷ l) (nodes_of_ranged ns (place_past at (length (text_at ns n))) row)

pub nodes_of_placed : (ns : List Node) (at : Option ℕ) (row : List ℕ) → map (λ x. x.0) (with_starts ns at row) ≡ typed_all ns row
nodes_of_placed ns at [] = refl
nodes_of_placed ns at (n ∷ row) = ap (λ l. typed_at ns n ∷ l) (nodes_of_placed ns (place_past at (length (text_at ns n))) row)

-- what holds of the first parts of pairs
pub all_firsts : {B : Type 0} (P : CstNode → Type 0) (xs : List (CstNode × B)) → All P (map (λ x. x.0) xs) → All (λ x. P x.0) xs
all_firsts P [] h = All-nil (λ x. P x.0)
all_firsts P (x ∷ xs) h = All-cons (λ y. P y.0) x xs (All-head P x.0 (map (λ y. y.0) xs) h) (all_firsts P xs (All-tail P x.0 (map (λ y. y.0) xs) h))

module _ (ns : List Node) where
  over_trans : (a b n : ℕ) → IsOver ns a b → IsOver ns b n → IsOver ns a n
  over_trans a b _ up itself = up
  over_trans a b n up (above said rest) = above said (over_trans a b _ up rest)

  -- of two nodes above one, the one is above the other
  pub over_either : (a b n : ℕ) → IsOver ns a n → IsOver ns b n → IsOver ns a b ⊎ IsOver ns b a
  over_either a b _ itself up = inr up
  over_either a b n (above said rest) itself = inl (above said rest)
  over_either a b n (above {c = c} said rest) (above {c = d} told up) =
      let both : Some d ≡ Some c = sym told ∙ said in
      let same : d ≡ c = cc in
      over_either a b c rest (subst (IsOver ns b) same up)

module _ (ns : List Node) (tree : IsTree ns) where
  over_root : (n : ℕ) → IsOver ns n 0 → IsOver ns 0 n
  over_root _ itself = itself
  over_root n (above {c = c} said rest) = let wrong : None ≡ Some c = sym tree.root_alone ∙ said in cc

  -- where a node is in the document, so is each above it
  above_stands : (end n : ℕ) → IsOver ns end n → IsOver ns 0 n → IsOver ns 0 end
  above_stands end n up over = elim (over_either ns 0 end n over up) [ inl it ↦ it | inr root ↦ over_root end root ]

  -- after a node below `end` the next one follows
  climb_by : (end n c : ℕ) (said : parent_at ns n ≡ Some c) (over : IsOver ns end c) → n ≢ end → (place_at ns n + 1 < length (children_at ns c)) ⊎ (length (children_at ns c) ≤ place_at ns n + 1)
      → (o : Option ℕ) × (following ns end c ≡ rest_at ns end o) × IfSome o (IsUnder ns end) → (o : Option ℕ) × (following ns end n ≡ rest_at ns end o) × IfSome o (IsUnder ns end)
  climb_by end n c said over ne (inl more) up =
      (Some (get_or (children_at ns c) (place_at ns n + 1) 0), following_next ns tree end n c ne (above said over) said more, (tree.in_tree c (place_at ns n + 1) more, above (tree.named c (place_at ns n + 1) more) over))
  climb_by end n c said over ne (inr last) up = (up.0, following_up ns tree end n c ne said last ∙ up.1, up.2)

  climb : (end n : ℕ) → n < length ns → IsOver ns end n → (o : Option ℕ) × (following ns end n ≡ rest_at ns end o) × IfSome o (IsUnder ns end)
  climb end _ h itself = (None, following_end ns tree end h, tt)
  climb end n h (above {c = c} said over) =
      climb_by end n c said over (λ e. not_over_parent ns tree end c (subst (λ k. parent_at ns k ≡ Some c) e said) over) (cases_lt (place_at ns n + 1) (length (children_at ns c))) (climb end c (parent_there ns tree n c said).1 over)

  step_by : (end n : ℕ) → IsUnder ns end n → (0 < length (children_at ns n)) ⊎ (length (children_at ns n) ≤ 0) → (o : Option ℕ) × (rest_at ns end (Some n) ≡ n ∷ rest_at ns end o) × IfSome o (IsUnder ns end)
  step_by end n u (inl more) = (Some (get_or (children_at ns n) 0 0), rest_down ns tree end n u.0 u.1 more, (tree.in_tree n 0 more, above (tree.named n 0 more) u.1))
  step_by end n u (inr none) = let up = climb end n u.0 u.1 in (up.0, rest_over ns tree end n up.0 u.0 (omega (arith, none)) up.1, up.2)

  step : (end n : ℕ) → IsUnder ns end n → (o : Option ℕ) × (rest_at ns end (Some n) ≡ n ∷ rest_at ns end o) × IfSome o (IsUnder ns end)
  step end n u = step_by end n u (cases_lt 0 (length (children_at ns n)))

  pub inner : (end n c : ℕ) → n ≢ end → parent_at ns n ≡ Some c → following ns end n ≡ flat_map (in_order ns) (drop (place_at ns n + 1) (children_at ns c)) ++ following ns end c
  inner end n c ne said =
      following_is ns tree end n (parent_there ns tree n c said).0
      ∙ ap (λ b. cond b [] (with_parent (parent_at ns n) (λ q. flat_map (in_order ns) (drop (place_at ns n + 1) (children_at ns q)) ++ following ns end q))) (ne_eqb n end ne)
      ∙ ap (λ o. with_parent o (λ q. flat_map (in_order ns) (drop (place_at ns n + 1) (children_at ns q)) ++ following ns end q)) said

  -- what follows a node in the document is what follows it below `end`, and then what follows `end`
  following_on : (end n : ℕ) → end < length ns → IsOver ns end n → following ns 0 n ≡ following ns end n ++ following ns 0 end
  following_on end _ h itself = ap (λ l. l ++ following ns 0 end) (sym (following_end ns tree end h))
  following_on end n h (above {c = c} said over) =
      let row : List ℕ = flat_map (in_order ns) (drop (place_at ns n + 1) (children_at ns c)) in
      let no_root : n ≢ 0 = λ e. (let wrong : None ≡ Some c = sym tree.root_alone ∙ sym (ap (parent_at ns) e) ∙ said in cc) in
      let no_end : n ≢ end = λ e. not_over_parent ns tree end c (subst (λ k. parent_at ns k ≡ Some c) e said) over in
      inner 0 n c no_root said ∙ ap (λ l. row ++ l) (following_on end c h over) ∙ sym (append_assoc row (following ns end c) (following ns 0 end)) ∙ ap (λ l. l ++ following ns 0 end) (sym (inner end n c no_end said))

  -- a step below `end` is one of the walk over the document
  step_in_document : (end n m : ℕ) → end < length ns → IsOver ns end n → IsOver ns end m → rest_at ns end (Some n) ≡ n ∷ rest_at ns end (Some m) → rest_at ns 0 (Some n) ≡ n ∷ rest_at ns 0 (Some m)
  step_in_document end n m h over on e =
      let rest : List ℕ = following ns 0 end in
      ap (λ l. in_order ns n ++ l) (following_on end n h over) ∙ sym (append_assoc (in_order ns n) (following ns end n) rest) ∙ ap (λ l. l ++ rest) e
      ∙ ap (λ l. n ∷ l) (append_assoc (in_order ns m) (following ns end m) rest ∙ ap (λ l. in_order ns m ++ l) (sym (following_on end m h on)))

  -- the document prints so many bytes before the node, or more than memory can count, or it does not have what is walked
  abbrev pub StandsAt : ℕ → Option ℕ → ℕ → Type 0
  StandsAt end None n = IsOver ns 0 end → 2 ^ 64 ≤ length (printed (ordered_tree ns 0))
  StandsAt end (Some s) n = IsOver ns 0 end × HasCounted ns 0 s (Some n)

  pub stands_first : (n : ℕ) (at : Option ℕ) → IfSome at (IsBefore ns n) → IfNone at (IsOver ns 0 n → 2 ^ 64 ≤ length (printed (ordered_tree ns 0))) → StandsAt n at n
  stands_first n None some none = none
  stands_first n (Some s) some none = (
    some.in_document,
    record {
      done = some.before;
      split = printed_at-ordered_tree ns tree 0 tree.first ∙ some.split ∙ ap (λ l. some.before ++ l) (sym (flat_map-append (text_at ns) (in_order ns n) (following ns 0 n)));
      size = sym some.starts;
    },
  )

  prints_within : (n s : ℕ) → IsBefore ns n s → s + length (printed_at ns n) ≤ length (printed (ordered_tree ns 0))
  prints_within n s x = let later : List ℕ = flat_map (text_at ns) (following ns 0 n) in omega (arith, ap length x.split, length-append x.before (printed_at ns n ++ later), length-append (printed_at ns n) later, x.starts)

  range_by : (n s : ℕ) (b : Bool) → b ≡ nat_lt (s + length (printed_at ns n)) (2 ^ 64) → IsBefore ns n s → IsRangeOf ns n (option_map (λ e. record { start = s; end = e }) (cond b (Some (s + length (printed_at ns n))) None))
  range_by n s true e x = record { range = x; none = tt }
  range_by n s false e x = record { range = tt; none = λ over. omega (arith, ltb-false (s + length (printed_at ns n)) (2 ^ 64) (sym e), prints_within n s x) }

  range_here : (end n : ℕ) (at : Option ℕ) → IsUnder ns end n → StandsAt end at n → IsRangeOf ns n (range_from at (length (printed_at ns n)))
  range_here end n None u h = record { range = tt; none = λ over. h (above_stands end n u.1 over) }
  range_here end n (Some s) u h = range_by n s (nat_lt (s + length (printed_at ns n)) (2 ^ 64)) refl (stands_at ns tree s n (Some n) h.1 refl (over_trans ns 0 end n h.0 u.1))

  past_by : (end n m s : ℕ) (b : Bool) → b ≡ nat_lt (s + length (text_at ns n)) (2 ^ 64) → end < length ns → IsUnder ns end n → IsOver ns end m → rest_at ns end (Some n) ≡ n ∷ rest_at ns end (Some m) → IsOver ns 0 end → HasCounted ns 0 s (Some n)
      → StandsAt end (cond b (Some (s + length (text_at ns n))) None) m
  past_by end n m s true e there u on rest over h = (over, goes_on ns tree 0 s n (Some n) (Some m) (content_at ns n) (length (text_at ns n)) h refl (step_in_document end n m there u.1 on rest) refl refl)
  past_by end n m s false e there u on rest over h = λ root.
      omega (arith, ltb-false (s + length (text_at ns n)) (2 ^ 64) (sym e), no_more ns tree 0 s n (Some n) (content_at ns n) (length (text_at ns n)) h refl u.0 refl refl, whole_size ns tree 0 tree.first)

  stands_next : (end n m : ℕ) (at : Option ℕ) → end < length ns → IsUnder ns end n → IsOver ns end m → rest_at ns end (Some n) ≡ n ∷ rest_at ns end (Some m) → StandsAt end at n → StandsAt end (place_past at (length (text_at ns n))) m
  stands_next end n m None there u on rest h = h
  stands_next end n m (Some s) there u on rest h = past_by end n m s (nat_lt (s + length (text_at ns n)) (2 ^ 64)) refl there u on rest h.0 h.1

  next_stands : (end n : ℕ) (at : Option ℕ) (o : Option ℕ) → end < length ns → IsUnder ns end n → IfSome o (IsUnder ns end) → rest_at ns end (Some n) ≡ n ∷ rest_at ns end o → StandsAt end at n → IfSome o (StandsAt end (place_past at (length (text_at ns n))))
  next_stands end n at None there u on rest h = tt
  next_stands end n at (Some m) there u on rest h = stands_next end n m at there u on.1 rest h

  abbrev HasRange : CstNode × Option Range → Type 0
  HasRange x = IsRangeOf ns (number_of x.0) x.1

  -- each has the range that is its own
  pub all_ranged : (end : ℕ) → end < length ns → (row : List ℕ) (o at : Option ℕ) → row ≡ rest_at ns end o → IfSome o (IsUnder ns end) → IfSome o (StandsAt end at) → All HasRange (with_ranges ns at row)
  all_ranged end there [] o at e u h = All-nil HasRange
  all_ranged end there (x ∷ row) None at e u h = let wrong : x ∷ row ≡ [] = e in cc
  all_ranged end there (x ∷ row) (Some n) at e u h =
      let on = step end n u in
      let both : x ∷ row ≡ n ∷ rest_at ns end on.0 = e ∙ on.1 in
      let same : n ≡ x = cc in
      let rest : row ≡ rest_at ns end on.0 = cc in
      let later = all_ranged end there row on.0 (place_past at (length (text_at ns n))) rest on.2 (next_stands end n at on.0 there u on.2 on.1 h) in
      let number : n ≡ number_of (typed_at ns n) = sym (number_of-typed (content_at ns n) n) in
      let here : HasRange (typed_at ns n, range_from at (length (printed_at ns n))) = subst (λ k. IsRangeOf ns k (range_from at (length (printed_at ns n)))) number (range_here end n at u h) in
      subst (λ k. All HasRange (with_ranges ns at (k ∷ row))) same (All-cons HasRange (typed_at ns n, range_from at (length (printed_at ns n))) (with_ranges ns (place_past at (length (text_at ns n))) row) here later)

  start_here : (end n : ℕ) (at : Option ℕ) → IsUnder ns end n → StandsAt end at n → IsStartOf ns n at
  start_here end n None u h = record { start = tt; none = λ over. h (above_stands end n u.1 over) }
  start_here end n (Some s) u h = record { start = stands_at ns tree s n (Some n) h.1 refl (over_trans ns 0 end n h.0 u.1); none = tt }

  abbrev HasStart : CstNode × Option ℕ → Type 0
  HasStart x = IsStartOf ns (number_of x.0) x.1

  -- each has the place where it begins
  pub all_placed : (end : ℕ) → end < length ns → (row : List ℕ) (o at : Option ℕ) → row ≡ rest_at ns end o → IfSome o (IsUnder ns end) → IfSome o (StandsAt end at) → All HasStart (with_starts ns at row)
  all_placed end there [] o at e u h = All-nil HasStart
  all_placed end there (x ∷ row) None at e u h = let wrong : x ∷ row ≡ [] = e in cc
  all_placed end there (x ∷ row) (Some n) at e u h =
      let on = step end n u in
      let both : x ∷ row ≡ n ∷ rest_at ns end on.0 = e ∙ on.1 in
      let same : n ≡ x = cc in
      let rest : row ≡ rest_at ns end on.0 = cc in
      let later = all_placed end there row on.0 (place_past at (length (text_at ns n))) rest on.2 (next_stands end n at on.0 there u on.2 on.1 h) in
      let number : n ≡ number_of (typed_at ns n) = sym (number_of-typed (content_at ns n) n) in
      let here : HasStart (typed_at ns n, at) = subst (λ k. IsStartOf ns k at) number (start_here end n at u h) in
      subst (λ k. All HasStart (with_starts ns at (k ∷ row))) same (All-cons HasStart (typed_at ns n, at) (with_starts ns (place_past at (length (text_at ns n))) row) here later)

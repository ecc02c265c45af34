-- A document prints no more than all of its nodes do.
use Rattle.std.proofs.Common.{ℕ, zero, suc, ◌≡◌, ◌≢◌, ◌<◌, ◌≤◌, ◌+◌, ◌==◌, ◌∙◌, ◌++◌, ◌⊎◌, inl, inr, refl, sym, ap, subst, arith, cond, eq-eqb, List, [], ◌∷◌, length, IfSome, Option, Some, None}
use Rattle.std.specs.List.{All, AllPairs, flat_map}
use Rattle.std.proofs.lemmas.Bool.{cases_eq, cases_lt, ne_eqb}
use Rattle.std.proofs.lemmas.List.{length-append}
use Rattle.std.proofs.lemmas.List.Elements.{All-head, All-tail, All-weaker}
use Rattle.jsonc_tree.specs.Content.{text_of}
use Rattle.jsonc_tree.specs.Order.{in_order, printed_at, text_at}
use Rattle.jsonc_tree.specs.OrderedTree.{ordered_tree, printed}
use Rattle.jsonc_tree.specs.Tree.{Node, IsTree}
use Rattle.jsonc_tree.proofs.OrderedTrees.{printed_at-ordered_tree}
use Rattle.jsonc_cst.proofs.Descendants.{order_under, IsUnder}
use Rattle.jsonc_cst.proofs.DescendantsBelow.{order_once}
use Rattle.jsonc_parser.specs.patch.Room.{bytes_of_all, bytes_of_first, HasRoom, KeepsContents}

-- f of each of the numbers, added up; and of all numbers below a bound
added : (ℕ → ℕ) → List ℕ → ℕ
added f [] = 0
added f (x ∷ xs) = f x + added f xs

added_below : (ℕ → ℕ) → ℕ → ℕ
added_below f zero = 0
added_below f (suc n) = added_below f n + f n

-- f, but 0 of one number
but_at : (ℕ → ℕ) → ℕ → ℕ → ℕ
but_at f x k = cond (k == x) 0 (f k)

other_kept : (f : ℕ → ℕ) (x k : ℕ) → k ≢ x → but_at f x k ≡ f k
unfolding but_at
other_kept f x k ne = ap (λ b. cond b 0 (f k)) (ne_eqb k x ne)

one_gone : (f : ℕ → ℕ) (x : ℕ) → but_at f x x ≡ 0
unfolding but_at
one_gone f x = ap (λ b. cond b 0 (f x)) (eq-eqb x x refl)

below_other : (f : ℕ → ℕ) (x n : ℕ) → n ≤ x → added_below (but_at f x) n ≡ added_below f n
unfolding added_below
below_other f x zero h = refl
below_other f x (suc n) h = omega (arith, below_other f x n (omega (arith, h)), other_kept f x n (λ e. omega (arith, e, h)))

below_one : (f : ℕ → ℕ) (x n : ℕ) → x < n → added_below f n ≡ f x + added_below (but_at f x) n
unfolding added_below
below_one f x zero h = absurd (omega (arith, h))
below_one f x (suc n) h = elim (cases_eq n x) [
  | inl same ↦ omega (arith, below_other f x n (omega (arith, same)), ap f same, ap (but_at f x) same, one_gone f x)
  | inr ne ↦ omega (arith, below_one f x n (omega (arith, h, ne)), other_kept f x n ne)
]

list_other : (f : ℕ → ℕ) (x : ℕ) (ys : List ℕ) → All (λ y. x ≢ y) ys → added (but_at f x) ys ≡ added f ys
unfolding added
list_other f x [] apart = refl
list_other f x (y ∷ ys) apart = omega (arith, other_kept f x y (λ e. All-head (λ k. x ≢ k) y ys apart (sym e)), list_other f x ys (All-tail (λ k. x ≢ k) y ys apart))

Once : List ℕ → Type 0
Once xs = AllPairs (λ x y. x ≢ y) xs

once_apart : (x : ℕ) (xs : List ℕ) → Once (x ∷ xs) → All (λ y. x ≢ y) xs
unfolding Once
once_apart x xs once k d h = once 0 (suc k) d (omega arith) (omega (arith, h))

once_rest : (x : ℕ) (xs : List ℕ) → Once (x ∷ xs) → Once xs
unfolding Once
once_rest x xs once i j d less h = once (suc i) (suc j) d (omega (arith, less)) (omega (arith, h))

-- numbers below a bound, each once, add up to no more than all
once_added : (xs : List ℕ) (f : ℕ → ℕ) (n : ℕ) → Once xs → All (λ x. x < n) xs → added f xs ≤ added_below f n
unfolding added
once_added [] f n once low = omega arith
once_added (x ∷ xs) f n once low =
    omega (arith, once_added xs (but_at f x) n (once_rest x xs once) (All-tail (λ k. k < n) x xs low), list_other f x xs (once_apart x xs once), below_one f x n (All-head (λ k. k < n) x xs low))

module _ (ns : List Node) where
  own : ℕ → ℕ
  own n = length (text_at ns n)

  texts_added : (xs : List ℕ) → length (flat_map (text_at ns) xs) ≡ added own xs
  unfolding added own
  texts_added [] = refl
  texts_added (x ∷ xs) = omega (arith, length-append (text_at ns x) (flat_map (text_at ns) xs), texts_added xs)

  first_added : (n : ℕ) → added_below own n ≡ bytes_of_first n ns
  unfolding added_below own
  first_added zero = refl
  first_added (suc n) = omega (arith, first_added n)

  pub printed_within_all : IsTree ns → length (printed (ordered_tree ns 0)) ≤ bytes_of_all ns
  unfolding Once
  printed_within_all tree =
      let row : List ℕ = in_order ns 0 in
      let low : All (λ x. x < length ns) row = All-weaker (IsUnder ns 0) (λ x. x < length ns) (λ x under. under.0) row (order_under ns tree 0 tree.first) in
      let most : added own row ≤ added_below own (length ns) = once_added row own (length ns) (order_once ns tree 0 tree.first) low in
      omega (arith, ap length (printed_at-ordered_tree ns tree 0 tree.first), texts_added row, most, first_added (length ns))

  -- the first nodes print no more than all
  first_within : (k n : ℕ) → k ≤ n → bytes_of_first k ns ≤ bytes_of_first n ns
  first_within k zero h = omega (arith, ap (λ m. bytes_of_first m ns) (let none : k ≡ 0 = omega (arith, h) in none))
  first_within k (suc n) h = elim (cases_lt n k) [
    | inl more ↦ omega (arith, ap (λ m. bytes_of_first m ns) (let all : k ≡ suc n = omega (arith, h, more) in all))
    | inr less ↦ omega (arith, first_within k n (omega (arith, less)))
  ]

  -- a node that prints more than is left prints more than is allowed, with those before it
  pub past_room : (bytes left k own : ℕ) → bytes_of_first k ns + left ≡ bytes → k < length ns → own ≡ length (text_at ns k) → left < own → bytes < bytes_of_all ns
  past_room bytes left k own is low prints more = omega (arith, is, prints, more, first_within (suc k) (length ns) (omega (arith, low)))

-- nodes that stay what they were print what they did
pub first_kept : (old new : List Node) → KeepsContents old new → (n : ℕ) → n ≤ length old → bytes_of_first n new ≡ bytes_of_first n old
first_kept old new kept zero h = refl
first_kept old new kept (suc n) h = omega (arith, first_kept old new kept n (omega (arith, h)), ap (λ c. length (text_of c)) (kept.content n (omega (arith, h))))

-- so after an operation it is known how many bytes may be added, if its own nodes were counted
pub room_after : (old new : List Node) (bytes room first left : ℕ) → first ≡ length old → KeepsContents old new → HasRoom bytes old (Some room) → bytes_of_all new + left ≡ bytes_of_first first new + room
    → bytes_of_all new + left ≡ bytes
room_after old new bytes room first left from kept was is = omega (arith, was, is, ap (λ n. bytes_of_first n new) from, first_kept old new kept (length old) (omega arith))

-- at first all nodes are counted
pub room_at_first : (ns : List Node) (bytes : ℕ) (room : Option ℕ) → IfSome room (λ left. bytes_of_all ns + left ≡ bytes_of_first 0 ns + bytes) → HasRoom bytes ns room
room_at_first ns bytes None is = tt
room_at_first ns bytes (Some left) is = omega (arith, is)

pub room_within : (ns : List Node) → IsTree ns → (bytes left : ℕ) → bytes_of_all ns + left ≡ bytes → length (printed (ordered_tree ns 0)) ≤ bytes
room_within ns tree bytes left is = omega (arith, is, printed_within_all ns tree)

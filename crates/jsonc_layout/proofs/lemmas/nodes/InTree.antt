-- What stands in a row is there.
use Rattle.std.proofs.Common.{◌≡◌, sym, subst, ℕ, suc, ◌-◌, [], ◌∷◌, List, length, reverse, take, Bool, true, false, cond, Option, None, Some, Result, Ok, Err, Vec, IfOk, ◌<◌, ◌+◌, arith}
use Rattle.std.specs.List.{find, take_while, prefix_len, All}
use Rattle.std.proofs.lemmas.List.{get_or-reverse, get_or_default, length-reverse}
use Rattle.std.proofs.lemmas.List.Elements.{All-drop, All-filter, All-nil, All-take}
use Rattle.jsonc_tree.specs.Tree.{Node, children_at, parent_at, place_at, IsTree}
use Rattle.jsonc_tree.specs.Order.{with_parent}
use Rattle.jsonc_layout.specs.nodes.Properties.{behind_first}
use Rattle.jsonc_layout.specs.nodes.Siblings.{AreThere, IsThere, is_no_newline_at, line_before, row_of, siblings_after, siblings_before}
use Rattle.std.specs.Iterator.{YieldsFirst}
use Rattle.jsonc_layout.specs.nodes.Comments.{inline_comments}
use Rattle.jsonc_layout.specs.nodes.Kinds.{is_inline_trivia_at, is_comment_at}

-- what holds of each in a row holds of each in the row turned round
pub All-reverse : (P : ℕ → Type 0) (xs : List ℕ) → All P xs → All P (reverse xs)
All-reverse P xs h =
    λ k d l.
    let within : k < length xs = omega (arith, l, length-reverse xs) in
    subst P (sym (get_or-reverse xs k d within)) (h (length xs - 1 - k) d (omega arith))

module _ (ns : List Node) (t : IsTree ns) where
  pub children_there : (c : ℕ) → AreThere ns (children_at ns c)
  children_there c = λ k d l. subst (λ m. m < length ns) (get_or_default (children_at ns c) k 0 d l) (t.in_tree c k l)

  row_there : (p : Option ℕ) → AreThere ns (with_parent p (children_at ns))
  row_there None = All-nil (λ m. m < length ns)
  row_there (Some p) = children_there p

  pub after_there : (n : ℕ) → AreThere ns (siblings_after ns n)
  after_there n = All-drop (λ m. m < length ns) (place_at ns n + 1) (row_of ns n) (row_there (parent_at ns n))

  pub before_there : (n : ℕ) → AreThere ns (siblings_before ns n)
  before_there n = All-reverse (λ m. m < length ns) (take (place_at ns n) (row_of ns n)) (All-take (λ m. m < length ns) (place_at ns n) (row_of ns n) (row_there (parent_at ns n)))

  pub line_there : (n : ℕ) → AreThere ns (line_before ns n)
  line_there n =
      let xs : List ℕ = siblings_before ns n in
      All-reverse (λ m. m < length ns) (take_while (is_no_newline_at ns) xs) (All-take (λ m. m < length ns) (prefix_len (is_no_newline_at ns) xs) xs (before_there n))

module _ (ns : List Node) where
  if_there : (x : ℕ) (r : Option ℕ) (b : Bool) → x < length ns → IsThere ns r → IsThere ns (cond b (Some x) r)
  if_there x r true h rest = h
  if_there x r false h rest = rest

  pub find_there : (test : ℕ → Bool) (xs : List ℕ) → AreThere ns xs → IsThere ns (find test xs)
  find_there test [] h = tt
  find_there test (x ∷ xs) h = if_there x (find test xs) (test x) (h 0 0 (omega arith)) (find_there test xs (λ k d l. h (suc k) d (omega arith)))

  pub beside_there : (xs : List ℕ) → AreThere ns xs → AreThere ns (inline_comments ns xs)
  beside_there xs h = All-filter (is_comment_at ns) (λ m. m < length ns) (take_while (is_inline_trivia_at ns) xs) (All-take (λ m. m < length ns) (prefix_len (is_inline_trivia_at ns) xs) xs h)

  behind_one_there : (test : ℕ → Bool) (b : Bool) (xs : List ℕ) → AreThere ns xs → AreThere ns (behind_first test xs) → AreThere ns (cond b xs (behind_first test xs))
  behind_one_there test true xs here further = here
  behind_one_there test false xs here further = further

  pub behind_there : (test : ℕ → Bool) (xs : List ℕ) → AreThere ns xs → AreThere ns (behind_first test xs)
  behind_there test [] h = h
  behind_there test (x ∷ xs) h =
      let later : AreThere ns xs = λ k d l. h (suc k) d (omega arith) in
      behind_one_there test (test x) xs later (behind_there test xs later)

  -- what was found in a row, or made of one, is there
  pub found_there : (test : ℕ → Bool) (r : Option ℕ) (s row : List ℕ) → r ≡ find test row → s ≡ row → AreThere ns s → IsThere ns r
  found_there test r s row found same h = subst (IsThere ns) (sym found) (find_there test row (subst (AreThere ns) same h))

  pub items_there : {A E : Type 0} (r : Result (Vec ℕ A) E) (xs : List ℕ) → IfOk r (λ v. v.items ≡ xs) → AreThere ns xs → IfOk r (λ v. AreThere ns v.items)
  items_there (Ok v) xs e h = subst (AreThere ns) (sym e) h
  items_there (Err e) xs is h = tt

  -- what an iterator over nodes that are there gives is there, and so is what it leaves
  pub given_there : (s u : List ℕ) (r : Option ℕ) → YieldsFirst (λ rest. rest) s r u → AreThere ns s → IsThere ns r
  given_there s u None e h = tt
  given_there s u (Some x) e h = subst (AreThere ns) e h 0 0 (omega arith)

  pub rest_there : (s : List ℕ) (x : ℕ) (rest : List ℕ) → s ≡ x ∷ rest → AreThere ns s → AreThere ns rest
  rest_there s x rest e h = λ k d l. subst (AreThere ns) e h (suc k) d (omega arith)

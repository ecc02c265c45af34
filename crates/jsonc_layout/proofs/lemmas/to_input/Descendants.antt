-- A node stands over more nodes than a child of it.
use Rattle.std.proofs.Common.{◌≡◌, Bool, true, false, cond, None, Some, sym, subst, ℕ, zero, suc, ◌<◌, ◌≤◌, List, [], ◌∷◌, length, get_or, ap, arith, length-append}
use Rattle.std.specs.List.{flat_map, find}
use Rattle.jsonc_tree.specs.Content.{Content, root, object, array, property, string, word, number, boolean, null, token, whitespace, newline, comment}
use Rattle.jsonc_tree.specs.Tree.{Node, IsTree, children_at, content_at}
use Rattle.jsonc_layout.specs.nodes.Kinds.{is_element_at, is_colon_at}
use Rattle.jsonc_layout.specs.nodes.Properties.{value_by, value_at, behind_first, behind_name, behind_colon, is_name_at}
use Rattle.jsonc_tree.specs.Order.{in_order}
use Rattle.jsonc_tree.proofs.Order.{in_order_is}

-- how many nodes there are from a node down, itself among them
abbrev pub count_at : List Node → ℕ → ℕ
count_at ns n = length (in_order ns n)

part_within : (f : ℕ → List ℕ) (xs : List ℕ) (k : ℕ) → k < length xs → length (f (get_or xs k 0)) ≤ length (flat_map f xs)
part_within f [] k h = absurd (omega arith)
part_within f (x ∷ xs) zero h = omega (arith, length-append (f x) (flat_map f xs))
part_within f (x ∷ xs) (suc k) h = omega (arith, part_within f xs k (omega arith), length-append (f x) (flat_map f xs))

-- what holds of each part of a list holds of those behind one, and of what is found in it
behind_each : (P : ℕ → Type 0) (test : ℕ → Bool) (xs : List ℕ) → ((k : ℕ) → k < length xs → P (get_or xs k 0)) → (k : ℕ) → k < length (behind_first test xs) → P (get_or (behind_first test xs) k 0)
behind_each P test [] h = h
behind_each P test (x ∷ xs) h = go (test x) (behind_each P test xs (λ k l. h (suc k) (omega arith)))
  where
    go : (b : Bool) → ((k : ℕ) → k < length (behind_first test xs) → P (get_or (behind_first test xs) k 0)) → (k : ℕ) → k < length (cond b xs (behind_first test xs)) → P (get_or (cond b xs (behind_first test xs)) k 0)
    go true further = λ k l. h (suc k) (omega arith)
    go false further = further

find_each : (P : ℕ → Type 0) (test : ℕ → Bool) (xs : List ℕ) (m : ℕ) → ((k : ℕ) → k < length xs → P (get_or xs k 0)) → find test xs ≡ Some m → P m
find_each P test [] m h e = absurd (let wrong : None ≡ Some m = e in cc)
find_each P test (x ∷ xs) m h e = go (test x) e (λ f. find_each P test xs m (λ k l. h (suc k) (omega arith)) f)
  where
    go : (b : Bool) → cond b (Some x) (find test xs) ≡ Some m → (find test xs ≡ Some m → P m) → P m
    go true f further = let same : x ≡ m = cc in subst P same (h 0 (omega arith))
    go false f further = further f

no_value : {X : Type 0} (m : ℕ) → None ≡ Some m → X
no_value m e = absurd (let wrong : None ≡ Some m = e in cc)

-- and of the value of a node, which is one of its children
value_each : (P : ℕ → Type 0) (ns : List Node) (content : Content) (n m : ℕ) → ((k : ℕ) → k < length (children_at ns n) → P (get_or (children_at ns n) k 0)) → value_by content ns n ≡ Some m → P m
value_each P ns root n m h e = find_each P (is_element_at ns) (children_at ns n) m h e
value_each P ns property n m h e =
    find_each P (is_element_at ns) (behind_colon ns n) m (behind_each P (is_colon_at ns) (behind_name ns n) (behind_each P (is_name_at ns) (children_at ns n) h)) e
value_each P ns object n m h e = no_value m e
value_each P ns array n m h e = no_value m e
value_each P ns (string s) n m h e = no_value m e
value_each P ns (word s) n m h e = no_value m e
value_each P ns (number s) n m h e = no_value m e
value_each P ns (boolean b) n m h e = no_value m e
value_each P ns null n m h e = no_value m e
value_each P ns (token c) n m h e = no_value m e
value_each P ns (whitespace s) n m h e = no_value m e
value_each P ns (newline k) n m h e = no_value m e
value_each P ns (comment s) n m h e = no_value m e

module _ (ns : List Node) (tree : IsTree ns) where
  each_smaller : (n : ℕ) → n < length ns → (k : ℕ) → k < length (children_at ns n) → count_at ns (get_or (children_at ns n) k 0) < count_at ns n
  each_smaller n h k l = omega (arith, ap length (in_order_is ns tree n h), part_within (in_order ns) (children_at ns n) k l)

  -- a child stands over fewer nodes
  pub child_smaller : (n k m : ℕ) → n < length ns → k < length (children_at ns n) → m ≡ get_or (children_at ns n) k 0 → count_at ns m < count_at ns n
  child_smaller n k m h l e = subst (λ (i : ℕ). count_at ns i < count_at ns n) (sym e) (each_smaller n h k l)

  -- so does a value
  pub value_smaller : (n m : ℕ) → n < length ns → value_at ns n ≡ Some m → count_at ns m < count_at ns n
  value_smaller n m h e = value_each (λ i. count_at ns i < count_at ns n) ns (content_at ns n) n m (each_smaller n h) e

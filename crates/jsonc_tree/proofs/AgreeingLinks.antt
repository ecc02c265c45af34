-- What links show: where they are those of a tree's rows, just that tree.
use Rattle.std.proofs.Common.{◌≡◌, ℕ, false, None, Some, zero, suc, ◌+◌, ◌<◌, ◌≤◌, List, [], ◌∷◌, length, get_or, drop, inl, inr, eqb, slice_get, refl, sym, ap, subst, ◌∙◌, arith, ◌-◌, ◌^◌}
use Rattle.std.proofs.lemmas.Bool.{cases_lt, ne_eqb}
use Rattle.std.proofs.lemmas.Option.{slice_get-get_or, slice_get_past}
use Rattle.std.proofs.lemmas.List.{get_or-map, get_or_past, length-map, drop_more, drop_all, get_or_default}
use Rattle.std.proofs.lemmas.Map.Steps.{length-le_from_distinct_below}
use Rattle.std.proofs.lemmas.Map.Keys.{IsDistinct-from_apart}
use Rattle.jsonc_tree.specs.Tree as tree
use Rattle.jsonc_tree.specs.Tree.{children_at, parent_at, content_at, node_at, IsTree, place_at}
use Rattle.jsonc_tree.proofs.Splicing.{in_where}
use Rattle.jsonc_tree.specs.Stored.{LinkedNode, nowhere, link_at, chain, shown, nodes_of, ahead_at, line_ends, IsLinked, IsStored}

-- a row of a tree is no longer than there are nodes
pub row_short : (ns : List tree.Node) → IsTree ns → (c : ℕ) → length (children_at ns c) ≤ length ns
row_short ns t c =
    let xs : List ℕ = children_at ns c in
    length-le_from_distinct_below xs (length ns)
    (IsDistinct-from_apart eqb xs (λ i j d lt le. ne_eqb (get_or xs i d) (get_or xs j d) (λ e. omega (arith, t.placed c i (omega arith), t.placed c j le, ap (place_at ns) (get_or_default xs i 0 d (omega arith) ∙ e ∙ sym (get_or_default xs j 0 d le))))))
    (λ q e. let w = in_where q xs e in omega (arith, w.2, t.in_tree c w.0 w.1))

-- and shorter, as the root stands in none
module _ (ns : List tree.Node) (t : IsTree ns) (c : ℕ) where
  no_root : (k d : ℕ) → k < length (children_at ns c) → 0 ≡ get_or (children_at ns c) k d → ⊥
  no_root k d h e =
      let is : get_or (children_at ns c) k 0 ≡ 0 = sym (e ∙ sym (get_or_default (children_at ns c) k 0 d h)) in
      let wrong : Some c ≡ None = sym (t.named c k h) ∙ ap (parent_at ns) is ∙ t.root_alone in
      cc

  apart_beside : (i j d : ℕ) → i < j → j < suc (length (children_at ns c)) → eqb (get_or (0 ∷ children_at ns c) i d) (get_or (0 ∷ children_at ns c) j d) ≡ false
  apart_beside i zero d lt le = absurd (omega arith)
  apart_beside zero (suc j) d lt le = ne_eqb 0 (get_or (children_at ns c) j d) (no_root j d (omega arith))
  apart_beside (suc i) (suc j) d lt le =
      let xs : List ℕ = children_at ns c in
      ne_eqb (get_or xs i d) (get_or xs j d) (λ e. omega (arith, t.placed c i (omega arith), t.placed c j (omega arith), ap (place_at ns) (get_or_default xs i 0 d (omega arith) ∙ e ∙ sym (get_or_default xs j 0 d (omega arith)))))

  there_beside : (m q : ℕ) → m < suc (length (children_at ns c)) → get_or (0 ∷ children_at ns c) m 0 ≡ q → q < length ns
  there_beside zero q h e = omega (arith, t.first, e)
  there_beside (suc m) q h e = omega (arith, t.in_tree c m (omega arith), e)

  pub row_shorter : length (children_at ns c) < length ns
  row_shorter =
      let xs : List ℕ = 0 ∷ children_at ns c in
      let short = length-le_from_distinct_below xs (length ns) (IsDistinct-from_apart eqb xs apart_beside) (λ q e. let w = in_where q xs e in there_beside w.0 q w.1 w.2) in
      omega (arith, short)

-- lists with the same members are the same
pub list_same : {X : Type 0} (d : X) (xs ys : List X) → length xs ≡ length ys → ((k : ℕ) → k < length ys → get_or xs k d ≡ get_or ys k d) → xs ≡ ys
list_same d [] [] e h = refl
list_same d [] (y ∷ ys) e h = absurd (omega arith)
list_same d (x ∷ xs) [] e h = absurd (omega arith)
list_same d (x ∷ xs) (y ∷ ys) e h =
    let first : x ≡ y = h 0 (omega arith) in
    let rest : xs ≡ ys = list_same d xs ys (omega arith) (λ k l. h (suc k) (omega arith)) in
    cc

pub node_same : (m n : tree.Node) → m.content ≡ n.content → m.parent ≡ n.parent → m.children ≡ n.children → m ≡ n
node_same m n a b c =
    ap (λ x. record m { content = x }) a
    ∙ ap (λ x. record m { content = n.content; parent = x }) b
    ∙ ap (λ x. record n { children = x }) c

-- the links say of each node what the list of nodes does
pub record Agrees (ls : List LinkedNode) (ns : List tree.Node) : Type 0 where
  pub len : length ls ≡ length ns
  pub content : (n : ℕ) → n < length ns → (link_at ls n).content ≡ content_at ns n
  pub parent : (n : ℕ) → (link_at ls n).parent ≡ parent_at ns n
  pub linked : IsLinked ls ns

module _ (ls : List LinkedNode) (ns : List tree.Node) (t : IsTree ns) (same : Agrees ls ns) where
  pub chain_from : (steps c k : ℕ) → k ≤ length (children_at ns c) → length (children_at ns c) ≤ k + steps → chain steps ls (slice_get (children_at ns c) k) ≡ drop k (children_at ns c)
  chain_from zero c k h enough =
      ap (chain zero ls) (slice_get_past (children_at ns c) k (omega arith)) ∙ sym (drop_all k (children_at ns c) (omega arith))
  chain_from (suc steps) c k h enough =
      elim (cases_lt k (length (children_at ns c))) [
        | inl l ↦
            let is = slice_get-get_or (children_at ns c) k 0 l in
            let next : (link_at ls (get_or (children_at ns c) k 0)).next ≡ slice_get (children_at ns c) (suc k) = ap (ahead_at ls c) (sym is) ∙ same.linked.ahead c (suc k) (omega arith) in
            let one : suc k ≡ k + 1 = omega arith in
            ap (chain (suc steps) ls) is
            ∙ ap (λ o. get_or (children_at ns c) k 0 ∷ chain steps ls o) next
            ∙ ap (λ l. get_or (children_at ns c) k 0 ∷ l) (chain_from steps c (suc k) (omega arith) (omega arith) ∙ ap (λ m. drop m (children_at ns c)) one)
            ∙ sym (drop_more (children_at ns c) k 0 l)
        | inr past ↦ ap (chain (suc steps) ls) (slice_get_past (children_at ns c) k past) ∙ sym (drop_all k (children_at ns c) past)
      ]

  pub row_is : (c : ℕ) → chain (length ls) ls (link_at ls c).first ≡ children_at ns c
  row_is c = ap (chain (length ls) ls) (same.linked.ahead c 0 (omega arith)) ∙ chain_from (length ls) c 0 (omega arith) (omega (arith, row_short ns t c, same.len))

  node_is : (n : ℕ) → n < length ns → node_at (nodes_of ls) n ≡ node_at ns n
  node_is n h =
      get_or-map (shown ls) ls n nowhere tree.nowhere (omega (arith, same.len))
      ∙ node_same (shown ls (link_at ls n)) (node_at ns n) (same.content n h) (same.parent n) (row_is n)

  pub shown_is : nodes_of ls ≡ ns
  shown_is = list_same tree.nowhere (nodes_of ls) ns (length-map ls (shown ls) ∙ same.len) node_is

  pub stored_by : ((c : ℕ) → (link_at ls c).lines ≡ line_ends ns (children_at ns c)) → length ls ≤ 2 ^ 32 - 1 → IsStored ls
  stored_by lines few = record {
    tree = subst IsTree (sym shown_is) t;
    linked = subst (IsLinked ls) (sym shown_is) same.linked;
    lines = λ c. lines c ∙ ap (λ ms. line_ends ms (children_at ms c)) (sym shown_is);
    few = few;
  }

module _ (ls : List LinkedNode) where
  pub node_shown : (n : ℕ) → n < length ls → node_at (nodes_of ls) n ≡ shown ls (link_at ls n)
  node_shown n h = get_or-map (shown ls) ls n nowhere tree.nowhere h

  pub content_shown : (n : ℕ) → n < length ls → (link_at ls n).content ≡ content_at (nodes_of ls) n
  content_shown n h = sym (ap (λ (x : tree.Node). x.content) (node_shown n h))

  pub length_shown : length (nodes_of ls) ≡ length ls
  length_shown = length-map ls (shown ls)

  pub parent_shown : (n : ℕ) → (link_at ls n).parent ≡ parent_at (nodes_of ls) n
  parent_shown n =
      elim (cases_lt n (length ls)) [
        | inl h ↦ sym (ap (λ (x : tree.Node). x.parent) (node_shown n h))
        | inr h ↦
            ap (λ (x : LinkedNode). x.parent) (get_or_past ls n nowhere h)
            ∙ sym (ap (λ (x : tree.Node). x.parent) (get_or_past (nodes_of ls) n tree.nowhere (omega (arith, length_shown))))
      ]

  -- stored nodes say what they show
  pub agrees : IsStored ls → Agrees ls (nodes_of ls)
  agrees stored = record {
    len = sym length_shown;
    content = λ n h. content_shown n (omega (arith, length_shown));
    parent = parent_shown;
    linked = stored.linked;
  }

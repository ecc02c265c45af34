-- Elements of a row whose nodes are there are there.
use Rattle.std.proofs.Common.{◌≡◌, ◌<◌, eqb, ℕ, zero, suc, List, ◌∷◌, length, reverse, get_or, slice_get, slice_index, None, Some, sym, ap, subst, ◌∙◌, arith}
use Rattle.std.proofs.lemmas.Bool.{ne_eqb}
use Rattle.std.proofs.lemmas.List.{get_or_default}
use Rattle.std.proofs.lemmas.Map.Keys.{IsDistinct-from_apart}
use Rattle.std.proofs.lemmas.Map.Steps.{length-le_from_distinct_below}
use Rattle.std.proofs.lemmas.List.Elements.{All-filter}
use Rattle.jsonc_tree.specs.Tree.{Node, children_at, parent_at, place_at, IsTree}
use Rattle.jsonc_tree.proofs.Splicing.{in_where}
use Rattle.jsonc_layout.specs.nodes.Kinds.{is_element_at}
use Rattle.jsonc_layout.specs.nodes.Siblings.{AreThere, IsThere}
use Rattle.jsonc_layout.proofs.lemmas.nodes.InTree.{All-reverse, find_there}
use Rattle.jsonc_layout.proofs.lemmas.nodes.Walks.{filter_short, got_there}
use Rattle.jsonc_layout.specs.lines.Breadth.{last_element}
use Rattle.jsonc_insert.specs.Planned.{elements}

pub nth_there : (ns : List Node) (row : List ℕ) (i : ℕ) → AreThere ns row → IsThere ns (slice_get (elements ns row) i)
nth_there ns row i all = got_there ns (elements ns row) i (All-filter (is_element_at ns) (λ m. m < length ns) row all)

pub last_there : (ns : List Node) (row : List ℕ) → AreThere ns row → IsThere ns (last_element ns row)
last_there ns row all = find_there ns (is_element_at ns) (reverse row) (All-reverse (λ m. m < length ns) row all)

-- a row is shorter than there are nodes, as the root stands in none
row_shorter : (ns : List Node) → IsTree ns → (c : ℕ) → length (children_at ns c) < length ns
row_shorter ns tree c =
    let xs : List ℕ = children_at ns c in
    let all = length-le_from_distinct_below (0 ∷ xs) (length ns)
    (IsDistinct-from_apart eqb (0 ∷ xs) (λ i j d lt le. ne_eqb (get_or (0 ∷ xs) i d) (get_or (0 ∷ xs) j d) (apart i j d lt le)))
    (λ q e. let w = in_where q (0 ∷ xs) e in subst (λ m. m < length ns) w.2 (there w.0 w.1)) in
    omega (arith, all)
  where
    apart : (i j d : ℕ) → i < j → j < suc (length (children_at ns c)) → get_or (0 ∷ children_at ns c) i d ≡ get_or (0 ∷ children_at ns c) j d → ⊥
    apart i zero d lt le e = omega (arith, lt)
    apart zero (suc j) d lt le e =
        let at : j < length (children_at ns c) = omega (arith, le) in
        let root : 0 ≡ slice_index (children_at ns c) j = e ∙ get_or_default (children_at ns c) j d 0 at in
        let wrong : None ≡ Some c = sym tree.root_alone ∙ ap (parent_at ns) root ∙ tree.named c j at in
        cc
    apart (suc i) (suc j) d lt le e =
        let xs : List ℕ = children_at ns c in
        let low : i < length xs = omega (arith, lt, le) in
        let high : j < length xs = omega (arith, le) in
        omega (arith, lt, tree.placed c i low, tree.placed c j high, ap (place_at ns) (get_or_default xs i 0 d low ∙ e ∙ sym (get_or_default xs j 0 d high)))

    there : (k : ℕ) → k < suc (length (children_at ns c)) → get_or (0 ∷ children_at ns c) k 0 < length ns
    there zero h = tree.first
    there (suc k) h = tree.in_tree c k (omega (arith, h))

-- so there are fewer elements than nodes
pub few_elements : (ns : List Node) → IsTree ns → (c len : ℕ) → len ≡ length ns → length (elements ns (children_at ns c)) < len
few_elements ns tree c len all = omega (arith, all, filter_short (is_element_at ns) (children_at ns c), row_shorter ns tree c)

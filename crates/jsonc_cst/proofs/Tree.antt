-- Nodes that are stored as a tree are one in the words of the calls.
use Rattle.std.proofs.Common.{◌≡◌, ◌≢◌, ℕ, zero, suc, ◌<◌, Bool, true, false, List, [], ◌∷◌, length, map, get_or, Option, Some, None, option_map, refl, ap, sym, subst, ◌∙◌, arith}
use Rattle.std.specs.List.{All, slice_get}
use Rattle.std.proofs.lemmas.List.{get_or-map, length-map}
use Rattle.std.proofs.lemmas.Option.{slice_get-map, slice_get-get_or, slice_get_within}
use Rattle.jsonc_tree.specs.Content as content
use Rattle.jsonc_tree.specs.Tree.{Node, children_at, content_at, parent_at, place_at, is_container_at, IsTree, IsOver, itself, above}
use Rattle.jsonc_tree.specs.Order.{line_up, upward}
use Rattle.jsonc_tree.proofs.Order.{parent_there, not_over_parent, upward_is, upward_none}
use Rattle.jsonc_cst.specs.declared.cst.CstRootNode.{CstRootNode}
use Rattle.jsonc_cst.specs.declared.cst.node.CstContainerNode.{CstContainerNode}
use Rattle.jsonc_cst.specs.declared.cst.node.CstLeafNode.{CstLeafNode}
use Rattle.jsonc_cst.specs.declared.cst.node.CstNode.{CstNode}
use Rattle.jsonc_cst.specs.declared.cst.node.CstNode.TheVariants.{Container, Leaf}
use Rattle.jsonc_cst.specs.Document.{nodes_of}
use Rattle.jsonc_cst.specs.Nodes.{number_of, container_number, leaf_number, typed, typed_at, typed_container, container_of, parent_node, nodes_above, child_nodes, IsNodeOf}
use Rattle.jsonc_cst.specs.Tree.{NodesAreTree}
use Rattle.jsonc_cst.proofs.Family.{number_of-typed}

-- a container of this number has this number
number_of-container : (what : content.Content) (n : ℕ) → container_number (typed_container what n) ≡ n
number_of-container content.root n = refl
number_of-container content.object n = refl
number_of-container content.array n = refl
number_of-container content.property n = refl
number_of-container (content.string s) n = refl
number_of-container (content.word s) n = refl
number_of-container (content.number s) n = refl
number_of-container (content.boolean b) n = refl
number_of-container content.null n = refl
number_of-container (content.token c) n = refl
number_of-container (content.whitespace s) n = refl
number_of-container (content.newline k) n = refl
number_of-container (content.comment s) n = refl

-- whether it is a container, and which
abbrev is_one : CstNode → Bool
is_one (Container c) = true
is_one (Leaf l) = false

abbrev container_or : CstContainerNode → CstNode → CstContainerNode
container_or d (Container c) = c
container_or d (Leaf l) = d

-- a node is a container where its content is one
is_one-typed : (what : content.Content) (n : ℕ) → is_one (typed what n) ≡ content.is_container what
is_one-typed content.root n = refl
is_one-typed content.object n = refl
is_one-typed content.array n = refl
is_one-typed content.property n = refl
is_one-typed (content.string s) n = refl
is_one-typed (content.word s) n = refl
is_one-typed (content.number s) n = refl
is_one-typed (content.boolean b) n = refl
is_one-typed content.null n = refl
is_one-typed (content.token c) n = refl
is_one-typed (content.whitespace s) n = refl
is_one-typed (content.newline k) n = refl
is_one-typed (content.comment s) n = refl

container_or-typed : (what : content.Content) (n : ℕ) → container_or (typed_container what n) (typed what n) ≡ typed_container what n
container_or-typed content.root n = refl
container_or-typed content.object n = refl
container_or-typed content.array n = refl
container_or-typed content.property n = refl
container_or-typed (content.string s) n = refl
container_or-typed (content.word s) n = refl
container_or-typed (content.number s) n = refl
container_or-typed (content.boolean b) n = refl
container_or-typed content.null n = refl
container_or-typed (content.token c) n = refl
container_or-typed (content.whitespace s) n = refl
container_or-typed (content.newline k) n = refl
container_or-typed (content.comment s) n = refl

-- what is typed as this container is made as it
container_is : (what : content.Content) (n : ℕ) (c : CstContainerNode) → typed what n ≡ Container c → typed_container what n ≡ c
container_is what n c h = sym (container_or-typed what n) ∙ ap (container_or (typed_container what n)) h

module _ (ns : List Node) where
  parent_by : (o : Option ℕ) (c : CstContainerNode) → option_map (container_of ns) o ≡ Some c → (p : ℕ) × (o ≡ Some p) × (container_of ns p ≡ c)
  parent_by None c h = absurd (let wrong : None ≡ Some c = h in cc)
  parent_by (Some p) c h =
      let both : Some (container_of ns p) ≡ Some c = h in
      let same : container_of ns p ≡ c = cc in
      (p, refl, same)

  no_parent_by : (o : Option ℕ) → option_map (container_of ns) o ≡ None → o ≡ None
  no_parent_by None h = refl
  no_parent_by (Some p) h = absurd (let wrong : Some (container_of ns p) ≡ None = h in cc)

  -- those above a node, and those above these
  line_over : (steps : ℕ) (o : Option ℕ) (n : ℕ) → ((m p : ℕ) → o ≡ Some p → IsOver ns m p → IsOver ns m n) → (k d : ℕ) → k < length (line_up steps ns o) → IsOver ns (get_or (line_up steps ns o) k d) n
  line_over steps None n up k d h = absurd (omega (arith, h))
  line_over zero (Some p) n up k d h = absurd (omega (arith, h))
  line_over (suc steps) (Some p) n up zero d h = up p p refl itself
  line_over (suc steps) (Some p) n up (suc k) d h = line_over steps (parent_at ns p) n (λ m q said over. up m p refl (above said over)) k d (omega (arith, h))

module _ (ns : List Node) (tree : IsTree ns) where
  -- no node is among those above it
  above_apart : (n : ℕ) (o : Option ℕ) → parent_at ns n ≡ o → All (λ m. m ≢ n) (upward ns o)
  unfolding upward
  above_apart n None said k d h = absurd (omega (arith, h))
  above_apart n (Some p) said k d h = λ e. not_over_parent ns tree n p said (subst (λ m. IsOver ns m p) e (line_over ns (length ns) (Some p) p (λ m q it over. let same : q ≡ p = cc in subst (IsOver ns m) same over) k d h))

  not_above_itself : (node : CstNode) → All (λ c. Container c ≢ node) (nodes_above ns (number_of node))
  not_above_itself node k d h =
      let xs : List ℕ = upward ns (parent_at ns (number_of node)) in
      let within : k < length xs = omega (arith, h, length-map xs (container_of ns)) in
      let m : ℕ = get_or xs k 0 in
      let here : get_or (map (container_of ns) xs) k d ≡ container_of ns m = get_or-map (container_of ns) xs k 0 d within in
      λ e. above_apart (number_of node) (parent_at ns (number_of node)) refl k 0 within (sym (number_of-container (content_at ns m) m) ∙ ap container_number (sym here) ∙ ap number_of e)

  above_parent : (n : ℕ) (c : CstContainerNode) → parent_node ns n ≡ Some c → nodes_above ns n ≡ c ∷ nodes_above ns (container_number c)
  above_parent n c h =
      let said = parent_by ns (parent_at ns n) c h in
      let p : ℕ = said.0 in
      let number : container_number c ≡ p = ap container_number (sym said.2) ∙ number_of-container (content_at ns p) p in
      ap (λ o. map (container_of ns) (upward ns o)) said.1
      ∙ ap (map (container_of ns)) (upward_is ns tree p (parent_there ns tree n p said.1).1)
      ∙ ap (λ x. x ∷ nodes_above ns p) said.2
      ∙ ap (λ m. c ∷ nodes_above ns m) (sym number)

  above_nothing : (n : ℕ) → parent_node ns n ≡ None → nodes_above ns n ≡ []
  above_nothing n h = ap (λ o. map (container_of ns) (upward ns o)) (no_parent_by ns (parent_at ns n) h) ∙ ap (map (container_of ns)) (upward_none ns tree)

  found_at : (node : CstNode) (c : CstContainerNode) → IsNodeOf ns node → parent_node ns (number_of node) ≡ Some c → slice_get (child_nodes ns (container_number c)) (place_at ns (number_of node)) ≡ Some node
  found_at node c held h =
      let n : ℕ = number_of node in
      let said = parent_by ns (parent_at ns n) c h in
      let p : ℕ = said.0 in
      let number : container_number c ≡ p = ap container_number (sym said.2) ∙ number_of-container (content_at ns p) p in
      let at_place : slice_get (children_at ns p) (place_at ns n) ≡ Some n = slice_get-get_or (children_at ns p) (place_at ns n) 0 (tree.within n p said.1) ∙ ap (λ m. Some m) (tree.found n p said.1) in
      ap (λ m. slice_get (child_nodes ns m) (place_at ns n)) number
      ∙ slice_get-map (typed_at ns) (children_at ns p) (place_at ns n)
      ∙ ap (option_map (typed_at ns)) at_place
      ∙ ap (λ x. Some x) held.1

  -- a child at a place, by its number
  child_by : (p k : ℕ) (node : CstNode) → slice_get (child_nodes ns p) k ≡ Some node → (k < length (children_at ns p)) × (number_of node ≡ get_or (children_at ns p) k 0)
  child_by p k node h =
      let xs : List ℕ = children_at ns p in
      let within : k < length xs = omega (arith, slice_get_within (child_nodes ns p) k node h, length-map xs (typed_at ns)) in
      let m : ℕ = get_or xs k 0 in
      let both : Some (typed_at ns m) ≡ Some node = sym (slice_get-map (typed_at ns) xs k ∙ ap (option_map (typed_at ns)) (slice_get-get_or xs k 0 within)) ∙ h in
      let same : node ≡ typed_at ns m = cc in
      (within, ap number_of same ∙ number_of-typed (content_at ns m) m)

  child_named : (c : CstContainerNode) (k : ℕ) (node : CstNode) → IsNodeOf ns (Container c) → slice_get (child_nodes ns (container_number c)) k ≡ Some node → parent_node ns (number_of node) ≡ Some c
  child_named c k node held h =
      let p : ℕ = container_number c in
      let child = child_by p k node h in
      ap (parent_node ns) child.1
      ∙ ap (option_map (container_of ns)) (tree.named p k child.0)
      ∙ ap (λ x. Some x) (container_is (content_at ns p) p c held.1)

  child_placed : (c : CstContainerNode) (k : ℕ) (node : CstNode) → slice_get (child_nodes ns (container_number c)) k ≡ Some node → place_at ns (number_of node) ≡ k
  child_placed c k node h =
      let child = child_by (container_number c) k node h in
      ap (place_at ns) child.1 ∙ tree.placed (container_number c) k child.0

  leaf_bare : (l : CstLeafNode) → IsNodeOf ns (Leaf l) → child_nodes ns (leaf_number l) ≡ []
  leaf_bare l held =
      let n : ℕ = leaf_number l in
      let none : is_container_at ns n ≡ false = sym (is_one-typed (content_at ns n) n) ∙ ap is_one held.1 in
      ap (map (typed_at ns)) (tree.leaf n none)

  root_has_none : parent_node ns 0 ≡ None
  root_has_none = ap (option_map (container_of ns)) tree.root_alone

-- the nodes of any document
pub nodes_are_tree : {A : Type 0} (d : CstRootNode A) → NodesAreTree d
nodes_are_tree d =
    let ns : List Node = nodes_of d in
    let tree : IsTree ns = d.tree.tree in
    record {
      root_alone = root_has_none ns tree;
      leaf = leaf_bare ns tree;
      found = found_at ns tree;
      named = child_named ns tree;
      placed = λ c k node held h. child_placed ns tree c k node h;
      top = λ node h. above_nothing ns tree (number_of node) h;
      above = λ node c h. above_parent ns tree (number_of node) c h;
      not_itself = not_above_itself ns tree;
    }

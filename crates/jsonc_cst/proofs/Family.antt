-- Parents are containers, and children are nodes of the document.
use Rattle.std.proofs.Common.{◌≡◌, ℕ, zero, suc, ◌<◌, true, inl, inr, List, [], ◌∷◌, length, map, get_or, Option, Some, None, IfSome, ◌&&◌, refl, ap, sym, subst, ◌∙◌, arith}
use Rattle.std.specs.List.{All, list_all}
use Rattle.std.proofs.lemmas.Bool.{cases_Bool, cases_lt, and_parts, false≢true}
use Rattle.std.proofs.lemmas.List.{get_or-map, get_or_past, get_or_default, length-map}
use Rattle.jsonc_tree.specs.Content as content
use Rattle.jsonc_tree.specs.Tree.{Node, nowhere, children_at, content_at, parent_at, is_container_at, IsTree}
use Rattle.jsonc_tree.specs.Order.{line_up, upward}
use Rattle.jsonc_tree.proofs.Order.{parent_there}
use Rattle.jsonc_cst.specs.declared.cst.node.CstNode.TheVariants.{Container}
use Rattle.jsonc_cst.specs.Nodes.{number_of, typed, typed_at, typed_container, container_of, IsNodeOf}

-- a node of this number has this number
pub number_of-typed : (what : content.Content) (n : ℕ) → number_of (typed what n) ≡ n
number_of-typed content.root n = refl
number_of-typed content.object n = refl
number_of-typed content.array n = refl
number_of-typed content.property n = refl
number_of-typed (content.string s) n = refl
number_of-typed (content.word s) n = refl
number_of-typed (content.number s) n = refl
number_of-typed (content.boolean b) n = refl
number_of-typed content.null n = refl
number_of-typed (content.token c) n = refl
number_of-typed (content.whitespace s) n = refl
number_of-typed (content.newline k) n = refl
number_of-typed (content.comment s) n = refl

-- the node of a number that is there is one of the nodes
pub typed_held : (ns : List Node) (n : ℕ) → n < length ns → IsNodeOf ns (typed_at ns n)
typed_held ns n h =
    let same = number_of-typed (content_at ns n) n in
    (omega (arith, same), ap (typed_at ns) same)

module _ (ns : List Node) (tree : IsTree ns) where
  -- a parent is there, and a container
  pub parent_is : (n c : ℕ) → parent_at ns n ≡ Some c → (c < length ns) × (is_container_at ns c ≡ true)
  parent_is n c said = (
    (parent_there ns tree n c said).1,
    elim (cases_Bool (is_container_at ns c)) [
      | inl e ↦ e
      | inr e ↦ absurd (omega (arith, tree.within n c said, ap length (tree.leaf c e)))
    ],
  )

  -- children are there
  pub children_there : (c : ℕ) → All (λ m. m < length ns) (children_at ns c)
  children_there c k d h = subst (λ m. m < length ns) (get_or_default (children_at ns c) k 0 d h) (tree.in_tree c k h)

  -- and are nodes
  pub children_held : (c : ℕ) → All (IsNodeOf ns) (map (typed_at ns) (children_at ns c))
  children_held c k d h =
      let within : k < length (children_at ns c) = omega (arith, h, length-map (children_at ns c) (typed_at ns)) in
      subst (IsNodeOf ns) (sym (get_or-map (typed_at ns) (children_at ns c) k 0 d within)) (typed_held ns (get_or (children_at ns c) k 0) (tree.in_tree c k within))

  parent_if : (n : ℕ) (o : Option ℕ) → parent_at ns n ≡ o → IfSome o (λ c. is_container_at ns c ≡ true)
  parent_if n None said = tt
  parent_if n (Some c) said = (parent_is n c said).1

  line_containers : (steps : ℕ) (o : Option ℕ) → IfSome o (λ c. is_container_at ns c ≡ true) → list_all (is_container_at ns) (line_up steps ns o) ≡ true
  line_containers steps None h = refl
  line_containers zero (Some n) h = refl
  line_containers (suc steps) (Some n) h =
      ap (λ b. b && list_all (is_container_at ns) (line_up steps ns (parent_at ns n))) h
      ∙ line_containers steps (parent_at ns n) (parent_if n (parent_at ns n) refl)

  -- all above a node are containers
  pub above_containers : (n : ℕ) → list_all (is_container_at ns) (upward ns (parent_at ns n)) ≡ true
  unfolding upward
  above_containers n = line_containers (length ns) (parent_at ns n) (parent_if n (parent_at ns n) refl)

typed_is : (what : content.Content) (n : ℕ) → content.is_container what ≡ true → typed what n ≡ Container (typed_container what n)
typed_is content.root n h = refl
typed_is content.object n h = refl
typed_is content.array n h = refl
typed_is content.property n h = refl
typed_is (content.string s) n h = absurd (false≢true h)
typed_is (content.word s) n h = absurd (false≢true h)
typed_is (content.number s) n h = absurd (false≢true h)
typed_is (content.boolean b) n h = absurd (false≢true h)
typed_is content.null n h = absurd (false≢true h)
typed_is (content.token c) n h = absurd (false≢true h)
typed_is (content.whitespace s) n h = absurd (false≢true h)
typed_is (content.newline k) n h = absurd (false≢true h)
typed_is (content.comment s) n h = absurd (false≢true h)

module _ (ns : List Node) where
  -- only a node that is there is a container
  container_there : (n : ℕ) → is_container_at ns n ≡ true → n < length ns
  container_there n h =
      elim (cases_lt n (length ns)) [
        | inl l ↦ l
        | inr g ↦ absurd (false≢true (sym (ap (λ (x : Node). content.is_container x.content) (get_or_past ns n nowhere g)) ∙ h))
      ]

  container_held : (n : ℕ) → is_container_at ns n ≡ true → IsNodeOf ns (Container (container_of ns n))
  container_held n h = subst (IsNodeOf ns) (typed_is (content_at ns n) n h) (typed_held ns n (container_there n h))

  -- numbers of containers are nodes
  pub containers_held : (xs : List ℕ) → list_all (is_container_at ns) xs ≡ true → All (λ c. IsNodeOf ns (Container c)) (map (container_of ns) xs)
  containers_held [] all k d h = absurd (omega (arith, h))
  containers_held (x ∷ xs) all zero d h = container_held x (and_parts _ _ all).0
  containers_held (x ∷ xs) all (suc k) d h = containers_held xs (and_parts _ _ all).1 k d (omega (arith, h))

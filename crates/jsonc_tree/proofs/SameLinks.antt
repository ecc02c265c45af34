-- Changes that leave every link as it is.
use Rattle.std.proofs.Common.{◌≡◌, ℕ, false, suc, zero, [], ◌∷◌, inl, inr, cond, eq-eqb, ◌<◌, ◌≤◌, List, length, get_or, set, length-set, Option, None, Some, refl, sym, ap, ◌∙◌, arith}
use Rattle.std.proofs.lemmas.Bool.{cases_eq, ne_eqb}
use Rattle.std.proofs.lemmas.List.{get_or-set_same, get_or-set_other}
use Rattle.jsonc_tree.specs.Content.{Content, root}
use Rattle.jsonc_tree.specs.Tree as tree
use Rattle.jsonc_tree.specs.Tree.{node_at, nowhere, children_at, parent_at, content_at, is_container_at, IsTreeBy, Rooted, top, under, place_among, place_under, place_at, IsTree}
use Rattle.jsonc_tree.specs.Changes.{LeafBecomes}

module _ (ns ms : List tree.Node) (place other : ℕ → ℕ) (more : length ns ≤ length ms) (kids : (k : ℕ) → children_at ms k ≡ children_at ns k) (parents : (k : ℕ) → parent_at ms k ≡ parent_at ns k) (places : (k : ℕ) → other k ≡ place k) where
  rooted_same : (n : ℕ) → Rooted ns n → Rooted ms n
  rooted_same n (top said) = top (parents n ∙ said)
  rooted_same n (under {c = p} said rest) = under (parents n ∙ said) (rooted_same p rest)

  pub IsTreeBy-same : content_at ms 0 ≡ root → ((k : ℕ) → is_container_at ms k ≡ false → children_at ns k ≡ []) → IsTreeBy ns place → IsTreeBy ms other
  IsTreeBy-same first bare t = record {
    first = omega (arith, t.first, more);
    root_first = first;
    root_alone = parents 0 ∙ t.root_alone;
    leaf = λ n h. kids n ∙ bare n h;
    in_tree = λ c k h. rw (kids c) (omega (arith, t.in_tree c k (omega (arith, ap length (kids c)))));
    named = λ c k h. rw (kids c) (parents _ ∙ t.named c k (omega (arith, ap length (kids c))));
    placed = λ c k h. rw (kids c) (places _ ∙ t.placed c k (omega (arith, ap length (kids c))));
    within = λ n c said. rw (kids c, places n) (t.within n c (sym (parents n) ∙ said));
    found = λ n c said. rw (kids c, places n) (t.found n c (sym (parents n) ∙ said));
    alone = λ n said. places n ∙ t.alone n (sym (parents n) ∙ said);
    rooted = λ n. rooted_same n (t.rooted n);
  }

-- a write of a node that keeps its children and parent keeps the tree
kept_kids : {X : Type 0} (f : tree.Node → X) (ns : List tree.Node) (n k : ℕ) (x : tree.Node) → n < length ns → f x ≡ f (node_at ns n) → f (node_at (set ns n x) k) ≡ f (node_at ns k)
kept_kids f ns n k x h e =
    elim (cases_eq k n) [
      | inl is ↦ ap (λ m. f (node_at (set ns n x) m)) is ∙ ap f (get_or-set_same ns n x nowhere h) ∙ e ∙ ap (λ m. f (node_at ns m)) (sym is)
      | inr ne ↦ ap f (get_or-set_other ns n k x nowhere ne)
    ]

place_among_found : (n k : ℕ) (cs : List ℕ) → k < length cs → get_or cs k 0 ≡ n → ((j : ℕ) → j < length cs → get_or cs j 0 ≡ n → j ≡ k) → place_among n cs ≡ k
place_among_found n k [] h e once = absurd (omega arith)
place_among_found n zero (m ∷ ms) h e once = ap (λ b. cond b 0 (suc (place_among n ms))) (eq-eqb n m (sym e))
place_among_found n (suc k) (m ∷ ms) h e once =
    ap (λ b. cond b 0 (suc (place_among n ms))) (ne_eqb n m (λ is. omega (arith, once 0 (omega arith) (sym is))))
    ∙ ap suc (place_among_found n k ms (omega arith) e (λ j l f. omega (arith, once (suc j) (omega arith) f)))

module _ (ns : List tree.Node) (place : ℕ → ℕ) (t : IsTreeBy ns place) where
  place_by : (n : ℕ) (o : Option ℕ) → parent_at ns n ≡ o → place n ≡ place_under ns n o
  place_by n None said = t.alone n said
  place_by n (Some p) said = sym (place_among_found n (place n) (children_at ns p) (t.within n p said) (t.found n p said) (λ j h e. sym (t.placed p j h) ∙ ap place e))

  -- there is one place for each node
  pub place_is : (n : ℕ) → place n ≡ place_at ns n
  place_is n = place_by n (parent_at ns n) refl

  pub IsTree-from : IsTree ns
  IsTree-from = IsTreeBy-same ns ns place (place_at ns) (omega arith) (λ k. refl) (λ k. refl) (λ k. sym (place_is k)) t.root_first t.leaf t

-- the nodes, but for what one is
abbrev pub content_set : List tree.Node → ℕ → Content → List tree.Node
content_set ns n content = set ns n (record (tree.node_at ns n) { content = content })

-- what a write of what a leaf is leaves at each node
pub LeafBecomes-set : (old new : List tree.Node) (n : ℕ) (content : Content) → n < length old → new ≡ content_set old n content → LeafBecomes old new n content
LeafBecomes-set old new n content h e =
    let x : tree.Node = record (node_at old n) { content = content } in
    record {
      len = ap length e ∙ length-set old n x;
      content = ap (λ l. content_at l n) e ∙ ap (λ (m : tree.Node). m.content) (get_or-set_same old n x nowhere h);
      others = λ k ne. ap (λ l. content_at l k) e ∙ ap (λ (m : tree.Node). m.content) (get_or-set_other old n k x nowhere ne);
      parent = λ k. ap (λ l. parent_at l k) e ∙ kept_kids (λ m. m.parent) old n k x h refl;
      children = λ k. ap (λ l. children_at l k) e ∙ kept_kids (λ m. m.children) old n k x h refl;
    }

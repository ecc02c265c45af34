-- A node becomes a container's last child.
use Rattle.std.proofs.Common.{true, ◌≡◌, ◌≢◌, ℕ, false, cond, ◌||◌, ◌<◌, ◌≤◌, List, [], ◌∷◌, ◌++◌, length, slice_range, slice_index, None, Some, inl, inr, refl, sym, ap, subst, ◌∙◌, arith, eq-eqb}
use Rattle.std.proofs.lemmas.Bool.{cases_eq, ne_eqb}
use Rattle.std.proofs.lemmas.List.{take_all, drop_all, nil_from_length}
use Rattle.std.proofs.lemmas.List.Edits.{length-between}
use Rattle.std.specs.List.{splice}
use Rattle.jsonc_tree.specs.Content.{Content, is_container}
use Rattle.jsonc_tree.specs.Tree.{is_container_at, Node, children_at, parent_at, is_in, IsTree, IsOver, itself, above}
use Rattle.jsonc_tree.specs.Changes.{CanAppend, CanJoin, Splices, Appends, Adds}

-- a node is not over another that has no parent
pub not_over_alone : (ns : List Node) (n c : ℕ) → parent_at ns c ≡ None → n ≢ c → IsOver ns n c → ⊥
not_over_alone ns n _ said ne itself = ne refl
not_over_alone ns n c said ne (above {c = p} h r) = let wrong : None ≡ Some p = sym said ∙ h in cc

-- a node without children is over no other
pub not_over_bare : (ns : List Node) → IsTree ns → (n c : ℕ) → length (children_at ns n) ≡ 0 → n ≢ c → IsOver ns n c → ⊥
not_over_bare ns tree n _ bare ne itself = ne refl
not_over_bare ns tree n c bare ne (above {c = p} said r) =
    elim (cases_eq n p) [
      | inl e ↦ omega (arith, tree.within c p said, bare, ap (λ k. length (children_at ns k)) e)
      | inr apart ↦ not_over_bare ns tree n p bare apart r
    ]

-- one node may join where it has no parent, is not the root and not over the container
pub CanJoin-one : (ns : List Node) (n c i j : ℕ) → n < length ns → n ≢ 0 → parent_at ns n ≡ None → (IsOver ns n c → ⊥) → CanJoin ns c i j (n ∷ [])
CanJoin-one ns n c i j there ne alone apart = record {
  in_tree = λ k h. let first : k ≡ 0 = omega arith in rw first there;
  not_root = λ k h. let first : k ≡ 0 = omega arith in rw first ne;
  once = λ a b ha hb e. omega arith;
  free = λ k h. let first : k ≡ 0 = omega arith in inl (rw first alone);
  not_over = λ k h over. let first : k ≡ 0 = omega arith in apart (subst (λ m. IsOver ns (slice_index (n ∷ []) m) c) first over);
}

-- a splice at the end is an append
splice_end : (xs : List ℕ) (k n : ℕ) → k ≡ length xs → splice xs k k (n ∷ []) ≡ xs ++ n ∷ []
splice_end xs k n e = rw (take_all k xs (omega arith), drop_all k xs (omega arith)) refl

nothing_between : (xs : List ℕ) (k : ℕ) → k ≤ length xs → slice_range xs k k ≡ []
nothing_between xs k h = nil_from_length (slice_range xs k k) (omega (arith, length-between xs k k h))

-- what a splice of one node at the end does
pub Appends-splice : (old new : List Node) (c k n : ℕ) → k ≡ length (children_at old c) → Splices old new c k k (n ∷ []) → Appends old new c n
Appends-splice old new c k n e splices =
    let gone : slice_range (children_at old c) k k ≡ [] = nothing_between (children_at old c) k (omega arith) in
    record {
      len = splices.len;
      content = splices.content;
      children = splices.children ∙ splice_end (children_at old c) k n e;
      others = splices.others;
      parent = splices.parents n ∙ ap (λ b. cond (b || false) (Some c) (cond (is_in n (slice_range (children_at old c) k k)) None (parent_at old n))) (eq-eqb n n refl);
      parents = λ m ne. splices.parents m
          ∙ ap (λ b. cond (b || false) (Some c) (cond (is_in m (slice_range (children_at old c) k k)) None (parent_at old m))) (ne_eqb m n ne)
          ∙ ap (λ l. cond (is_in m l) None (parent_at old m)) gone;
    }

-- a node that was just added can be appended to any container
pub CanAppend-adds : (a b : List Node) (content : Content) (c : ℕ) → IsTree b → c < length a → is_container_at a c ≡ true → Adds a b content → CanAppend b c (length a)
CanAppend-adds a b content c tree at holds adds = record {
  container = omega (arith, adds.len);
  holds = ap (λ (n : Node). is_container n.content) (adds.rest c at) ∙ holds;
  node = omega (arith, adds.len);
  not_root = λ e. omega (arith, at, e);
  alone = adds.bare.0;
  not_over = not_over_bare b tree (length a) c (ap length adds.bare.1) (λ e. omega (arith, at, e));
}

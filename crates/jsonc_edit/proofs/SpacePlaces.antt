-- Where a space may come in, and where it is then.
use Rattle.std.proofs.Common.{◌≡◌, ◌∙◌, sym, ap, subst, refl, ℕ, zero, suc, ◌+◌, ◌<◌, ◌≤◌, true, List, [], ◌∷◌, ◌++◌, length, slice_index_or, get_or, reverse, take, Option, Some, None, arith}
use Rattle.std.proofs.lemmas.Bool.{true_from_ne_false}
use Rattle.std.proofs.lemmas.List.{reverse-append, take_more}
use Rattle.std.proofs.lemmas.Option.{slice_get-get_or}
use Rattle.jsonc_tree.specs.Content.{is_container}
use Rattle.jsonc_tree.specs.Changes.{CanAppend}
use Rattle.jsonc_tree.specs.Order.{with_parent}
use Rattle.jsonc_tree.specs.Siblings.{before, first, siblings_before, IsGap}
use Rattle.jsonc_tree.specs.Tree.{Node, content_at, parent_at, children_at, place_at, is_container_at, IsTree}
use Rattle.jsonc_tree.proofs.Appending.{not_over_bare}
use Rattle.jsonc_tree.proofs.Order.{parent_there}
use Rattle.jsonc_edit.specs.declared.put.Space.{Space}
use Rattle.jsonc_edit.specs.declared.put.Spaces.{Spaces}
use Rattle.jsonc_edit.specs.Put.{node_of, nodes_of, AreChildren, AreSpaced, AreTwo, IsFree, IsFreeSpace, IsPut, StandsBefore}
use Rattle.jsonc_edit.proofs.InsertedSpaces.{contents_kept, parent_kept}
use Rattle.jsonc_edit.proofs.Elements.{none_some}
use Rattle.jsonc_edit.proofs.LeafKinds.{no_root}

-- what stands before a gap of a row is the first of what is before it, backwards
pub first_back : (xs : List ℕ) (k : ℕ) → k ≤ length xs → before xs k ≡ first (reverse (take k xs))
first_back xs zero h = refl
first_back xs (suc k) h =
    let one : suc k ≡ k + 1 = omega arith in
    let parted : reverse (take (suc k) xs) ≡ get_or xs k 0 ∷ reverse (take k xs) =
    ap (λ m. reverse (take m xs)) one ∙ ap (λ (l : List ℕ). reverse l) (take_more xs k 0 (omega (arith, h))) ∙ reverse-append (take k xs) (get_or xs k 0 ∷ []) in
    slice_get-get_or xs k 0 (omega (arith, h)) ∙ sym (ap first parted)

module _ (ns : List Node) (tree : IsTree ns) where
  -- a space that is detached may come into the row of a node that is somebody's
  module _ (n c leaf : ℕ) (said : parent_at ns n ≡ Some c) (free : IsFreeSpace ns leaf) where
    no_children : children_at ns leaf ≡ []
    no_children = tree.leaf leaf (ap is_container free.is)

    holds : is_container_at ns c ≡ true
    holds = true_from_ne_false (is_container_at ns c) (λ e. absurd (omega (arith, tree.within n c said, ap length (tree.leaf c e))))

    pub may_come : CanAppend ns c leaf
    may_come = record {
      container = (parent_there ns tree n c said).1;
      holds = holds;
      node = free.in_tree;
      not_root = λ e. no_root (content_at ns leaf) free.is (ap (content_at ns) e ∙ tree.root_first);
      alone = free.alone;
      not_over = not_over_bare ns tree leaf c (ap length no_children) (λ e. absurd (omega (arith, tree.within n c said, ap length (ap (children_at ns) (sym e) ∙ no_children))));
    }

  -- directly before a node there is a gap
  pub gap_before : (n c : ℕ) (o : Option ℕ) → parent_at ns n ≡ Some c → o ≡ first (siblings_before ns n) → IsGap ns c (place_at ns n) o (Some n)
  gap_before n c o said e =
      let row : List ℕ = children_at ns c in
      let place : ℕ = place_at ns n in
      let within : place < length row = tree.within n c said in
      record {
        inside = omega (arith, within);
        front = e ∙ ap (λ p. first (reverse (take place (with_parent p (children_at ns))))) said ∙ sym (first_back row place (omega (arith, within)));
        back = sym (slice_get-get_or row place 0 within ∙ ap Some (tree.found n c said));
      }

  -- a node that is somebody's child is there
  pub node_there : (o : Option Space) (s : Space) → o ≡ Some s → AreChildren ns (node_of o) → s.node < length ns
  node_there o s e h =
      let child = subst (λ p. AreChildren ns (node_of p)) e h 0 0 (omega arith) in
      (parent_there ns tree s.node child.0 child.1).0

-- once a first space has come in, a second is still detached, and its node somebody's
module _ (old new : List Node) (tree : IsTree old) where
  still_free : (s t : Option Space) → IsPut old s new → AreTwo s t → IsFree old t → IsFree new t
  still_free s None r two free = tt
  still_free None (Some t) r two free = subst (λ (ns : List Node). IsFreeSpace ns t.leaf) (sym r) free
  still_free (Some s) (Some t) r two free = record {
    in_tree = omega (arith, r.put.len, free.in_tree);
    is = contents_kept old new s.node s.leaf tree r t.leaf ∙ free.is;
    alone = parent_kept old new s.node s.leaf tree r t.leaf (λ e. omega (arith, two, e)) ∙ free.alone;
  }

  still_child : (s : Option Space) (k : ℕ) → IsFree old s → IsPut old s new → ((c : ℕ) × (parent_at old k ≡ Some c)) → (c : ℕ) × (parent_at new k ≡ Some c)
  still_child None k free r said = (said.0, ap (λ (ns : List Node). parent_at ns k) r ∙ said.1)
  still_child (Some s) k free r said = (said.0, parent_kept old new s.node s.leaf tree r k (λ e. none_some (sym free.alone ∙ ap (parent_at old) (sym e) ∙ said.1)) ∙ said.1)

  pub free_yet : (spaces : Spaces) → IsPut old spaces.before new → AreTwo spaces.before spaces.behind → IsFree old spaces.behind → IsFree new spaces.behind
  free_yet spaces r two free = still_free spaces.before spaces.behind r two free

  -- the second's node is the last of both
  second_child : (s t : Option Space) → AreChildren old (node_of s ++ node_of t) → AreChildren old (node_of t)
  second_child None t h = h
  second_child (Some s) t h = λ k d l. h (suc k) d (omega (arith, l))

  pub children_yet : (spaces : Spaces) → IsFree old spaces.before → IsPut old spaces.before new → AreChildren old (nodes_of spaces) → AreChildren new (node_of spaces.behind)
  children_yet spaces free r h = λ k d l. still_child spaces.before (slice_index_or (node_of spaces.behind) k d) free r (second_child spaces.before spaces.behind h k d l)

-- both have come, one after the other
both_spaced : (old mid new : List Node) (s t : Option Space) → IsPut old s mid → IsPut mid t new → AreSpaced old (node_of s ++ node_of t) new
both_spaced old mid new None None r q = q ∙ r
both_spaced old mid new None (Some t) r q = (new, t.leaf, subst (λ (ns : List Node). StandsBefore ns new t.node t.leaf) r q, refl)
both_spaced old mid new (Some s) None r q = (mid, s.leaf, r, q)
both_spaced old mid new (Some s) (Some t) r q = (mid, s.leaf, r, (new, t.leaf, q, refl))

pub spaces_put : (old mid new : List Node) (spaces : Spaces) → IsPut old spaces.before mid → IsPut mid spaces.behind new → AreSpaced old (nodes_of spaces) new
spaces_put old mid new spaces r q = both_spaced old mid new spaces.before spaces.behind r q

-- Where a property has been replaced by another, the object stands where it stood, and the new one is the element that the old one was.
use Rattle.std.proofs.Common.{◌≡◌, ℕ, ◌+◌, true, List, [], ◌∷◌, ◌++◌, length, take, drop, filter, slice_get, slice_index, Some, refl, sym, ap, subst, ◌∙◌}
use Rattle.std.specs.List.{splice}
use Rattle.jsonc_text.specs.Plain.{Plain}
use Rattle.jsonc_tree.specs.OrderedTree.{Top}
use Rattle.jsonc_tree.specs.Tree.{Node, parent_at, children_at, place_at, IsTree}
use Rattle.jsonc_tree.proofs.Order.{parent_there}
use Rattle.jsonc_layout.specs.nodes.Kinds.{is_element, is_element_at}
use Rattle.jsonc_sound.specs.TreeChanges.{IsElement}
use Rattle.jsonc_edit.specs.Due.{listed}
use Rattle.jsonc_edit.specs.Put.{AreSpaced}
use Rattle.jsonc_edit.specs.Paths.{IsElementOf, IsAt}
use Rattle.jsonc_edit.specs.Reading.{layout_for}
use Rattle.jsonc_edit.proofs.Elements.{Some_same, StandsAt, stands_at}
use Rattle.jsonc_edit.proofs.ReplacedChildren.{InPlace, in_place}
use Rattle.jsonc_edit.proofs.NodesKept.{at_kept, filter_same}
use Rattle.jsonc_edit.proofs.NewPaths.{found_behind}
use Rattle.jsonc_edit.proofs.PathsKept.{at_still as still_at}
use Rattle.jsonc_edit.proofs.Spacing.{at_stays, elements_spaced}
use Rattle.jsonc_edit.proofs.Uniqueness.{element_parent}
use Rattle.jsonc_edit.specs.set.Giving.{due_after, property_top}
use Rattle.jsonc_edit.specs.set.Properties.{TakesPropertysPlace}

-- n, a child of c, has been replaced by m
module _ (old new : List Node) (tree : IsTree old) (n m c i : ℕ) (now : Top) (p : InPlace old new n m now) (element : IsElement now.content) (holds : IsElementOf old c i n) where
  said : parent_at old n ≡ Some c
  said = element_parent old tree c i n holds

  same_kind : (k : ℕ) → is_element_at new k ≡ is_element_at old k
  same_kind k = ap is_element (p.contents k)

  -- the way to c stays
  pub at_still : (path : List ℕ) → IsAt old path c → IsAt new path c
  at_still path at = still_at old new c tree (λ k there. p.contents k) (λ k there ne. p.children k (λ e. ne (Some_same k c (sym e ∙ said)))) path at

  -- and m is the element that n was
  pub element_now : IsElementOf new c i m
  element_now =
      let cs : List ℕ = children_at old c in
      let at : StandsAt (is_element_at old) cs i n = stands_at (is_element_at old) cs i n holds in
      let place : place_at old n ≡ at.0 = ap (place_at old) (sym at.2) ∙ tree.placed c at.0 at.1 in
      let front : List ℕ = take at.0 cs in
      let back : List ℕ = drop (at.0 + 1) cs in
      let kids : children_at new c ≡ front ++ m ∷ back = p.row c said ∙ ap (λ z. splice cs z (z + 1) (m ∷ [])) place in
      let kinds : filter (is_element_at new) front ≡ filter (is_element_at old) front = filter_same (is_element_at new) (is_element_at old) front (λ k h. same_kind (slice_index front k)) in
      let count : length (filter (is_element_at new) front) ≡ i = ap length kinds ∙ at.4 in
      let new_element : is_element_at new m ≡ true = subst IsElement (sym (ap (λ (t : Top). t.content) p.put)) element in
      ap (λ l. slice_get (filter (is_element_at new) l) i) kids
      ∙ subst (λ j. slice_get (filter (is_element_at new) (front ++ m ∷ back)) j ≡ Some m) count (found_behind (is_element_at new) front m back new_element)

-- spaces lead nowhere else
at_spaced : (xs : List ℕ) (old new : List Node) → IsTree old → AreSpaced old xs new → (path : List ℕ) (k : ℕ) → IsAt old path k → IsAt new path k
at_spaced [] old new tree e path k h = subst (λ ns. IsAt ns path k) (sym e) h
at_spaced (x ∷ xs) old new tree (now, leaf, s, rest) path k h = at_spaced xs now new s.tree rest path k (at_stays old now x leaf tree s path k h)

tree_spaced : (xs : List ℕ) (old new : List Node) → IsTree old → AreSpaced old xs new → IsTree new
tree_spaced [] old new tree e = subst IsTree (sym e) tree
tree_spaced (x ∷ xs) old new tree (now, leaf, s, rest) = tree_spaced xs now new s.tree rest

pub takes_propertys_place : (old new : List Node) (path : List ℕ) (c i n m : ℕ) (name : List ℕ) (v : Plain) → TakesPropertysPlace old new path c i n m name v
takes_propertys_place old new path c i n m name v tree at holds (h, told, g) =
    let there = (parent_there old tree n c (element_parent old tree c i n holds)).1 in
    let kept = g.prepared.keeps in
    let due : List ℕ = listed (due_after g.ready n v) in
    let spaced = tree_spaced due g.ready g.spaced g.prepared.tree g.spaces in
    let element : IsElementOf g.spaced c i n =
    ap (λ l. slice_get l i)
    (elements_spaced due g.ready g.spaced g.prepared.tree g.spaces c
    ∙ ap (filter (is_element_at g.ready)) (kept.children c there)
    ∙ filter_same (is_element_at g.ready) (is_element_at old) (children_at old c) (λ k l. ap is_element (kept.content (slice_index (children_at old c) k) (tree.in_tree c k l))))
    ∙ holds in
    let now : Top = property_top (layout_for old h n) name v in
    let p = in_place g.spaced new n m now g.place in (
      at_still g.spaced new spaced n m c i now p refl element path (at_spaced due g.ready g.spaced g.prepared.tree g.spaces path c (at_kept old g.ready tree kept path c at)),
      element_now g.spaced new spaced n m c i now p refl element,
    )

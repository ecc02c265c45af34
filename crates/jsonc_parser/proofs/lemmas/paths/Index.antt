-- The number that a property answers is its number among the elements of its object.
use Rattle.std.proofs.Common.{ℕ, suc, ◌≡◌, ◌<◌, ◌≤◌, ◌∙◌, sym, ap, subst, refl, Bool, true, false, List, [], ◌∷◌, filter, length, reverse, slice_index, take, inl, inr, arith}
use Rattle.std.proofs.lemmas.Bool.{cases_Bool}
use Rattle.std.proofs.lemmas.List.{get_or-take, length-take-le}
use Rattle.jsonc_text.specs.Options.{Options}
use Rattle.jsonc_tree.specs.Content.{Content, object, property}
use Rattle.jsonc_tree.specs.Order.{with_parent}
use Rattle.jsonc_tree.specs.OrderedTree.{ordered_tree}
use Rattle.jsonc_tree.specs.Tree.{Node, content_at, children_at, place_at, IsTree}
use Rattle.jsonc_layout.specs.nodes.Kinds.{is_element, is_element_at, is_property}
use Rattle.jsonc_layout.specs.nodes.Siblings.{siblings_before}
use Rattle.jsonc_sound.specs.Alone.{RowAlone}
use Rattle.jsonc_sound.specs.Rows as rows
use Rattle.jsonc_sound.specs.SoundTrees.{SoundTree}
use Rattle.jsonc_sound.proofs.NodesAlone.{value_alone}
use Rattle.jsonc_sound.proofs.HeldValues.{document_held}
use Rattle.jsonc_sound.proofs.SeamStretches.{parted_row}
use Rattle.jsonc_edit.specs.Changes.{top_at}
use Rattle.jsonc_edit.specs.Paths.{IsAt, IsElementOf}
use Rattle.jsonc_edit.proofs.Elements.{found_among, stands_at, taken, left}
use Rattle.jsonc_edit.proofs.Uniqueness.{element_parent}
use Rattle.jsonc_edit.proofs.lemmas.set.PropertyRows.{inside_of, object_row, parted, property_here}
use Rattle.jsonc_cst.proofs.NodePaths.{counted_back}
use Rattle.jsonc_tree.specs.Tree.{IsOver}
use Rattle.jsonc_sound.specs.TreeChanges.{DocumentChanged}
use Rattle.jsonc_edit.proofs.ChangesUpward.{changed_over}

-- two tests that agree in a list keep as many
same_kept : (p q : ℕ → Bool) (xs : List ℕ) → ((k : ℕ) → k < length xs → p (slice_index xs k) ≡ q (slice_index xs k)) → filter p xs ≡ filter q xs
same_kept p q [] h = refl
same_kept p q (x ∷ xs) h =
    elim (cases_Bool (q x)) [
      | inl is ↦ taken p x xs (h 0 (omega arith) ∙ is) ∙ ap (λ l. x ∷ l) (same_kept p q xs (λ k s. h (suc k) (omega (arith, s)))) ∙ sym (taken q x xs is)
      | inr other ↦ left p x xs (h 0 (omega arith) ∙ other) ∙ same_kept p q xs (λ k s. h (suc k) (omega (arith, s))) ∙ sym (left q x xs other)
    ]

same_taken : (p q : ℕ → Bool) (xs : List ℕ) (n : ℕ) → n ≤ length xs → ((k : ℕ) → k < length xs → p (slice_index xs k) ≡ q (slice_index xs k)) → filter p (take n xs) ≡ filter q (take n xs)
same_taken p q xs n within h =
    same_kept p q (take n xs) (λ k less.
    (let len : length (take n xs) ≡ n = length-take-le n xs within in
    let short : k < n = omega (arith, less, len) in
    let here : slice_index (take n xs) k ≡ slice_index xs k = get_or-take n xs k 0 short in
    ap p here ∙ h k (omega (arith, short, within)) ∙ sym (ap q here)))

-- a node at a path may be said to be replaced by itself (as jsonc_insert/proofs/lemmas/named/PathValues.antt says)
gives_way_to_itself : (ns : List Node) → IsTree ns → (path : List ℕ) (n : ℕ) → IsAt ns path n → DocumentChanged (top_at ns n) (top_at ns n) path (ordered_tree ns 0) (ordered_tree ns 0)
gives_way_to_itself ns tree path n at =
    changed_over ns ns n (record { tree = tree; content = λ k ne. refl; children = λ k ne. refl }) tree refl n IsOver.itself (λ element. element) path at

abbrev is_property_at : List Node → ℕ → Bool
is_property_at ns n = is_property (content_at ns n)

property_element : (c : Content) → is_property c ≡ true → is_element c ≡ true
property_element property e = refl
property_element c e = cc

module _ (o : Options) (ns : List Node) (tree : IsTree ns) (sound : SoundTree o (ordered_tree ns 0)) (path : List ℕ) (c : ℕ) (at : IsAt ns path c) (is : content_at ns c ≡ object) where
  -- each element of an object is a property
  all_properties : (i k : ℕ) → IsElementOf ns c i k → is_element_at ns k ≡ true → content_at ns k ≡ property
  all_properties i k e element =
      let row = object_row o is (value_alone o (document_held o (gives_way_to_itself ns tree path c at) sound.shaped).1) in
      let near = parted ns tree k c (element_parent ns tree c i k e) in
      let within = inside_of near.front (top_at ns k) near.back row.row element (sym near.is ∙ row.is) in
      property_here element (parted_row o rows.of_properties within.front (subst (RowAlone o rows.of_properties rows.nothing_yet) within.joined row.alone)).2

  same_test : (k : ℕ) → k < length (children_at ns c) → is_property_at ns (slice_index (children_at ns c) k) ≡ is_element_at ns (slice_index (children_at ns c) k)
  same_test k h =
      let m : ℕ = slice_index (children_at ns c) k in
      elim (cases_Bool (is_element_at ns m)) [
        | inl element ↦ ap is_property (all_properties (length (filter (is_element_at ns) (take k (children_at ns c)))) m (found_among (is_element_at ns) (children_at ns c) k h element) element) ∙ sym element
        | inr other ↦
            elim (cases_Bool (is_property_at ns m)) [
              | inl p ↦ absurd (let wrong : true ≡ false = sym (property_element (content_at ns m) p) ∙ other in cc)
              | inr q ↦ q ∙ sym other
            ]
      ]

  -- so many properties are before it
  pub counted_before : (i r : ℕ) → IsElementOf ns c i r → length (filter (is_property_at ns) (siblings_before ns r)) ≡ i
  counted_before i r e =
      let xs : List ℕ = children_at ns c in
      let s = stands_at (is_element_at ns) xs i r e in
      let place : place_at ns r ≡ s.0 = sym (ap (place_at ns) s.2) ∙ tree.placed c s.0 s.1 in
      let row : siblings_before ns r ≡ reverse (take s.0 xs) =
      ap (λ p. reverse (take (place_at ns r) (with_parent p (children_at ns)))) (element_parent ns tree c i r e) ∙ ap (λ k. reverse (take k xs)) place in
      ap (λ l. length (filter (is_property_at ns) l)) row
      ∙ counted_back (is_property_at ns) (take s.0 xs)
      ∙ ap length (same_taken (is_property_at ns) (is_element_at ns) xs s.0 (omega (arith, s.1)) same_test)
      ∙ s.4

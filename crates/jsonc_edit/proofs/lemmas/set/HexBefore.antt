-- Where a hexadecimal number is seen before a value of a sound document, it is what is printed last before it.
use Rattle.std.proofs.Common.{◌≡◌, ◌∙◌, ℕ, sym, ap, subst, refl, true, false, List, reverse, take, Option, Some, None}
use Rattle.jsonc_text.specs.Options.{Options}
use Rattle.jsonc_tree.specs.Content.{Content}
use Rattle.jsonc_tree.specs.Order.{with_parent}
use Rattle.jsonc_tree.specs.OrderedTree.{more, leaves, ordered_tree}
use Rattle.jsonc_tree.specs.Tree.{Node, content_at, children_at, parent_at, place_at, IsTree}
use Rattle.jsonc_layout.specs.lines.Kinds.{is_array_or_object}
use Rattle.jsonc_sound.specs.Adjacent.{last_printed, or_else}
use Rattle.jsonc_sound.specs.Booleans.{is_hex_leaf}
use Rattle.jsonc_sound.specs.SoundTrees.{SoundTree}
use Rattle.jsonc_sound.proofs.NodesAlone.{document_alone}
use Rattle.jsonc_sound.proofs.Spaces.{last_append}
use Rattle.jsonc_edit.specs.Changes.{row_below}
use Rattle.jsonc_edit.specs.Due.{nearest, seen_before}
use Rattle.jsonc_edit.specs.Paths.{IsAt}
use Rattle.jsonc_edit.specs.Seams.{StandsBetween}
use Rattle.jsonc_edit.specs.set.Booleans.{is_hex_at}
use Rattle.jsonc_edit.proofs.LeavesAroundNodes as between
use Rattle.jsonc_edit.proofs.SeamsAround.{row_around}
use Rattle.jsonc_edit.proofs.Uniqueness.{element_parent}
use Rattle.jsonc_edit.proofs.ValuePlaces.{HeldAt, by_root, by_array, by_property, held_at}
use Rattle.jsonc_edit.proofs.lemmas.commas.Holders.{property_alone, value_at_path}
use Rattle.jsonc_edit.proofs.lemmas.commas.NoneLeft.{root_is}
use Rattle.jsonc_edit.proofs.lemmas.set.HexRows.{Flat, a_leaf, more_flat, array_row, array_flat, flat_before, property_flat, root_flat, hex_seen}

hex_first : (x y : Option Content) → is_hex_leaf x ≡ true → is_hex_leaf (or_else x y) ≡ true
hex_first None y e = let wrong : false ≡ true = e in cc
hex_first (Some c) y e = e

-- the row that a value stands in
record InRow (ns : List Node) (n : ℕ) : Type 0 where
  holder : ℕ
  said : parent_at ns n ≡ Some holder
  flat : Flat (row_below ns holder)

module _ (o : Options) (ns : List Node) (tree : IsTree ns) (sound : SoundTree o (ordered_tree ns 0)) where
  in_root : Flat (row_below ns 0)
  in_root = let (row, same, alone) = document_alone o sound.shaped in subst Flat (sym (root_is ns row same)) (root_flat o alone)

  in_row : (n : ℕ) → HeldAt ns n → InRow ns n
  in_row n (by_root e) = record { holder = 0; said = element_parent ns tree 0 0 n e; flat = in_root }
  in_row n (by_array p i path at is e) =
      let row = array_row o is (value_at_path o ns tree sound path p at) in
      record { holder = p; said = element_parent ns tree p i n e; flat = subst Flat (sym row.1) (more_flat (a_leaf refl) (array_flat o row.2)) }
  in_row n (by_property p r i path at is e held) =
      let alone = property_alone o ns tree sound path p r at (ap is_array_or_object is) (element_parent ns tree p i r e) held.0 in
      record { holder = r; said = element_parent ns tree r 1 n held.1; flat = property_flat o alone }

  pub hex_before : (path : List ℕ) (n : ℕ) → IsAt ns path n → (f b : List Content) → StandsBetween ns n f b → is_hex_at ns (seen_before ns n) ≡ true → is_hex_leaf (last_printed f) ≡ true
  hex_before path n at f b s e =
      let r : InRow ns n = in_row n (held_at ns path n at) in
      let w = between.within ns tree n r.holder f b r.said s in
      let flat : Flat w.front = flat_before w.front (more (content_at ns n) (row_below ns n) w.back) (subst Flat (row_around ns tree n r.holder w.front w.back r.said w.before w.behind) r.flat) in
      let seen : seen_before ns n ≡ nearest ns (reverse (take (place_at ns n) (children_at ns r.holder))) = ap (λ p. nearest ns (reverse (take (place_at ns n) (with_parent p (children_at ns))))) r.said in
      let own : is_hex_leaf (last_printed (leaves w.front)) ≡ true = hex_seen ns w.before flat ∙ ap (is_hex_at ns) (sym seen) ∙ e in
      ap (λ l. is_hex_leaf (last_printed l)) w.first ∙ ap is_hex_leaf (last_append w.g (leaves w.front)) ∙ hex_first (last_printed (leaves w.front)) (last_printed w.g) own

-- A property that stands in the document between leaves does so in its ordered tree.
use Rattle.std.proofs.Common.{◌≡◌, ℕ, List, ◌++◌, subst}
use Rattle.jsonc_tree.specs.Content.{Content, object, property}
use Rattle.jsonc_tree.specs.OrderedTree.{ordered_tree}
use Rattle.jsonc_tree.specs.Tree.{Node, content_at, IsTree}
use Rattle.jsonc_edit.specs.Changes.{row_below}
use Rattle.jsonc_edit.specs.Paths.{IsAt, IsElementOf}
use Rattle.jsonc_edit.specs.Seams.{StandsBetween}
use Rattle.jsonc_edit.specs.SeamPlaces.{RowHolds, DocumentHolds}
use Rattle.jsonc_edit.specs.SeamEntries.{PropertyHolds}
use Rattle.jsonc_edit.proofs.PathPlaces.{AtBetween, at_between, ElementBetween, element_between, stands_once}

module _ (ns : List Node) (tree : IsTree ns) (path : List ℕ) (c i r : ℕ) (at : IsAt ns path c) (element : IsElementOf ns c i r) where
  place : AtBetween ns tree path c
  place = at_between ns tree path c at

  inside : ElementBetween ns tree c i r place.first place.last
  inside = element_between ns tree c i r place.first place.last element place.stands

  -- where it stands
  pub property_front : List Content
  property_front = place.first ++ inside.first

  pub property_back : List Content
  property_back = inside.last ++ place.last

  pub property_stands : StandsBetween ns r property_front property_back
  unfolding property_front property_back
  property_stands = inside.stands

  pub property_holds : content_at ns c ≡ object → content_at ns r ≡ property → (f b : List Content) → StandsBetween ns r f b → PropertyHolds (row_below ns r) path i (ordered_tree ns 0) f b
  property_holds is named f b s =
      let same = stands_once ns tree r f b (place.first ++ inside.first) (inside.last ++ place.last) s inside.stands in
      record {
        row = row_below ns c;
        before = place.first;
        ahead = inside.first;
        beyond = inside.last;
        behind = place.last;
        holder = subst (λ (w : Content). DocumentHolds (record { content = w; below = row_below ns c }) path (ordered_tree ns 0) place.first place.last) is place.holds;
        property = subst (λ (w : Content). RowHolds (record { content = w; below = row_below ns r }) i (row_below ns c) inside.first inside.last) named inside.holds;
        first = same.0;
        last = same.1;
      }

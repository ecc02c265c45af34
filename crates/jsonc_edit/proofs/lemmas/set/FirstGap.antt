-- The gap of the root's row that a first value comes into.
use Rattle.std.proofs.Common.{◌≡◌, ◌==◌, ℕ, suc, Bool, true, false, not, cond, List, length, reverse, slice_get, slice_index, take, Option, Some, None, is_some, inl, inr, sym, ap, subst, ◌∙◌, ◌<◌, arith}
use Rattle.std.proofs.lemmas.Bool.{cases_lt, eq-eqb, ne_eqb}
use Rattle.std.proofs.lemmas.List.{take_all}
use Rattle.std.proofs.lemmas.Option.{slice_get-get_or, slice_get_past}
use Rattle.jsonc_tree.specs.Building.{Keeps}
use Rattle.jsonc_tree.specs.Order.{with_parent}
use Rattle.jsonc_tree.specs.Siblings.{before, first, siblings_before, IsGap}
use Rattle.jsonc_tree.specs.Tree.{Node, children_at, place_at, IsTree}
use Rattle.jsonc_tree.proofs.Gaps.{at_named, at_placed}
use Rattle.jsonc_tree.proofs.LinkSteps.{some_at}
use Rattle.jsonc_tree.proofs.Order.{parent_there}
use Rattle.jsonc_layout.specs.nodes.Kinds.{is_newline_at}
use Rattle.jsonc_edit.specs.Comments.{newline_from}
use Rattle.jsonc_edit.specs.Due.{nearest, seen_before, seen_last}
use Rattle.jsonc_edit.specs.set.RootSet.{first_place}
use Rattle.jsonc_edit.proofs.BlanksBefore.{newline_here}
use Rattle.jsonc_edit.proofs.RowEnds.{before_some, last_back, last_is}
use Rattle.jsonc_edit.proofs.SpacePlaces.{gap_before}

turned : (a b : Bool) → a ≡ not b → b ≡ not a
turned a true e = sym (ap not e)
turned a false e = sym (ap not e)

module _ (ns : List Node) (tree : IsTree ns) where
  abbrev row : List ℕ
  row = children_at ns 0

  -- nothing stands in it
  pub gap_of_none : first (reverse row) ≡ None → IsGap ns 0 (first_place ns) None None
  gap_of_none e =
      let none : length row ≡ 0 =
      elim (cases_lt 0 (length row)) [
        | inl some ↦ absurd (before_some ns tree 0 (length row) some (omega arith) (sym (last_back ns tree 0) ∙ e))
        | inr all ↦ omega arith
      ] in
      let place : first_place ns ≡ 0 = ap (newline_from ns row) none in
      record {
        inside = omega (arith, place);
        front = sym (ap (before row) place);
        back = sym (slice_get_past row (first_place ns) (omega (arith, none)));
      }

  module _ (n : ℕ) (last : first (reverse row) ≡ Some n) where
    end : length row ≡ suc (place_at ns n)
    end = omega (arith, (last_is ns tree 0 n last).1)

    here : slice_index row (place_at ns n) ≡ n
    here = tree.found n 0 (last_is ns tree 0 n last).0

    place_by : (b : Bool) → is_newline_at ns n ≡ b → first_place ns ≡ cond b (place_at ns n) (suc (place_at ns n))
    place_by b e = newline_here ns row (length row) (place_at ns n) b end (ap (is_newline_at ns) here ∙ e)

    pub last_there : n < length ns
    last_there = (parent_there ns tree n 0 (last_is ns tree 0 n last).0).0

    -- behind them all
    pub gap_at_end : is_newline_at ns n ≡ false → IsGap ns 0 (first_place ns) (Some n) None
    gap_at_end e =
        let place : first_place ns ≡ length row = place_by false e ∙ sym end in
        record {
          inside = omega (arith, place);
          front = sym (ap (before row) place ∙ sym (last_back ns tree 0) ∙ last);
          back = sym (slice_get_past row (first_place ns) (omega (arith, place)));
        }

    -- before the last of them
    pub gap_at_newline : is_newline_at ns n ≡ true → (o : Option ℕ) → o ≡ first (siblings_before ns n) → IsGap ns 0 (first_place ns) o (Some n)
    gap_at_newline e o said =
        let place : first_place ns ≡ place_at ns n = place_by true e in
        let gap : IsGap ns 0 (place_at ns n) o (Some n) = gap_before ns tree n 0 o (last_is ns tree 0 n last).0 said in
        subst (λ k. IsGap ns 0 k o (Some n)) (sym place) gap

  -- what stands before a gap, the nearest first
  pub before_node : (n g : ℕ) (b : Option ℕ) → IsGap ns 0 g b (Some n) → seen_before ns n ≡ nearest ns (reverse (take g row))
  before_node n g b gap =
      let named = at_named ns tree 0 g n (sym gap.back) in
      ap (nearest ns) (ap (λ o. reverse (take (place_at ns n) (with_parent o (children_at ns)))) named ∙ ap (λ k. reverse (take k row)) (at_placed ns tree 0 g n (sym gap.back)))

  pub before_end : (g : ℕ) (b : Option ℕ) → IsGap ns 0 g b None → seen_last ns 0 ≡ nearest ns (reverse (take g row))
  before_end g b gap =
      elim (cases_lt g (length row)) [
        | inl lt ↦ absurd (some_at row g lt (sym gap.back))
        | inr all ↦ ap (λ (l : List ℕ). nearest ns (reverse l)) (sym (take_all g row all))
      ]

  -- whether nothing stands behind it
  pub none_behind : (g : ℕ) (b a : Option ℕ) (none : Bool) → is_some a ≡ not none → IsGap ns 0 g b a → none ≡ (g == length row)
  none_behind g b a none e gap =
      turned (is_some a) none e ∙
      elim (cases_lt g (length row)) [
        | inl lt ↦ ap (λ o. not (is_some o)) (gap.back ∙ slice_get-get_or row g 0 lt) ∙ sym (ne_eqb g (length row) (λ e. omega (arith, e, lt)))
        | inr all ↦ ap (λ o. not (is_some o)) (gap.back ∙ slice_get_past row g all) ∙ sym (eq-eqb g (length row) (omega (arith, gap.inside)))
      ]

-- a gap of the root's row is one still where nodes were added
pub gap_kept : (old new : List Node) → IsTree old → Keeps (length old) old new → (g : ℕ) (b a : Option ℕ) → IsGap old 0 g b a → IsGap new 0 g b a
gap_kept old new tree keeps g b a gap =
    let same : children_at new 0 ≡ children_at old 0 = keeps.children 0 tree.first in
    record {
      inside = omega (arith, gap.inside, ap length same);
      front = gap.front ∙ sym (ap (λ l. before l g) same);
      back = gap.back ∙ sym (ap (λ l. slice_get l g) same);
    }

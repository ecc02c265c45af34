-- The leaves of a gap, one after another.
use Rattle.std.proofs.Common.{ℕ, ◌≡◌, ◌≤◌, ◌∙◌, subst, refl, arith, List, IsCharBoundary}
use Rattle.jsonc_text.specs.Gaps as gaps
use Rattle.jsonc_text.specs.Gaps.{Gap}
use Rattle.jsonc_text.specs.Options.{Options}
use Rattle.jsonc_text.specs.Text.{rest}
use Rattle.jsonc_text.proofs.Gaps.{gap_append}
use Rattle.jsonc_tree.specs.Growing.{IsGrowing, container_of, nodes_so_far}
use Rattle.jsonc_tree.specs.OrderedTree as ordered
use Rattle.jsonc_tree.specs.OrderedTree.{OrderedTree}
use Rattle.jsonc_tree.specs.declared.growing.Growing.{Growing}
use Rattle.jsonc_sound.specs.Leaves.{Fills, end}
use Rattle.jsonc_build.specs.Growth.{AddsLeaf, Grows}
use Rattle.jsonc_build.specs.Laid.{FillsGap}
use Rattle.jsonc_build.proofs.AddedChildren.{grows_append, grows_leaf, grows_none}
use Rattle.jsonc_build.proofs.GapLeaves.{fills_snoc}

-- the leaves so far
pub record FilledTo {A : Type 0} (o : Options) (old now : Growing A) (text : List ℕ) (from place : ℕ) : Type 0 where
  pub first : IsCharBoundary text from
  pub boundary : IsCharBoundary text place
  pub order : from ≤ place
  pub gap : Gap o (rest text from) (rest text place)
  pub before : IsGrowing old
  pub growing : IsGrowing now
  pub same : container_of now ≡ container_of old
  pub row : OrderedTree
  pub grows : Grows (nodes_so_far old) (nodes_so_far now) (container_of old) row
  pub fills : Fills (rest text from) row (rest text place)

module _ {A : Type 0} (o : Options) (text : List ℕ) (from : ℕ) where
  pub none_filled : (old : Growing A) → IsCharBoundary text from → IsGrowing old → FilledTo o old old text from from
  none_filled old b growing = record {
    first = b;
    boundary = b;
    order = omega arith;
    gap = gaps.none;
    before = growing;
    growing = growing;
    same = refl;
    row = ordered.none;
    grows = grows_none (nodes_so_far old) (container_of old);
    fills = end;
  }

  pub more_filled : (old now new : Growing A) (place next : ℕ) → FilledTo o old now text from place → AddsLeaf (nodes_so_far now) (nodes_so_far new) (container_of now) text place next → Gap o (rest text place) (rest text next) → container_of new ≡ container_of now → IsGrowing new
      → FilledTo o old new text from next
  more_filled old now new place next held added gap same growing = record {
    first = held.first;
    boundary = added.leaf.boundary;
    order = omega (arith, held.order, added.leaf.order);
    gap = gap_append held.gap gap;
    before = held.before;
    growing = growing;
    same = same ∙ held.same;
    row = ordered.followed_by held.row (ordered.more added.content ordered.none ordered.none);
    grows = grows_append held.before.in_tree held.grows (subst (λ n. Grows (nodes_so_far now) (nodes_so_far new) n (ordered.more added.content ordered.none ordered.none)) held.same (grows_leaf held.growing.in_tree added.pushes));
    fills = fills_snoc held.fills added.leaf.leaf;
  }

  pub ends_filled : (old now : Growing A) (place : ℕ) → FilledTo o old now text from place → FillsGap (nodes_so_far old) (nodes_so_far now) (container_of old) text from place
  ends_filled old now place held = (held.row, held.grows, record { spans = record { from = held.first; to = held.boundary; order = held.order }; fills = held.fills })

-- A second sort by the same order changes no node.
use Rattle.std.proofs.Common.{◌≡◌, ℕ, ◌<◌, Bool, true, false, not, ◌&&◌, inl, inr, List, [], length, slice_index, IsTrue, Option, None, refl, sym, ap, subst, ◌∙◌, arith}
use Rattle.std.specs.Cmp.{IsStrictWeakOrder}
use Rattle.std.proofs.lemmas.Bool.{cases_Bool, false≢true}
use Rattle.std.proofs.lemmas.List.{get_or-map, length-map}
use Rattle.jsonc_tree.specs.Content.{Content}
use Rattle.jsonc_tree.specs.OrderedTree.{Top}
use Rattle.jsonc_tree.specs.Tree.{Node}
use Rattle.jsonc_layout.specs.nodes.Siblings.{elements_at}
use Rattle.jsonc_edit.specs.Changes.{top_at}
use Rattle.jsonc_edit.specs.remove.Removed.{has_brackets}
use Rattle.jsonc_sort.specs.ordering.Order.{comes_before, node_in, option_before, IsOrderedBy}
use Rattle.jsonc_sort.proofs.lemmas.ordering.Before.{before_order}
use Rattle.jsonc_sort.specs.Rearranged.{moves, Rearranged}
use Rattle.jsonc_sort.specs.Sorting.{Headers, is_unchanged}
use Rattle.jsonc_sort.proofs.Orders.{order_unchanged}
use Rattle.jsonc_sort.proofs.PlannedRow.{order_below, order_long}
use Rattle.jsonc_sort.proofs.SortedRow.{has_both}
use Rattle.jsonc_sort.specs.again.Again.{by_texts, text_of_top, top_if, tops_asked, ElementsCome, IsInOrderOf, SortsOnce, SortsTextsOnce}
use Rattle.jsonc_sort.proofs.lemmas.again.ElementsRead.{comes_in_order}
use Rattle.jsonc_sort.proofs.lemmas.groups.SettledOrder.{stays_put}

-- in one group the nodes alone are compared
by_nodes : {N : Type 0} (lt : N → N → Bool) (nodes : List (Option N)) (i j : ℕ) → comes_before lt nodes [] i j ≡ option_before lt (node_in nodes i) (node_in nodes j)
by_nodes lt nodes i j = refl

no_brackets : (a b : Bool) → a ≡ false → (a && not b) ≡ false
no_brackets a b e = ap (λ x. x && not b) e

module _ (lt : Top → Top → Bool) (asked : Content → Bool) (old now : List Node) (c : ℕ) (order : List ℕ) (o : IsStrictWeakOrder lt) (first : IsInOrderOf lt asked old c order) (come : ElementsCome old now c order) where
  abbrev was : List ℕ
  was = elements_at old c

  abbrev n : ℕ
  n = length was

  abbrev asked_top : Top → Option Top
  asked_top t = top_if (asked t.content) t

  long : length order ≡ n
  long = order_long n order first.all

  count : length (elements_at now c) ≡ n
  count = ap length come.elements ∙ length-map order (slice_index was) ∙ long

  -- what stands at a place now stood at the place that the order names
  read : (i : ℕ) → i < n → node_in (tops_asked asked now c) i ≡ node_in (tops_asked asked old c) (slice_index order i)
  read i lt' =
      let below : slice_index order i < n = order_below n order first.all i (omega (arith, lt', long)) in
      let at : slice_index (elements_at now c) i ≡ slice_index was (slice_index order i) =
      ap (λ (l : List ℕ). slice_index l i) come.elements ∙ get_or-map (slice_index was) order i 0 0 (omega (arith, lt', long)) in
      get_or-map (λ m. asked_top (top_at now m)) (elements_at now c) i 0 None (omega (arith, lt', count))
      ∙ ap (λ (m : ℕ). asked_top (top_at now m)) at ∙ ap asked_top (come.same (slice_index order i) below)
      ∙ sym (get_or-map (λ m. asked_top (top_at old m)) was (slice_index order i) 0 None below)

  abbrev before : ℕ → ℕ → Bool
  before = comes_before lt (tops_asked asked old c) []

  abbrev after : ℕ → ℕ → Bool
  after = comes_before lt (tops_asked asked now c) []

  alike : (i j : ℕ) → i < n → j < n → after i j ≡ before (slice_index order i) (slice_index order j)
  alike i j li lj =
      by_nodes lt (tops_asked asked now c) i j
      ∙ ap (λ (x : Option Top). option_before lt x (node_in (tops_asked asked now c) j)) (read i li)
      ∙ ap (option_before lt (node_in (tops_asked asked old c) (slice_index order i))) (read j lj)
      ∙ sym (by_nodes lt (tops_asked asked old c) (slice_index order i) (slice_index order j))

  pub again_unchanged : (again : List ℕ) → IsInOrderOf lt asked now c again → true ≡ is_unchanged again
  again_unchanged again second =
      order_unchanged again (stays_put before after n order again (before_order lt o (tops_asked asked now c) []) first (subst (λ (m : ℕ). IsOrderedBy after m again) count second) alike)

-- where something moves now, the brackets were there before
had_brackets : (old now : List Node) (c : ℕ) (h : Headers) (order : List ℕ) → Rearranged old now c h order → IsTrue (has_brackets now c) → IsTrue (has_brackets old c)
had_brackets old now c h order made whole =
    elim (cases_Bool (has_brackets old c)) [
      | inl holds ↦ holds
      | inr fails ↦
          let same : now ≡ old = made.was (no_brackets (has_brackets old c) (is_unchanged order) fails) in
          absurd (false≢true (sym fails ∙ ap (λ (ns : List Node). has_brackets ns c) (sym same) ∙ whole))
    ]

pub sorts_once : (lt : Top → Top → Bool) (asked : Content → Bool) (old now new : List Node) (c : ℕ) (h k : Headers) (order again : List ℕ) → SortsOnce lt asked old now new c h k order again
sorts_once lt asked old now new c h k order again o tree there first made second more =
    elim (cases_Bool (moves now c again)) [
      | inl holds ↦
          let both = has_both now c again holds in
          let come : ElementsCome old now c order = comes_in_order old now c h order tree there (had_brackets old now c h order made both.0) first.all made in
          absurd (false≢true (sym both.1 ∙ sym (again_unchanged lt asked old now c order o first come again second)))
      | inr fails ↦ more.was fails
    ]

texts_order : (lt : List ℕ → List ℕ → Bool) → IsStrictWeakOrder lt → IsStrictWeakOrder (by_texts lt)
texts_order lt o = record {
  one_way = λ s t. o.one_way (text_of_top s) (text_of_top t);
  chain = λ s t u. o.chain (text_of_top s) (text_of_top t) (text_of_top u);
}

pub sorts_texts_once : (lt : List ℕ → List ℕ → Bool) (asked : Content → Bool) (old now new : List Node) (c : ℕ) (h k : Headers) (order again : List ℕ) → SortsTextsOnce lt asked old now new c h k order again
sorts_texts_once lt asked old now new c h k order again o = sorts_once (by_texts lt) asked old now new c h k order again (texts_order lt o)

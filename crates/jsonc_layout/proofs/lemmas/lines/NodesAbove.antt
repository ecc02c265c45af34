-- The nodes above a node, a step.
use Rattle.std.proofs.Common.{◌≡◌, ℕ, suc, ◌<◌, true, false, cond, eqb, List, [], ◌∷◌, length, Option, None, Some, IfSome, refl, ap, sym, subst, ◌∙◌, arith}
use Rattle.std.proofs.lemmas.Bool.{ne_eqb}
use Rattle.jsonc_tree.specs.Order.{upward}
use Rattle.jsonc_tree.specs.Tree.{Node, content_at, parent_at, IsTree}
use Rattle.jsonc_tree.proofs.Order.{levels, one_more, levels_parent, upward_is, upward_none}
use Rattle.jsonc_layout.specs.nodes.Kinds.{is_property}
use Rattle.jsonc_layout.specs.lines.Indents.{beyond_properties, is_some_property, levels_among}

module _ (ns : List Node) (tree : IsTree ns) where
  -- the parent is nearer to the top
  pub climb_smaller : (next : Option ℕ) (at : ℕ) (parent : Option ℕ) → next ≡ Some at → parent ≡ parent_at ns at → one_more parent (levels (length ns) ns) < one_more next (levels (length ns) ns)
  climb_smaller next at parent is said = subst (λ o. one_more parent (levels (length ns) ns) < one_more o (levels (length ns) ns)) (sym is) (smaller parent said)
    where
      smaller : (o : Option ℕ) → o ≡ parent_at ns at → one_more o (levels (length ns) ns) < suc (levels (length ns) ns at)
      smaller None e = omega arith
      smaller (Some c) e = omega (arith, levels_parent ns tree at c (sym e))

  pub there_at : (next : Option ℕ) (at : ℕ) → next ≡ Some at → IfSome next (λ m. m < length ns) → at < length ns
  there_at next at is there = subst (λ o. IfSome o (λ m. m < length ns)) is there

  -- the nodes from here up
  pub climb : (next : Option ℕ) (at : ℕ) (parent : Option ℕ) → next ≡ Some at → IfSome next (λ m. m < length ns) → parent ≡ parent_at ns at → upward ns next ≡ at ∷ upward ns parent
  climb next at parent is there said =
      ap (upward ns) is ∙ upward_is ns tree at (there_at next at is there) ∙ ap (λ o. at ∷ upward ns o) (sym said)

  pub climbed : (next : Option ℕ) → next ≡ None → upward ns next ≡ []
  climbed next is = ap (upward ns) is ∙ upward_none ns tree

  pub beyond_on : (next : Option ℕ) (at : ℕ) (parent : Option ℕ) → next ≡ Some at → IfSome next (λ m. m < length ns) → parent ≡ parent_at ns at → is_property (content_at ns at) ≡ true → beyond_properties ns (upward ns next) ≡ beyond_properties ns (upward ns parent)
  beyond_on next at parent is there said e =
      ap (beyond_properties ns) (climb next at parent is there said)
      ∙ ap (λ b. cond b (beyond_properties ns (upward ns parent)) (at ∷ upward ns parent)) e

  pub beyond_here : (next : Option ℕ) (at : ℕ) → next ≡ Some at → IfSome next (λ m. m < length ns) → is_property (content_at ns at) ≡ false → beyond_properties ns (upward ns next) ≡ upward ns (Some at)
  beyond_here next at is there e =
      let up = climb next at (parent_at ns at) is there refl in
      ap (beyond_properties ns) up
      ∙ ap (λ b. cond b (beyond_properties ns (upward ns (parent_at ns at))) (at ∷ upward ns (parent_at ns at))) e
      ∙ sym up ∙ ap (upward ns) is

  pub beyond_none : (next : Option ℕ) → next ≡ None → beyond_properties ns (upward ns next) ≡ upward ns None
  beyond_none next is = ap (beyond_properties ns) (climbed next is) ∙ sym (upward_none ns tree)

  -- the levels from here up
  among_step : (next : Option ℕ) (at : ℕ) (parent : Option ℕ) → next ≡ Some at → IfSome next (λ m. m < length ns) → parent ≡ parent_at ns at → levels_among ns (upward ns next) ≡ cond (eqb at 0) [] (cond (is_some_property ns (parent_at ns at)) (levels_among ns (upward ns parent)) (at ∷ levels_among ns (upward ns parent)))
  among_step next at parent is there said = ap (levels_among ns) (climb next at parent is there said)

  pub among_root : (next : Option ℕ) (at : ℕ) → next ≡ Some at → IfSome next (λ m. m < length ns) → at ≡ 0 → levels_among ns (upward ns next) ≡ []
  among_root next at is there e =
      among_step next at (parent_at ns at) is there refl
      ∙ ap (λ k. cond (eqb k 0) [] (cond (is_some_property ns (parent_at ns at)) (levels_among ns (upward ns (parent_at ns at))) (at ∷ levels_among ns (upward ns (parent_at ns at))))) e

  pub among_over : (next : Option ℕ) (at : ℕ) (parent : Option ℕ) → next ≡ Some at → IfSome next (λ m. m < length ns) → parent ≡ parent_at ns at → (at ≡ 0 → ⊥) → is_some_property ns (parent_at ns at) ≡ true → levels_among ns (upward ns next) ≡ levels_among ns (upward ns parent)
  among_over next at parent is there said other e =
      among_step next at parent is there said
      ∙ ap (λ b. cond b [] (cond (is_some_property ns (parent_at ns at)) (levels_among ns (upward ns parent)) (at ∷ levels_among ns (upward ns parent)))) (ne_eqb at 0 other)
      ∙ ap (λ b. cond b (levels_among ns (upward ns parent)) (at ∷ levels_among ns (upward ns parent))) e

  pub among_here : (next : Option ℕ) (at : ℕ) (parent : Option ℕ) → next ≡ Some at → IfSome next (λ m. m < length ns) → parent ≡ parent_at ns at → (at ≡ 0 → ⊥) → is_some_property ns (parent_at ns at) ≡ false → levels_among ns (upward ns next) ≡ at ∷ levels_among ns (upward ns parent)
  among_here next at parent is there said other e =
      among_step next at parent is there said
      ∙ ap (λ b. cond b [] (cond (is_some_property ns (parent_at ns at)) (levels_among ns (upward ns parent)) (at ∷ levels_among ns (upward ns parent)))) (ne_eqb at 0 other)
      ∙ ap (λ b. cond b (levels_among ns (upward ns parent)) (at ∷ levels_among ns (upward ns parent))) e

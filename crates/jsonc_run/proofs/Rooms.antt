-- How many more containers and properties may be around a node, counted upward.
use Rattle.std.proofs.Common.{◌≡◌, ◌∙◌, ℕ, suc, ◌+◌, ◌<◌, ◌↔◌, Bool, true, false, cond, count_by, List, length, Option, Some, None, IfSome, sym, ap, subst, arith}
use Rattle.std.proofs.lemmas.List.Sums.{sum_by-cons}
use Rattle.jsonc_tree.specs.Order.{upward}
use Rattle.jsonc_tree.specs.Tree.{Node, parent_at, IsTree}
use Rattle.jsonc_layout.proofs.lemmas.lines.NodesAbove.{climb, climbed}
use Rattle.jsonc_edit.specs.Paths.{FindsExactly}
use Rattle.jsonc_run.specs.Depth.{is_nesting_at}
use Rattle.jsonc_run.specs.Edits.{PlainEdit}
use Rattle.jsonc_run.specs.Refusals.{IsTooDeep}

module _ (ns : List Node) (tree : IsTree ns) where
  -- how many nodes from one upward count
  abbrev pub counted : Option ℕ → ℕ
  counted next = count_by (is_nesting_at ns) (upward ns next)

  counted_from : (next : Option ℕ) (at : ℕ) (parent : Option ℕ) → next ≡ Some at → IfSome next (λ m. m < length ns) → parent ≡ parent_at ns at → counted next ≡ cond (is_nesting_at ns at) 1 0 + counted parent
  counted_from next at parent is there said =
      ap (count_by (is_nesting_at ns)) (climb ns tree next at parent is there said) ∙ sum_by-cons (λ m. cond (is_nesting_at ns m) 1 0) at (upward ns parent)

  pub counts_none : (next : Option ℕ) (at : ℕ) (parent : Option ℕ) → next ≡ Some at → IfSome next (λ m. m < length ns) → parent ≡ parent_at ns at → is_nesting_at ns at ≡ false → counted next ≡ counted parent
  counts_none next at parent is there said not_so = omega (arith, counted_from next at parent is there said ∙ ap (λ b. cond b 1 0 + counted parent) not_so)

  pub counts_one : (next : Option ℕ) (at : ℕ) (parent : Option ℕ) → next ≡ Some at → IfSome next (λ m. m < length ns) → parent ≡ parent_at ns at → is_nesting_at ns at ≡ true → counted next ≡ suc (counted parent)
  counts_one next at parent is there said so = omega (arith, counted_from next at parent is there said ∙ ap (λ b. cond b 1 0 + counted parent) so)

  pub counts_end : (next : Option ℕ) → next ≡ None → counted next ≡ 0
  counts_end next is = ap (count_by (is_nesting_at ns)) (climbed ns tree next is)

-- what is so of the node that was found is so at its place
pub found_there : (found : Option ℕ) (At P : ℕ → Type 0) (r : Bool) → FindsExactly found At → ((r ≡ true) ↔ ((n : ℕ) × (found ≡ Some n) × P n)) → (r ≡ true) ↔ ((n : ℕ) × At n × P n)
found_there found At P r finds told = (
  λ so. let h = told.0 so in (h.0, (finds h.0).0 h.1, h.2),
  λ h. told.1 (h.0, (finds h.0).1 h.1, h.2),
)

-- so it is by the path that is the edit's, and so of the edit
pub of_path : (r : Bool) (At : List ℕ → ℕ → Type 0) (P : ℕ → Type 0) {p q : List ℕ} → p ≡ q → (r ≡ true) ↔ ((n : ℕ) × At p n × P n) → (r ≡ true) ↔ ((n : ℕ) × At q n × P n)
of_path r At P path told = subst (λ l. (r ≡ true) ↔ ((n : ℕ) × At l n × P n)) path told

pub of_edit : (ns : List Node) (r : Bool) {e f : PlainEdit} → e ≡ f → ((r ≡ true) ↔ IsTooDeep ns f) → (r ≡ true) ↔ IsTooDeep ns e
of_edit ns r is told = subst (λ x. (r ≡ true) ↔ IsTooDeep ns x) (sym is) told

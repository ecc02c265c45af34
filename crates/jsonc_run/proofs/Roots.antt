-- What edits of the root make of a document: its value is set, or all leaves it.
use Rattle.std.proofs.Common.{◌≡◌, ℕ, Bool, List, [], ◌∷◌, length, filter, slice_get, Some, inl, inr, sym, ap, subst, ◌∙◌, arith}
use Rattle.std.proofs.lemmas.Bool.{cases_Bool}
use Rattle.std.proofs.lemmas.List.{drop_all}
use Rattle.std.specs.List.{find}
use Rattle.jsonc_tree.specs.Changes.{Splices}
use Rattle.jsonc_tree.specs.OrderedTree.{none, Shows, shows_none, ordered_tree}
use Rattle.jsonc_tree.specs.Tree.{Node, children_at, IsTree}
use Rattle.jsonc_layout.specs.nodes.Kinds.{is_element_at}
use Rattle.jsonc_layout.specs.nodes.Properties.{value_at, value_by}
use Rattle.jsonc_sound.specs.EntryLaws.{root_with}
use Rattle.jsonc_edit.specs.Changes.{row_below}
use Rattle.jsonc_edit.specs.Paths.{IsAt, itself}
use Rattle.jsonc_edit.proofs.Elements.{taken, left}
use Rattle.jsonc_edit.proofs.FittingFinds.{passes, fails, none_is_some}
use Rattle.jsonc_edit.proofs.ChangesUpward.{Shows-row_below, document_is}

-- what is found is the first that passes
module _ (test : ℕ → Bool) where
  first_found : (xs : List ℕ) (n : ℕ) → find test xs ≡ Some n → slice_get (filter test xs) 0 ≡ Some n
  first_found [] n e = none_is_some n e
  first_found (x ∷ xs) n e =
      elim (cases_Bool (test x)) [
        | inl h ↦ ap (λ l. slice_get l 0) (taken test x xs h) ∙ sym (passes test x xs h) ∙ e
        | inr h ↦ ap (λ l. slice_get l 0) (left test x xs h) ∙ first_found xs n (sym (fails test x xs h) ∙ e)
      ]

-- the root's value is what stands at the empty path
pub value_stands : (ns : List Node) → IsTree ns → (n : ℕ) → value_at ns 0 ≡ Some n → IsAt ns [] n
value_stands ns tree n e = (n, first_found (is_element_at ns) (children_at ns 0) n (sym (ap (λ w. value_by w ns 0) tree.root_first) ∙ e), itself)

pub root_is : (ns : List Node) → IsTree ns → ordered_tree ns 0 ≡ root_with (row_below ns 0)
root_is ns tree = sym (document_is ns tree (row_below ns 0) (Shows-row_below ns tree 0 tree.first))

-- a root that was cleared has no children
pub emptied : (old new : List Node) → Splices old new 0 0 (length (children_at old 0)) [] → children_at new 0 ≡ []
emptied old new s = s.children ∙ drop_all (length (children_at old 0)) (children_at old 0) (omega arith)

-- so nothing is left of the document
pub no_leaves : (ns : List Node) → IsTree ns → children_at ns 0 ≡ [] → ordered_tree ns 0 ≡ root_with none
no_leaves ns tree e = sym (document_is ns tree none (subst (λ (l : List ℕ). Shows ns l none) (sym e) shows_none))

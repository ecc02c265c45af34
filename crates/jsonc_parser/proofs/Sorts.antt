-- An array or object at a path that is sorted.
use Rattle.std.proofs.Common.{◌≡◌, ℕ, Bool, true, List, Result, Ok, Err, OnOk, OnErr, IfErr, IsTrue, length, refl, sym, subst}
use Rattle.std.specs.declared.cmp.Ordering.{Ordering}
use denote.Ref.{Bor}
use denote.Param.Members.{Shared}
use Rattle.jsonc_tree.specs.Building.{Keeps}
use Rattle.jsonc_tree.specs.OrderedTree.{ordered_tree}
use Rattle.jsonc_tree.specs.Tree.{Node, content_at}
use Rattle.jsonc_layout.specs.lines.Kinds.{is_array_or_object}
use Rattle.jsonc_text.specs.declared.edit.EditError.{EditError}
use Rattle.jsonc_text.specs.declared.edit.EditError.TheVariants.{OutOfMemory}
use Rattle.jsonc_sort.specs.Above.{PinsUnderBlankLines}
use Rattle.jsonc_sort.specs.Rearranged.{headers_of, IsOrderIn, Rearranged}
use Rattle.jsonc_run.specs.Edits.{Sorting, rearrange, EditStep}
use Rattle.jsonc_run.specs.Places.{IsContainerAt}
use Rattle.jsonc_run.specs.Refusals.{IsLeft, FailsWith, as_it_was}
use Rattle.jsonc_cst.specs.declared.cst.CstRootNode.{CstRootNode}
use Rattle.jsonc_cst.specs.declared.cst.node.CstNode.{CstNode}
use Rattle.jsonc_cst.specs.Document.{content_of, nodes_of, HasNode}
use Rattle.jsonc_cst.specs.Nodes.{number_of, typed_at}
use Rattle.jsonc_cst.proofs.Family.{number_of-typed}
use Rattle.jsonc_cst.specs.sorting.Asking.{IsInItsOrder}
use Rattle.jsonc_cst.specs.sorting.Pins.{pins_where}
use Rattle.jsonc_cst.specs.sorting.Sorted.{ContainerSorted}
use Rattle.jsonc_cst.proofs.lemmas.sorting.UnderBlankLines.{where_under}
use Rattle.jsonc_parser.specs.Lists.{IsSorting}

-- the node that is sorted is the one at the path
module _ {A : Type 0} (old : CstRootNode A) (path : List ℕ) (n : ℕ) (at : IsContainerAt (nodes_of old) path n) (container : CstNode) (is : container ≡ typed_at (nodes_of old) n) where
  numbered : number_of container ≡ n
  numbered = subst (λ (x : CstNode). number_of x ≡ n) (sym is) (number_of-typed (content_at (nodes_of old) n) n)

  pub holds_them : IsTrue (is_array_or_object (content_of old container))
  holds_them = subst (λ k. IsTrue (is_array_or_object (content_at (nodes_of old) k))) (sym numbered) at.1

  pub sort_told : {T : Type 0} (s : Sorting) (r : Result T EditError) → IfErr r (λ e. e ≡ OutOfMemory) → IfErr r (FailsWith (nodes_of old) (rearrange true path s.headers s.order))
  sort_told s (Ok x) memory = tt
  sort_told s (Err e) memory = subst (FailsWith (nodes_of old) (rearrange true path s.headers s.order)) (sym memory) (n, at, refl)

  module _ {C D : Type 0} (call : Shared C (Bor D × (CstNode × (CstNode × Unit {0}))) Ordering) (compare : C) (same : CstRootNode A → D) (new : CstRootNode A) (pin groups : Bool) where
    pub sort_made : {T E : Type 0} (r : Result T E) → OnOk r (ContainerSorted old new container pin groups (IsInItsOrder call compare (same old) (HasNode old)))
        → OnOk r ((s : Sorting) × IsSorting call compare same old path pin groups s × EditStep (nodes_of old) (rearrange true path s.headers s.order) (nodes_of new))
    sort_made (Err e) sorted = tt
    sort_made (Ok x) sorted =
        let h = subst (λ (node : CstNode). ContainerSorted old new node pin groups (IsInItsOrder call compare (same old) (HasNode old))) is sorted in
        let number = number_of-typed (content_at (nodes_of old) n) n in
        let headers = headers_of (pins_where old (typed_at (nodes_of old) n) pin) groups in (
          record { headers = headers; order = h.order },
          record { n = n; at = at; headers = refl; order = h.required },
          (n, at, (subst (λ k. IsOrderIn (nodes_of old) k h.order) number h.placed.all, subst (λ k. Rearranged (nodes_of old) (nodes_of new) k headers h.order) number h.placed.made, λ e. subst (λ k. PinsUnderBlankLines (nodes_of old) k headers) number (where_under old (typed_at (nodes_of old) n) pin))),
        )

pub sort_left : {T E : Type 0} (old : List Node) (path : List ℕ) (s : Sorting) (new : List Node) (r : Result T E) → OnErr r (Keeps (length old) old new) → OnErr r (ordered_tree new 0 ≡ ordered_tree old 0) → OnErr r (IsLeft old (rearrange true path s.headers s.order) new)
sort_left old path s new (Ok x) kept same = tt
sort_left old path s new (Err e) kept same = as_it_was kept same

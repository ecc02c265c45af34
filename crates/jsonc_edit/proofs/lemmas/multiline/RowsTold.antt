-- What holds of all leaves of a document, and of those that come into a row, holds of all leaves then.
use Rattle.std.proofs.Common.{◌∙◌, ℕ, ◌<◌, List, [], ◌∷◌, ◌++◌, length, ap, subst, sym}
use Rattle.jsonc_tree.specs.Content.{Content, token}
use Rattle.jsonc_tree.specs.OrderedTree.{OrderedTree, none, followed_by, leaves, own_leaf, ordered_tree}
use Rattle.jsonc_tree.specs.Tree.{Node, IsTree}
use Rattle.jsonc_tree.proofs.OrderedTrees.{leaves-followed_by}
use Rattle.jsonc_sound.specs.Rows.{RowKind, closing, opening}
use Rattle.jsonc_sound.specs.Shape.{token_then}
use Rattle.jsonc_sound.specs.TreeChanges.{leaves_of}
use Rattle.jsonc_sound.proofs.LeavesAround.{document_differs}
use Rattle.jsonc_sound.proofs.SeamRows.{container_leaves}
use Rattle.jsonc_edit.specs.Changes.{row_below, top_at}
use Rattle.jsonc_edit.specs.Paths.{IsAt}
use Rattle.jsonc_edit.specs.multiline.Laws.{bracketed}
use Rattle.jsonc_edit.specs.multiline.Multiline.{TakesRow}
use Rattle.jsonc_edit.specs.multiline.Slots.{Slot, stays, comes, row_in}
use Rattle.jsonc_edit.proofs.LayoutTold.{Each, each_around, each_both, each_first, each_second}
use Rattle.jsonc_edit.proofs.Standing.{standing}
use Rattle.jsonc_edit.proofs.lemmas.multiline.BracketedRows.{BracketedRow, row_taken}
use Rattle.jsonc_edit.proofs.lemmas.multiline.FilledRows.{AllFit, AllHold}

module _ (Q : Content → Type 0) where
  pub each_row : (ns : List Node) (slots : List Slot) → AllHold (λ n. Each Q (leaves_of (top_at ns n))) (λ content. Each Q (own_leaf content)) slots → Each Q (leaves (row_in ns slots))
  each_row ns [] h = tt
  each_row ns (stays n ∷ slots) h =
      let own : List Content = own_leaf (top_at ns n).content in
      let below : List Content = leaves (row_below ns n) in
      each_both Q own (below ++ leaves (row_in ns slots)) (each_first Q own below h.0) (each_both Q below (leaves (row_in ns slots)) (each_second Q own below h.0) (each_row ns slots h.1))
  each_row ns (comes content ∷ slots) h = each_both Q (own_leaf content) (leaves (row_in ns slots)) h.0 (each_row ns slots h.1)

  -- between the same brackets
  pub bracketed_so : (kind : RowKind) (row now : OrderedTree) → Each Q (leaves_of (bracketed kind row)) → Each Q (leaves now) → Each Q (leaves_of (bracketed kind now))
  bracketed_so kind row now h k =
      let close : OrderedTree = token_then (closing kind) none in
      let parts = λ (r : OrderedTree). container_leaves kind (followed_by r close) ∙ ap (λ l. token (opening kind) ∷ l) (leaves-followed_by r close) in
      let was : Each Q (token (opening kind) ∷ (leaves row ++ leaves close)) = subst (Each Q) (parts row) h in
      subst (Each Q) (sym (parts now)) (was.0, each_both Q (leaves now) (leaves close) k (each_second Q (leaves row) (leaves close) was.1))

  module _ (ns : List Node) (tree : IsTree ns) (c : ℕ) (there : c < length ns) {kind : RowKind} (b : BracketedRow ns c kind) (new : List Node) (path : List ℕ) (at : IsAt ns path c) where
    pub row_told : {slots : List Slot} → TakesRow ns new c slots → AllFit ns slots → AllHold (λ n. Each Q (leaves_of (top_at ns n))) (λ content. Each Q (own_leaf content)) slots → Each Q (leaves (ordered_tree ns 0))
        → Each Q (leaves (ordered_tree new 0))
    row_told {slots} r fit hold all =
        each_around Q (document_differs (row_taken ns tree c there b new r fit path at)) all (λ was. bracketed_so kind (standing ns b.inner) (row_in ns slots) was (each_row ns slots hold))

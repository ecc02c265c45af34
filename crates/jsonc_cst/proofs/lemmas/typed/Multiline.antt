-- Arrays and objects that are put on several lines: what becomes of a document and its nodes.
use Rattle.std.proofs.Common.{◌≡◌, ℕ, Bool, true, false, not, List, length, IsTrue, Result, Ok, Err, OnOk, OnErr, IfErr, inl, inr, refl, ap}
use Rattle.std.proofs.lemmas.Bool.{cases_Bool}
use Rattle.jsonc_text.specs.Options.{Options}
use Rattle.jsonc_tree.specs.Building.{Keeps}
use Rattle.jsonc_tree.specs.Tree.{Node, content_at, IsTree}
use Rattle.jsonc_layout.specs.lines.Kinds.{is_array_or_object}
use Rattle.jsonc_text.specs.declared.edit.EditError.{EditError}
use Rattle.jsonc_text.specs.declared.edit.EditError.TheVariants.{OutOfMemory, MissingBrackets, MissingName, NoSuchPlace, InvalidComment, LineContinues, NotAnEntry, NestingDepthExceeded}
use Rattle.jsonc_edit.proofs.lemmas.commas.Holders.{holder_path}
use Rattle.jsonc_edit.specs.multiline.Multiline.{has_line_end, IsUnspread, MadeMultiline}
use Rattle.jsonc_edit.proofs.lemmas.multiline.LineEnds.{has_end, has_its_brackets}
use Rattle.jsonc_cst.specs.declared.cst.CstRootNode.{CstRootNode}
use Rattle.jsonc_cst.specs.declared.cst.node.CstNode.{CstNode}
use Rattle.jsonc_cst.specs.Document.{nodes_of, tree_of}
use Rattle.jsonc_cst.specs.Nodes.{number_of}
use Rattle.jsonc_cst.specs.typed.Calls.{IsPutOnLines}
use Rattle.jsonc_cst.specs.typed.Edits.{Unchanged}
use Rattle.jsonc_cst.specs.typed.Removing.{OnlyOutOfMemory}
use Rattle.jsonc_cst.proofs.lemmas.typed.DetachedNodes.{spread_elsewhere}
use Rattle.jsonc_cst.proofs.lemmas.typed.HandlesKept.{Stays, nodes_stay, stay_both, stay_kept, stay_same, stay_spliced}
use Rattle.jsonc_cst.proofs.lemmas.typed.Steps.{ok_then, spread_step}

-- what is so is not otherwise
contradicts : (b : Bool) → IsTrue b → IsTrue (not b) → ⊥
contradicts true h k = let wrong : false ≡ true = k in cc
contradicts false h k = let wrong : false ≡ true = h in cc

module _ (old new : List Node) (n : ℕ) (before : IsTree old) (after : IsTree new) (holds : IsTrue (is_array_or_object (content_at old n))) where
  pub on_lines : {T E : Type 0} (r : Result T E) → OnOk r (MadeMultiline old new n) → OnOk r (IsTrue (has_line_end new n))
  on_lines (Ok x) made = has_end old new n before made
  on_lines (Err e) made = tt

  memory_alone : (o : Options) (e : EditError) → IsUnspread old n e → OnlyOutOfMemory o old n e
  memory_alone o OutOfMemory why = λ sound over. refl
  memory_alone o MissingBrackets why = λ sound over.
      let place = holder_path o old before sound n over holds in
      let has = has_its_brackets o old place.0 n before sound place.1 holds in
      absurd (contradicts _ has why)
  memory_alone o MissingName why = absurd why
  memory_alone o NoSuchPlace why = absurd why
  memory_alone o InvalidComment why = absurd why
  memory_alone o LineContinues why = absurd why
  memory_alone o NotAnEntry why = absurd why
  memory_alone o NestingDepthExceeded why = absurd why

  pub but_for_memory : {T : Type 0} (o : Options) (r : Result T EditError) → IfErr r (IsUnspread old n) → IfErr r (OnlyOutOfMemory o old n)
  but_for_memory o (Ok x) why = tt
  but_for_memory o (Err e) why = memory_alone o e why

  spread_stays : MadeMultiline old new n → Stays old new
  spread_stays made =
      elim (cases_Bool (has_line_end old n)) [
        | inl is ↦ stay_same old new (made.was is)
        | inr other ↦ let row = made.is (ap not other) in stay_both old row.ready new (stay_kept old row.ready row.prepared.keeps) (stay_spliced row.ready new _ _ _ _ row.put)
      ]

  pub nodes_spread : {T E : Type 0} (r : Result T E) → OnOk r (MadeMultiline old new n) → OnErr r (Keeps (length old) old new) → Stays old new
  nodes_spread (Ok x) made kept = spread_stays made
  nodes_spread (Err e) made kept = stay_kept old new kept

-- what the calls say of that
pub put_on_lines : {A : Type 0} (old new : CstRootNode A) (node : CstNode) → IsTrue (is_array_or_object (content_at (nodes_of old) (number_of node))) → (r : Result (Unit {0}) EditError)
    → OnOk r (MadeMultiline (nodes_of old) (nodes_of new) (number_of node)) → IfErr r (IsUnspread (nodes_of old) (number_of node))
    → OnErr r (Unchanged old new) → OnErr r (tree_of new ≡ tree_of old) → IsPutOnLines old new node r
put_on_lines old new node holds r made told kept same = record {
  made = made;
  step = ok_then r (λ spread. spread_step (nodes_of old) (nodes_of new) old.tree.tree new.tree.tree (number_of node) spread holds) made;
  lines = on_lines (nodes_of old) (nodes_of new) (number_of node) old.tree.tree new.tree.tree holds r made;
  detached = spread_elsewhere (nodes_of old) old.tree.tree (nodes_of new) (number_of node) new.tree.tree r made;
  error = told;
  memory = λ o. but_for_memory (nodes_of old) (nodes_of new) (number_of node) old.tree.tree new.tree.tree holds o r told;
  handles = nodes_stay (nodes_of old) (nodes_of new) (nodes_spread (nodes_of old) (nodes_of new) (number_of node) old.tree.tree new.tree.tree holds r made kept);
  kept = kept;
  document = same;
}

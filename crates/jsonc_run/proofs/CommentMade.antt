-- A comment that is inserted beside the entry at a path, or refused.
use Rattle.std.proofs.Common.{◌≡◌, ◌∙◌, ◌&&◌, ℕ, Bool, true, false, List, Some, IsUtf8, IfErr, OnOk, Result, Ok, Err, chars, refl, sym, ap}
use Rattle.std.proofs.lemmas.Bool.{false≢true}
use Rattle.jsonc_tree.specs.Content.{Content}
use Rattle.jsonc_tree.specs.OrderedTree.{ordered_tree}
use Rattle.jsonc_tree.specs.Tree.{Node, parent_at, IsTree}
use Rattle.jsonc_sound.specs.TreeChanges.{leaves_of}
use Rattle.jsonc_text.specs.declared.edit.EditError.{EditError}
use Rattle.jsonc_text.specs.declared.edit.EditError.TheVariants.{NotAnEntry}
use Rattle.jsonc_text.specs.declared.edit.Place.{Place}
use Rattle.jsonc_text.specs.declared.edit.Place.TheVariants.{Above, After}
use Rattle.jsonc_edit.specs.Changes.{top_at}
use Rattle.jsonc_edit.specs.Seams.{StandsBetween}
use Rattle.jsonc_edit.specs.commenting.Above.{begins_own_line, ComesAboveBy}
use Rattle.jsonc_edit.specs.commenting.Come.{LeavesCome}
use Rattle.jsonc_edit.specs.commenting.Inserting.{holds_entries, is_entry_at, Comes, InsertsAmong, IsRefusedFor, MayCome}
use Rattle.jsonc_edit.specs.commenting.Laws.{GainsComment}
use Rattle.jsonc_edit.proofs.lemmas.commenting.Inserting.{among}
use Rattle.jsonc_run.specs.Edits.{insert_comment, EditStep}
use Rattle.jsonc_run.specs.Places.{IsEntryAt}
use Rattle.jsonc_run.specs.Refusals.{CommentError, FailsWith}
use Rattle.jsonc_run.specs.Written.{CommentInserted, StandsBeside}
use Rattle.jsonc_run.proofs.EditsMade.{told_at}
use Rattle.jsonc_run.proofs.lemmas.promise.EntriesHeld.{entry_between, entry_is}

-- what is answered where a comment is inserted
module _ (ns : List Node) (tree : IsTree ns) (path : List ℕ) (n : ℕ) (place : Place) (text : List ℕ) (at : IsEntryAt ns path n) where
  pub comment_made : {T E : Type 0} (r : Result T E) (new : List Node) → OnOk r (MayCome place ns n text) → OnOk r (Comes place ns new n text) → OnOk r (EditStep ns (insert_comment path place text) new)
  comment_made (Ok x) new may comes = (n, at, (may, comes))
  comment_made (Err e) new may comes = tt

  is_one : is_entry_at ns n ≡ true
  is_one = let e = entry_is ns tree path n at in ap (λ b. b && holds_entries ns (parent_at ns n)) e.element ∙ ap (holds_entries ns) e.parent ∙ e.holds

  error_there : (why : EditError) → IsRefusedFor place ns n text why → CommentError place ns n text why
  error_there NotAnEntry k = absurd (false≢true (sym k ∙ is_one))
  error_there why k = k

  pub comment_told : {T : Type 0} (r : Result T EditError) → IfErr r (IsRefusedFor place ns n text) → IfErr r (FailsWith ns (insert_comment path place text))
  comment_told (Ok x) why = tt
  comment_told (Err e) why = told_at ns (insert_comment path place text) n e (λ Is k. (n, at, k)) (λ k. k) (error_there e why)

-- leaves have come beside it in the row of its container
pub leaves_come : (old new : List Node) (n c : ℕ) (text : List ℕ) → parent_at old n ≡ Some c → (place : Place) → Comes place old new n text → (i : ℕ) × (contents : List Content) × LeavesCome old new c i contents
leaves_come old new n c text said Above comes = by (begins_own_line old n) (comes c said)
  where
    by : (b : Bool) → ComesAboveBy b old new c n text → (i : ℕ) × (contents : List Content) × LeavesCome old new c i contents
    by true r = (_, _, r)
    by false r = (_, _, r)
leaves_come old new n c text said After comes = (_, _, comes c said)

-- and in the tree the comment has been inserted at its place
module _ (old new : List Node) (tree : IsTree old) (path : List ℕ) (n : ℕ) (at : IsEntryAt old path n) (text : List ℕ) (utf8 : IsUtf8 text) where
  stands_by : (place : Place) → InsertsAmong place old new n text → (front back : List Content) → StandsBetween old n front back
      → (gains : GainsComment text (ordered_tree old 0) (ordered_tree new 0)) × StandsBeside place gains (leaves_of (top_at old n)) front back
  stands_by Above is front back stands = is front back stands
  stands_by After is front back stands = is front back stands

  pub comment_inserted : (place : Place) → MayCome place old n text → Comes place old new n text → CommentInserted path place (chars text) (ordered_tree old 0) (ordered_tree new 0)
  comment_inserted place may comes =
      let m = entry_between old tree path n at in
      let g = stands_by place (among old new n text tree utf8 place may comes) m.first m.last m.stands in
      record { text = text; is = refl; whole = may.whole; own = top_at old n; front = m.first; back = m.last; entry = m.holds; gains = g.0; stands = g.1 }

-- The same of answers, and of what has no parent: an edit of a node that is not in the document leaves the document as it was.
use Rattle.std.proofs.Common.{◌≡◌, ℕ, ◌<◌, Bool, true, false, List, length, Option, Some, None, Result, Ok, Err, OnOk, refl, ap}
use Rattle.jsonc_text.specs.Plain.{Plain}
use Rattle.jsonc_tree.specs.Content.{Content, property}
use Rattle.jsonc_tree.specs.OrderedTree.{ordered_tree}
use Rattle.jsonc_tree.specs.Tree.{Node, content_at, parent_at, IsTree}
use Rattle.jsonc_layout.specs.nodes.Properties.{value_at}
use Rattle.jsonc_edit.specs.Comments.{TakesOut}
use Rattle.jsonc_edit.specs.Reading.{IsReplaced}
use Rattle.jsonc_edit.specs.remove.Removed.{TakesElement}
use Rattle.jsonc_edit.specs.multiline.Multiline.{has_line_end, MadeMultiline}
use Rattle.jsonc_edit.specs.set.Booleans.{BooleanSet}
use Rattle.jsonc_edit.specs.set.Kinds.{KeptOrReplaced}
use Rattle.jsonc_edit.specs.set.PropertyValues.{HeldOrSet}
use Rattle.jsonc_edit.proofs.lemmas.set.PropertyValue.{held_child}
use Rattle.jsonc_run.proofs.DetachedNodes as calls
use Rattle.jsonc_run.proofs.DetachedNodes.{last_elsewhere, out_down, replaced_elsewhere}
use Rattle.jsonc_cst.specs.typed.Edits.{KeepsDocumentOf}
use Rattle.jsonc_cst.specs.typed.Values.{HeldBecomes}

same_document : (old new : List Node) → new ≡ old → ordered_tree new 0 ≡ ordered_tree old 0
same_document old new e = ap (λ (ns : List Node). ordered_tree ns 0) e

module _ (old : List Node) (tree : IsTree old) where
  pub spread_elsewhere : {T E : Type 0} (new : List Node) (c : ℕ) → IsTree new → (r : Result T E) → OnOk r (MadeMultiline old new c) → OnOk r (KeepsDocumentOf old new c)
  spread_elsewhere new c after (Ok x) made = calls.spread_elsewhere old tree new c (has_line_end old c) refl after made
  spread_elsewhere new c after (Err e) made = tt

  -- a comment, and an element, that are taken out
  comment_elsewhere : (new : List Node) (n : ℕ) (o : Option ℕ) → parent_at old n ≡ o → IsTree new → (parent_at old n ≡ None → new ≡ old) → TakesOut old new n → KeepsDocumentOf old new n
  comment_elsewhere new n None e after untouched takes = λ out. same_document old new (untouched e)
  comment_elsewhere new n (Some c) e after untouched takes = calls.comment_elsewhere old tree new n c e after (takes c e)

  element_elsewhere : (new : List Node) (n : ℕ) (o : Option ℕ) → parent_at old n ≡ o → IsTree new → (parent_at old n ≡ None → new ≡ old) → TakesElement old new n → KeepsDocumentOf old new n
  element_elsewhere new n None e after untouched takes = λ out. same_document old new (untouched e)
  element_elsewhere new n (Some c) e after untouched takes = calls.element_elsewhere old tree new n c e after (takes c e).1

  -- the value of a property that is not in the document
  module _ (p : ℕ) (is : content_at old p ≡ property) (v : Plain) (new : List Node) (after : IsTree new) where
    replaced_held : (n m : ℕ) → value_at old p ≡ Some n → IsReplaced old new n v m → KeepsDocumentOf old new p
    replaced_held n m e r = λ out. replaced_elsewhere old tree new n m v after r (out_down old tree n p (held_child old tree p n is e) out)

    kept_held : (n m : ℕ) (b : Bool) → value_at old p ≡ Some n → KeptOrReplaced b v old new n m → KeepsDocumentOf old new p
    kept_held n m true e (here, same) = λ out. same_document old new same
    kept_held n m false e r = replaced_held n m e r

module _ (old new : List Node) (tree : IsTree old) (after : IsTree new) (p : ℕ) (low : p < length old) (is : content_at old p ≡ property) (v : Plain) where
  pub held_elsewhere : (o : Option ℕ) (m : ℕ) → value_at old p ≡ o → HeldBecomes old new p v o m → KeepsDocumentOf old new p
  held_elsewhere None m e l = last_elsewhere old new tree after p v m l low
  held_elsewhere (Some n) m e r = replaced_held old tree p is v new after n m e r

  pub found_elsewhere : (kind : Content → Bool) (o : Option ℕ) (m : ℕ) → value_at old p ≡ o → HeldOrSet kind v old new p o m → KeepsDocumentOf old new p
  found_elsewhere kind None m e l = last_elsewhere old new tree after p v m l low
  found_elsewhere kind (Some n) m e r = kept_held old tree p is v new after n m (kind (content_at old n)) e r

-- the same of answers
module _ {T E : Type 0} (old new : List Node) (tree : IsTree old) (after : IsTree new) (n : ℕ) where
  pub if_element : (r : Result T E) → (parent_at old n ≡ None → new ≡ old) → OnOk r (TakesElement old new n) → OnOk r (KeepsDocumentOf old new n)
  if_element (Ok x) untouched takes = element_elsewhere old tree new n (parent_at old n) refl after untouched takes
  if_element (Err e) untouched takes = tt

  pub if_comment : (r : Result T E) → (parent_at old n ≡ None → new ≡ old) → OnOk r (TakesOut old new n) → OnOk r (KeepsDocumentOf old new n)
  if_comment (Ok x) untouched takes = comment_elsewhere old tree new n (parent_at old n) refl after untouched takes
  if_comment (Err e) untouched takes = tt

  pub if_boolean : (b : Bool) → n < length old → (r : Result T E) → OnOk r (BooleanSet old new n b) → OnOk r (KeepsDocumentOf old new n)
  if_boolean b inside (Ok x) set = calls.boolean_elsewhere old tree new n b inside set
  if_boolean b inside (Err e) set = tt

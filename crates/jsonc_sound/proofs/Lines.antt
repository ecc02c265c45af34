-- Line comments still end with their lines where a value is replaced by another.
use Rattle.std.proofs.Common.{ℕ, ◌≡◌, subst, refl, Bool, true, false, List, IsTrue}
use Rattle.jsonc_tree.specs.OrderedTree.{OrderedTree, Top}
use Rattle.jsonc_sound.specs.Lines.{ends_line, LinesEnd, DocumentLinesEnd}
use Rattle.jsonc_sound.specs.TreeChanges.{ElementChanged, this_element, passed, later_element, ValueChanged, itself, in_array, in_object, DocumentChanged, in_root}
use Rattle.jsonc_sound.proofs.FirstNodes.{no_element, line_comment_over, line_end_over, line_end_same}

-- where a newline is first in a row, it stays
line_end_kept : {x y : Top} {i : ℕ} {row new : OrderedTree} (at_end : Bool) → ElementChanged x y i row new → IsTrue (ends_line at_end row) → IsTrue (ends_line at_end new)
line_end_kept {x} at_end (this_element {after = after} p q) h = absurd (no_element x.content p (line_end_over at_end x.content x.below after h))
line_end_kept at_end (passed {content = content} {below = below} {x = s} {y = t} p k) h = subst IsTrue (line_end_same at_end content below s t) h
line_end_kept at_end (later_element {content = content} {below = below} {x = s} {y = t} p k) h = subst IsTrue (line_end_same at_end content below s t) h

row_lines : {x y : Top} {i : ℕ} {row new : OrderedTree} (at_end : Bool) → (LinesEnd false x.below → LinesEnd false y.below) → ElementChanged x y i row new → LinesEnd at_end row → LinesEnd at_end new
row_lines {y = y} at_end f (this_element p q) l = (λ h. absurd (no_element y.content q (line_comment_over y.content h)), f l.1, l.2)
row_lines at_end f (passed p k) l = (λ h. line_end_kept at_end k (l.0 h), l.1, row_lines at_end f k l.2)
row_lines at_end f (later_element p k) l = (λ h. line_end_kept at_end k (l.0 h), l.1, row_lines at_end f k l.2)

value_lines : {was now : Top} {path : List ℕ} {x y : Top} → LinesEnd false now.below → ValueChanged was now path x y → LinesEnd false x.below → LinesEnd false y.below
value_lines n itself = λ l. n
value_lines n (in_array e h) = row_lines false (value_lines n h) e
value_lines n (in_object e g h) = row_lines false (row_lines false (value_lines n h) g) e

pub document_lines : {was now : Top} {path : List ℕ} {t u : OrderedTree} → LinesEnd false now.below → DocumentChanged was now path t u → DocumentLinesEnd t → DocumentLinesEnd u
document_lines n (in_root {row = row} {new = new} e h) (below, same, l) =
    let first : below ≡ row = cc in
    (new, refl, row_lines true (value_lines n h) e (subst (LinesEnd true) first l))

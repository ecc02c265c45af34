-- What becomes of a document's literals and comments where a value is set.
use Rattle.std.proofs.Common.{ℕ, List, subst}
use Rattle.jsonc_text.specs.Plain.{Plain}
use Rattle.jsonc_tree.specs.OrderedTree.{ordered_tree, Top}
use Rattle.jsonc_tree.specs.Tree.{Node, IsTree}
use Rattle.jsonc_layout.specs.from_input.Laid.{laid}
use Rattle.jsonc_sound.specs.MarkChanges.{MarksDifferIn, marks_under}
use Rattle.jsonc_sound.specs.Marks.{Mark, marks}
use Rattle.jsonc_sound.proofs.ReplacedStretches.{values_marks}
use Rattle.jsonc_sound.proofs.Laid.{laid_as_written}
use Rattle.jsonc_edit.specs.Changes.{top_at}
use Rattle.jsonc_edit.specs.Reading.{layout_for, IsReplaced}
use Rattle.jsonc_edit.proofs.ReplacedValues.{changed, put}
use Rattle.jsonc_edit.proofs.Spacing.{spaces_marks}
use Rattle.jsonc_cst.specs.typed.Marked.{IsMarkedFor, MarksReplaced}

module _ (old new : List Node) (v : Plain) (tree : IsTree old) where
  pub replaced_marked : (n m : ℕ) → IsReplaced old new n v m → IsMarkedFor old new n v
  replaced_marked n m (c, said, g) = λ path at texts.
      let top : Top = laid (layout_for old c n) v in
      let was : List Mark = marks_under (top_at old n) in
      subst (λ l. MarksReplaced old new was l) (laid_as_written (layout_for old c n) v texts)
      (subst (λ l. MarksDifferIn was (marks_under top) l (marks (ordered_tree new 0))) (spaces_marks (put old new n m top tree g path at))
      (values_marks (ordered_tree g.spaced 0) (top_at old n) top path (ordered_tree new 0) (changed old new n m top tree g path at)))

-- What stays around a value, or a property, that is replaced.
use Rattle.std.proofs.Common.{◌≡◌, ℕ, List, sym, subst, ◌∙◌}
use Rattle.jsonc_text.specs.Plain.{Plain}
use Rattle.jsonc_tree.specs.OrderedTree.{ordered_tree, Top}
use Rattle.jsonc_tree.specs.Tree.{Node, IsTree}
use Rattle.jsonc_layout.specs.from_input.Laid.{laid}
use Rattle.jsonc_sound.specs.TreeChanges.{leaves_of}
use Rattle.jsonc_sound.proofs.LeavesAround.{document_differs}
use Rattle.jsonc_edit.specs.Changes.{top_at}
use Rattle.jsonc_edit.specs.Reading.{layout_for, IsReplaced}
use Rattle.jsonc_edit.proofs.Elements.{Some_same}
use Rattle.jsonc_edit.proofs.ReplacedChildren.{in_place}
use Rattle.jsonc_edit.proofs.ReplacedValues.{changed, put}
use Rattle.jsonc_edit.specs.set.Giving.{property_top, IsPropertyReplaced}
use Rattle.jsonc_cst.specs.typed.Around.{IsLaidProperty, LeavesReplaced, StaysAroundValue}

module _ (old new : List Node) (v : Plain) (tree : IsTree old) where
  pub replaced_around : (n m : ℕ) → IsReplaced old new n v m → StaysAroundValue old new n v
  replaced_around n m (k, said, g) = λ path c at told.
      let top : Top = laid (layout_for old k n) v in
      subst (λ j. LeavesReplaced (leaves_of (top_at old n)) (leaves_of (laid (layout_for old j n) v)) (ordered_tree old 0) (ordered_tree new 0)) (Some_same k c (sym said ∙ told))
      (record {
        spaced = ordered_tree g.spaced 0;
        spaces = put old new n m top tree g path at;
        around = document_differs (changed old new n m top tree g path at);
      })

pub property_laid : (old new : List Node) (n m : ℕ) (name : List ℕ) (v : Plain) → IsPropertyReplaced old new n name v m → IsLaidProperty old new n name v m
property_laid old new n m name v (k, said, g) = λ c told.
    subst (λ j. top_at new m ≡ property_top (layout_for old j n) name v) (Some_same k c (sym said ∙ told))
    (in_place g.spaced new n m (property_top (layout_for old k n) name v) g.place).put

-- What is made of a sound document from which an element is removed.
use Rattle.std.proofs.Common.{ℕ, List, Result, Ok, Err, OnOk}
use Rattle.jsonc_text.specs.Options.{Options}
use Rattle.jsonc_tree.specs.OrderedTree.{ordered_tree}
use Rattle.jsonc_tree.specs.Tree.{Node, IsTree}
use Rattle.jsonc_sound.specs.SoundTrees.{SoundTree}
use Rattle.jsonc_edit.specs.Changes.{top_at}
use Rattle.jsonc_edit.specs.remove.Removed.{TakesElement}
use Rattle.jsonc_edit.proofs.lemmas.remove.Entries.{entry_taken}
use Rattle.jsonc_edit.proofs.lemmas.remove.RemovedElement.{removes_entry}
use Rattle.jsonc_edit.proofs.lemmas.remove.RemovedValue.{removes_value}
use Rattle.jsonc_edit.proofs.lemmas.remove.Roots.{value_taken}
use Rattle.jsonc_cst.specs.typed.Removing.{IsElementRemoved, IsTakenAlone}

module _ (o : Options) (old new : List Node) (n : ℕ) (before : IsTree old) (after : IsTree new) where
  element_gone : TakesElement old new n → SoundTree o (ordered_tree old 0) → IsElementRemoved o old new n
  element_gone taken sound = record {
    entry = λ path c i at kind element. removes_entry o (ordered_tree old 0) (ordered_tree new 0) path i (top_at old n) sound (entry_taken o old new path c i n before after sound at kind element taken);
    value = λ element. removes_value o (ordered_tree old 0) (ordered_tree new 0) (top_at old n) sound (value_taken o old new n before after sound element taken);
  }

  element_around : TakesElement old new n → SoundTree o (ordered_tree old 0) → IsTakenAlone old new n
  element_around taken sound = record {
    entry = λ path c i at kind element. entry_taken o old new path c i n before after sound at kind element taken;
    value = λ element. value_taken o old new n before after sound element taken;
  }

  pub element_alone : {T E : Type 0} (r : Result T E) → OnOk r (TakesElement old new n) → OnOk r (SoundTree o (ordered_tree old 0) → IsTakenAlone old new n)
  element_alone (Ok x) taken = element_around taken
  element_alone (Err e) taken = tt

  pub element_written : {T E : Type 0} (r : Result T E) → OnOk r (TakesElement old new n) → OnOk r (SoundTree o (ordered_tree old 0) → IsElementRemoved o old new n)
  element_written (Ok x) taken = element_gone taken
  element_written (Err e) taken = tt

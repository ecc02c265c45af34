-- What becomes of a sound document in which an array or object has been sorted.
use Rattle.std.proofs.Common.{ℕ, List, Option, Some, None, subst}
use Rattle.jsonc_text.specs.Options.{Options}
use Rattle.jsonc_text.specs.Grammar.{IsDocument}
use Rattle.jsonc_text.specs.Plain.{Plain}
use Rattle.jsonc_tree.specs.OrderedTree.{OrderedTree}
use Rattle.jsonc_tree.specs.Values.{DocumentValueOf}
use Rattle.jsonc_sound.specs.Shape.{printed_text}
use Rattle.jsonc_sound.proofs.ShapeValues.{document_printed}
use Rattle.jsonc_sound.specs.SoundTrees.{SoundTree}
use Rattle.jsonc_sound.proofs.LeavesAround.{document_differs}
use Rattle.jsonc_edit.proofs.OneValue.{document_once}
use Rattle.jsonc_edit.proofs.SoundValues.{some_value}
use Rattle.jsonc_sort.specs.Laws.{SortsEntries}
use Rattle.jsonc_sort.specs.Paths.{KeepsOutside, SaysSorted, SortedAt, SortsDocument}
use Rattle.jsonc_sort.proofs.Documents.{sorts_value, stays_sound}
use Rattle.jsonc_sort.proofs.KeptMarks.{keeps_all_marks}

module _ (o : Options) (t u : OrderedTree) (path order : List ℕ) (sound : SoundTree o t) (at : SortedAt path order t u) where
  still : SoundTree o u
  still = stays_sound o t sound at.kind at.top at.sort path u at.changed at.is_order

  by_value : (old : Option Plain) → IsDocument o (printed_text t) old → DocumentValueOf o t old → SaysSorted o path order t u
  by_value None text value = absurd (some_value o at.changed value)
  by_value (Some x) text value =
      let now = sorts_value o t x value at.kind at.top at.sort path u at.changed at.is_order in
      let printed = document_printed o u still.shaped still.lines in
      record {
        old = x;
        new = now.0;
        old_text = text;
        new_text = subst (λ w. IsDocument o (printed_text u) w) (document_once o u printed.0 (Some now.0) printed.2 now.1) printed.1;
        entries = subst (λ l. SortsEntries path l x now.0) at.by now.2;
        marks = λ test. keeps_all_marks o t test sound at.kind at.top at.sort path u at.changed at.is_order;
        sound = still;
      }

pub sorts_document : (o : Options) (t u : OrderedTree) (path order : List ℕ) → SortsDocument o t u path order
sorts_document o t u path order sound at =
    let was = document_printed o t sound.shaped sound.lines in
    by_value o t u path order sound at was.0 was.1 was.2

pub keeps_outside : {path order : List ℕ} {t u : OrderedTree} (s : SortedAt path order t u) → KeepsOutside s
keeps_outside s = document_differs s.changed

-- Where the new property stands, and which nodes are what they were.
use Rattle.std.proofs.Common.{◌≡◌, ◌<◌, ℕ, true, List, length, Some, ap, ◌∙◌}
use Rattle.jsonc_text.specs.Plain.{Plain}
use Rattle.jsonc_tree.specs.Tree.{Node, children_at, IsTree}
use Rattle.jsonc_insert.specs.Planned.{elements, has_brackets}
use Rattle.jsonc_insert.specs.members.Inserted.{PropertyPut}
use Rattle.jsonc_insert.specs.members.Laws.{ChangesOneRow, TakesItsNumber}
use Rattle.jsonc_insert.proofs.Numbering.{elsewhere, number, row_is}
use Rattle.jsonc_insert.proofs.TrimmedRows.{has_two, trimmed_elements}
use Rattle.jsonc_insert.proofs.lemmas.members.Elements.{opened_elements}
use Rattle.jsonc_insert.proofs.lemmas.members.RowReplaced.{row_before}

module _ (old new : List Node) (c i : ℕ) (name : List ℕ) (v : Plain) (m : ℕ) (tree : IsTree old) (there : c < length old) (e : PropertyPut old new c i name v m) where
  pub was_elements : has_brackets old (children_at old c) ≡ true → elements e.lined e.was ≡ elements old (children_at old c)
  was_elements brackets =
      let lines = e.before.lines in
      ap (elements e.lined) e.before.is ∙ trimmed_elements e.lined lines (has_two e.lined lines e.before.opens.brackets) ∙ opened_elements old tree c brackets e.lined lines e.before.opens

pub takes_number : (old new : List Node) (c i : ℕ) (name : List ℕ) (v : Plain) (m : ℕ) → TakesItsNumber old new c i name v m
takes_number old new c i name v m tree there brackets e =
    number old e.lined tree c there e.was (row_before old e.lined c e.was e.before) e.ready e.prepared i (Some name) v m e.row e.made new e.put
    (length (elements old (children_at old c))) (ap length (was_elements old new c i name v m tree there e brackets))

pub changes_one_row : (old new : List Node) (c i : ℕ) (name : List ℕ) (v : Plain) (m : ℕ) → ChangesOneRow old new c i name v m
changes_one_row old new c i name v m tree there e =
    let b = row_before old e.lined c e.was e.before in (
      row_is old e.lined tree c there e.was b e.ready e.prepared i (Some name) v m e.row e.made new e.put,
      elsewhere old e.lined tree c there e.was b e.ready e.prepared i (Some name) v m e.row e.made new e.put,
    )

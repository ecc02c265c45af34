-- Blank lines directly inside the brackets of a container: removed, and put back.
use Rattle.std.specs.Prelude.{◌≡◌, ◌≤◌, ◌<◌, ◌-◌, ℕ, List, [], length, slice_index, slice_range}
use Rattle.jsonc_tree.specs.Changes.{Splices}
use Rattle.jsonc_tree.specs.Tree.{Node, children_at, IsTree}
use Rattle.jsonc_edit.specs.Put.{Extends}
use Rattle.jsonc_insert.specs.Trimmed.{first_gone, last_gone, without}
use Rattle.jsonc_insert.specs.declared.trim.Blanks.{Blanks}
use Rattle.jsonc_insert.specs.declared.trim.BlankLines.{BlankLines}
use Rattle.jsonc_insert.specs.declared.trim.Stretch.{Stretch}

-- These nodes, which follow this one, are the row's stretch.
pub record StandsAt {A : Type 0} (row : List ℕ) (s : Stretch) (b : Blanks A) : Type 0 where
  pub from : 1 ≤ s.from
  pub order : s.from ≤ s.to
  pub to : s.to < length row
  pub after : b.after ≡ slice_index row (s.from - 1)
  pub nodes : b.nodes.items ≡ slice_range row s.from s.to

-- they are the blank lines inside the brackets of the row: the last ones first
pub record AreBlankLines {A : Type 0} (ns : List Node) (row : List ℕ) (b : BlankLines A) : Type 0 where
  pub last : StandsAt row (last_gone ns row) b.last
  pub first : StandsAt (without (last_gone ns row) row) (first_gone ns row) b.first

-- they have been removed from the children of c
pub record HaveLeft {A : Type 0} (old new : List Node) (c : ℕ) (b : BlankLines A) : Type 0 where
  pub are : AreBlankLines old (children_at old c) b
  pub there : c < length old
  pub was : IsTree old
  pub one : List Node
  pub tree : IsTree one
  pub last : Splices old one c (last_gone old (children_at old c)).from (last_gone old (children_at old c)).to []
  pub first : Splices one new c (first_gone old (children_at old c)).from (first_gone old (children_at old c)).to []

-- They had been removed so, and since then nodes have been added alone.
pub record WereRemoved {A : Type 0} (old now : List Node) (c : ℕ) (b : BlankLines A) : Type 0 where
  pub kept : List Node
  pub tree : IsTree kept
  pub left : HaveLeft old kept c b
  pub later : Extends kept now

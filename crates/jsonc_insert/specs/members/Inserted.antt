-- A property that has come into an object.
use Rattle.std.specs.Prelude.{ℕ, List, length, Some}
use Rattle.jsonc_text.specs.Plain.{Plain}
use Rattle.jsonc_tree.specs.Changes.{CanJoin, Splices}
use Rattle.jsonc_tree.specs.Tree.{Node, children_at, IsTree}
use Rattle.jsonc_edit.specs.Put.{Extends}
use Rattle.jsonc_insert.specs.Inserted.{RowMade}
use Rattle.jsonc_insert.specs.members.Opened.{IsBefore}

-- The property has come in so, as number i of c or behind the last one, as the node m: the leaves were made ready that put c on several lines; then the
-- property was, with what comes beside it, for that row without blank lines inside its brackets; and then the row of c was replaced by the new one, at once.
pub record PropertyPut (old new : List Node) (c i : ℕ) (name : List ℕ) (v : Plain) (m : ℕ) : Type 0 where
  pub lined : List Node
  pub was : List ℕ
  pub before : IsBefore old lined c was
  pub ready : List Node
  pub row : List ℕ
  pub prepared : Extends lined ready
  pub made : RowMade lined ready c was i (Some name) v m row
  pub join : CanJoin ready c 0 (length (children_at old c)) row
  pub put : Splices ready new c 0 (length (children_at old c)) row
  pub tree : IsTree new

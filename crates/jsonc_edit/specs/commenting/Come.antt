-- Leaves that come into a container's row.
use Rattle.std.specs.Prelude.{ℕ, List}
use Rattle.jsonc_tree.specs.Changes.{CanJoin, Splices}
use Rattle.jsonc_tree.specs.Content.{Content}
use Rattle.jsonc_tree.specs.Tree.{Node, IsTree}
use Rattle.jsonc_layout.specs.Building.{LeavesMade}
use Rattle.jsonc_edit.specs.Put.{Extends}

-- Leaves of these contents were made, and then came at a place among the children of c, in one step.
pub record LeavesCome (old new : List Node) (c place : ℕ) (contents : List Content) : Type 0 where
  pub ready : List Node
  pub row : List ℕ
  pub prepared : Extends old ready
  pub made : LeavesMade old ready contents row
  pub join : CanJoin ready c place place row
  pub put : Splices ready new c place place row
  pub tree : IsTree new

-- Edits of nodes: what each makes where it is, of whichever path.
use Rattle.std.specs.Prelude.{◌≡◌, ◌<◌, ℕ, List, length, Option, Some, None, Result, IfErr, OnErr, OnOk, if◌then◌else◌}
use Rattle.jsonc_text.specs.declared.edit.EditError.{EditError}
use Rattle.jsonc_text.specs.declared.edit.EditError.TheVariants.{NestingDepthExceeded, NoSuchPlace}
use Rattle.jsonc_tree.specs.Building.{Keeps}
use Rattle.jsonc_tree.specs.OrderedTree.{ordered_tree}
use Rattle.jsonc_tree.specs.Tree.{Node, content_at, parent_at}
use Rattle.jsonc_layout.specs.nodes.Kinds.{is_property}
use Rattle.jsonc_run.specs.Depth.{needs_at}
use Rattle.jsonc_run.specs.Edits.{PlainEdit, MakesAt}
use Rattle.jsonc_run.specs.Refusals.{RefusedAt}
use Rattle.jsonc_cst.specs.declared.cst.CstRootNode.{CstRootNode}
use Rattle.jsonc_cst.specs.Document.{nodes_of}

-- the entry that a value is, or whose value it is: the property that it is in, or else itself
abbrev pub entry_under : List Node → Option ℕ → ℕ → ℕ
entry_under ns None n = n
entry_under ns (Some p) n = if is_property (content_at ns p) then p else n

abbrev pub entry_above : List Node → ℕ → ℕ
entry_above ns n = entry_under ns (parent_at ns n) n

-- Why the edit is refused at the node n: in what it writes a value would be nested too deep; or n is detached; or as it is refused where it has its place.
pub data IsRefusedThere (ns : List Node) (n : ℕ) (e : PlainEdit) : EditError → Type 0 where
  too_deep : 512 < needs_at ns n e → IsRefusedThere ns n e NestingDepthExceeded
  detached : parent_at ns n ≡ None → IsRefusedThere ns n e NoSuchPlace
  refused : {why : EditError} → RefusedAt ns n e why → IsRefusedThere ns n e why

-- The edit was made at the node n, and what it writes is not nested too deep; or it was refused there, and the document and every node that was there are as they were.
pub record IsMadeThere {A : Type 0} (old new : CstRootNode A) (n : ℕ) (e : PlainEdit) (r : Result (Unit {0}) EditError) : Type 0 where
  pub made : OnOk r (MakesAt (nodes_of old) n e (nodes_of new))
  pub fits : OnOk r (¬ (512 < needs_at (nodes_of old) n e))
  pub error : IfErr r (IsRefusedThere (nodes_of old) n e)
  pub kept : OnErr r (Keeps (length (nodes_of old)) (nodes_of old) (nodes_of new))
  pub document : OnErr r (ordered_tree (nodes_of new) 0 ≡ ordered_tree (nodes_of old) 0)

-- What `append` makes of a document.
use Rattle.std.specs.Prelude.{◌≡◌, List, Some, length}
use Rattle.jsonc_text.specs.Options.{Options}
use Rattle.jsonc_text.specs.Plain.{Plain}
use Rattle.jsonc_text.specs.declared.edit.Over.TheVariants.{Keep}
use Rattle.jsonc_text.specs.declared.edit.Shape.TheVariants.{Array}
use Rattle.jsonc_tree.specs.Content.{array}
use Rattle.jsonc_tree.specs.OrderedTree.{ordered_tree}
use Rattle.jsonc_tree.specs.Tree.{Node, content_at, IsTree}
use Rattle.jsonc_layout.specs.nodes.Properties.{value_at}
use Rattle.jsonc_layout.specs.nodes.Siblings.{elements_at}
use Rattle.jsonc_sound.specs.SoundTrees.{SoundTree}
use Rattle.jsonc_cst.specs.declared.cst.node.CstArray.{CstArray}
use Rattle.jsonc_cst.specs.declared.cst.node.CstNode.{CstNode}
use Rattle.jsonc_cst.specs.typed.Inserting.{InsertedAt}
use Rattle.jsonc_cst.specs.typed.Setting.{FindsOrCreates}
use Rattle.jsonc_cst.specs.typed.Steps.{IsAppending, IsEnsuringRoot}
use Rattle.jsonc_engine.specs.Argument.{FitsInArray}

-- The document's value is an array, an empty one that was set first where it had none, and v has been inserted after its last element, in these two steps and no
-- more, of which the first may change nothing. There v is nested no deeper than texts are parsed.
pub record AppendsLast (v : Plain) (old new : List Node) : Type 0 where
  pub fits : FitsInArray v
  pub made : List Node
  pub tree : IsTree made
  pub x : CstArray
  pub found : FindsOrCreates old made Array (Some x.number)
  pub first : IsEnsuringRoot old made Array Keep
  pub value : value_at made 0 ≡ Some x.number
  pub is_array : content_at made x.number ≡ array
  pub now : CstNode
  pub inserted : InsertedAt made new x.number (length (elements_at made x.number)) v now
  pub step : IsAppending made new x.number v

-- so it is if the document was sound
abbrev pub AppendsIfSound : Options → Plain → List Node → List Node → Type 0
AppendsIfSound o v old new = SoundTree o (ordered_tree old 0) → AppendsLast v old new

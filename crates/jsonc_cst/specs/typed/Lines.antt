-- Arrays and objects that are put on several lines.
use Rattle.std.specs.Prelude.{IsTrue}
use Rattle.jsonc_text.specs.declared.edit.EditError.{EditError}
use Rattle.jsonc_edit.specs.multiline.Multiline.{has_line_end, IsUnspread, MadeMultiline}
use Rattle.jsonc_cst.specs.declared.cst.CstRootNode.{CstRootNode}
use Rattle.jsonc_cst.specs.declared.cst.node.CstNode.{CstNode}
use Rattle.jsonc_cst.specs.Document.{nodes_of}
use Rattle.jsonc_cst.specs.Nodes.{number_of}

module _ {A : Type 0} where
  -- the node has been put on several lines, or was on several
  abbrev pub HasSpreadOut : CstRootNode A → CstRootNode A → CstNode → Type 0
  HasSpreadOut old new node = MadeMultiline (nodes_of old) (nodes_of new) (number_of node)

  -- the end of a line is among its children
  abbrev pub IsOnLines : CstRootNode A → CstNode → Type 0
  IsOnLines d node = IsTrue (has_line_end (nodes_of d) (number_of node))

  -- why it has not been put on several lines
  abbrev pub StaysUnspread : CstRootNode A → CstNode → EditError → Type 0
  StaysUnspread d node e = IsUnspread (nodes_of d) (number_of node) e

-- The document of a text with faults.
use Rattle.std.specs.Prelude.{ℕ, ◌≡◌, List}
use Rattle.jsonc_text.specs.Options.{Options}
use Rattle.jsonc_cst.specs.declared.cst.node.CstNode.{CstNode}
use Rattle.jsonc_cst.specs.Document.{nodes_of, printed_of}
use Rattle.jsonc_cst.specs.Nodes.{number_of}
use Rattle.jsonc_cst.specs.Ranges.{PrintsRange}
use Rattle.jsonc_mends.specs.Mends.{IsMended, mended_text}
use Rattle.jsonc_mends.specs.Places.{IsWrittenBy}
use Rattle.jsonc_tolerant.specs.declared.mended.MendedDocument.{MendedDocument}

-- the text has these mends, and the document prints the mended text
pub record IsMendedDocument {A : Type 0} (o : Options) (bytes : List ℕ) (r : MendedDocument A) : Type 0 where
  pub mends : IsMended o bytes r.mends
  pub printed : printed_of r.document ≡ mended_text r.mends

-- one change wrote all bytes that the node prints, and there are some
pub record IsInserted {A : Type 0} (r : MendedDocument A) (node : CstNode) : Type 0 where
  pub start : ℕ
  pub end : ℕ
  pub range : PrintsRange (nodes_of r.document) (number_of node) start end
  pub written : IsWrittenBy r.mends.list.items start end

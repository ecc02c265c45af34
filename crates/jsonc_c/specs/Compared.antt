-- What an edit that sorts goes by.
use Rattle.std.specs.Prelude.{ℕ, List, [], true, false, codes}
use Rattle.jsonc_tree.specs.Content.{Content, boolean, null, number, string}
use Rattle.jsonc_cst.specs.Document.{content_of, nodes_of}
use Rattle.jsonc_cst.specs.declared.cst.CstRootNode.{CstRootNode}
use Rattle.jsonc_cst.specs.declared.cst.node.CstContainerNode.TheVariants.{ObjectProp}
use Rattle.jsonc_cst.specs.declared.cst.node.CstLeafNode.TheVariants.{BooleanLit, NullKeyword, NumberLit, StringLit}
use Rattle.jsonc_cst.specs.declared.cst.node.CstNode.{CstNode}
use Rattle.jsonc_cst.specs.declared.cst.node.CstNode.TheVariants.{Container, Leaf}
use Rattle.jsonc_engine.specs.Sorting.{written_name}

-- a literal as it is written
abbrev pub literal_text : Content → List ℕ
literal_text (string s) = s
literal_text (number s) = s
literal_text (boolean true) = codes "true"
literal_text (boolean false) = codes "false"
literal_text null = codes "null"
literal_text _ = []

-- a property goes by its name as it is written, as in the engine's sort, a literal by its text, an array or object by nothing
abbrev pub sorted_by : {A : Type 0} → CstRootNode A → CstNode → List ℕ
sorted_by d (Container (ObjectProp p)) = written_name (nodes_of d) p.number
sorted_by d (Leaf (StringLit s)) = literal_text (content_of d (Leaf (StringLit s)))
sorted_by d (Leaf (NumberLit n)) = literal_text (content_of d (Leaf (NumberLit n)))
sorted_by d (Leaf (BooleanLit b)) = literal_text (content_of d (Leaf (BooleanLit b)))
sorted_by d (Leaf (NullKeyword k)) = codes "null"
sorted_by d _ = []

-- The values of a document: those of named properties, and what its nodes give as values for edits.
use Rattle.std.specs.Prelude.{◌≡◌, ℕ, List, Option, option_map}
use Rattle.jsonc_text.specs.Options.{Options}
use Rattle.jsonc_text.specs.Plain.{Plain, collapse}
use Rattle.jsonc_tree.specs.OrderedTree.{OrderedTree, ordered_tree}
use Rattle.jsonc_tree.specs.Values.{DocumentValueOf}
use Rattle.jsonc_sound.specs.Shape.{DocumentShaped}
use Rattle.jsonc_layout.specs.input.Views.{plain}
use Rattle.jsonc_layout.specs.declared.input.value.CstInputValue.{CstInputValue}
use Rattle.jsonc_layout.specs.to_input.Taken.{IsTaken}
use Rattle.jsonc_cst.specs.declared.cst.CstRootNode.{CstRootNode}
use Rattle.jsonc_cst.specs.declared.cst.node.CstObject.{CstObject}
use Rattle.jsonc_cst.specs.declared.cst.node.CstObjectProp.{CstObjectProp}
use Rattle.jsonc_cst.specs.declared.cst.node.CstNode.{CstNode}
use Rattle.jsonc_cst.specs.Document.{nodes_of, tree_of}
use Rattle.jsonc_cst.specs.Nodes.{number_of}
use Rattle.jsonc_cst.specs.Readings.{value_if, IsFirstNamed}

module _ {A : Type 0} where
  -- the value of the first property of a name, if it is of the kind that `kind` takes
  abbrev pub IsValueNamed : {T : Type 0} → (Option CstNode → Option T) → CstRootNode A → CstObject → List ℕ → Option T → Type 0
  IsValueNamed kind d object name found = (property : Option CstObjectProp) × IsFirstNamed d object name property × (found ≡ kind (value_if d property))

  -- the value that was taken of a node is what the node gives, of equal names the last at the first place
  abbrev pub IsValueTaken : CstRootNode A → CstNode → Option (CstInputValue A) → Type 0
  IsValueTaken d node taken = IsTaken (ordered_tree (nodes_of d) (number_of node)) taken

  -- the same of the document
  abbrev pub IsDocumentTaken : CstRootNode A → Option (CstInputValue A) → Type 0
  IsDocumentTaken d taken = IsTaken (tree_of d) taken

-- where a document has the shape of the grammar, and a value or none, what is taken of it represents that, of equal names the last at the first place
abbrev pub GivesTheValue : Type 0 → Options → OrderedTree → Type 0
GivesTheValue A o tree =
    (found : Option Plain) (taken : Option (CstInputValue A)) → DocumentShaped o tree → DocumentValueOf o tree found → IsTaken tree taken
    → option_map plain taken ≡ option_map collapse found

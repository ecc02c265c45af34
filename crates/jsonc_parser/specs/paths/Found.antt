-- What was found at names in a document, and what was read there.
use Rattle.std.specs.Prelude.{◌≡◌, ◌++◌, [], ◌∷◌, ℕ, List, Option, Some, None, map}
use Rattle.std.specs.declared.string.String.{String}
use Rattle.jsonc_text.specs.Documents.{Document}
use Rattle.jsonc_text.specs.Plain.{Plain, collapse}
use Rattle.jsonc_layout.specs.input.Views.{chars_of, plain}
use Rattle.jsonc_layout.specs.declared.input.value.CstInputValue.{CstInputValue}
use Rattle.jsonc_sound.specs.Documents.{Shows}
use Rattle.jsonc_cst.specs.declared.cst.CstRootNode.{CstRootNode}
use Rattle.jsonc_cst.specs.declared.cst.node.CstNode.{CstNode}
use Rattle.jsonc_cst.specs.Document.{nodes_of, tree_of}
use Rattle.jsonc_cst.specs.Nodes.{number_of}
use Rattle.jsonc_parser.specs.paths.Settings.{At}
use Rattle.jsonc_parser.specs.paths.NamedNodes.{NamesNode, NamesNothing}
use Rattle.jsonc_parser.specs.declared.paths.which.Which.TheVariants.{First}

module _ {A : Type 0} where
  -- the characters of names
  abbrev pub names_of : List (String A) → List (List ℕ)
  names_of names = map chars_of names

  -- the node of what is at the names was found; or none, where nothing is there
  abbrev pub Finds : Document → CstRootNode A → List (List ℕ) → Option CstNode → Type 0
  Finds d doc names None = NamesNothing First d names
  Finds d doc names (Some node) = NamesNode First d (nodes_of doc) names (number_of node)

  -- so it is in whatever document the tree shows
  abbrev pub FindsWhatShown : CstRootNode A → List (List ℕ) → Option CstNode → Type 0
  FindsWhatShown doc names found = (d : Document) → Shows d (tree_of doc) → Finds d doc names found

  -- one name further: nothing is at the names with it, or at any that go on after them
  abbrev pub FindsInside : Document → CstRootNode A → List (List ℕ) → List ℕ → Option CstNode → Type 0
  FindsInside d doc names name None = (rest : List (List ℕ)) → NamesNothing First d (names ++ name ∷ rest)
  FindsInside d doc names name (Some node) = NamesNode First d (nodes_of doc) (names ++ name ∷ []) (number_of node)

  abbrev pub FindsInsideWhatShown : CstRootNode A → CstNode → List ℕ → Option CstNode → Type 0
  FindsInsideWhatShown doc node name found = (d : Document) (names : List (List ℕ)) → Shows d (tree_of doc)
      → NamesNode First d (nodes_of doc) names (number_of node) → FindsInside d doc names name found

  -- what was taken represents the value at the names, of equal names the last at the first place; none was taken where nothing is there
  abbrev pub Reads : Document → List (List ℕ) → Option (CstInputValue A) → Type 0
  Reads d names None = NamesNothing First d names
  Reads d names (Some taken) = (v : Plain) × At d.value names v × (plain taken ≡ collapse v)

  abbrev pub ReadsWhatShown : CstRootNode A → List (List ℕ) → Option (CstInputValue A) → Type 0
  ReadsWhatShown doc names taken = (d : Document) → Shows d (tree_of doc) → Reads d names taken

-- What a pointer refers to in a document that a tree shows.
use Rattle.std.specs.Prelude.{◌≡◌, ◌⊎◌, ◌++◌, ◌∷◌, ℕ, List, Option, Some, None}
use Rattle.jsonc_text.specs.Documents.{Document}
use Rattle.jsonc_text.specs.Plain.{Plain, collapse}
use Rattle.jsonc_tree.specs.OrderedTree.{ordered_tree}
use Rattle.jsonc_tree.specs.Tree.{Node}
use Rattle.jsonc_layout.specs.input.Views.{chars_of, plain}
use Rattle.jsonc_layout.specs.declared.input.value.CstInputValue.{CstInputValue}
use Rattle.jsonc_layout.specs.nodes.Names.{HoldsEscapedName}
use Rattle.jsonc_sound.specs.Documents.{Shows}
use Rattle.jsonc_sound.specs.Sound.{HasValue}
use Rattle.jsonc_edit.specs.Changes.{top_at}
use Rattle.jsonc_edit.specs.Paths.{IsAt}
use Rattle.jsonc_cst.specs.declared.cst.CstRootNode.{CstRootNode}
use Rattle.jsonc_cst.specs.declared.cst.node.CstNode.{CstNode}
use Rattle.jsonc_cst.specs.Document.{nodes_of}
use Rattle.jsonc_cst.specs.Nodes.{number_of}
use Rattle.jsonc_parser.specs.patch.References.{FailsAt, Refers, RefersTo}
use Rattle.jsonc_parser.specs.declared.patch.reference.FindError.{FindError}
use Rattle.jsonc_parser.specs.declared.patch.reference.FindError.TheVariants as error

-- In the document's value the tokens refer to v; and at the positions that they lead over is the node n, which has v.
pub record RefersToNode (d : Document) (ns : List Node) (tokens : List (List ℕ)) (n : ℕ) : Type 0 where
  pub value : Plain
  pub is : d.value ≡ Some value
  pub v : Plain
  pub path : List ℕ
  pub refers : Refers value tokens path v
  pub at : IsAt ns path n
  pub has : HasValue d.options (top_at ns n) v

-- the tokens refer to nothing, and evaluation does not fail
pub record RefersToNothing (d : Document) (tokens : List (List ℕ)) : Type 0 where
  pub nothing : (v : Plain) → RefersTo d.value tokens v → ⊥
  pub unique : (name : List ℕ) → FailsAt d.value tokens name → ⊥

-- the tokens before one of these lead to an object that has a name with a backslash: to look up the next one there may take memory
pub record PassesEscaped (d : Document) (ns : List Node) (tokens : List (List ℕ)) : Type 0 where
  pub front : List (List ℕ)
  pub token : List ℕ
  pub rest : List (List ℕ)
  pub split : tokens ≡ front ++ token ∷ rest
  pub object : ℕ
  pub leads : RefersToNode d ns front object
  pub escaped : HoldsEscapedName ns object

-- memory was needed to look up a name, or for a name that occurs twice
abbrev pub WantsToFind : Document → List Node → List (List ℕ) → Type 0
WantsToFind d ns tokens = PassesEscaped d ns tokens ⊎ ((name : List ℕ) × FailsAt d.value tokens name)

module _ {A : Type 0} where
  -- the node of what they refer to was found, or none where they refer to nothing
  abbrev pub Finds : Document → CstRootNode A → List (List ℕ) → Option CstNode → Type 0
  Finds d doc tokens None = RefersToNothing d tokens
  Finds d doc tokens (Some node) = RefersToNode d (nodes_of doc) tokens (number_of node)

  -- what was taken represents the value that they refer to, of equal names the last at the first place
  abbrev pub Reads : Document → List (List ℕ) → Option (CstInputValue A) → Type 0
  Reads d tokens None = RefersToNothing d tokens
  Reads d tokens (Some taken) = (v : Plain) × RefersTo d.value tokens v × (plain taken ≡ collapse v)

  -- the name occurs twice where it is looked up; or memory was needed
  abbrev pub FindFails : Document → CstRootNode A → List (List ℕ) → FindError A → Type 0
  FindFails d doc tokens (error.RepeatedName name) = FailsAt d.value tokens (chars_of name)
  FindFails d doc tokens error.OutOfMemory = WantsToFind d (nodes_of doc) tokens

  abbrev pub ReadFails : Document → CstRootNode A → List (List ℕ) → FindError A → Type 0
  ReadFails d doc tokens (error.RepeatedName name) = FailsAt d.value tokens (chars_of name)
  ReadFails d doc tokens error.OutOfMemory = WantsToFind d (nodes_of doc) tokens ⊎ ((v : Plain) × RefersTo d.value tokens v)

  -- so it is in whatever document the tree shows
  abbrev pub IsOfShown : CstRootNode A → (Document → Type 0) → Type 0
  IsOfShown doc P = (d : Document) → Shows d (ordered_tree (nodes_of doc) 0) → P d

-- The pointer of a node: a token for each step of the path that leads to it.
use Rattle.std.specs.Prelude.{◌≡◌, ◌∷◌, [], ℕ, List, Option, Some, None}
use Rattle.std.specs.declared.string.String.{String}
use Rattle.std.specs.declared.vec.Vec.{Vec}
use Rattle.jsonc_text.specs.Documents.{Document}
use Rattle.jsonc_text.specs.Plain.{Plain}
use Rattle.jsonc_tree.specs.OrderedTree.{ordered_tree}
use Rattle.jsonc_layout.specs.input.Views.{chars_of}
use Rattle.jsonc_sound.specs.Documents.{Shows}
use Rattle.jsonc_cst.specs.declared.cst.CstRootNode.{CstRootNode}
use Rattle.jsonc_cst.specs.declared.cst.node.CstNode.{CstNode}
use Rattle.jsonc_cst.specs.Document.{nodes_of, HasNode}
use Rattle.jsonc_cst.specs.Nodes.{number_of}
use Rattle.jsonc_parser.specs.paths.Found.{names_of}
use Rattle.jsonc_parser.specs.patch.Found.{Finds, IsOfShown, RefersToNode}
use Rattle.jsonc_parser.specs.patch.Lookups.{StepsTo}
use Rattle.jsonc_parser.specs.patch.Pointer.{tokens_of}
use Rattle.jsonc_parser.specs.patch.References.{Refers}
use Rattle.jsonc_parser.specs.declared.patch.pointer.Pointer.{Pointer}

module _ {A : Type 0} where
  -- in what the node is no token refers to what is at the place
  abbrev pub HasNoToken : CstRootNode A → CstNode → ℕ → Type 0
  HasNoToken doc node place =
      (d : Document) (tokens : List (List ℕ)) → Shows d (ordered_tree (nodes_of doc) 0) → (w : RefersToNode d (nodes_of doc) tokens (number_of node))
      → (token : List ℕ) (x : Plain) → Refers w.v (token ∷ []) (place ∷ []) x → ⊥

  -- the token that leads from a node to that of this number, which is at the place there; none where there is no such token
  abbrev pub IsTokenTo : CstRootNode A → CstNode → ℕ → ℕ → Option (String A × CstNode) → Type 0
  IsTokenTo doc node place n None = HasNoToken doc node place
  IsTokenTo doc node place n (Some found) = (number_of found.1 ≡ n) × StepsTo doc node (chars_of found.0) (Some found.1)

  -- tokens that refer to the node of this number; none where no tokens refer to it
  abbrev pub AreTokensTo : CstRootNode A → ℕ → Option (Vec (String A) A) → Document → Type 0
  AreTokensTo doc n None d = (tokens : List (List ℕ)) → RefersToNode d (nodes_of doc) tokens n → ⊥
  AreTokensTo doc n (Some found) d = RefersToNode d (nodes_of doc) (names_of found.items) n

  -- the same of a pointer
  abbrev pub IsPointerTo : CstRootNode A → ℕ → Option (Pointer A) → Document → Type 0
  IsPointerTo doc n None d = (tokens : List (List ℕ)) → RefersToNode d (nodes_of doc) tokens n → ⊥
  IsPointerTo doc n (Some pointer) d = RefersToNode d (nodes_of doc) (tokens_of pointer) n

  -- what is found by tokens that refer to a node is that node
  abbrev pub LeadsBack : CstRootNode A → CstNode → List (List ℕ) → Type 0
  LeadsBack doc node tokens =
      HasNode doc node → (found : Option CstNode) → ((other : CstNode) → found ≡ Some other → HasNode doc other)
      → IsOfShown doc (λ d. RefersToNode d (nodes_of doc) tokens (number_of node) → Finds d doc tokens found → found ≡ Some node)

-- One token of a pointer, looked up in a node.
use Rattle.std.specs.Prelude.{◌≡◌, ◌⊎◌, ◌++◌, [], ◌∷◌, ℕ, List, Option, Some, None}
use Rattle.jsonc_text.specs.Documents.{Document}
use Rattle.jsonc_tree.specs.OrderedTree.{ordered_tree}
use Rattle.jsonc_tree.specs.Tree.{Node}
use Rattle.jsonc_layout.specs.input.Views.{chars_of}
use Rattle.jsonc_layout.specs.nodes.Names.{FirstNamed, HoldsEscapedName, IsNamed}
use Rattle.jsonc_sound.specs.Documents.{Shows}
use Rattle.jsonc_edit.specs.Paths.{IsElementOf}
use Rattle.jsonc_cst.specs.declared.cst.CstRootNode.{CstRootNode}
use Rattle.jsonc_cst.specs.declared.cst.node.CstNode.{CstNode}
use Rattle.jsonc_cst.specs.Document.{nodes_of}
use Rattle.jsonc_cst.specs.Nodes.{number_of}
use Rattle.jsonc_parser.specs.patch.Found.{RefersToNode, RefersToNothing}
use Rattle.jsonc_parser.specs.patch.References.{FailsAt, IsIndex}
use Rattle.jsonc_parser.specs.declared.patch.reference.FindError.{FindError}
use Rattle.jsonc_parser.specs.declared.patch.reference.FindError.TheVariants as error
use Rattle.jsonc_parser.specs.declared.patch.reference.Lookup.{Lookup}
use Rattle.jsonc_parser.specs.declared.patch.reference.Lookup.TheVariants.{Missing, Once, Twice}

-- which of these nodes is the one property of this name: none, this one, or none since there are two
pub data IsLookedUp (ns : List Node) (name : List ℕ) : List ℕ → Lookup → Type 0 where
  no_more : IsLookedUp ns name [] Missing
  past : {n : ℕ} {rest : List ℕ} {found : Lookup} → (IsNamed ns name n → ⊥) → IsLookedUp ns name rest found → IsLookedUp ns name (n ∷ rest) found
  alone : {n : ℕ} {rest : List ℕ} → IsNamed ns name n → FirstNamed ns name rest None → IsLookedUp ns name (n ∷ rest) (Once n)
  again : {n m : ℕ} {rest : List ℕ} → IsNamed ns name n → FirstNamed ns name rest (Some m) → IsLookedUp ns name (n ∷ rest) Twice

-- the one property
abbrev pub found_once : Lookup → Option ℕ
found_once (Once n) = Some n
found_once _ = None

-- the element of the index that the token is; there is none where the token is none, or the elements are fewer
abbrev pub IsElementBy : List Node → ℕ → List ℕ → Option ℕ → Type 0
IsElementBy ns n token None = (i q : ℕ) → IsIndex token i → IsElementOf ns n i q → ⊥
IsElementBy ns n token (Some q) = (i : ℕ) × IsIndex token i × IsElementOf ns n i q

module _ {A : Type 0} where
  -- the error has the name, or says that there was no memory for it
  abbrev pub SaysRepeated : List ℕ → FindError A → Type 0
  SaysRepeated name (error.RepeatedName s) = chars_of s ≡ name
  SaysRepeated name error.OutOfMemory = Unit {0}

  -- to a node to which tokens lead
  abbrev pub IsOfNode : CstRootNode A → CstNode → (Document → List (List ℕ) → Type 0) → Type 0
  IsOfNode doc node P =
      (d : Document) (tokens : List (List ℕ)) → Shows d (ordered_tree (nodes_of doc) 0) → RefersToNode d (nodes_of doc) tokens (number_of node) → P d tokens

  -- one token further: they refer to nothing with it, whatever follows it; or to this node
  abbrev pub Steps : CstRootNode A → List ℕ → Option CstNode → Document → List (List ℕ) → Type 0
  Steps doc token None d tokens = (rest : List (List ℕ)) → RefersToNothing d (tokens ++ token ∷ rest)
  Steps doc token (Some inner) d tokens = RefersToNode d (nodes_of doc) (tokens ++ token ∷ []) (number_of inner)

  abbrev pub StepsTo : CstRootNode A → CstNode → List ℕ → Option CstNode → Type 0
  StepsTo doc node token found = IsOfNode doc node (Steps doc token found)

  -- the token is a name that occurs twice there
  abbrev pub FailsThere : CstRootNode A → CstNode → List ℕ → Type 0
  FailsThere doc node token = IsOfNode doc node (λ d tokens. (rest : List (List ℕ)) → FailsAt d.value (tokens ++ token ∷ rest) token)

  -- that is so of the name; or memory was needed for it, or for a name with a backslash
  abbrev pub StepFails : CstRootNode A → CstNode → List ℕ → FindError A → Type 0
  StepFails doc node token (error.RepeatedName name) = (chars_of name ≡ token) × FailsThere doc node token
  StepFails doc node token error.OutOfMemory = HoldsEscapedName (nodes_of doc) (number_of node) ⊎ FailsThere doc node token

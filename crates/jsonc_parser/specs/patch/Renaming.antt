-- A move within one object, to a name that no member has.
use Rattle.std.specs.Prelude.{◌≡◌, ◌++◌, ◌∷◌, [], ℕ, List}
use Rattle.jsonc_cst.specs.declared.cst.CstRootNode.{CstRootNode}
use Rattle.jsonc_cst.specs.declared.cst.node.CstNode.{CstNode}
use Rattle.jsonc_cst.specs.Document.{nodes_of}
use Rattle.jsonc_cst.specs.Nodes.{number_of}
use Rattle.jsonc_parser.specs.patch.Applied.{FailsWhatShown, MakesWhatShown}
use Rattle.jsonc_parser.specs.patch.Found.{IsOfShown, RefersToNode, RefersToNothing}
use Rattle.jsonc_parser.specs.patch.MergeSteps.{RefersToObject}
use Rattle.jsonc_parser.specs.patch.Operations as value
use Rattle.jsonc_parser.specs.declared.patch.making.PatchCause.{PatchCause}

-- both are these tokens and one more, of the second the name
pub record AreBeside (from to tokens : List (List ℕ)) (name : List ℕ) : Type 0 where
  pub last : List ℕ
  pub first : from ≡ tokens ++ last ∷ []
  pub second : to ≡ tokens ++ name ∷ []

module _ {A : Type 0} where
  -- The first tokens refer to the node, a member of an object, and the others, which end with the name, lead to nothing in the same object.
  pub record IsRenaming (doc : CstRootNode A) (from to : List (List ℕ)) (node : CstNode) (name : List ℕ) : Type 0 where
    pub tokens : List (List ℕ)
    pub beside : AreBeside from to tokens name
    pub object : IsOfShown doc (λ d. RefersToObject d.value tokens)
    pub refers : IsOfShown doc (λ d. RefersToNode d (nodes_of doc) from (number_of node))
    pub nothing : IsOfShown doc (λ d. RefersToNothing d to)

  -- so the move is made
  abbrev pub RenamesAt : CstRootNode A → CstNode → List ℕ → CstRootNode A → Type 0
  RenamesAt old node name new = (from to : List (List ℕ)) → IsRenaming old from to node name → MakesWhatShown old (value.move from to) (λ o. Unit {0}) new

  -- so it is not made
  abbrev pub FailsToRename : CstRootNode A → CstNode → List ℕ → PatchCause A → Type 0
  FailsToRename doc node name cause = (from to : List (List ℕ)) → IsRenaming doc from to node name → FailsWhatShown doc (value.move from to) cause

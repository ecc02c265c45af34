-- How far names lead in a document, by positions.
use Rattle.std.specs.Prelude.{◌≡◌, ◌<◌, ◌+◌, ◌++◌, ℕ, List, [], ◌∷◌, Some, None, drop, take}
use Rattle.jsonc_text.specs.Documents.{Document}
use Rattle.jsonc_text.specs.Plain.{Plain, Members, object}
use Rattle.jsonc_tree.specs.Tree.{Node}
use Rattle.jsonc_sound.specs.Documents.{Shows}
use Rattle.jsonc_insert.specs.named.Members.{LacksMember}
use Rattle.jsonc_cst.specs.declared.cst.CstRootNode.{CstRootNode}
use Rattle.jsonc_cst.specs.declared.cst.node.CstNode.{CstNode}
use Rattle.jsonc_cst.specs.Document.{nodes_of, tree_of, HasNode}
use Rattle.jsonc_cst.specs.Nodes.{number_of}
use Rattle.jsonc_parser.specs.paths.Settings.{IsNoObject}
use Rattle.jsonc_parser.specs.paths.Positions.{Leads}
use Rattle.jsonc_parser.specs.paths.NamedNodes.{NamesNode}
use Rattle.jsonc_parser.specs.declared.paths.which.Which.{Which}
use Rattle.jsonc_parser.specs.declared.paths.reached.Reached.{Reached}
use Rattle.jsonc_parser.specs.declared.paths.reached.Reached.TheVariants.{Nothing, Value, Missing, Another}
use Rattle.jsonc_parser.specs.declared.paths.reached.Step.{Step}
use Rattle.jsonc_parser.specs.declared.paths.reached.Step.TheVariants as steps

-- where a name leads from a node that names lead to: over a position to the value there; nowhere, as the object lacks the name; or nowhere, as it is no object
abbrev pub Steps : (which : Which) (d : Document) (ns : List Node) (names : List (List ℕ)) (n : ℕ) (name : List ℕ) → NamesNode which d ns names n → Step → Type 0
Steps which d ns names n name w (steps.On index node) = (further : NamesNode which d ns (names ++ name ∷ []) (number_of node)) × (further.path ≡ w.path ++ index ∷ [])
Steps which d ns names n name w steps.Missing = (ms : Members) × (w.v ≡ object ms) × LacksMember name ms
Steps which d ns names n name w steps.Another = IsNoObject w.v

-- the document's value is x, the names before this number lead in it over the path to v, and then this name and the rest follow
pub record ReachesTo (which : Which) (d : Document) (names : List (List ℕ)) (path : List ℕ) (count : ℕ) (v : Plain) : Type 0 where
  pub x : Plain
  pub is : d.value ≡ Some x
  pub leads : Leads which (take count names) path x v
  pub name : List ℕ
  pub next : drop count names ≡ name ∷ drop (count + 1) names

module _ {A : Type 0} where
  abbrev pub StepsWhatShown : Which → CstRootNode A → CstNode → List ℕ → Step → Type 0
  StepsWhatShown which doc node name step =
      (d : Document) (names : List (List ℕ)) → Shows d (tree_of doc) → (w : NamesNode which d (nodes_of doc) names (number_of node)) → Steps which d (nodes_of doc) names (number_of node) name w step

  -- what was reached: no value; a value; the object that lacks the name of this number; or a value of another kind before the name of this number
  abbrev pub IsReached : Which → Document → List (List ℕ) → Reached A → Type 0
  IsReached which d names Nothing = d.value ≡ None
  IsReached which d names (Value path) = (x v : Plain) × (d.value ≡ Some x) × Leads which names path.items x v
  IsReached which d names (Missing path count) = (ms : Members) × (to : ReachesTo which d names path.items count (object ms)) × LacksMember to.name ms
  IsReached which d names (Another path count) = (v : Plain) × ReachesTo which d names path.items count v × IsNoObject v

  abbrev pub ReachesWhatShown : Which → CstRootNode A → List (List ℕ) → Reached A → Type 0
  ReachesWhatShown which doc names reached = (d : Document) → Shows d (tree_of doc) → IsReached which d names reached

  -- the number is that of one of so many names
  abbrev pub CountsWithin : ℕ → Reached A → Type 0
  CountsWithin n (Missing path count) = count < n
  CountsWithin n (Another path count) = count < n
  CountsWithin n reached = Unit {0}

  -- the document has the node of a step
  abbrev pub StepHolds : CstRootNode A → Step → Type 0
  StepHolds doc (steps.On index node) = HasNode doc node
  StepHolds doc step = Unit {0}

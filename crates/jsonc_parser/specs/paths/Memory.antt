-- What memory is needed for at a path of names: to look up a name, or after that for what is read, put or dropped there.
use Rattle.std.specs.Prelude.{◌≡◌, ◌⊎◌, ◌++◌, ◌∷◌, ℕ, Bool, List, Option}
use Rattle.std.specs.Bool.{Decides}
use Rattle.jsonc_text.specs.Documents.{Document}
use Rattle.jsonc_text.specs.Plain.{Plain}
use Rattle.jsonc_tree.specs.OrderedTree.{ordered_tree}
use Rattle.jsonc_tree.specs.Tree.{Node}
use Rattle.jsonc_layout.specs.nodes.Names.{HoldsEscapedName}
use Rattle.jsonc_sound.specs.Documents.{Shows}
use Rattle.jsonc_text.specs.declared.edit.Over.{Over}
use Rattle.jsonc_parser.specs.paths.Laws.{MustStay}
use Rattle.jsonc_parser.specs.paths.Settings.{At, IsInTheWay}
use Rattle.jsonc_parser.specs.paths.NamedNodes.{NamesNode}
use Rattle.jsonc_parser.specs.paths.Which.{seen_if}
use Rattle.jsonc_parser.specs.declared.paths.which.Which.{Which}
use Rattle.jsonc_parser.specs.declared.paths.which.Which.TheVariants.{First}

-- The names before one of these lead to an object that has a name with a backslash: to look up the next one there may take memory.
pub record PassesEscaped (which : Which) (d : Document) (ns : List Node) (names : List (List ℕ)) : Type 0 where
  pub front : List (List ℕ)
  pub name : List ℕ
  pub rest : List (List ℕ)
  pub split : names ≡ front ++ name ∷ rest
  pub object : ℕ
  pub leads : NamesNode which d ns front object
  pub escaped : HoldsEscapedName ns object

-- something is at the names
abbrev pub SomethingAt : Option Plain → List (List ℕ) → Type 0
SomethingAt w names = (v : Plain) × At w names v

-- allocation failed to look up a name, in whatever document the nodes show
abbrev pub WantsToLookUp : Which → List Node → List (List ℕ) → Type 0
WantsToLookUp which ns names = (d : Document) → Shows d (ordered_tree ns 0) → PassesEscaped which d ns names

-- it was so, or something is at the names, for which it was needed
abbrev pub WantsForSomething : List Node → List (List ℕ) → Type 0
WantsForSomething ns names = (d : Document) → Shows d (ordered_tree ns 0) → PassesEscaped First d ns names ⊎ SomethingAt d.value names

-- it was so, or nothing is in the way that is to stay, and a value can be put there
abbrev pub WantsToPut : Which → Over → List Node → List (List ℕ) → Type 0
WantsToPut which over ns names = (d : Document) → Shows d (ordered_tree ns 0) → PassesEscaped which d ns names ⊎ ¬ (MustStay over (seen_if which d.value) names)

-- whether a value of another kind than an object is in the way
abbrev pub DecidesInTheWay : Which → List Node → List (List ℕ) → Bool → Type 0
DecidesInTheWay which ns names b = (d : Document) → Shows d (ordered_tree ns 0) → Decides b (IsInTheWay (seen_if which d.value) names)

-- and whether it is to stay
abbrev pub DecidesMustStay : Which → Over → List Node → List (List ℕ) → Bool → Type 0
DecidesMustStay which over ns names b = (d : Document) → Shows d (ordered_tree ns 0) → Decides b (MustStay over (seen_if which d.value) names)

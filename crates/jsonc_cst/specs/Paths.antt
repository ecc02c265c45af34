-- Where a property is, and the names that lead to a value.
use Rattle.std.specs.Prelude.{◌≡◌, ℕ, List, [], ◌∷◌}
use Rattle.jsonc_tree.specs.Content.{object}
use Rattle.jsonc_tree.specs.Tree.{Node, content_at}
use Rattle.jsonc_layout.specs.nodes.Names.{HasName}
use Rattle.jsonc_edit.specs.Paths.{IsElementOf, IsHeldBy}

-- r is the element of the object p at this place among its elements
abbrev pub IsEntryOf : List Node → ℕ → ℕ → ℕ → Type 0
IsEntryOf ns p i r = (content_at ns p ≡ object) × IsElementOf ns p i r

-- a step leads from the object p through its property r to the value q
abbrev pub StepsThrough : List Node → ℕ → ℕ → ℕ → Type 0
StepsThrough ns p r q = (i : ℕ) × IsEntryOf ns p i r × IsHeldBy ns r q

-- the property that it goes through has this name
abbrev pub StepsByName : List Node → ℕ → List ℕ → ℕ → Type 0
StepsByName ns p name q = (r : ℕ) × StepsThrough ns p r q × HasName ns r name

-- from a value the names lead to the node n, a step at a time
pub data LeadsByNames (ns : List Node) (n : ℕ) : ℕ → List (List ℕ) → Type 0 where
  itself : LeadsByNames ns n n []
  step : {p q : ℕ} {name : List ℕ} {names : List (List ℕ)} → StepsByName ns p name q → LeadsByNames ns n q names → LeadsByNames ns n p (name ∷ names)

-- from the document's value, which is the root's first element
abbrev pub IsAtNames : List Node → List (List ℕ) → ℕ → Type 0
IsAtNames ns names n = (v : ℕ) × IsElementOf ns 0 0 v × LeadsByNames ns n v names

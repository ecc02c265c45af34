-- The path of a value in a document, by the numbers of nodes.
use Rattle.std.specs.Prelude.{◌≡◌, ◌↔◌, ℕ, List, [], ◌∷◌, Option, Some, IsTrue}
use Rattle.std.specs.List.{slice_get}
use Rattle.jsonc_tree.specs.Content.{array, object, property}
use Rattle.jsonc_tree.specs.Tree.{Node, content_at}
use Rattle.jsonc_tree.specs.Values.{is_passed_over}
use Rattle.jsonc_layout.specs.nodes.Properties.{value_at}
use Rattle.jsonc_layout.specs.nodes.Siblings.{elements_at}

-- q is the element of p at this place among its elements
abbrev pub IsElementOf : List Node → ℕ → ℕ → ℕ → Type 0
IsElementOf ns p i q = slice_get (elements_at ns p) i ≡ Some q

-- q is the value of the property r, and the element beside its name: its second
abbrev pub IsHeldBy : List Node → ℕ → ℕ → Type 0
IsHeldBy ns r q = (content_at ns r ≡ property) × IsElementOf ns r 1 q × (value_at ns r ≡ Some q)

-- a step leads from an array to the element at its place, and from an object to the value of the property at its place
pub data StepsTo (ns : List Node) (p i q : ℕ) : Type 0 where
  in_array : content_at ns p ≡ array → IsElementOf ns p i q → StepsTo ns p i q
  in_object : {r : ℕ} → content_at ns p ≡ object → IsElementOf ns p i r → IsHeldBy ns r q → StepsTo ns p i q

-- from a value the path leads to the node n, a step at a time
pub data LeadsTo (ns : List Node) (n : ℕ) : ℕ → List ℕ → Type 0 where
  itself : LeadsTo ns n n []
  step : {p i q : ℕ} {path : List ℕ} → StepsTo ns p i q → LeadsTo ns n q path → LeadsTo ns n p (i ∷ path)

-- from the document's value, which is the root's first element
abbrev pub IsAt : List Node → List ℕ → ℕ → Type 0
IsAt ns path n = (v : ℕ) × IsElementOf ns 0 0 v × LeadsTo ns n v path

-- where a node stands in a document: it is the root, a value at a path, a property of an object at a path, the name of a property, or trivia or a token
pub data Stands (ns : List Node) (n : ℕ) : Type 0 where
  as_root : n ≡ 0 → Stands ns n
  as_value : {path : List ℕ} → IsAt ns path n → Stands ns n
  as_property : {path : List ℕ} {p : ℕ} (i : ℕ) → IsAt ns path p → content_at ns p ≡ object → IsElementOf ns p i n → content_at ns n ≡ property → Stands ns n
  as_name : (r : ℕ) → content_at ns r ≡ property → IsElementOf ns r 0 n → Stands ns n
  between : IsTrue (is_passed_over (content_at ns n)) → Stands ns n

-- what is found is the one node of which R holds, and nothing where R holds of none
abbrev pub FindsExactly : Option ℕ → (ℕ → Type 0) → Type 0
FindsExactly found R = (n : ℕ) → (found ≡ Some n) ↔ R n

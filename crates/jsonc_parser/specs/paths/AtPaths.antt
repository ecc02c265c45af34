-- What is at paths of positions: which node is found there, what it has, and what is taken of it.
use Rattle.std.specs.Prelude.{◌≡◌, ◌↔◌, ◌++◌, ◌∷◌, [], ℕ, List, Option, Some, None, option_map}
use Rattle.jsonc_text.specs.Documents.{Document}
use Rattle.jsonc_text.specs.Plain.{Plain, Members, collapse}
use Rattle.jsonc_text.specs.Plain as plain_values
use Rattle.jsonc_layout.specs.input.Views.{plain}
use Rattle.jsonc_layout.specs.declared.input.value.CstInputValue.{CstInputValue}
use Rattle.jsonc_tree.specs.Content.{object}
use Rattle.jsonc_tree.specs.OrderedTree.{ordered_tree}
use Rattle.jsonc_tree.specs.Tree.{Node, content_at, IsOver, IsTree}
use Rattle.jsonc_layout.specs.nodes.Names.{FirstInObject}
use Rattle.jsonc_layout.specs.nodes.Properties.{value_at}
use Rattle.jsonc_layout.specs.to_input.Taken.{IsTaken}
use Rattle.jsonc_sound.specs.Changes.{Changed}
use Rattle.jsonc_sound.specs.Documents.{Shows}
use Rattle.jsonc_sound.specs.Sound.{HasValue}
use Rattle.jsonc_edit.specs.Changes.{top_at}
use Rattle.jsonc_edit.specs.Paths.{IsAt, Stands}
use Rattle.jsonc_insert.specs.named.Members.{IsFirstMember, LacksMember}
use Rattle.jsonc_insert.specs.named.Places.{IsPropertyAt}

-- The node at the path has the value v, which is there in the document's: there v may be replaced by itself. What is taken of the node represents v, of equal
-- names the last at the first place.
pub record HasItsValue (A : Type 0) (d : Document) (ns : List Node) (path : List ℕ) (n : ℕ) : Type 0 where
  pub x : Plain
  pub is : d.value ≡ Some x
  pub v : Plain
  pub there : Changed v v path x x
  pub has : HasValue d.options (top_at ns n) v
  pub taken : (taken : Option (CstInputValue A)) → IsTaken (ordered_tree ns n) taken → option_map plain taken ≡ Some (collapse v)

abbrev pub NodesHaveValues : Type 0 → Document → List Node → List ℕ → ℕ → Type 0
NodesHaveValues A d ns path n = IsTree ns → Shows d (ordered_tree ns 0) → IsAt ns path n → HasItsValue A d ns path n

-- The root holds the node at the empty path, and none exactly where the document has no value.
pub record HoldsAtRoot (d : Document) (ns : List Node) : Type 0 where
  pub some : (n : ℕ) → value_at ns 0 ≡ Some n → IsAt ns [] n
  pub none : (value_at ns 0 ≡ None) ↔ (d.value ≡ None)

abbrev pub RootHolds : Document → List Node → Type 0
RootHolds d ns = IsTree ns → Shows d (ordered_tree ns 0) → HoldsAtRoot d ns

-- the property that a path leads to holds the node at this path
abbrev pub PropertyHolds : Document → List Node → List ℕ → ℕ → Type 0
PropertyHolds d ns path r = IsTree ns → Shows d (ordered_tree ns 0) → IsPropertyAt ns path r → (n : ℕ) × (value_at ns r ≡ Some n) × IsAt ns path n

-- In the document's value these properties are those of the object at the path. None is found exactly where none of them has the name; and what is found is the first of
-- the name, to which the path leads by its number.
pub record IsFoundFirst (d : Document) (ns : List Node) (path name : List ℕ) (found : Option ℕ) : Type 0 where
  pub x : Plain
  pub is : d.value ≡ Some x
  pub ms : Members
  pub there : Changed (plain_values.object ms) (plain_values.object ms) path x x
  pub none : (found ≡ None) ↔ LacksMember name ms
  pub some : (r : ℕ) → found ≡ Some r → (i : ℕ) × IsFirstMember name i ms × IsPropertyAt ns (path ++ i ∷ []) r

abbrev pub FindsFirst : Document → List Node → List ℕ → ℕ → List ℕ → Option ℕ → Type 0
FindsFirst d ns path n name found =
    IsTree ns → Shows d (ordered_tree ns 0) → IsAt ns path n → content_at ns n ≡ object → FirstInObject ns n name found → IsFoundFirst d ns path name found

-- each node that is in the document is at its place there
abbrev pub IsAtItsPlace : Document → List Node → ℕ → Type 0
IsAtItsPlace d ns n = IsTree ns → Shows d (ordered_tree ns 0) → IsOver ns 0 n → Stands ns n

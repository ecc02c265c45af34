-- Where words lead in a document's value.
use Rattle.std.specs.Prelude.{◌≡◌, ℕ, List, Option, Some, None}
use Rattle.jsonc_text.specs.Plain.{Plain}
use Rattle.jsonc_cst.specs.declared.cst.CstRootNode.{CstRootNode}
use Rattle.jsonc_cst.specs.declared.cst.node.CstNode.{CstNode}
use Rattle.jsonc_cst.specs.declared.cst.node.CstContainerNode.{CstContainerNode}
use Rattle.jsonc_cst.specs.declared.cst.node.CstContainerNode.TheVariants.{ObjectProp}
use Rattle.jsonc_cst.specs.declared.cst.node.CstNode.TheVariants.{Container}
use Rattle.jsonc_cst.specs.Document.{nodes_of, parent_of}
use Rattle.jsonc_cst.specs.Nodes.{number_of, object_prop_node}
use Rattle.jsonc_cst.specs.Readings.{value_under}
use Rattle.jsonc_edit.specs.Paths.{IsAt}
use Rattle.jsonc_parser.specs.declared.paths.which.Which.TheVariants.{First}
use Rattle.jsonc_parser.specs.paths.Found.{names_of}
use Rattle.jsonc_parser.specs.paths.Positions.{Leads}
use Rattle.jsonc_parser.specs.patch.Found.{IsOfShown}
use Rattle.jsonc_parser.specs.patch.Pointer.{tokens_of}
use Rattle.jsonc_parser.specs.patch.Putting.{LeadsAlong}
use Rattle.jsonc_text.specs.Documents.{Document}
use Rattle.jsonc_program.specs.declared.edit.place.Way.{Way}
use Rattle.jsonc_program.specs.declared.edit.place.Way.TheVariants as ways

-- the tokens of a JSON Pointer, which lead through objects and arrays, or names, which lead through objects alone
pub data Route : Type 0 where
  tokens : List (List ℕ) → Route
  names : List (List ℕ) → Route

-- In a document of this value the route leads over these positions to v. Of equal names the first leads on.
abbrev pub LeadsBy : Route → Option Plain → List ℕ → Plain → Type 0
LeadsBy (tokens ts) w path v = LeadsAlong w ts path v
LeadsBy (names ns) w path v = (x : Plain) × (w ≡ Some x) × Leads First ns path x v

-- it leads to nothing
abbrev pub LeadsNowhere : Route → Option Plain → Type 0
LeadsNowhere route w = (path : List ℕ) (v : Plain) → LeadsBy route w path v → ⊥

-- the route leads somewhere, over positions of which this is so
abbrev pub LeadsWhere : Route → Document → (List ℕ → Type 0) → Type 0
LeadsWhere route d is_so = (path : List ℕ) × (v : Plain) × LeadsBy route d.value path v × is_so path

-- the property that has a value, or else the value itself
abbrev pub entry_under : CstNode → Option CstContainerNode → CstNode
entry_under node (Some (ObjectProp property)) = object_prop_node property
entry_under node other = node

module _ {A : Type 0} where
  abbrev pub route_of : Way A → Route
  route_of (ways.Tokens pointer) = tokens (tokens_of pointer)
  route_of (ways.Names ns) = names (names_of ns.items)

  -- the node is the one at the positions that the route leads over; or there is none, and it leads to nothing
  abbrev pub IsLedTo : CstRootNode A → Route → Option CstNode → Type 0
  IsLedTo doc route None = IsOfShown doc (λ d. LeadsNowhere route d.value)
  IsLedTo doc route (Some node) = IsOfShown doc (λ d. LeadsWhere route d (λ path. IsAt (nodes_of doc) path (number_of node)))

  -- so it is of the positions alone
  abbrev pub LeadsOver : CstRootNode A → Route → List ℕ → Type 0
  LeadsOver doc route over = IsOfShown doc (λ d. LeadsWhere route d (λ path. over ≡ path))

  abbrev pub IsLedOver : CstRootNode A → Route → Option (List ℕ) → Type 0
  IsLedOver doc route None = IsOfShown doc (λ d. LeadsNowhere route d.value)
  IsLedOver doc route (Some over) = LeadsOver doc route over

  -- the value that an entry is, or that a property has
  abbrev pub value_of_entry : CstRootNode A → CstNode → Option CstNode
  value_of_entry doc (Container (ObjectProp property)) = value_under doc property.number
  value_of_entry doc node = Some node

  -- the property that has the value, or else the value itself
  abbrev pub entry_of : CstRootNode A → CstNode → CstNode
  entry_of doc node = entry_under node (parent_of doc node)

-- Which property of several of one name leads on: the first, or the last, as readers see it that take of equal names the last.
use Rattle.std.specs.Prelude.{ℕ, suc, List, ◌∷◌, ◌++◌, Option, Some, None, option_map}
use Rattle.jsonc_text.specs.Plain.{Plain, Members, member, collapse, collapse_members}
use Rattle.jsonc_tree.specs.Tree.{Node, children_at}
use Rattle.jsonc_layout.specs.nodes.Names.{FirstNamed, IsNamed}
use Rattle.jsonc_insert.specs.named.Members.{LacksMember}
use Rattle.jsonc_cst.specs.declared.cst.CstRootNode.{CstRootNode}
use Rattle.jsonc_cst.specs.declared.cst.node.CstObject.{CstObject}
use Rattle.jsonc_cst.specs.declared.cst.node.CstObjectProp.{CstObjectProp}
use Rattle.jsonc_cst.specs.Document.{nodes_of}
use Rattle.jsonc_parser.specs.paths.Settings.{FirstAt}
use Rattle.jsonc_parser.specs.declared.paths.which.Which.{Which}
use Rattle.jsonc_parser.specs.declared.paths.which.Which.TheVariants.{First, Last}

-- the last property of this name is the one of this number, and has this value
pub data LastAt (name : List ℕ) (v : Plain) : ℕ → Members → Type 0 where
  last_one : {ms : Members} → LacksMember name ms → LastAt name v 0 (member name v ms)
  last_later : {i : ℕ} {n : List ℕ} {w : Plain} {ms : Members} → LastAt name v i ms → LastAt name v (suc i) (member n w ms)

-- the first property of this name, or the last, is the one of this number, and has this value
abbrev pub IsChosenAt : Which → List ℕ → Plain → ℕ → Members → Type 0
IsChosenAt First = FirstAt
IsChosenAt Last = LastAt

-- the last of these nodes that is a property of this name, if there is one
pub data LastNamed (ns : List Node) (v : List ℕ) : List ℕ → Option ℕ → Type 0 where
  none_named : {row : List ℕ} → FirstNamed ns v row None → LastNamed ns v row None
  last_named : (front : List ℕ) {n : ℕ} {rest : List ℕ} → IsNamed ns v n → FirstNamed ns v rest None → LastNamed ns v (front ++ n ∷ rest) (Some n)

-- the first property of this name in an object, or the last, if there is one
abbrev pub IsChosenIn : Which → List Node → ℕ → List ℕ → Option ℕ → Type 0
IsChosenIn First ns object v found = FirstNamed ns v (children_at ns object) found
IsChosenIn Last ns object v found = LastNamed ns v (children_at ns object) found

module _ {A : Type 0} where
  -- the first property of a name in an object, or the last, if there is one
  abbrev pub IsChosenNamed : Which → CstRootNode A → CstObject → List ℕ → Option CstObjectProp → Type 0
  IsChosenNamed which d object name found = IsChosenIn which (nodes_of d) object.number name (option_map (λ p. p.number) found)

-- A value as it is seen where a name refers to that property: as it is, or with equal names collapsed. In what is seen names are looked up as first ones.
abbrev pub seen : Which → Plain → Plain
seen First x = x
seen Last x = collapse x

abbrev pub seen_members : Which → Members → Members
seen_members First ms = ms
seen_members Last ms = collapse_members ms

-- of a document that may have no value
abbrev pub seen_if : Which → Option Plain → Option Plain
seen_if First w = w
seen_if Last w = option_map collapse w

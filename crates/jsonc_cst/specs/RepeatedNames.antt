-- Properties whose name an earlier one has. Names within an object should be unique: RFC 8259, section 4.
use Rattle.std.specs.Prelude.{◌≡◌, ◌↔◌, ◌⊎◌, ℕ, List, [], ◌∷◌, ◌++◌, map, String, string_bytes, chars}
use Rattle.std.specs.List.{Contains}
use Rattle.jsonc_tree.specs.Tree.{Node, children_at}
use Rattle.jsonc_layout.specs.nodes.Names.{IsNamed}
use Rattle.jsonc_cst.specs.declared.cst.CstRootNode.{CstRootNode}
use Rattle.jsonc_cst.specs.declared.cst.node.CstObject.{CstObject}
use Rattle.jsonc_cst.specs.declared.cst.node.CstObjectProp.{CstObjectProp}
use Rattle.jsonc_cst.specs.Document.{nodes_of}

-- one of these nodes is a property of this name
abbrev pub HasNamed : List Node → List ℕ → List ℕ → Type 0
HasNamed ns row v = (m : ℕ) × Contains row m × IsNamed ns v m

-- the node is a property, and one of these has its name
abbrev pub RepeatsName : List Node → List ℕ → ℕ → Type 0
RepeatsName ns row n = (v : List ℕ) × HasNamed ns row v × IsNamed ns v n

-- Those of some children whose name an earlier one has, in order. A node that has no name repeats none.
pub data AreRepeated (ns : List Node) : List ℕ → List ℕ → Type 0 where
  none : AreRepeated ns [] []
  fresh : (row found : List ℕ) (n : ℕ) → AreRepeated ns row found → (RepeatsName ns row n → ⊥) → AreRepeated ns (row ++ n ∷ []) found
  repeated : (row found : List ℕ) (n : ℕ) → AreRepeated ns row found → RepeatsName ns row n → AreRepeated ns (row ++ n ∷ []) (found ++ n ∷ [])

-- The node has the name of none of those passed; with it, if it has a name, their names are those of the new ones.
pub record IsPassed (ns : List Node) (old : List ℕ) (n : ℕ) (new : List ℕ) : Type 0 where
  pub apart : RepeatsName ns old n → ⊥
  pub joined : (v : List ℕ) → HasNamed ns old v ⊎ IsNamed ns v n → HasNamed ns new v

module _ {A : Type 0} where
  -- the properties of an object whose name an earlier one has, in order
  abbrev pub AreRepeatedIn : CstRootNode A → CstObject → List CstObjectProp → Type 0
  AreRepeatedIn d object found = AreRepeated (nodes_of d) (children_at (nodes_of d) object.number) (map (λ p. p.number) found)

  -- one of these texts has these characters
  abbrev pub HasText : List (String A) → List ℕ → Type 0
  HasText texts v = (s : String A) × Contains texts s × (chars (string_bytes s) ≡ v)

  -- the node is a property, and one of these texts is its name
  abbrev pub RepeatsOneOf : List Node → List (String A) → ℕ → Type 0
  RepeatsOneOf ns texts n = (v : List ℕ) × HasText texts v × IsNamed ns v n

  -- the new texts are the old ones and this one
  abbrev pub IsTextJoined : List (String A) → List ℕ → List (String A) → Type 0
  IsTextJoined old w new = (v : List ℕ) → HasText new v ↔ (HasText old v ⊎ (w ≡ v))

  -- the new texts are the old ones and the name of the node, if it has one
  abbrev pub IsNameJoined : List Node → List (String A) → ℕ → List (String A) → Type 0
  IsNameJoined ns old n new = (v : List ℕ) → HasText new v ↔ (HasText old v ⊎ IsNamed ns v n)

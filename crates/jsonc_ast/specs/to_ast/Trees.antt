-- What a receiver has made of a text, where that is a syntax tree.
use Rattle.std.specs.Prelude.{◌≡◌, ◌++◌, ℕ, List, length, map}
use Rattle.jsonc_text.specs.OptionsOf.{parse_options}
use Rattle.jsonc_ast.specs.declared.ast.ObjectProp.{ObjectProp}
use Rattle.jsonc_walk.specs.declared.name.ObjectPropName.{ObjectPropName}
use Rattle.jsonc_ast.specs.declared.ast.Value.{Value}
use Rattle.jsonc_ast.specs.declared.to_ast.values.TreeMaker.{TreeMaker}
use Rattle.jsonc_walk.specs.Located.{Located, LocatedName, LocatedMember}
use Rattle.jsonc_ast.specs.Spelled.{spelled, spelled_in_elements, spelled_in_properties}
use Rattle.jsonc_ast.specs.Views.{located, member_of}
use Rattle.jsonc_walk.specs.Name.{name_at}
use Rattle.jsonc_walk.specs.Handed.{Source}
use Rattle.jsonc_walk.specs.Written.{AreWritten, IsWritten}

module _ {A : Type 0} where
  abbrev pub source_in : TreeMaker A → Source
  source_in m = record { bytes = m.text.now; options = parse_options m.options }

  -- from the one state to the other the same elements and properties of containers that have not ended
  abbrev pub SameOpen : TreeMaker A → TreeMaker A → Type 0
  SameOpen old new = (new.elements.items ≡ old.elements.items) × (new.properties.items ≡ old.properties.items)

  -- from the one state to the other the text and the open containers stay, and the value is located so, its strings and names written as they are in the text
  pub record IsTree (old new : TreeMaker A) (v : Value A) (x : Located) : Type 0 where
    pub same : source_in new ≡ source_in old
    pub stacks : SameOpen old new
    pub located : located v ≡ x
    pub written : AreWritten (source_in old).options (source_in old).bytes (spelled v)

  pub record IsName (old new : TreeMaker A) (n : ObjectPropName A) (x : LocatedName) : Type 0 where
    pub same : source_in new ≡ source_in old
    pub stacks : SameOpen old new
    pub located : name_at n ≡ x
    pub written : IsWritten (source_in old).options (source_in old).bytes n

  -- so are an array's elements and an object's properties
  pub record AreTrees (old new : TreeMaker A) (vs : List (Value A)) (xs : List Located) : Type 0 where
    pub same : source_in new ≡ source_in old
    pub located : map located vs ≡ xs
    pub written : AreWritten (source_in old).options (source_in old).bytes (spelled_in_elements vs)

  pub record AreProperties (old new : TreeMaker A) (ps : List (ObjectProp A)) (ms : List LocatedMember) : Type 0 where
    pub same : source_in new ≡ source_in old
    pub located : map member_of ps ≡ ms
    pub written : AreWritten (source_in old).options (source_in old).bytes (spelled_in_properties ps)

  -- behind the elements that old has, new has those of an array that begins there
  pub record HoldsElements (old new : TreeMaker A) (start : ℕ) (xs : List Located) : Type 0 where
    pub elements : List (Value A)
    pub begins : start ≡ length old.elements.items
    pub stacked : new.elements.items ≡ old.elements.items ++ elements
    pub same : new.properties.items ≡ old.properties.items
    pub are : AreTrees old new elements xs

  -- behind the properties that old has, new has those of an object that begins there
  pub record HoldsProperties (old new : TreeMaker A) (start : ℕ) (ms : List LocatedMember) : Type 0 where
    pub properties : List (ObjectProp A)
    pub begins : start ≡ length old.properties.items
    pub stacked : new.properties.items ≡ old.properties.items ++ properties
    pub same : new.elements.items ≡ old.elements.items
    pub are : AreProperties old new properties ms

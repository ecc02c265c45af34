-- The strings and names of a value, as they are kept: lent by the text or copied, in quotes or without.
use Rattle.std.specs.Prelude.{List, [], ◌∷◌, map}
use Rattle.std.specs.List.{flat_map}
use Rattle.jsonc_walk.specs.declared.name.ObjectPropName.{ObjectPropName}
use Rattle.jsonc_walk.specs.declared.name.ObjectPropName.TheVariants.{String}
use Rattle.jsonc_ast.specs.declared.ast.Value.{Value, fold-Value}
use Rattle.jsonc_ast.specs.declared.ast.ObjectProp.{ObjectProp, fold-ObjectProp}
use Rattle.jsonc_ast.specs.declared.ast.Value.TheOpen.{Value-F, Array-F, Object-F, ObjectProp-F}

module _ {A : Type 0} where
  -- one level, where what is inside stands for the strings and names in it
  abbrev value_spelled : Value-F A (List (ObjectPropName A)) (List (ObjectPropName A)) (List (ObjectPropName A)) (List (ObjectPropName A))
      → List (ObjectPropName A)
  value_spelled (Value-F.StringLit s) = String s ∷ []
  value_spelled (Value-F.Array a) = a
  value_spelled (Value-F.Object o) = o
  value_spelled _ = []

  abbrev array_spelled : Array-F A (List (ObjectPropName A)) (List (ObjectPropName A)) (List (ObjectPropName A)) (List (ObjectPropName A))
      → List (ObjectPropName A)
  array_spelled a = flat_map (λ names. names) a.elements.items

  abbrev object_spelled : Object-F A (List (ObjectPropName A)) (List (ObjectPropName A)) (List (ObjectPropName A)) (List (ObjectPropName A))
      → List (ObjectPropName A)
  object_spelled o = flat_map (λ names. names) o.properties.items

  abbrev property_spelled : ObjectProp-F A (List (ObjectPropName A)) (List (ObjectPropName A)) (List (ObjectPropName A)) (List (ObjectPropName A))
      → List (ObjectPropName A)
  property_spelled p = p.name ∷ p.value

  -- the strings and the names of a value, in their order; a string is kept as a name in quotes is
  abbrev pub spelled : Value A → List (ObjectPropName A)
  spelled = fold-Value A (List (ObjectPropName A)) (List (ObjectPropName A)) (List (ObjectPropName A))
      (List (ObjectPropName A)) value_spelled array_spelled object_spelled property_spelled

  -- the same of a property: its name, and what is in its value
  abbrev pub spelled_in_property : ObjectProp A → List (ObjectPropName A)
  spelled_in_property = fold-ObjectProp A (List (ObjectPropName A)) (List (ObjectPropName A)) (List (ObjectPropName A))
      (List (ObjectPropName A)) value_spelled array_spelled object_spelled property_spelled

  -- and of an array's elements and an object's properties
  abbrev pub spelled_in_elements : List (Value A) → List (ObjectPropName A)
  spelled_in_elements vs = flat_map (λ names. names) (map spelled vs)

  abbrev pub spelled_in_properties : List (ObjectProp A) → List (ObjectPropName A)
  spelled_in_properties ps = flat_map (λ names. names) (map spelled_in_property ps)

-- What a copy has besides its value and the places of its nodes: which names are in quotes; and which copies take memory.
use Rattle.std.specs.Prelude.{◌≢◌, Bool, List, [], ◌∷◌}
use Rattle.std.specs.Cow.{IsOwnedStr}
use Rattle.std.specs.List.{flat_map}
use Rattle.jsonc_ast.specs.Access.{properties}
use Rattle.jsonc_walk.specs.Located.{Located, LocatedMember}
use Rattle.jsonc_ast.specs.Views.{value_step, array_step, object_step, property_step}
use Rattle.jsonc_walk.specs.Name.{in_quotes}
use Rattle.jsonc_ast.specs.declared.ast.Value.{Value, fold-Value, out-Value}
use Rattle.jsonc_ast.specs.declared.ast.Array.{Array, fold-Array}
use Rattle.jsonc_ast.specs.declared.ast.Object.{Object, fold-Object}
use Rattle.jsonc_ast.specs.declared.ast.ObjectProp.{ObjectProp, fold-ObjectProp}
use Rattle.jsonc_ast.specs.declared.ast.Value.TheOpen.{Value-F, Array-F, Object-F, ObjectProp-F}

module _ {A : Type 0} where
  -- an array with the place of each of its nodes
  abbrev pub array_located : Array A → Located
  array_located = fold-Array A Located Located Located LocatedMember value_step array_step object_step property_step

  -- one level, where what is inside stands for the quotes of its names
  abbrev value_quotes : Value-F A (List Bool) (List Bool) (List Bool) (List Bool) → List Bool
  value_quotes (Value-F.Array a) = a
  value_quotes (Value-F.Object o) = o
  value_quotes _ = []

  abbrev array_quotes : Array-F A (List Bool) (List Bool) (List Bool) (List Bool) → List Bool
  array_quotes a = flat_map (λ names. names) a.elements.items

  abbrev object_quotes : Object-F A (List Bool) (List Bool) (List Bool) (List Bool) → List Bool
  object_quotes o = flat_map (λ names. names) o.properties.items

  abbrev property_quotes : ObjectProp-F A (List Bool) (List Bool) (List Bool) (List Bool) → List Bool
  property_quotes p = in_quotes p.name ∷ p.value

  -- of each name in a value, in their order, whether it is in quotes
  abbrev pub quotes : Value A → List Bool
  quotes = fold-Value A (List Bool) (List Bool) (List Bool) (List Bool) value_quotes array_quotes object_quotes property_quotes

  -- the same of an array, an object and a property
  abbrev pub quotes_in_array : Array A → List Bool
  quotes_in_array = fold-Array A (List Bool) (List Bool) (List Bool) (List Bool) value_quotes array_quotes object_quotes property_quotes

  abbrev pub quotes_in_object : Object A → List Bool
  quotes_in_object = fold-Object A (List Bool) (List Bool) (List Bool) (List Bool) value_quotes array_quotes object_quotes property_quotes

  abbrev pub quotes_in_property : ObjectProp A → List Bool
  quotes_in_property = fold-ObjectProp A (List Bool) (List Bool) (List Bool) (List Bool) value_quotes array_quotes object_quotes property_quotes

  abbrev level_takes_memory : Value-F A (Value A) (Array A) (Object A) (ObjectProp A) → Type 0
  level_takes_memory (Value-F.StringLit s) = IsOwnedStr s.value
  level_takes_memory (Value-F.Array a) = a.elements.items ≢ []
  level_takes_memory (Value-F.Object o) = properties o ≢ []
  level_takes_memory _ = ⊥

  -- a copy of the value takes memory: it is a string that owns its text, or a container with something in it
  abbrev pub TakesMemory : Value A → Type 0
  TakesMemory v = level_takes_memory (out-Value A v)

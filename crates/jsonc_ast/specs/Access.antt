-- What a value holds, by its kind, and the properties of an object, by their names.
use Rattle.std.specs.Prelude.{ℕ, Bool, cond, List, Option, Some, None, option_map}
use Rattle.std.specs.List.{find}
use Rattle.std.specs.Set.{remove_key}
use Rattle.std.specs.Str.{bytes_eq}
use Rattle.jsonc_text.specs.declared.common.Range.{Range}
use Rattle.jsonc_walk.specs.Located.{range_at}
use Rattle.jsonc_ast.specs.Views.{object_located}
use Rattle.jsonc_walk.specs.declared.name.StringLit.{StringLit}
use Rattle.jsonc_ast.specs.declared.ast.NumberLit.{NumberLit}
use Rattle.jsonc_ast.specs.declared.ast.BooleanLit.{BooleanLit}
use Rattle.jsonc_ast.specs.declared.ast.NullKeyword.{NullKeyword}
use Rattle.jsonc_walk.specs.Name.{name_text}
use Rattle.jsonc_ast.specs.declared.ast.Value.{Value, out-Value}
use Rattle.jsonc_ast.specs.declared.ast.Array.{Array}
use Rattle.jsonc_ast.specs.declared.ast.Object.{Object, out-Object}
use Rattle.jsonc_ast.specs.declared.ast.ObjectProp.{ObjectProp}
use Rattle.jsonc_ast.specs.declared.ast.Value.TheOpen.{Value-F}

module _ {A V R O P : Type 0} where
  abbrev string_of : Value-F A V R O P → Option (StringLit A)
  string_of (Value-F.StringLit s) = Some s
  string_of _ = None

  abbrev number_of : Value-F A V R O P → Option NumberLit
  number_of (Value-F.NumberLit n) = Some n
  number_of _ = None

  abbrev boolean_of : Value-F A V R O P → Option BooleanLit
  boolean_of (Value-F.BooleanLit b) = Some b
  boolean_of _ = None

  abbrev object_of : Value-F A V R O P → Option O
  object_of (Value-F.Object o) = Some o
  object_of _ = None

  abbrev array_of : Value-F A V R O P → Option R
  array_of (Value-F.Array a) = Some a
  array_of _ = None

  abbrev null_of : Value-F A V R O P → Option NullKeyword
  null_of (Value-F.NullKeyword n) = Some n
  null_of _ = None

-- what a value holds, if it is of the kind
module _ {A : Type 0} (v : Value A) where
  abbrev pub as_string_lit : Option (StringLit A)
  as_string_lit = string_of (out-Value A v)

  abbrev pub as_number_lit : Option NumberLit
  as_number_lit = number_of (out-Value A v)

  abbrev pub as_boolean_lit : Option BooleanLit
  as_boolean_lit = boolean_of (out-Value A v)

  abbrev pub as_object : Option (Object A)
  as_object = object_of (out-Value A v)

  abbrev pub as_array : Option (Array A)
  as_array = array_of (out-Value A v)

  abbrev pub as_null_keyword : Option NullKeyword
  as_null_keyword = null_of (out-Value A v)

module _ {A : Type 0} where
  -- whether a property has this name
  abbrev pub is_named : List ℕ → ObjectProp A → Bool
  is_named name p = bytes_eq name (name_text p.name)

  -- the properties, in their order
  abbrev pub properties : Object A → List (ObjectProp A)
  properties o = (out-Object A o).properties.items

  -- from its `{` to its `}`
  abbrev pub range_of : Object A → Range
  range_of o = range_at (object_located o)

  -- the first property of this name
  abbrev pub first_named : List ℕ → Object A → Option (ObjectProp A)
  first_named name o = find (is_named name) (properties o)

  -- its value
  abbrev pub value_named : List ℕ → Object A → Option (Value A)
  value_named name o = option_map (λ p. p.value) (first_named name o)

  -- the properties without that one where it was taken, and else all of them
  abbrev pub left : Bool → List ℕ → Object A → List (ObjectProp A)
  left taken name o = cond taken (remove_key (is_named name) (properties o)) (properties o)

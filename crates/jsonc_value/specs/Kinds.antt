-- What a value holds, by its kind; the properties of an object and the elements of an array.
use Rattle.std.specs.Prelude.{ℕ, Bool, cond, List, Option, Some, None}
use Rattle.std.specs.Borrow.{Bor}
use Rattle.std.specs.Map.{remove_entry}
use Rattle.std.specs.declared.borrow.CowStr.{CowStr}
use Rattle.jsonc_value.specs.Names.{is_named}
use Rattle.jsonc_value.specs.declared.value.JsonValue.{JsonValue, out-JsonValue}
use Rattle.jsonc_value.specs.declared.value.JsonObject.{JsonObject, out-JsonObject}
use Rattle.jsonc_value.specs.declared.value.JsonArray.{JsonArray, out-JsonArray}
use Rattle.jsonc_value.specs.declared.value.JsonValue.TheOpen.{JsonValue-F}

-- the properties, in their order
abbrev pub properties : {A : Type 0} → JsonObject A → List (CowStr A × JsonValue A)
properties {A} o = (out-JsonObject A o).0

-- the elements, in their order
abbrev pub elements : {A : Type 0} → JsonArray A → List (JsonValue A)
elements {A} a = (out-JsonArray A a).0.items

module _ {A X O L : Type 0} where
  abbrev string_of : JsonValue-F A X L O → Option (CowStr A)
  string_of (JsonValue-F.String s) = Some s
  string_of _ = None

  abbrev number_of : JsonValue-F A X L O → Option (Bor (List ℕ))
  number_of (JsonValue-F.Number s) = Some s
  number_of _ = None

  abbrev boolean_of : JsonValue-F A X L O → Option Bool
  boolean_of (JsonValue-F.Boolean b) = Some b
  boolean_of _ = None

  abbrev object_of : JsonValue-F A X L O → Option O
  object_of (JsonValue-F.Object o) = Some o
  object_of _ = None

  abbrev array_of : JsonValue-F A X L O → Option L
  array_of (JsonValue-F.Array a) = Some a
  array_of _ = None

-- what a value holds, if it is of the kind
module _ {A : Type 0} (v : JsonValue A) where
  abbrev pub as_string : Option (CowStr A)
  as_string = string_of (out-JsonValue A v)

  abbrev pub as_number : Option (Bor (List ℕ))
  as_number = number_of (out-JsonValue A v)

  abbrev pub as_boolean : Option Bool
  as_boolean = boolean_of (out-JsonValue A v)

  abbrev pub as_object : Option (JsonObject A)
  as_object = object_of (out-JsonValue A v)

  abbrev pub as_array : Option (JsonArray A)
  as_array = array_of (out-JsonValue A v)

-- the properties without this name where its value was taken, and else all of them
abbrev pub left : {A : Type 0} → Bool → List ℕ → List (CowStr A × JsonValue A) → List (CowStr A × JsonValue A)
left taken name ps = cond taken (remove_entry (is_named name) ps) ps

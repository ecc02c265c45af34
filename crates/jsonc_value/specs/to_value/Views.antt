-- What a `JsonValue` stands for.
use Rattle.std.specs.Prelude.{ℕ, Bool, List, [], ◌∷◌, map, chars}
use Rattle.std.specs.Cow.{cow_str_bytes}
use Rattle.std.specs.Str.{bytes_eq}
use Rattle.std.specs.declared.borrow.CowStr.{CowStr}
use Rattle.indexmap.specs.IndexMap.{insert_entry}
use Rattle.jsonc_text.specs.Plain.{Plain, null, boolean, number, string, array, object, Items, no_items, item, Members, no_members, member}
use Rattle.jsonc_value.specs.declared.value.JsonValue.{JsonValue, fold-JsonValue}
use Rattle.jsonc_value.specs.declared.value.JsonValue.TheOpen.{JsonValue-F, JsonObject-F, JsonArray-F}

-- values, as the elements of an array
abbrev pub items_of : List Plain → Items
items_of [] = no_items
items_of (v ∷ vs) = item v (items_of vs)

module _ {A : Type 0} where
  -- the characters of a name
  abbrev pub name_of : CowStr A → List ℕ
  name_of s = chars (cow_str_bytes s)

  -- whether two names have the same bytes
  abbrev pub same_name : CowStr A → CowStr A → Bool
  same_name k n = bytes_eq (cow_str_bytes k) (cow_str_bytes n)

  -- the properties with one more, or with another value of a name that is there
  abbrev pub inserted : List (CowStr A × JsonValue A) → CowStr A → JsonValue A → List (CowStr A × JsonValue A)
  inserted ps k v = insert_entry same_name ps k v

  -- names with values, as the properties of an object
  abbrev pub members_of : List (CowStr A × Plain) → Members
  members_of [] = no_members
  members_of (p ∷ ps) = member (name_of p.0) p.1 (members_of ps)

  -- one level, where what is inside stands for its plain value
  abbrev pub value_step : JsonValue-F A Plain Plain Plain → Plain
  value_step (JsonValue-F.String s) = string (name_of s)
  value_step (JsonValue-F.Number s) = number (chars s.now)
  value_step (JsonValue-F.Boolean b) = boolean b
  value_step (JsonValue-F.Object o) = o
  value_step (JsonValue-F.Array a) = a
  value_step JsonValue-F.Null = null

  abbrev pub object_step : JsonObject-F A Plain Plain Plain → Plain
  object_step o = object (members_of o.0)

  abbrev pub array_step : JsonArray-F A Plain Plain Plain → Plain
  array_step a = array (items_of a.0.items)

  -- the plain value of a value
  abbrev pub plain : JsonValue A → Plain
  plain = fold-JsonValue A Plain Plain Plain value_step array_step object_step

  -- the plain values of an array's elements and an object's properties
  abbrev pub items_plain : List (JsonValue A) → Items
  items_plain vs = items_of (map plain vs)

  abbrev pub members_plain : List (CowStr A × JsonValue A) → Members
  members_plain ps = members_of (map (λ p. (p.0, plain p.1)) ps)

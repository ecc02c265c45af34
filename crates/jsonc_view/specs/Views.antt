-- The plain value of a view, and of what is in it.
use Rattle.std.specs.Prelude.{ℕ, List, [], ◌∷◌, Option, option_map, reverse, slice_get, chars}
use Rattle.std.specs.Option.{option_and_then}
use Rattle.std.specs.Map.{lookup}
use Rattle.std.specs.Str.{bytes_eq}
use Rattle.jsonc_text.specs.Plain.{Plain, null, boolean, number, string, array, object, Items, no_items, item, Members, no_members, member}
use Rattle.jsonc_view.specs.declared.view.JsonView.{JsonView}
use Rattle.jsonc_view.specs.declared.view.ViewArray.{ViewArray}
use Rattle.jsonc_view.specs.declared.view.ViewObject.{ViewObject}
use Rattle.jsonc_view.specs.declared.view.ViewValue.{ViewValue}
use Rattle.jsonc_view.specs.declared.view.ViewValue.TheVariants.{String, Number, Boolean, Object, Array, Null}
use Rattle.jsonc_view.specs.Lists.{list_of, pairs_of}

module _ {A : Type 0} where
  -- the elements of an array
  abbrev pub elements : ViewArray A → List Plain
  elements a = list_of a.shown.0

  -- the names and values of an object, as they were written
  abbrev pub properties : ViewObject A → List (List ℕ × Plain)
  properties o = pairs_of o.shown.0

  -- the plain value of a value
  abbrev pub plain : ViewValue A → Plain
  plain (String s) = string (chars s.now)
  plain (Number s) = number (chars s.now)
  plain (Boolean b) = boolean b
  plain (Object o) = object o.shown.0
  plain (Array a) = array a.shown.0
  plain Null = null

  -- the value of a text, where it has one
  abbrev pub value_of : JsonView A → Option Plain
  value_of v = v.shown.0

-- the value of the last property of this name
abbrev pub last_named : List ℕ → List (List ℕ × Plain) → Option Plain
last_named name ps = lookup (bytes_eq name) (reverse ps)

-- the value of the property at a place, where there is one
abbrev pub value_there : Members → Option ℕ → Option Plain
value_there ms place = option_and_then (λ i. option_map (λ p. p.1) (slice_get (pairs_of ms) i)) place

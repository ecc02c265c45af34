-- What a `CstInputValue` stands for.
use Rattle.std.specs.Prelude.{ℕ, List, [], ◌∷◌, map, chars, string_bytes}
use Rattle.std.specs.declared.string.String.{String}
use Rattle.jsonc_text.specs.Plain.{Plain, null, boolean, number, string, array, object, Items, no_items, item, Members, no_members, member}
use Rattle.jsonc_layout.specs.declared.input.value.CstInputValue.{CstInputValue, fold-CstInputValue}
use Rattle.jsonc_layout.specs.declared.input.value.CstInputValue.TheOpen.{CstInputValue-F}

-- plain values, as the elements of an array
abbrev pub items_of : List Plain → Items
items_of [] = no_items
items_of (v ∷ vs) = item v (items_of vs)

module _ {A : Type 0} where
  -- the characters of a text
  abbrev pub chars_of : String A → List ℕ
  chars_of s = chars (string_bytes s)

  -- names with plain values, as the properties of an object
  abbrev pub members_of : List (String A × Plain) → Members
  members_of [] = no_members
  members_of (p ∷ ps) = member (chars_of p.0) p.1 (members_of ps)

  -- one level, where what is inside stands for its plain value
  abbrev pub value_step : CstInputValue-F A Plain → Plain
  value_step CstInputValue-F.Null = null
  value_step (CstInputValue-F.Bool b) = boolean b
  value_step (CstInputValue-F.Number s) = number (chars_of s)
  value_step (CstInputValue-F.String s) = string (chars_of s)
  value_step (CstInputValue-F.Array vs) = array (items_of vs.items)
  value_step (CstInputValue-F.Object ps) = object (members_of ps.items)

  -- the plain value of a value
  abbrev pub plain : CstInputValue A → Plain
  plain = fold-CstInputValue A Plain value_step

  -- a property: the characters of its name, and its plain value
  abbrev pub named : String A × CstInputValue A → List ℕ × Plain
  named p = (chars_of p.0, plain p.1)

  -- the plain values of an array's elements and an object's properties
  abbrev pub items_plain : List (CstInputValue A) → Items
  items_plain vs = items_of (map plain vs)

  abbrev pub members_plain : List (String A × CstInputValue A) → Members
  members_plain ps = members_of (map (λ p. (p.0, plain p.1)) ps)

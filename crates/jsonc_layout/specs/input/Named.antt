-- What a `CstInputValue` is, and the values of names in it.
use Rattle.std.specs.Prelude.{ℕ, Bool, List, Option, Some, None, option_map, string_bytes}
use Rattle.std.specs.List.{find}
use Rattle.std.specs.Str.{bytes_eq}
use Rattle.std.specs.declared.string.String.{String}
use Rattle.jsonc_text.specs.declared.edit.Shape.{Shape}
use Rattle.jsonc_text.specs.declared.edit.Shape.TheVariants.{Object, Array}
use Rattle.jsonc_layout.specs.declared.input.value.CstInputValue.{CstInputValue, out-CstInputValue}
use Rattle.jsonc_layout.specs.declared.input.value.CstInputValue.TheOpen.{CstInputValue-F}

module _ {A V : Type 0} where
  -- whether a property has this name
  abbrev pub is_named : List ℕ → String A × V → Bool
  is_named name p = bytes_eq name (string_bytes p.0)

  -- the value of the first property of the name
  abbrev pub value_in : List ℕ → CstInputValue-F A V → Option V
  value_in name (CstInputValue-F.Object ps) = option_map (λ p. p.1) (find (is_named name) ps.items)
  value_in name _ = None

  abbrev shape_in : CstInputValue-F A V → Option Shape
  shape_in (CstInputValue-F.Object ps) = Some Object
  shape_in (CstInputValue-F.Array vs) = Some Array
  shape_in _ = None

module _ {A : Type 0} where
  -- the value of the first property of the name, in an object that has one
  abbrev pub value_named : List ℕ → CstInputValue A → Option (CstInputValue A)
  value_named name v = value_in name (out-CstInputValue A v)

  -- an array or an object
  abbrev pub shape_of : CstInputValue A → Option Shape
  shape_of v = shape_in (out-CstInputValue A v)

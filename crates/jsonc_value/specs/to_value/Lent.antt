-- Which strings and names of a value are lent by its text.
use Rattle.std.specs.Prelude.{ℕ, List, [], ◌∷◌, map, Option, IfSome}
use Rattle.std.specs.Cow.{IsOwnedStr}
use Rattle.std.specs.List.{All, flat_map}
use Rattle.std.specs.declared.borrow.CowStr.{CowStr}
use Rattle.jsonc_text.specs.declared.common.Range.{Range}
use Rattle.jsonc_text.specs.Options.{Options}
use Rattle.jsonc_walk.specs.Handed.{HasEscapedString, Source}
use Rattle.jsonc_value.specs.declared.value.JsonValue.{JsonValue, fold-JsonValue}
use Rattle.jsonc_value.specs.declared.value.JsonValue.TheOpen.{JsonValue-F, JsonObject-F, JsonArray-F}
use Rattle.jsonc_value.specs.to_value.Views.{name_of}

module _ {A : Type 0} where
  -- one level, where what is inside stands for the strings and names in it
  abbrev pub value_texts : JsonValue-F A (List (CowStr A)) (List (CowStr A)) (List (CowStr A)) → List (CowStr A)
  value_texts (JsonValue-F.String s) = s ∷ []
  value_texts (JsonValue-F.Object o) = o
  value_texts (JsonValue-F.Array a) = a
  value_texts _ = []

  abbrev pub array_texts : JsonArray-F A (List (CowStr A)) (List (CowStr A)) (List (CowStr A)) → List (CowStr A)
  array_texts a = flat_map (λ names. names) a.0.items

  abbrev pub object_texts : JsonObject-F A (List (CowStr A)) (List (CowStr A)) (List (CowStr A)) → List (CowStr A)
  object_texts o = flat_map (λ (p : CowStr A × List (CowStr A)). p.0 ∷ p.1) o.0

  -- the strings and the names of a value, in their order
  abbrev pub texts : JsonValue A → List (CowStr A)
  texts = fold-JsonValue A (List (CowStr A)) (List (CowStr A)) (List (CowStr A)) value_texts array_texts object_texts

  -- and of an array's elements and an object's properties
  abbrev pub texts_in_elements : List (JsonValue A) → List (CowStr A)
  texts_in_elements vs = flat_map (λ names. names) (map texts vs)

  abbrev pub texts_in_properties : List (CowStr A × JsonValue A) → List (CowStr A)
  texts_in_properties ps = flat_map (λ (p : CowStr A × List (CowStr A)). p.0 ∷ p.1) (map (λ p. (p.0, texts p.1)) ps)

  -- the string or name is lent by the text, or stands there with a backslash
  abbrev pub IsLent : Source → CowStr A → Type 0
  IsLent s t = IsOwnedStr t → (r : Range) × HasEscapedString s r (name_of t)

  -- each of these is
  abbrev pub AreLent : Source → List (CowStr A) → Type 0
  AreLent s = All (IsLent s)

  -- so is each string and name of the value that was found
  abbrev pub IsLentBy : Options → List ℕ → Option (JsonValue A) → Type 0
  IsLentBy o bytes found = IfSome found (λ v. AreLent (record { bytes = bytes; options = o }) (texts v))

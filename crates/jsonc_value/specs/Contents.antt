-- What values hold, each text as its bytes.
use Rattle.std.specs.Prelude.{ℕ, Bool, List, [], ◌∷◌, map}
use Rattle.std.specs.Cow.{cow_str_bytes}
use Rattle.std.specs.declared.borrow.CowStr.{CowStr}
use Rattle.jsonc_value.specs.Kinds.{properties, elements}
use Rattle.jsonc_value.specs.declared.value.JsonObject.{JsonObject}
use Rattle.jsonc_value.specs.declared.value.JsonArray.{JsonArray}
use Rattle.jsonc_value.specs.declared.value.JsonValue.{JsonValue, fold-JsonValue}
use Rattle.jsonc_value.specs.declared.value.JsonValue.TheOpen.{JsonValue-F, JsonArray-F, JsonObject-F}

mutual
  -- a number is its text
  pub data Content : Type 0 where
    null : Content
    boolean : Bool → Content
    number : List ℕ → Content
    string : List ℕ → Content
    array : Elements → Content
    object : Properties → Content

  pub data Elements : Type 0 where
    no_elements : Elements
    element : Content → Elements → Elements

  pub data Properties : Type 0 where
    no_properties : Properties
    property : List ℕ → Content → Properties → Properties

-- contents, as the elements of an array
abbrev pub elements_of : List Content → Elements
elements_of [] = no_elements
elements_of (c ∷ cs) = element c (elements_of cs)

-- and under their names, as the properties of an object
abbrev pub properties_of : {A : Type 0} → List (CowStr A × Content) → Properties
properties_of [] = no_properties
properties_of (p ∷ ps) = property (cow_str_bytes p.0) p.1 (properties_of ps)

-- one level, where what is inside stands for its contents
module _ {A : Type 0} where
  abbrev pub value_step : JsonValue-F A Content Elements Properties → Content
  value_step (JsonValue-F.String s) = string (cow_str_bytes s)
  value_step (JsonValue-F.Number s) = number s.now
  value_step (JsonValue-F.Boolean b) = boolean b
  value_step (JsonValue-F.Object o) = object o
  value_step (JsonValue-F.Array a) = array a
  value_step JsonValue-F.Null = null

  abbrev pub array_step : JsonArray-F A Content Elements Properties → Elements
  array_step a = elements_of a.0.items

  abbrev pub object_step : JsonObject-F A Content Elements Properties → Properties
  object_step o = properties_of o.0

  -- what a value holds
  abbrev pub content : JsonValue A → Content
  content = fold-JsonValue A Content Elements Properties value_step array_step object_step

  -- what values hold, in a list and under names
  abbrev pub contents : List (JsonValue A) → Elements
  contents vs = elements_of (map content vs)

  abbrev pub named_contents : List (CowStr A × JsonValue A) → Properties
  named_contents ps = properties_of (map (λ p. (p.0, content p.1)) ps)

  -- what an object and an array hold
  abbrev pub object_content : JsonObject A → Properties
  object_content o = named_contents (properties o)

  abbrev pub array_content : JsonArray A → Elements
  array_content a = contents (elements a)

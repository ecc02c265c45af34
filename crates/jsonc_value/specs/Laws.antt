-- What the laws say of equality.
use Rattle.std.specs.Prelude.{◌≡◌, ◌↔◌, ℕ, Bool, IsTrue, List}
use Rattle.std.specs.Cmp.Lexicographic.{pointwise}
use Rattle.std.specs.Option.{option_eq}
use Rattle.std.specs.Map.{lookup}
use Rattle.jsonc_value.specs.Names.{is_named}
use Rattle.jsonc_value.specs.Kinds.{properties, elements}
use Rattle.jsonc_value.specs.declared.value.JsonValue.{JsonValue}
use Rattle.jsonc_value.specs.declared.value.JsonObject.{JsonObject}
use Rattle.jsonc_value.specs.declared.value.JsonArray.{JsonArray}

-- eq is reflexive, mirrored and transitive
pub record IsEquality {X : Type 0} (eq : X → X → Bool) : Type 0 where
  pub reflexive : (x : X) → IsTrue (eq x x)
  pub mirrored : (x y : X) → eq x y ≡ eq y x
  pub transitive : (x y z : X) → IsTrue (eq x y) → IsTrue (eq y z) → IsTrue (eq x z)

-- under each name both objects have values that are equal by eq, or neither has one
abbrev pub EqualAtNames : {A : Type 0} → (JsonValue A → JsonValue A → Bool) → JsonObject A → JsonObject A → Type 0
EqualAtNames eq o p = (name : List ℕ) → IsTrue (option_eq eq (lookup (is_named name) (properties o)) (lookup (is_named name) (properties p)))

-- by eq two objects are equal exactly where they are EqualAtNames by value_eq
abbrev pub ByNames : {A : Type 0} → (JsonValue A → JsonValue A → Bool) → (JsonObject A → JsonObject A → Bool) → Type 0
ByNames {A} value_eq eq = (o p : JsonObject A) → IsTrue (eq o p) ↔ EqualAtNames value_eq o p

-- by eq two arrays are equal exactly where they are as long, and equal by value_eq at each place
abbrev pub ByPlaces : {A : Type 0} → (JsonValue A → JsonValue A → Bool) → (JsonArray A → JsonArray A → Bool) → Type 0
ByPlaces {A} value_eq eq = (a b : JsonArray A) → eq a b ≡ pointwise value_eq (elements a) (elements b)

-- by eq two values are equal where they hold the same
abbrev pub EqualWhereSame : {X C : Type 0} → (X → C) → (X → X → Bool) → Type 0
EqualWhereSame {X} held eq = (x y : X) → held x ≡ held y → IsTrue (eq x y)

-- Copies of pairs, and which copies take memory.
use Rattle.std.specs.Prelude.{◌≡◌, ◌≢◌, Bool, true, []}
use Rattle.std.specs.Cow.{IsOwnedStr}
use Rattle.jsonc_value.specs.Kinds.{elements, properties}
use Rattle.jsonc_value.specs.declared.value.JsonArray.{JsonArray}
use Rattle.jsonc_value.specs.declared.value.JsonObject.{JsonObject}
use Rattle.jsonc_value.specs.declared.value.JsonValue.{JsonValue, out-JsonValue}
use Rattle.jsonc_value.specs.declared.value.JsonValue.TheOpen.{JsonValue-F}

-- the key and the value of a pair are clones of those of another
abbrev pub IsPairClone : {K V : Type 0} → (K → K → Type 0) → (V → V → Type 0) → K × V → K × V → Type 0
IsPairClone key value old new = key old.0 new.0 × value old.1 new.1

-- a clone of a key equals it
abbrev pub EqualsItsClones : {K : Type 0} → (K → K → Bool) → (K → K → Type 0) → Type 0
EqualsItsClones {K} eq is_clone = (key copy : K) → is_clone key copy → eq copy key ≡ true

module _ {A : Type 0} where
  abbrev level_takes_memory : JsonValue-F A (JsonValue A) (JsonArray A) (JsonObject A) → Type 0
  level_takes_memory (JsonValue-F.String s) = IsOwnedStr s
  level_takes_memory (JsonValue-F.Array a) = elements a ≢ []
  level_takes_memory (JsonValue-F.Object o) = properties o ≢ []
  level_takes_memory _ = ⊥

  -- a copy of the value takes memory: it is a string that owns its text, or a container with something in it
  abbrev pub TakesMemory : JsonValue A → Type 0
  TakesMemory v = level_takes_memory (out-JsonValue A v)

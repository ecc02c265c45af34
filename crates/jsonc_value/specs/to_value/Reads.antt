-- The value of a text.
use Rattle.std.specs.Prelude.{◌≡◌, ℕ, List, Option, option_map}
use Rattle.jsonc_text.specs.Options.{Options}
use Rattle.jsonc_text.specs.Plain.{Plain, collapse}
use Rattle.jsonc_text.specs.Grammar.{IsDocument}
use Rattle.jsonc_value.specs.declared.value.JsonValue.{JsonValue}
use Rattle.jsonc_value.specs.to_value.Refusals.{IsWithin}
use Rattle.jsonc_value.specs.to_value.Views.{plain}

module _ {A : Type 0} where
  -- the text has this value, which is within, and what was found is that value collapsed
  abbrev pub IsValueOf : Options → List ℕ → Option (JsonValue A) → Type 0
  IsValueOf o t found = (v : Option Plain) × IsDocument o t v × IsWithin v × (option_map plain found ≡ option_map collapse v)

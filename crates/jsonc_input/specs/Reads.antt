-- The value of a text.
use Rattle.std.specs.Prelude.{◌≡◌, ℕ, List, Option, chars, option_map}
use Rattle.jsonc_text.specs.Grammar.{IsDocument}
use Rattle.jsonc_text.specs.Options.{Options}
use Rattle.jsonc_text.specs.Plain.{Plain, collapse}

-- The text is a document, and v is its value, if it has one, where of equal names the last value stands at the first place.
pub record IsValueOfText (o : Options) (text : List ℕ) (v : Option Plain) : Type 0 where
  pub value : Option Plain
  pub document : IsDocument o (chars text) value
  pub collapsed : v ≡ option_map collapse value

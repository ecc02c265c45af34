-- What an error says of the text.
use Rattle.std.specs.Prelude.{ℕ, false, List, Option}
use Rattle.jsonc_text.specs.declared.errors.ParseError.{ParseError}
use Rattle.jsonc_text.specs.Options.{Options}
use Rattle.jsonc_text.specs.Plain.{Plain}
use Rattle.jsonc_walk.specs.Reached.{FitsIn}
use Rattle.jsonc_walk.specs.Refusals.{Refuses}

-- at most 512 containers nest in one another
abbrev pub IsWithin : Option Plain → Type 0
IsWithin v = FitsIn false v

-- allocation failed, or the text has no value that is within
abbrev pub RefusesText : Options → List ℕ → ParseError → Type 0
RefusesText o bytes e = Refuses o false bytes e

-- Which texts a check accepts.
use Rattle.std.specs.Prelude.{ℕ, Bool, List, Option}
use Rattle.jsonc_text.specs.Grammar.{IsDocument}
use Rattle.jsonc_text.specs.Options.{Options}
use Rattle.jsonc_text.specs.OptionsOf.{parse_options}
use Rattle.jsonc_text.specs.Plain.{Plain}
use Rattle.jsonc_walk.specs.Handed.{Source}
use Rattle.jsonc_walk.specs.Reached.{FitsIn}
use Rattle.jsonc_check.specs.declared.checker.Checker.{Checker}

-- the text is a document, with some value or with none, which is within the depth: of containers, or of these and properties
abbrev pub HasValueWithin : Bool → Options → List ℕ → Type 0
HasValueWithin whole o t = (v : Option Plain) × IsDocument o t v × FitsIn whole v

abbrev pub source_in : {D : Type 0} → Checker D → Source
source_in c = record { bytes = c.text.now; options = parse_options c.options }

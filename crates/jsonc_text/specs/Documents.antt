-- A document by its text.
use Rattle.std.specs.Prelude.{ℕ, List, [], Option}
use Rattle.jsonc_text.specs.Options.{Options}
use Rattle.jsonc_text.specs.Plain.{Plain}
use Rattle.jsonc_text.specs.Grammar.{IsDocument}
use Rattle.jsonc_text.specs.Marks.{Mark, MarksTo}

-- a text under its options, a value, and literals and comments in order
pub record Document : Type 0 where
  pub options : Options
  pub text : List ℕ
  pub value : Option Plain
  pub marks : List Mark

-- the text is in the grammar, with this value and these marks
pub record IsOne (d : Document) : Type 0 where
  pub says : IsDocument d.options d.text d.value
  pub marked : MarksTo d.options [] d.text d.marks

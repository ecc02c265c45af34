-- Texts as JSON, and why one is not written so.
use Rattle.std.specs.Prelude.{◌≡◌, ℕ, List, None, IsUtf8, chars}
use Rattle.jsonc_text.specs.Grammar.{IsDocument}
use Rattle.jsonc_text.specs.Options.{Options, all_on}
use Rattle.jsonc_text.specs.Places.{LineColumn}
use Rattle.jsonc_engine.specs.Causes.{HasNonFinite, IsJsonOf}
use Rattle.jsonc_c.specs.Patches.{IsNoDocument}
use Rattle.jsonc_c.specs.Told.{no_fault}
use Rattle.jsonc_c.specs.declared.fault.JsoncFault.{JsoncFault}

-- what is made is the text as JSON (RFC 8259), with the same value
abbrev pub IsAsJson : List ℕ → List ℕ → Type 0
IsAsJson text made = IsUtf8 text × IsJsonOf (chars text) (chars made)

-- the number at the place is told alone, with its line and column
pub record IsToldOfNumber (text : List ℕ) (place : ℕ) (f : JsoncFault) : Type 0 where
  pub there : HasNonFinite text place
  pub at : LineColumn (chars text) place f.line f.column
  pub is : f ≡ record no_fault { start = place; end = place; line = f.line; column = f.column }

-- why a text is not written as JSON: it is no document; it has no value; or a number in it is infinite or none
pub data IsNoJson (o : Options) (text : List ℕ) (status : ℕ) (f : JsoncFault) : Type 0 where
  for_document : IsNoDocument o text status f → IsNoJson o text status f
  for_value : status ≡ 30 → f ≡ no_fault → IsDocument all_on (chars text) None → IsNoJson o text status f
  for_number : (place : ℕ) → status ≡ 31 → IsToldOfNumber text place f → IsNoJson o text status f

-- Strings without their quotes.
use Rattle.std.specs.Prelude.{◌≡◌, ◌≢◌, ◌⊎◌, ◌++◌, ◌∷◌, [], ℕ, List, Option, Some, chars}
use Rattle.jsonc_cst.specs.Document.{RefusesText}
use Rattle.jsonc_text.specs.Grammar.{IsDocument}
use Rattle.jsonc_text.specs.Options.{Options}
use Rattle.jsonc_text.specs.Plain.{Plain, string}
use Rattle.jsonc_text.specs.declared.errors.ParseError.{ParseError}

-- the text's value is the string of these bytes
abbrev pub IsString : Options → List ℕ → List ℕ → Type 0
IsString o text bytes = IsDocument o (chars text) (Some (string (chars bytes)))

-- its value, if it has one, is no string, or it is refused
abbrev pub IsNoString : Options → List ℕ → Type 0
IsNoString o text = ((w : Option Plain) × IsDocument o (chars text) w × ((s : List ℕ) → w ≢ Some (string s)))
    ⊎ ((error : ParseError) × RefusesText o text error)

-- a string becomes its characters and a line feed, and what is none stays
abbrev pub IsRaw : Options → List ℕ → List ℕ → Type 0
IsRaw o old new = ((bytes : List ℕ) × IsString o old bytes × (new ≡ bytes ++ 0x0A ∷ [])) ⊎ (IsNoString o old × (new ≡ old))

-- What is written of a text, and why nothing is.
use Rattle.std.specs.Prelude.{◌≡◌, ◌≢◌, ℕ, false, true, List, [], Option, None, Some, IsCharBoundary, chars}
use Rattle.jsonc_text.specs.Grammar.{IsDocument}
use Rattle.jsonc_text.specs.Lexemes.{Lexeme, LexemeKind}
use Rattle.jsonc_text.specs.Options.{Options, all_on}
use Rattle.jsonc_text.specs.Places.{LineColumn}
use Rattle.jsonc_text.specs.Plain.{Plain}
use Rattle.jsonc_text.specs.Text.{rest}
use Rattle.jsonc_text.specs.Faults.{kind_of}
use Rattle.jsonc_text.specs.declared.errors.ParseErrorKind.TheVariants as ErrorKind
use Rattle.jsonc_engine.specs.Input.{IsRefusalOf}
use Rattle.jsonc_engine.specs.Json.{IsJson}
use Rattle.jsonc_engine.specs.Rewritten.{ComesNext, IsNonFinite, Rewritten, is_named}
use Rattle.jsonc_engine.specs.Same.{SameValue}
use Rattle.jsonc_engine.specs.declared.json.JsonError.{JsonError}
use Rattle.jsonc_engine.specs.declared.json.JsonError.TheVariants.{NonFinite, NoValue, OutOfMemory, Text}

-- the text has a value
abbrev pub HasValue : List ℕ → Type 0
HasValue t = (v : Plain) × IsDocument all_on t (Some v)

-- w is JSON whose value is that of t but for how its numbers are written, and each lexeme is written as the rules say
pub record IsJsonOf (t w : List ℕ) : Type 0 where
  pub value : Plain
  pub document : IsDocument all_on t (Some value)
  pub rewritten : Rewritten [] t w
  pub new : Plain
  pub json : IsJson w new
  pub same : SameValue value new

-- behind what is written stands a number there that JSON has not, and that is no name
pub record HasNonFinite (bytes : List ℕ) (place : ℕ) : Type 0 where
  pub boundary : IsCharBoundary bytes place
  pub written : List ℕ
  pub before : Rewritten (rest bytes place) (chars bytes) written
  pub number : List ℕ
  pub behind : List ℕ
  pub stands : Lexeme all_on (LexemeKind.number number) (rest bytes place) behind
  pub non_finite : IsNonFinite number
  pub next : Option ℕ
  pub comes : ComesNext behind next
  pub value : is_named next ≡ false

-- writing a document stops for one of these causes
abbrev pub Stops : List ℕ → JsonError → Type 0
Stops bytes (NonFinite place) = HasNonFinite bytes place
Stops bytes OutOfMemory = Unit {0}
Stops bytes other = ⊥

-- the cause that is told is true of the text, which is no document of the options, or one of all; no parse wants memory, and an allocation failure is told of a document with a
-- value
abbrev pub IsJsonCause : Options → List ℕ → JsonError → Type 0
IsJsonCause o bytes (Text e) = IsRefusalOf o bytes e × (kind_of e ≢ ErrorKind.OutOfMemory)
IsJsonCause o bytes NoValue = IsDocument all_on (chars bytes) None
IsJsonCause o bytes (NonFinite place) = HasValue (chars bytes) × HasNonFinite bytes place
IsJsonCause o bytes OutOfMemory = HasValue (chars bytes)

-- the number there is none of JSON
pub record IsNonFiniteAt (input : List ℕ) (line column : ℕ) : Type 0 where
  pub value : HasValue (chars input)
  pub place : ℕ
  pub there : HasNonFinite input place
  pub at : LineColumn (chars input) place line column

-- Which bytes the program takes.
use Rattle.std.specs.Prelude.{◌≡◌, ℕ, Bool, true, false, List, Option, Some, IfSome, IsUtf8, chars}
use Rattle.jsonc_engine.specs.Parser.{IsDocument, IsFault, IsWithin, ParseFault, Options, ParseError, Plain, RefusesText, all_on}

-- The bytes are UTF-8, and their text is a document of the options, with some value or with none; at most 512 containers and properties are around each value in it. No
-- other bytes are accepted by `check`.
pub record IsInputOf (o : Options) (bytes : List ℕ) : Type 0 where
  pub utf8 : IsUtf8 bytes
  pub value : Option Plain
  pub document : IsDocument o (chars bytes) value
  pub within : IsWithin value

-- the program allows all that the options can
abbrev pub IsInput : List ℕ → Type 0
IsInput = IsInputOf all_on

-- the fault is told of a place in the bytes, but for allocation failure their text is no document of the options within the
-- nesting, and what the fault tells of the text is what a parse tells of it
pub record IsRefusalOf (o : Options) (bytes : List ℕ) (e : ParseError) : Type 0 where
  pub fault : IsFault bytes e
  pub refused : RefusesText o bytes e
  pub error : ParseFault o bytes true e

abbrev pub IsRefusal : List ℕ → ParseError → Type 0
IsRefusal = IsRefusalOf all_on

-- the text of these bytes is a document whose value is of this kind
abbrev pub HasKind : (Plain → Bool) → Options → List ℕ → Type 0
HasKind kind o bytes = (x : Plain) × IsDocument o (chars bytes) (Some x) × (kind x ≡ true)

-- it is one whose value, if it has one, is of this kind
abbrev pub MayHave : (Plain → Bool) → Options → List ℕ → Type 0
MayHave kind o bytes = (w : Option Plain) × IsDocument o (chars bytes) w × IfSome w (λ x. kind x ≡ true)

-- it is one whose value is of another kind
abbrev pub HasAnother : (Plain → Bool) → Options → List ℕ → Type 0
HasAnother kind o bytes = (x : Plain) × IsDocument o (chars bytes) (Some x) × (kind x ≡ false)

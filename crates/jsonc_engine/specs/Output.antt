-- What a command writes.
use Rattle.std.specs.Prelude.{◌≡◌, ℕ, false, List, Option, Some, None, IsTrue, IsUtf8, String, chars, string_bytes}
use Rattle.std.specs.Io.KnownBytes.{Appends}
use Rattle.jsonc_text.specs.Options.{Options, all_on}
use Rattle.jsonc_engine.specs.declared.output.Made.{Made}
use Rattle.jsonc_engine.specs.declared.output.Made.TheVariants.{Other, Same}
use Rattle.jsonc_engine.specs.declared.output.Output.{Output}
use Rattle.jsonc_engine.specs.declared.output.Output.TheVariants.{Document, Text}
use Rattle.jsonc_engine.specs.declared.output.Written.{Written}
use Rattle.jsonc_engine.specs.declared.output.Written.TheVariants as written
use Rattle.jsonc_engine.specs.Parser.{printed_of}
use Rattle.jsonc_engine.specs.Causes.{IsJsonOf}
use Rattle.jsonc_engine.specs.Change.{IsGot, IsMadeOf}
use Rattle.jsonc_engine.specs.Finding.{IsFound}
use Rattle.jsonc_engine.specs.Input.{IsInput}
use Rattle.jsonc_engine.specs.Command.{Request, check, print, get, find, patch, merge, as_json, writes}
use Rattle.jsonc_engine.specs.Patched.{IsApplied, IsMergedInto}

-- what is to be written of the document of these bytes: what it prints, as a command leaves it, or the value that is got, or the document as JSON
abbrev pub IsLeft : Type 0 → Options → Request → List ℕ → List ℕ → Type 0
IsLeft A o check input text = text ≡ input
IsLeft A o print input text = text ≡ input
IsLeft A o (get path) input text = IsGot o path input text
IsLeft A o (find pointer) input text = IsFound o pointer input text
IsLeft A o (patch words most) input text = IsApplied A o words most input text
IsLeft A o (merge words) input text = IsMergedInto o words input text
IsLeft A o as_json input text = IsUtf8 input × IsJsonOf (chars input) (chars text)
IsLeft A o request input text = IsMadeOf o request input text

-- the bytes that are to be written
abbrev pub output_bytes : {A : Type 0} → Output A → List ℕ
output_bytes (Document document) = printed_of document
output_bytes (Text text) = string_bytes text

abbrev pub made_bytes : {A : Type 0} → Made A → List ℕ
made_bytes (Same text) = text.now
made_bytes (Other output) = output_bytes output

abbrev pub written_bytes : {A : Type 0} → Written A → List ℕ
written_bytes (written.Input text) = text.now
written_bytes (written.Text text) = string_bytes text

-- what is written for a command, of these bytes of input, or nothing where the command does not write
abbrev pub IsWritten : {A : Type 0} → Options → Request → List ℕ → Option (String A) → Type 0
IsWritten o request input None = writes request ≡ false
IsWritten {A} o request input (Some text) = IsTrue (writes request) × IsLeft A o request input (string_bytes text)

-- so it is of a text that may be the input itself
abbrev pub IsWrittenBy : {A : Type 0} → Options → Request → List ℕ → Option (Written A) → Type 0
IsWrittenBy o request input None = writes request ≡ false
IsWrittenBy {A} o request input (Some text) = IsTrue (writes request) × IsLeft A o request input (written_bytes text)

-- what a command writes, but for a value that is got and JSON, `check` accepts
abbrev pub IsAccepted : Request → List ℕ → Type 0
IsAccepted (get path) output = Unit {0}
IsAccepted (find pointer) output = Unit {0}
IsAccepted as_json output = Unit {0}
IsAccepted request output = IsInput output

-- it has been put to what was written before
abbrev pub Puts : Type 0 → Request → Option (List ℕ) → Option (List ℕ) → List ℕ → Type 0
Puts A request old new input = (output : List ℕ) × IsLeft A all_on request input output × IsAccepted request output × Appends old new output

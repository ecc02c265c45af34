-- What the JSON text of a merge patch says (RFC 7396, 1), and why a text is none.
use Rattle.std.specs.Prelude.{◌≡◌, ℕ, List, true, None, Some, chars}
use Rattle.jsonc_walk.specs.Faults.{ParseFault}
use Rattle.jsonc_walk.specs.Refusals.{RefusesText}
use Rattle.jsonc_layout.specs.input.Views.{chars_of}
use Rattle.jsonc_text.specs.Faults.{IsFault}
use Rattle.jsonc_text.specs.Grammar.{IsDocument}
use Rattle.jsonc_text.specs.Options.{Options}
use Rattle.jsonc_text.specs.Plain.{Plain}
use Rattle.jsonc_parser.specs.patch.Equality.{HasUniqueNames}
use Rattle.jsonc_parser.specs.patch.PatchFaults.{RepeatsName}
use Rattle.jsonc_parser.specs.declared.patch.merge_text.MergePatchError.{MergePatchError}
use Rattle.jsonc_parser.specs.declared.patch.merge_text.MergePatchError.TheVariants as error
use Rattle.jsonc_parser.specs.declared.patch.operation.OperationFault.{OperationFault}
use Rattle.jsonc_parser.specs.declared.patch.operation.OperationFault.TheVariants.{OutOfMemory, RepeatedName}

-- under these options the text is a document of this value, in which no name occurs twice
abbrev pub IsMergePatch : Options → List ℕ → Plain → Type 0
IsMergePatch o text p = IsDocument o text (Some p) × HasUniqueNames p

-- the text of these bytes is a document with a value, of which this is so
abbrev pub OfValue : Options → List ℕ → (Plain → Type 0) → Type 0
OfValue o bytes is_so = (p : Plain) × IsDocument o (chars bytes) (Some p) × is_so p

module _ {A : Type 0} where
  -- why the text of these bytes is no merge patch under these options
  abbrev pub IsFaultOfMergePatch : Options → List ℕ → MergePatchError A → Type 0
  IsFaultOfMergePatch o bytes (error.Parse e) = RefusesText o bytes e × IsFault bytes e × ParseFault o bytes true e
  IsFaultOfMergePatch o bytes error.NoValue = IsDocument o (chars bytes) None
  IsFaultOfMergePatch o bytes (error.RepeatedName name) = OfValue o bytes (RepeatsName (chars_of name))
  IsFaultOfMergePatch o bytes error.OutOfMemory = OfValue o bytes (λ p. Unit {0})

  -- the error by which the fault of a value is reported
  abbrev pub IsReportedAs : OperationFault A → MergePatchError A → Type 0
  IsReportedAs (RepeatedName name) e = e ≡ error.RepeatedName name
  IsReportedAs other e = e ≡ error.OutOfMemory

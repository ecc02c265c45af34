-- The printed text of faults of pointers.
use Rattle.std.specs.Prelude.{◌++◌, ℕ, List, codes, string_bytes}
use Rattle.std.specs.Fmt.{decimal}
use Rattle.jsonc_parser.specs.patch.Quoting.{repeated_name_text}
use Rattle.jsonc_parser.specs.declared.patch.reference.FindError.{FindError}
use Rattle.jsonc_parser.specs.declared.patch.reference.FindError.TheVariants as find
use Rattle.jsonc_parser.specs.declared.patch.pointer.PointerError.{PointerError}
use Rattle.jsonc_parser.specs.declared.patch.pointer.PointerError.TheVariants.{InvalidEscape, NoLeadingSlash, OutOfMemory}

abbrev pub pointer_error_text : PointerError → List ℕ
pointer_error_text NoLeadingSlash = codes "Pointer does not begin with a slash"
pointer_error_text (InvalidEscape place) = codes "Neither 0 nor 1 after the tilde at byte " ++ decimal place
pointer_error_text OutOfMemory = codes "Out of memory"

module _ {A : Type 0} where
  abbrev pub find_error_text : FindError A → List ℕ
  find_error_text (find.RepeatedName name) = repeated_name_text (string_bytes name)
  find_error_text find.OutOfMemory = codes "Out of memory"

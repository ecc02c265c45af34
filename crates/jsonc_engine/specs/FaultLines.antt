-- The line that a fault prints.
use Rattle.std.specs.Prelude.{ℕ, List, [], ◌++◌, codes, string_bytes}
use Rattle.std.specs.Fmt.{decimal}
use Rattle.jsonc_parser.specs.patch.FaultMessages.{patch_fault_text}
use Rattle.jsonc_parser.specs.patch.MergeMessages.{merge_patch_error_text}
use Rattle.jsonc_parser.specs.patch.Messages.{pointer_error_text}
use Rattle.jsonc_parser.specs.patch.PatchMessages.{patch_error_text}
use Rattle.jsonc_parser.specs.patch.Quoting.{repeated_name_text}
use Rattle.jsonc_engine.specs.Parser.{edit_error_text, error_text}
use Rattle.jsonc_engine.specs.declared.fault.Fault.{Fault}
use Rattle.jsonc_engine.specs.declared.fault.Fault.TheVariants.{Argument, Edit, Input, MergePatch, NoRoot, NoSetting, NoSuchValue, NoValue, NonFinite, NotArray, NotNames, NotObject, NotUtf8, OnTheWay, Operation, Patch, Path, Pointer, Read, RepeatedName, TooLarge, Usage, Write}

-- what is wrong with a number of this line and column that JSON has not
abbrev pub non_finite_text : ℕ → ℕ → List ℕ
non_finite_text line column = codes "number is not finite on line " ++ (decimal line ++ (codes " column " ++ decimal column))

-- of an operation after which the document would have more than so many bytes
abbrev pub too_large_text : ℕ → ℕ → List ℕ
too_large_text operation bytes = codes "Operation " ++ (decimal operation ++ (codes ": Document would have more bytes than " ++ decimal bytes))

-- what is wrong
abbrev pub cause_text : {A : Type 0} → Fault A → List ℕ
cause_text (Input error) = error_text error
cause_text (Path error) = codes "path: " ++ error_text error
cause_text NotNames = codes "path is not a list of strings"
cause_text (Pointer error) = codes "pointer: " ++ pointer_error_text error
cause_text (Argument error) = codes "argument: " ++ error_text error
cause_text NoValue = codes "argument: no value"
cause_text (Patch error) = codes "patch: " ++ patch_error_text error
cause_text (MergePatch error) = codes "patch: " ++ merge_patch_error_text error
cause_text NotObject = codes "root value is not an object"
cause_text NotArray = codes "root value is not an array"
cause_text NoSetting = codes "no such setting"
cause_text NoSuchValue = codes "no such value"
cause_text OnTheWay = codes "a value on the path is not an object"
cause_text (RepeatedName name) = repeated_name_text (string_bytes name)
cause_text (Operation fault) = patch_fault_text fault
cause_text (TooLarge operation bytes) = too_large_text operation bytes
cause_text NoRoot = codes "root value is missing"
cause_text (NonFinite at) = non_finite_text at.line at.column
cause_text (Edit error) = edit_error_text error
cause_text NotUtf8 = codes "input is not UTF-8"
cause_text Read = codes "read failed"
cause_text Write = codes "write failed"
cause_text Usage = codes "usage: jsonc check|print|set NAME JSON|append JSON|remove NAME|sort|get PLACE|put PATH JSON|drop PATH|patch [--max-bytes N] PATCH|merge PATCH|json"

-- what is before that in the line of a fault
abbrev pub front_of : {A : Type 0} → Fault A → List ℕ
front_of Usage = []
front_of fault = codes "jsonc: "

-- the line that a fault prints
abbrev pub fault_line : {A : Type 0} → Fault A → List ℕ
fault_line fault = front_of fault ++ cause_text fault

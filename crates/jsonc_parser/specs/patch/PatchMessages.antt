-- The printed text of why a text is no patch.
use Rattle.std.specs.Prelude.{◌++◌, ℕ, List, codes, string_bytes}
use Rattle.std.specs.Fmt.{decimal}
use Rattle.jsonc_text.specs.Messages.{error_text}
use Rattle.jsonc_parser.specs.patch.Messages.{pointer_error_text}
use Rattle.jsonc_parser.specs.patch.PatchFaults.{member_name}
use Rattle.jsonc_parser.specs.patch.Quoting.{repeated_name_text}
use Rattle.jsonc_parser.specs.declared.patch.operation.OperationFault.{OperationFault}
use Rattle.jsonc_parser.specs.declared.patch.operation.OperationFault.TheVariants.{NotAnObject, Missing, Wrong, Pointer, RepeatedName, OutOfMemory}
use Rattle.jsonc_parser.specs.declared.patch.reading.PatchError.{PatchError}
use Rattle.jsonc_parser.specs.declared.patch.reading.PatchError.TheVariants as error

module _ {A : Type 0} where
  abbrev pub operation_fault_text : OperationFault A → List ℕ
  operation_fault_text NotAnObject = codes "Operation is no object"
  operation_fault_text (Missing member) = codes "Operation lacks " ++ member_name member
  operation_fault_text (Wrong member) = codes "Operation has a wrong " ++ member_name member
  operation_fault_text (Pointer member e) = member_name member ++ (codes ": " ++ pointer_error_text e)
  operation_fault_text (RepeatedName name) = repeated_name_text (string_bytes name)
  operation_fault_text OutOfMemory = codes "Out of memory"

  abbrev pub patch_error_text : PatchError A → List ℕ
  patch_error_text (error.Parse e) = error_text e
  patch_error_text error.NotAnArray = codes "Patch is no array"
  patch_error_text (error.Operation number fault) = codes "Operation " ++ (decimal number ++ (codes ": " ++ operation_fault_text fault))

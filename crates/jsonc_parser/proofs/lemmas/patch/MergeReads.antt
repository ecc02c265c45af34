-- How the text of a merge patch is read.
use Rattle.std.proofs.Common.{ℕ, List, chars, Some, sym, subst}
use Rattle.jsonc_text.specs.Plain.{Plain}
use Rattle.jsonc_text.specs.Grammar.{IsDocument}
use Rattle.jsonc_text.specs.Options.{Options}
use Rattle.jsonc_parser.specs.patch.MergeTexts.{IsFaultOfMergePatch, IsReportedAs}
use Rattle.jsonc_parser.specs.patch.PatchFaults.{IsFaultOfValue}
use Rattle.jsonc_parser.specs.declared.patch.merge_text.MergePatchError.{MergePatchError}
use Rattle.jsonc_parser.specs.declared.patch.operation.OperationFault.{OperationFault}
use Rattle.jsonc_parser.specs.declared.patch.operation.OperationFault.TheVariants as fault

-- a value's fault is one of the text
pub fault_of_value : {A : Type 0} (o : Options) (bytes : List ℕ) (p : Plain) (f : OperationFault A) (e : MergePatchError A) → IsDocument o (chars bytes) (Some p) → IsFaultOfValue p f → IsReportedAs f e
    → IsFaultOfMergePatch o bytes e
fault_of_value o bytes p (fault.RepeatedName name) e d h is = subst (IsFaultOfMergePatch o bytes) (sym is) (p, d, h)
fault_of_value o bytes p fault.OutOfMemory e d h is = subst (IsFaultOfMergePatch o bytes) (sym is) (p, d, tt)
fault_of_value o bytes p fault.NotAnObject e d h is = absurd h
fault_of_value o bytes p (fault.Missing m) e d h is = absurd h
fault_of_value o bytes p (fault.Wrong m) e d h is = absurd h
fault_of_value o bytes p (fault.Pointer m g) e d h is = absurd h

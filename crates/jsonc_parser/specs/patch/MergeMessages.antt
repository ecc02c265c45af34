-- The printed text of why a text is no merge patch.
use Rattle.std.specs.Prelude.{◌++◌, ℕ, List, codes, string_bytes}
use Rattle.jsonc_text.specs.Messages.{error_text}
use Rattle.jsonc_parser.specs.patch.Quoting.{repeated_name_text}
use Rattle.jsonc_parser.specs.declared.patch.merge_text.MergePatchError.{MergePatchError}
use Rattle.jsonc_parser.specs.declared.patch.merge_text.MergePatchError.TheVariants.{Parse, NoValue, RepeatedName, OutOfMemory}

module _ {A : Type 0} where
  abbrev pub merge_patch_error_text : MergePatchError A → List ℕ
  merge_patch_error_text (Parse e) = error_text e
  merge_patch_error_text NoValue = codes "Patch has no value"
  merge_patch_error_text (RepeatedName name) = repeated_name_text (string_bytes name)
  merge_patch_error_text OutOfMemory = codes "Out of memory"

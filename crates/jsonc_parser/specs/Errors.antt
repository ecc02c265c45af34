-- The printed text of why a text was not edited.
use Rattle.std.specs.Prelude.{◌++◌, ℕ, List, codes}
use Rattle.std.specs.Fmt.{decimal}
use Rattle.jsonc_text.specs.Messages.{error_text}
use Rattle.jsonc_text.specs.EditErrors.{edit_error_text}
use Rattle.jsonc_parser.specs.declared.cst.texts.EditTextError.{EditTextError}
use Rattle.jsonc_parser.specs.declared.cst.texts.EditTextError.TheVariants as error

abbrev pub edit_text_error_text : EditTextError → List ℕ
edit_text_error_text (error.Parse fault) = error_text fault
edit_text_error_text (error.Edit k why) = edit_error_text why ++ (codes ", edits made before: " ++ decimal k)

-- Why a document was not changed: each reason's text.
use Rattle.std.specs.Prelude.{ℕ, List, codes}
use Rattle.jsonc_text.specs.declared.edit.EditError.{EditError}
use Rattle.jsonc_text.specs.declared.edit.EditError.TheVariants.{OutOfMemory, MissingBrackets, MissingName, NoSuchPlace, InvalidComment, LineContinues, NotAnEntry, NestingDepthExceeded}

abbrev pub edit_error_text : EditError → List ℕ
edit_error_text OutOfMemory = codes "Out of memory"
edit_error_text MissingBrackets = codes "Missing brackets"
edit_error_text MissingName = codes "Missing name"
edit_error_text NoSuchPlace = codes "No such place"
edit_error_text InvalidComment = codes "Invalid comment"
edit_error_text LineContinues = codes "Line continues after the comment"
edit_error_text NotAnEntry = codes "Not an entry"
edit_error_text NestingDepthExceeded = codes "Maximum nesting depth exceeded"

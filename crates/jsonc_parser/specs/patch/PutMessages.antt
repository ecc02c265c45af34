-- The printed text of why a value was not put.
use Rattle.std.specs.Prelude.{◌++◌, ℕ, List, codes}
use Rattle.std.specs.Fmt.{decimal}
use Rattle.jsonc_text.specs.EditErrors.{edit_error_text}
use Rattle.jsonc_parser.specs.declared.patch.putting.PutError.{PutError}
use Rattle.jsonc_parser.specs.declared.patch.putting.PutError.TheVariants.{AmbiguousToken, Edit, NoSuchIndex, OtherKind}

abbrev pub put_error_text : PutError → List ℕ
put_error_text (OtherKind number) = codes "Value of another kind before token " ++ decimal number
put_error_text (NoSuchIndex number) = codes "Array is shorter than the index at token " ++ decimal number
put_error_text (AmbiguousToken number) = codes "Neither array nor object for token " ++ decimal number
put_error_text (Edit e) = edit_error_text e

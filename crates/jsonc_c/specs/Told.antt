-- What a call tells of a fault: numbers, places and a text.
use Rattle.std.specs.Prelude.{◌≡◌, ◌≤◌, ℕ, replicate, take}
use Rattle.std.specs.declared.alloc.Global.{Global}
use Rattle.jsonc_text.specs.Faults.{column_of, kind_of, line_of, range_of}
use Rattle.jsonc_text.specs.Messages.{error_text}
use Rattle.jsonc_text.specs.declared.edit.EditError.{EditError}
use Rattle.jsonc_text.specs.declared.edit.EditError.TheVariants as refused
use Rattle.jsonc_text.specs.declared.errors.ParseError.{ParseError}
use Rattle.jsonc_text.specs.declared.errors.ParseErrorKind.{ParseErrorKind}
use Rattle.jsonc_text.specs.declared.errors.ParseErrorKind.TheVariants as kind
use Rattle.jsonc_text.specs.declared.errors.ParseStringErrorKind.{ParseStringErrorKind}
use Rattle.jsonc_text.specs.declared.errors.ParseStringErrorKind.TheVariants as string
use Rattle.jsonc_engine.specs.declared.fault.Fault.{Fault}
use Rattle.jsonc_engine.specs.declared.fault.Fault.TheVariants.{Argument, Edit, Input, NoSetting, NoValue, NotArray, NotNames, NotObject, NotUtf8, OnTheWay, Path}
use Rattle.jsonc_c.specs.declared.fault.JsoncFault.{JsoncFault}

-- the number of what is wrong with a string
abbrev pub string_kind_number : ParseStringErrorKind → ℕ
string_kind_number string.InvalidEscapeInSingleQuoteString = 101
string_kind_number string.InvalidEscapeInDoubleQuoteString = 102
string_kind_number string.ExpectedFourHexDigits = 103
string_kind_number string.ExpectedTwoHexDigits = 104
string_kind_number (string.InvalidUnicodeEscapeSequence digits why) = 105
string_kind_number string.InvalidEscape = 106
string_kind_number string.UnterminatedStringLiteral = 107
string_kind_number string.OutOfMemory = 108

-- the number of what is wrong with a text
abbrev pub kind_number : ParseErrorKind → ℕ
kind_number kind.BareDecimalPointNumbersNotAllowed = 1
kind_number kind.CommentsNotAllowed = 2
kind_number kind.ExpectedColonAfterObjectKey = 3
kind_number kind.ExpectedObjectValue = 4
kind_number kind.ExpectedDigit = 5
kind_number kind.ExpectedDigitFollowingNegativeSign = 6
kind_number kind.ExpectedPlusMinusOrDigitInNumberLiteral = 7
kind_number kind.ExpectedStringObjectProperty = 8
kind_number kind.HexadecimalNumbersNotAllowed = 9
kind_number kind.ExpectedComma = 10
kind_number kind.MultipleRootJsonValues = 11
kind_number kind.NonFiniteNumbersNotAllowed = 12
kind_number kind.SingleQuotedStringsNotAllowed = 13
kind_number (kind.String why) = string_kind_number why
kind_number kind.TrailingCommasNotAllowed = 15
kind_number kind.UnaryPlusNumbersNotAllowed = 16
kind_number kind.UnexpectedCloseBrace = 17
kind_number kind.UnexpectedCloseBracket = 18
kind_number kind.UnexpectedColon = 19
kind_number kind.UnexpectedComma = 20
kind_number kind.UnexpectedToken = 21
kind_number kind.UnexpectedTokenInObject = 22
kind_number kind.UnexpectedWord = 23
kind_number kind.UnterminatedArray = 24
kind_number kind.UnterminatedCommentBlock = 25
kind_number kind.UnterminatedObject = 26
kind_number kind.NestingDepthExceeded = 27
kind_number kind.OutOfMemory = 28

-- no text is at fault
abbrev pub no_fault : JsoncFault
no_fault = record { kind = 0; made = 0; start = 0; end = 0; line = 0; column = 0; text_len = 0; text = replicate 192 0 }

-- the error is told: its kind by number, the bytes that it is told of, its line and column, and the first 192 bytes of what it prints, and no more
pub record IsToldOf (e : ParseError) (f : JsoncFault) : Type 0 where
  pub kind : f.kind ≡ kind_number (kind_of e)
  pub start : f.start ≡ (range_of e).start
  pub end : f.end ≡ (range_of e).end
  pub line : f.line ≡ line_of e
  pub column : f.column ≡ column_of e
  pub text : take f.text_len f.text ≡ take 192 (error_text e)
  pub within : f.text_len ≤ 192

-- A call of a text tells nothing with another status than 4, 5 and 7, and of no edits.
pub record TellsOfTexts (status : ℕ) (f : JsoncFault) : Type 0 where
  pub nothing : ¬ (status ≡ 4) → ¬ (status ≡ 5) → ¬ (status ≡ 7) → f ≡ no_fault
  pub no_edits : f.made ≡ 0

-- A call of edits tells with another status than 4 and 7 at most their number, and with status 0 nothing.
pub record TellsOfEdits (status : ℕ) (f : JsoncFault) : Type 0 where
  pub nothing : status ≡ 0 → f ≡ no_fault
  pub number : ¬ (status ≡ 4) → ¬ (status ≡ 7) → f ≡ record no_fault { made = f.made }

-- the status of an edit that was refused
abbrev pub edit_status : EditError → ℕ
edit_status refused.OutOfMemory = 1
edit_status refused.NoSuchPlace = 13
edit_status refused.MissingBrackets = 14
edit_status refused.MissingName = 15
edit_status refused.InvalidComment = 25
edit_status refused.LineContinues = 26
edit_status refused.NotAnEntry = 27
edit_status refused.NestingDepthExceeded = 28

-- the status of a fault, and what is told with it
abbrev pub IsTold : Fault Global → ℕ → JsoncFault → Type 0
IsTold NotUtf8 status f = status ≡ 3
IsTold (Input error) status f = (status ≡ 4) × IsToldOf error f
IsTold (Path error) status f = (status ≡ 5) × IsToldOf error f
IsTold NotNames status f = status ≡ 6
IsTold (Argument error) status f = (status ≡ 7) × IsToldOf error f
IsTold NoValue status f = status ≡ 8
IsTold NotObject status f = status ≡ 9
IsTold NotArray status f = status ≡ 10
IsTold NoSetting status f = status ≡ 11
IsTold OnTheWay status f = status ≡ 12
IsTold (Edit error) status f = status ≡ edit_status error
IsTold other status f = status ≡ 18

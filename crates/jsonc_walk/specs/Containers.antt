-- The brackets of containers.
use Rattle.std.specs.Prelude.{ℕ, Bool}
use Rattle.jsonc_walk.specs.declared.container.Container.{Container}
use Rattle.jsonc_walk.specs.declared.container.Container.TheVariants.{Array, Object}
use Rattle.jsonc_text.specs.Lexemes.{Scanned}
use Rattle.jsonc_walk.specs.Scanned.{begins_value, begins_name, unexpected_kind}
use Rattle.jsonc_text.specs.declared.errors.ParseErrorKind.{ParseErrorKind}
use Rattle.jsonc_text.specs.declared.errors.ParseErrorKind.TheVariants as kind

-- the bracket that opens it
abbrev pub opening : Container → ℕ
opening Array = 0x5B
opening Object = 0x7B

-- the bracket that closes it
abbrev pub closing : Container → ℕ
closing Array = 0x5D
closing Object = 0x7D

-- what is wrong where the text ends in the container
abbrev pub unterminated_kind : Container → ParseErrorKind
unterminated_kind Array = kind.UnterminatedArray
unterminated_kind Object = kind.UnterminatedObject

-- an element, or a property, may begin with the token
abbrev pub begins : Container → Scanned → Bool
begins Array w = begins_value w
begins Object w = begins_name w

-- what is wrong with a token that it cannot begin with
abbrev pub misplaced_kind : Container → Scanned → ParseErrorKind
misplaced_kind Array w = unexpected_kind w
misplaced_kind Object w = kind.UnexpectedTokenInObject

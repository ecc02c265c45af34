-- What a piece is for its layout.
use Rattle.std.specs.Prelude.{◌≡◌, Bool, true, false, ◌==◌}
use Rattle.jsonc_text.specs.Places.{is_comment}
use Rattle.jsonc_text.specs.Lexemes.{Scanned}
use Rattle.jsonc_format.specs.declared.class.Class.{Class}
use Rattle.jsonc_format.specs.declared.class.Class.TheVariants as class
use Rattle.jsonc_scan.specs.declared.found.TokenKind.{TokenKind}
use Rattle.jsonc_scan.specs.declared.found.TokenKind.TheVariants as kind
use Rattle.jsonc_format.specs.Format.{mark, opens, closes, separates, is_line_comment}

abbrev pub class_by : TokenKind → Class
class_by kind.OpenBrace = class.OpenObject
class_by kind.OpenBracket = class.OpenArray
class_by kind.CloseBrace = class.Close
class_by kind.CloseBracket = class.Close
class_by kind.Comma = class.Comma
class_by kind.Colon = class.Colon
class_by kind.CommentLine = class.LineComment
class_by kind.CommentBlock = class.BlockComment
class_by k = class.Literal

abbrev pub opens_by : Class → Bool
opens_by class.OpenArray = true
opens_by class.OpenObject = true
opens_by c = false

abbrev pub is_brace : Class → Bool
is_brace class.OpenObject = true
is_brace c = false

abbrev pub closes_by : Class → Bool
closes_by class.Close = true
closes_by c = false

abbrev pub separates_by : Class → Bool
separates_by class.Comma = true
separates_by class.Colon = true
separates_by c = false

abbrev pub is_colon : Class → Bool
is_colon class.Colon = true
is_colon c = false

abbrev pub comments_by : Class → Bool
comments_by class.BlockComment = true
comments_by class.LineComment = true
comments_by c = false

abbrev pub is_line : Class → Bool
is_line class.LineComment = true
is_line c = false

-- the lexeme or comment is of this class
pub record IsOf (c : Class) (w : Scanned) : Type 0 where
  pub opening : opens w ≡ opens_by c
  pub brace : (mark w == 0x7B) ≡ is_brace c
  pub closing : closes w ≡ closes_by c
  pub separator : separates w ≡ separates_by c
  pub colon : (mark w == 0x3A) ≡ is_colon c
  pub comment : is_comment w ≡ comments_by c
  pub line : is_line_comment w ≡ is_line c

-- What a scanner came to, as a token.
use Rattle.std.specs.Prelude.{◌≡◌, Option, Some, option_map, true, false}
use Rattle.jsonc_scan.specs.declared.found.TokenContent.{TokenContent}
use Rattle.jsonc_scan.specs.declared.found.TokenKind.{TokenKind}
use Rattle.jsonc_scan.specs.declared.found.TokenKind.TheVariants as kind
use Rattle.jsonc_text.specs.declared.tokens.Token.{Token}
use Rattle.jsonc_text.specs.declared.tokens.Token.TheVariants as token

module _ {A : Type 0} where
  -- the token of this kind that holds this; of a string whose place alone is known nothing is held
  abbrev pub token_held : TokenKind → TokenContent A → Token A
  token_held kind.OpenBrace x = token.OpenBrace
  token_held kind.CloseBrace x = token.CloseBrace
  token_held kind.OpenBracket x = token.OpenBracket
  token_held kind.CloseBracket x = token.CloseBracket
  token_held kind.Comma x = token.Comma
  token_held kind.Colon x = token.Colon
  token_held kind.String x = token.String x.string
  token_held kind.Plain x = token.Null
  token_held kind.Passed x = token.Null
  token_held kind.Word x = token.Word x.text
  token_held kind.True x = token.Boolean true
  token_held kind.False x = token.Boolean false
  token_held kind.Number x = token.Number x.text
  token_held kind.Null x = token.Null
  token_held kind.CommentLine x = token.CommentLine x.text
  token_held kind.CommentBlock x = token.CommentBlock x.text

  -- the token that was found, or none
  abbrev pub token_found : TokenContent A → Option TokenKind → Option (Token A)
  token_found x = option_map (λ k. token_held k x)

  -- what a token of another kind would hold is left as it was
  abbrev pub LeavesOthers : TokenContent A → TokenContent A → Option TokenKind → Type 0
  LeavesOthers old new (Some kind.String) = new.text ≡ old.text
  LeavesOthers old new (Some kind.Word) = new.string ≡ old.string
  LeavesOthers old new (Some kind.Number) = new.string ≡ old.string
  LeavesOthers old new (Some kind.CommentLine) = new.string ≡ old.string
  LeavesOthers old new (Some kind.CommentBlock) = new.string ≡ old.string
  LeavesOthers old new _ = new ≡ old

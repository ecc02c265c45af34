-- Which string tokens are lent by their text.
use Rattle.std.specs.Prelude.{ℕ, ◌≡◌, List, Option, Vec, IfSome}
use Rattle.std.specs.List.{All}
use Rattle.std.specs.declared.borrow.CowStr.{CowStr}
use Rattle.jsonc_text.specs.declared.tokens.Token.TheVariants.{String}
use Rattle.jsonc_text.specs.declared.tokens.TokenAndRange.{TokenAndRange}
use Rattle.jsonc_text.specs.string.Escapes.{IsLentUnescaped}

module _ {A : Type 0} where
  -- the token, if it is a string, is lent by the text exactly where no backslash is in its literal
  abbrev pub IsLentIn : List ℕ → TokenAndRange A → Type 0
  IsLentIn bytes t = (v : CowStr A) → t.token ≡ String v → IsLentUnescaped bytes t.range.start t.range.end v

  -- so is each of the tokens that are collected, where any are
  abbrev pub AreLentIn : List ℕ → Option (Vec (TokenAndRange A) A) → Type 0
  AreLentIn bytes found = IfSome found (λ tokens. All (IsLentIn bytes) tokens.items)

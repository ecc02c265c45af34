-- The quote that opens a string.
use Rattle.std.specs.Prelude.{ℕ, ◌+◌, ◌<◌, List, ◌==◌, ◌||◌, ◌&&◌}
use Rattle.jsonc_text.specs.Options.{Options}
use Rattle.jsonc_text.specs.Chars.{Steps}
use Rattle.jsonc_text.specs.Strings.{IsQuote}
use Rattle.jsonc_text.specs.string.Between.{LacksAt}

-- a quote that opens a string stands at a place
pub record OpensString (o : Options) (bytes : List ℕ) (start quote : ℕ) : Type 0 where
  pub allowed : IsQuote o quote
  pub ascii : quote < 128
  pub here : Steps bytes start quote (start + 1)

-- none does
abbrev pub OpensNoString : Options → List ℕ → ℕ → Type 0
OpensNoString o bytes start = LacksAt (λ c. c == 0x22 || (c == 0x27 && o.single_quoted_strings)) bytes start

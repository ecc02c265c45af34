-- What a parse answers stands for, and the tokens and comments in it.
use Rattle.std.specs.Prelude.{ℕ, List, Option, option_map, IfSome, chars}
use Rattle.jsonc_text.specs.Options.{Options}
use Rattle.jsonc_text.specs.Places.{CommentGap, Gaps}
use Rattle.jsonc_text.specs.Plain.{Plain}
use Rattle.jsonc_walk.specs.Collected.{AreCollected}
use Rattle.jsonc_walk.specs.Comments.{AreUnderEnds}
use Rattle.jsonc_walk.specs.Located.{Located}
use Rattle.jsonc_walk.specs.declared.collect.CollectOptions.{CollectOptions}
use Rattle.jsonc_ast.specs.Views.{located, plain}
use Rattle.jsonc_ast.specs.declared.to_ast.values.ParseResult.{ParseResult}

-- the values of a text's parse
abbrev pub located_in : {A : Type 0} → ParseResult A → Option Located
located_in r = option_map located r.value

abbrev pub plain_in : {A : Type 0} → ParseResult A → Option Plain
plain_in r = option_map plain r.value

module _ {A : Type 0} where
  -- the tokens that a parse answers, where it answers any, are those of the text that it was asked to collect
  abbrev pub HoldsCollected : Options → List ℕ → CollectOptions → ParseResult A → Type 0
  HoldsCollected o bytes collect r = IfSome r.tokens (AreCollected o (chars bytes) collect.comments)

  -- the comments that a parse answers apart, where it answers any, are those of the text's gaps, each under both ends of its gap
  abbrev pub HoldsComments : Options → List ℕ → ParseResult A → Type 0
  HoldsComments o bytes r = IfSome r.comments (λ m. (gs : List CommentGap) × Gaps o (chars bytes) gs × AreUnderEnds gs m)

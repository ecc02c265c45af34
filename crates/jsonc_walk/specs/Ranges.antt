-- The ranges of collected tokens and comments lie in their text.
use Rattle.std.specs.Prelude.{ℕ, List, Option, IfSome, Vec, nat_eq}
use Rattle.std.specs.List.{All}
use Rattle.std.specs.HashMap.{get}
use Rattle.jsonc_text.specs.declared.common.Range.{Range}
use Rattle.jsonc_text.specs.declared.tokens.TokenAndRange.{TokenAndRange}
use Rattle.jsonc_text.specs.Text.{Spans}
use Rattle.jsonc_walk.specs.Comment.{comment_range}
use Rattle.jsonc_walk.specs.Comments.{MapOf}

-- a range from one place of a text to another, both on character boundaries
abbrev pub LiesIn : List ℕ → Range → Type 0
LiesIn bytes r = Spans bytes r.start r.end

-- so is that of each token, where any are collected
abbrev pub TokensLieIn : {A : Type 0} → List ℕ → Option (Vec (TokenAndRange A) A) → Type 0
TokensLieIn bytes found = IfSome found (λ tokens. All (λ t. LiesIn bytes t.range) tokens.items)

-- and that of each comment under each place of a map, where there is one
abbrev pub CommentsLieIn : {S A : Type 0} → List ℕ → Option (MapOf S A) → Type 0
CommentsLieIn bytes found = IfSome found (λ m. (place : ℕ) → IfSome (get nat_eq m place) (λ shared. All (λ c. LiesIn bytes (comment_range c)) shared.value.items))

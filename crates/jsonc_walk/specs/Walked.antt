-- What a part of the walk over a text answers.
use Rattle.std.specs.Prelude.{ℕ, ◌≡◌}
use Rattle.jsonc_text.specs.declared.errors.ParseError.{ParseError}
use Rattle.jsonc_walk.specs.declared.context.Context.{Context}
use Rattle.jsonc_walk.specs.Collected.{Collects}
use Rattle.jsonc_walk.specs.Context.{token_end, Keeps}
use Rattle.jsonc_walk.specs.Handed.{Source}
use Rattle.jsonc_walk.specs.Refusals.{IsFaultHere, OutOfMemoryOr}

module _ {A : Type 0} where
  -- this was found, and the tokens and comments on the way were collected; a receiver still has its text, and has come to the end of the last token
  pub record IsRead (old new : Context A) (before after : Source) (is_reached : ℕ → Type 0) (is_found : Type 0) : Type 0 where
    pub source : after ≡ before
    pub reached : is_reached (token_end new)
    pub kept : Keeps old new
    pub collects : Collects old new
    pub found : is_found

  -- allocation failed, where memory is asked for, or there is none; and the error is of the text and tells that
  pub record IsRefused (old : Context A) (has_failed : Type 0) (is_none : Type 0) (tells : ParseError → Type 0) (e : ParseError) : Type 0 where
    pub refused : OutOfMemoryOr is_none e
    pub fault : IsFaultHere old has_failed e
    pub error : tells e

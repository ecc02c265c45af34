-- The tokens and comments that a parse collects.
use Rattle.std.specs.Prelude.{ℕ, ◌≡◌, Bool, true, false, not, ◌||◌, List, [], ◌∷◌, ◌++◌, map, Option, Some, None, IfSome, IsTrue, Vec}
use Rattle.std.specs.List.{filter, All}
use Rattle.jsonc_text.specs.declared.tokens.TokenAndRange.{TokenAndRange}
use Rattle.jsonc_text.specs.Lexemes.{Scanned}
use Rattle.jsonc_text.specs.Options.{Options}
use Rattle.jsonc_text.specs.Places.{Placed, AreTokens, is_comment, gaps_of}
use Rattle.jsonc_text.specs.Text.{rest}
use Rattle.jsonc_text.specs.Tokens.{scanned_of}
use Rattle.jsonc_walk.specs.declared.collect.CommentCollectionStrategy.{CommentCollectionStrategy}
use Rattle.jsonc_walk.specs.declared.collect.CommentCollectionStrategy.TheVariants.{Off, Separate, AsTokens}
use Rattle.jsonc_walk.specs.declared.context.Context.{Context}
use Rattle.jsonc_walk.specs.Comments.{MapOf, HasPassed, ShowsGaps}
use Rattle.jsonc_walk.specs.Context.{text_in, options_in, token_start, token_end, tokens_asked}
use Rattle.jsonc_walk.specs.Lent.{AreLentIn}

-- whether comments stand among the tokens
abbrev pub takes_comments : CommentCollectionStrategy → Bool
takes_comments Off = false
takes_comments Separate = false
takes_comments AsTokens = true

-- whether they stand in a map of their own
abbrev pub is_separate : CommentCollectionStrategy → Bool
is_separate Off = false
is_separate Separate = true
is_separate AsTokens = false

-- the lexemes of these, and where so the comments too
abbrev pub taken : Bool → List Placed → List Placed
taken comments = filter (λ p. comments || not (is_comment p.what))

-- where comments are not allowed, none of these is one
abbrev pub IsSilent : Options → List Placed → Type 0
IsSilent o ts = o.comments ≡ false → All (λ p. is_comment p.what ≡ false) ts

module _ {A : Type 0} where
  -- what a token is, and where
  abbrev pub placed_of : TokenAndRange A → Placed
  placed_of t = record { what = scanned_of t.token; start = t.range.start; end = t.range.end }

  -- the tokens are all the lexemes of a text in order, each with its place, and its comments among them where comments are tokens
  abbrev pub AreCollected : Options → List ℕ → CommentCollectionStrategy → Vec (TokenAndRange A) A → Type 0
  AreCollected o t comments tokens = (ts : List Placed) × AreTokens o 0 t ts × (map placed_of tokens.items ≡ taken (takes_comments comments) ts)

  -- what a parser has collected
  abbrev pub all_placed : Option (Vec (TokenAndRange A) A) → List Placed
  all_placed None = []
  all_placed (Some tokens) = map placed_of tokens.items

  abbrev pub collected : Context A → List Placed
  collected c = all_placed c.tokens

  -- the last token
  abbrev pub last_placed : Context A → Scanned → Placed
  last_placed c w = record { what = w; start = token_start c; end = token_end c }

  -- where tokens are asked for, these are collected too
  abbrev pub CollectsMore : Context A → Context A → List Placed → Type 0
  CollectsMore old new more = IsTrue (tokens_asked old) → collected new ≡ collected old ++ more

  -- and so is the last token, this lexeme or comment
  abbrev pub CollectsLast : Context A → Context A → Scanned → Type 0
  CollectsLast old new w = CollectsMore old new (last_placed old w ∷ [])

  -- it does where comments are tokens, and collects nothing where they are not
  abbrev pub CollectsComment : Context A → Context A → Scanned → Type 0
  CollectsComment old new w = old.comments_are_tokens ≡ true → CollectsLast old new w

  abbrev pub OmitsComment : Context A → Context A → Type 0
  OmitsComment old new = old.comments_are_tokens ≡ false → collected new ≡ collected old

  -- if the string tokens collected so far are lent where no backslash is in them, and copied elsewhere, so are they after more
  abbrev pub StaysLent : Context A → Context A → Type 0
  StaysLent old new = AreLentIn (text_in old) old.tokens → AreLentIn (text_in old) new.tokens

  -- where comments are asked for apart, those of these lexemes and comments are noted
  abbrev pub HasNoted : List Placed → Context A → Type 0
  HasNoted ts c = IfSome c.comments (HasPassed ts)

  -- and those of so many more
  abbrev pub NotesMore : Context A → Context A → List Placed → Type 0
  NotesMore old new more = (ts : List Placed) → HasNoted ts old → HasNoted (ts ++ more) new

  -- the last token, a comment, is noted; or a lexeme
  abbrev pub NotesComment : Context A → Context A → Scanned → Type 0
  NotesComment old new w = is_comment w ≡ true → NotesMore old new (last_placed old w ∷ [])

  abbrev pub NotesLexeme : Context A → Context A → Type 0
  NotesLexeme old new = (w : Scanned) → is_comment w ≡ false → NotesMore old new (last_placed old w ∷ [])

  -- the map shows the gaps of what is noted, the last of them up to the end of the last token
  abbrev pub ShowsNoted : {S : Type 0} → Context A → Option (MapOf S A) → Type 0
  ShowsNoted c found = (ts : List Placed) → HasNoted ts c → IfSome found (ShowsGaps (gaps_of (token_end c) 0 [] ts))

  -- the lexemes and comments between two states of a parser are passed, and those that are asked for collected
  pub record Collects (old new : Context A) : Type 0 where
    pub passed : List Placed
    pub stand : (ts : List Placed) → AreTokens (options_in old) (token_end new) (rest (text_in old) (token_end new)) ts
        → AreTokens (options_in old) (token_end old) (rest (text_in old) (token_end old)) (passed ++ ts)
    pub more : CollectsMore old new (taken old.comments_are_tokens passed)
    pub lent : StaysLent old new
    pub noted : NotesMore old new passed
    pub silent : IsSilent (options_in old) passed

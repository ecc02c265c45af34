-- The comments of a text in a map: those of each gap under both of its ends.
use Rattle.std.specs.Prelude.{ℕ, ◌≡◌, ◌≢◌, cond, ◌==◌, nat_eq, false, List, [], ◌∷◌, ◌++◌, map, Option, Some, None, option_map, Vec, chars}
use Rattle.std.specs.List.{All}
use Rattle.std.specs.HashMap.{HashMap, get}
use Rattle.std.specs.declared.rc.Rc.{Rc}
use Rattle.jsonc_text.specs.declared.common.Range.{Range}
use Rattle.jsonc_text.specs.Lexemes.{Scanned, line_comment, block_comment}
use Rattle.jsonc_text.specs.Places.{Placed, CommentGap, gaps_of, noted, is_comment}
use Rattle.jsonc_walk.specs.declared.comment.Comment.{Comment}
use Rattle.jsonc_walk.specs.declared.comment.Comment.TheVariants.{Line, Block}
use Rattle.jsonc_walk.specs.declared.comments.GapComments.{GapComments}

-- a lexeme or comment in a range
abbrev pub placed_from : Scanned → Range → Placed
placed_from w r = record { what = w; start = r.start; end = r.end }

-- what a comment is, and where
abbrev pub comment_at : Comment → Placed
comment_at (Line c) = placed_from (line_comment (chars c.text.now)) c.range
comment_at (Block c) = placed_from (block_comment (chars c.text.now)) c.range

-- what comments are, and where, in order
abbrev pub comments_in : {Z : Type 0} → Vec Comment Z → List Placed
comments_in cs = map comment_at cs.items

-- a map from places to shared lists of comments
abbrev pub MapOf : Type 0 → Type 0 → Type 0
MapOf S Z = HashMap ℕ (Rc (Vec Comment Z) Z) S

-- the comments that a map has under a place
abbrev pub comments_at : {S Z : Type 0} → MapOf S Z → ℕ → Option (List Placed)
comments_at m place = option_map (λ shared. comments_in shared.value) (get nat_eq m place)

-- the place is no end of the gap
abbrev pub IsNoEnd : ℕ → CommentGap → Type 0
IsNoEnd place g = (place ≢ g.start) × (place ≢ g.end)

-- the comments of each of these gaps stand under both of its ends, and no comments stand elsewhere
pub record AreUnderEnds {S Z : Type 0} (gs : List CommentGap) (m : MapOf S Z) : Type 0 where
  pub starts : All (λ g. comments_at m g.start ≡ Some g.comments) gs
  pub ends : All (λ g. comments_at m g.end ≡ Some g.comments) gs
  pub no_others : (place : ℕ) → All (IsNoEnd place) gs → comments_at m place ≡ None

-- what stands under a place after these comments are put under the two ends of a gap
abbrev pub put_one : ℕ → ℕ → List Placed → ℕ → Option (List Placed) → Option (List Placed)
put_one start end cs place before = cond (end == place) (Some cs) (cond (start == place) (Some cs) before)

-- they are put there, and what stands under other places stays
abbrev pub PutsUnder : {S Z : Type 0} → MapOf S Z → MapOf S Z → ℕ → ℕ → List Placed → Type 0
PutsUnder old new start end cs = (place : ℕ) → comments_at new place ≡ put_one start end cs place (comments_at old place)

-- the same after the comments of these gaps are put under their ends, one gap after the other
abbrev pub put : List CommentGap → ℕ → Option (List Placed) → Option (List Placed)
put [] place before = before
put (g ∷ gs) place before = put gs place (put_one g.start g.end g.comments place before)

-- the map has what is put there for these gaps
abbrev pub ShowsGaps : {S Z : Type 0} → List CommentGap → MapOf S Z → Type 0
ShowsGaps gs m = (place : ℕ) → comments_at m place ≡ put gs place None

module _ {A : Type 0} where
  -- the comments of the gap that a parser is in
  abbrev pub held_in : GapComments A → List Placed
  held_in c = comments_in c.held

  -- these lexemes and comments are passed: the map has the gaps that they end, and whatever follows, its gaps go on from the comments held
  pub record HasPassed (ts : List Placed) (c : GapComments A) : Type 0 where
    pub gaps : List CommentGap
    pub shown : ShowsGaps gaps c.places
    pub goes_on : (len : ℕ) (us : List Placed) → gaps_of len 0 [] (ts ++ us) ≡ gaps ++ gaps_of len c.start (held_in c) us

  -- this lexeme or comment is passed too
  abbrev pub PassesOne : GapComments A → GapComments A → Placed → Type 0
  PassesOne old new x = (ts : List Placed) → HasPassed ts old → HasPassed (ts ++ x ∷ []) new

  -- a lexeme in a range is, whichever it is
  abbrev pub PassesLexeme : GapComments A → GapComments A → Range → Type 0
  PassesLexeme old new range = (w : Scanned) → is_comment w ≡ false → PassesOne old new (placed_from w range)

  -- the map has all the gaps of what is passed, where the text ends at this place
  abbrev pub ShowsPassed : {S : Type 0} → GapComments A → ℕ → MapOf S A → Type 0
  ShowsPassed c end m = (ts : List Placed) → HasPassed ts c → ShowsGaps (gaps_of end 0 [] ts) m

  -- the comments held are put under the ends of their gap, and none is held
  pub record PutsHeld (old new : GapComments A) (end : ℕ) : Type 0 where
    pub put_there : (place : ℕ) → comments_at new.places place ≡ put (noted old.start end (held_in old) []) place (comments_at old.places place)
    pub none_held : new.held.items ≡ []

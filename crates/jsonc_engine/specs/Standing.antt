-- A token where it stands.
use Rattle.std.specs.Prelude.{ℕ, ◌≤◌, List, IsCharBoundary, chars}
use Rattle.jsonc_text.specs.Gaps.{is_blank}
use Rattle.jsonc_text.specs.Lexemes.{IsScanned, Lexeme, LexemeKind, Scanned, lexeme}
use Rattle.jsonc_text.specs.Options.{all_on}
use Rattle.jsonc_text.specs.Text.{Many, rest}
use Rattle.jsonc_engine.specs.Rewritten.{Rewritten}
use Rattle.jsonc_engine.specs.Tokens.{IsTokenOf}
use Rattle.jsonc_engine.specs.declared.json.Found.{Found}

-- a token of a text, the blanks before it from a place on, and what was written up to there
pub record Stands (text : List ℕ) (place start end : ℕ) (w : Scanned) (old : List ℕ) : Type 0 where
  pub at : IsCharBoundary text place
  pub from : IsCharBoundary text start
  pub to : IsCharBoundary text end
  pub before : place ≤ start
  pub order : start ≤ end
  pub blanks : Many is_blank (rest text place) (rest text start)
  pub there : IsScanned all_on w (rest text start) (rest text end)
  pub so_far : Rewritten (rest text place) (chars text) old

-- it is of the kind that was found
pub record IsFound (text : List ℕ) (found : Found) (old : List ℕ) : Type 0 where
  pub token : Scanned
  pub kind : IsTokenOf (chars found.string.now) found.kind token
  pub stands : Stands text found.place found.start found.end token old

-- a lexeme of the kind that was found stands there, and all before it is written
pub record IsReached (text : List ℕ) (found : Found) (old : List ℕ) : Type 0 where
  pub is : LexemeKind
  pub kind : IsTokenOf (chars found.string.now) found.kind (lexeme is)
  pub from : IsCharBoundary text found.start
  pub to : IsCharBoundary text found.end
  pub order : found.start ≤ found.end
  pub there : Lexeme all_on is (rest text found.start) (rest text found.end)
  pub so_far : Rewritten (rest text found.start) (chars text) old

-- The value of a text, seen.
use Rattle.std.specs.Prelude.{◌≡◌, ℕ, false, List, Option, Result, Ok, Err}
use Rattle.jsonc_text.specs.declared.errors.ParseError.{ParseError}
use Rattle.jsonc_text.specs.Grammar.{IsDocument}
use Rattle.jsonc_text.specs.Options.{Options}
use Rattle.jsonc_text.specs.Plain.{Plain}
use Rattle.jsonc_walk.specs.Reached.{FitsIn}
use Rattle.jsonc_view.specs.declared.rows.Row.{Row}
use Rattle.jsonc_view.specs.declared.rows.Rows.{Rows}
use Rattle.jsonc_view.specs.declared.view.JsonView.{JsonView}
use Rattle.jsonc_view.specs.Shown.{ShowsRoot}
use Rattle.jsonc_view.specs.Views.{value_of}

module _ {A : Type 0} where
  -- the text has this value, in which at most 512 containers nest in one another
  abbrev pub IsViewOf : Options → List ℕ → JsonView A → Type 0
  IsViewOf o t v = IsDocument o t (value_of v) × FitsIn false (value_of v)

  -- the view has the value that the rows show at the root that was read, or the fault is the same
  abbrev pub IsViewed : Rows A → Result (Option Row) ParseError → Result (JsonView A) ParseError → Type 0
  IsViewed r (Ok root) (Ok view) = (v : Option Plain) → ShowsRoot r root v → value_of view ≡ v
  IsViewed r (Err e) (Err f) = f ≡ e
  IsViewed r _ _ = ⊥

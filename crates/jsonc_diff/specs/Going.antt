-- How far steps are shown while they are written.
use Rattle.std.specs.Prelude.{◌≡◌, ◌-◌, ◌++◌, ℕ, List, drop}
use Rattle.jsonc_diff.specs.Diffs.{AreShown}
use Rattle.jsonc_diff.specs.declared.hunks.Place.{Place}
use Rattle.jsonc_diff.specs.declared.script.Step.{Step}

-- whatever shows the steps from the next place on shows, behind what was written on the way, those from this place on
abbrev pub GoesOn : Place → Place → List Step → (before after : List ℕ) → Type 0
GoesOn here next rest before after = (more : List ℕ) → AreShown next.old next.new (drop (next.steps - here.steps) rest) more
    → (text : List ℕ) × AreShown here.old here.new rest text × (before ++ text ≡ after ++ more)

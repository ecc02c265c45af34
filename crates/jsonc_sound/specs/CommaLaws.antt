-- Rows in which commas may not be missing, stretches one after another, and nodes that stand alone.
use Rattle.std.specs.Prelude.{◌≡◌, ℕ, false, List, [], None}
use Rattle.jsonc_text.specs.Options.{Options}
use Rattle.jsonc_tree.specs.OrderedTree.{OrderedTree, leaves, followed_by, Top}
use Rattle.jsonc_sound.specs.Shape.{PropertyShaped}
use Rattle.jsonc_sound.specs.Rows.{RowKind, Last}
use Rattle.jsonc_sound.specs.Sound.{IsValueBefore}
use Rattle.jsonc_sound.specs.TreeChanges.{leaves_of}
use Rattle.jsonc_sound.specs.Adjacent.{LeavesEnd}
use Rattle.jsonc_sound.specs.Alone.{ValueAlone, PropertyAlone, RowAlone, StretchAlone}
use Rattle.jsonc_sound.specs.Spaces.{meet}

-- where commas may not be missing, no two literals without quotes meet in a row
abbrev pub NoneMeetInRows : Options → RowKind → OrderedTree → OrderedTree → Type 0
NoneMeetInRows o kind stretch rest = (last mid : Last) → StretchAlone o kind last stretch mid → RowAlone o kind mid rest
    → meet (leaves stretch) (leaves rest) ≡ false

-- two stretches whose leaves end make one whose leaves end, where no two literals without quotes meet
abbrev pub StretchesJoin : Options → RowKind → OrderedTree → OrderedTree → Type 0
StretchesJoin o kind first second = (last mid other to : Last) → StretchAlone o kind last first mid
    → StretchAlone o kind other second to → LeavesEnd o (leaves first) None → LeavesEnd o (leaves second) None
    → meet (leaves first) (leaves second) ≡ false → LeavesEnd o (leaves (followed_by first second)) None

-- a whole value is one alone whose leaves end, and so with a property
abbrev pub ValuesStandAlone : Options → Top → Type 0
ValuesStandAlone o top = (r : List ℕ) → IsValueBefore o top r → ValueAlone o top.content top.below

abbrev pub WholeValuesEnd : Options → Top → Type 0
WholeValuesEnd o top = IsValueBefore o top [] → LeavesEnd o (leaves_of top) None

abbrev pub PropertiesStandAlone : Options → OrderedTree → Type 0
PropertiesStandAlone o row = PropertyShaped o row [] → PropertyAlone o row × LeavesEnd o (leaves row) None

-- Laws: the children of a row tell where two literals without quotes meet among its leaves.
use Rattle.std.specs.Prelude.{◌≡◌, ℕ, ◌&&◌, List, None, reverse, take}
use Rattle.jsonc_text.specs.Options.{Options}
use Rattle.jsonc_tree.specs.OrderedTree.{OrderedTree, leaves, Shows}
use Rattle.jsonc_tree.specs.Siblings.{row_of, siblings_after}
use Rattle.jsonc_tree.specs.Tree.{Node, place_at}
use Rattle.jsonc_sound.specs.Rows.{RowKind, Last}
use Rattle.jsonc_sound.specs.Alone.{RowAlone, StretchAlone}
use Rattle.jsonc_sound.specs.Spaces.{meet}
use Rattle.jsonc_edit.specs.Due.{nearest, ends_bare, begins_bare, space_needed_between}

-- they meet between a stretch of a row and the rest of it where the nearest children that print something are such literals
abbrev pub NearestTell : Options → List Node → Type 0
NearestTell o ns = (kind : RowKind) (last mid : Last) (xs ys : List ℕ) (stretch rest : OrderedTree)
    → Shows ns xs stretch → StretchAlone o kind last stretch mid → Shows ns ys rest → RowAlone o kind mid rest
    → meet (leaves stretch) (leaves rest) ≡ (ends_bare ns (nearest ns (reverse xs)) && begins_bare ns (nearest ns ys))

-- where commas may not be missing and the row goes on without the children from one to another, no space is due
abbrev pub NoneDueWithCommas : Options → List Node → Type 0
NoneDueWithCommas o ns = (kind : RowKind) (last mid : Last) (from to : ℕ) (front back : OrderedTree)
    → Shows ns (take (place_at ns from) (row_of ns from)) front → StretchAlone o kind last front mid
    → Shows ns (siblings_after ns to) back → RowAlone o kind mid back
    → space_needed_between ns from to ≡ None

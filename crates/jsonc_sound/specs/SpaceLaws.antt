-- Laws of spaces: where no two literals without quotes meet that did not before, and a space stands between those that would, the leaves end.
use Rattle.std.specs.Prelude.{◌≡◌, ℕ, false, List, [], ◌++◌, Option, None, Some, IsTrue}
use Rattle.jsonc_text.specs.Options.{Options}
use Rattle.jsonc_tree.specs.Content.{Content}
use Rattle.jsonc_tree.specs.OrderedTree.{OrderedTree, leaves, followed_by, Top}
use Rattle.jsonc_sound.specs.Lines.{LinesEnd}
use Rattle.jsonc_sound.specs.Sound.{Sound, IsValueBefore}
use Rattle.jsonc_sound.specs.TreeChanges.{leaves_of, DocumentChanged}
use Rattle.jsonc_sound.specs.ChangeLaws.{DiffersIn}
use Rattle.jsonc_sound.specs.Rows.{RowKind, Last, nothing_yet, container_of, last_behind}
use Rattle.jsonc_sound.specs.Adjacent.{follower, LeavesEnd, LastEnds}
use Rattle.jsonc_sound.specs.Alone.{RowAlone, StretchAlone, may_come}
use Rattle.jsonc_sound.specs.Spaces.{meet, spaced}

-- before a space all leaves end that end before something
abbrev pub SpaceServes : Options → List Content → Type 0
SpaceServes o ls = (n : Option ℕ) → LeavesEnd o ls n → LeavesEnd o ls (Some 0x20)

-- a stretch ends before the rest of a row, where it ends before something, and no two literals without quotes meet
abbrev pub StretchEnds : Options → RowKind → OrderedTree → OrderedTree → Type 0
StretchEnds o kind stretch rest = (last mid other : Last) (n m : Option ℕ) → StretchAlone o kind last stretch mid
    → RowAlone o kind other rest → LeavesEnd o (leaves stretch) n → meet (leaves stretch) (leaves rest) ≡ false
    → LastEnds o (leaves stretch) (follower (leaves rest) m)

-- where a stretch of a container's row is replaced by one that leads to where the rest may come, and no two literals
-- without quotes meet at the seams, the document stays sound
abbrev pub StaysSoundWhereNoneMeet : Options → OrderedTree → Type 0
StaysSoundWhereNoneMeet o t = Sound o t → (kind : RowKind) (front was now back : OrderedTree) (path : List ℕ) (u : OrderedTree)
    → DocumentChanged (container_of kind (followed_by front (followed_by was back))) (container_of kind (followed_by front (followed_by now back))) path t u
    → (to : Last) → StretchAlone o kind (last_behind nothing_yet front) now to → IsTrue (may_come o to back)
    → LinesEnd false (followed_by front (followed_by now back))
    → LeavesEnd o (leaves now) None → meet (leaves front) (leaves (followed_by now back)) ≡ false → meet (leaves now) (leaves back) ≡ false
    → Sound o u

-- where a value of a sound document is replaced by a whole value, and no two literals without quotes meet at the seams, the document stays sound
abbrev pub StaysSoundWithValue : Options → OrderedTree → Type 0
StaysSoundWithValue o t = Sound o t → (was now : Top) (path : List ℕ) (u : OrderedTree)
    → DocumentChanged was now path t u → IsValueBefore o now [] → LinesEnd false now.below
    → (d : DiffersIn (leaves_of was) (leaves_of now) (leaves t) (leaves u))
    → meet d.front (leaves_of now ++ d.back) ≡ false → meet (leaves_of now) d.back ≡ false
    → Sound o u

-- where a stretch of a container's row is replaced by one that leads to where the rest may come, with a space wherever
-- two literals without quotes would meet at the seams, the document stays sound
abbrev pub StaysSoundWithSpaces : Options → OrderedTree → Type 0
StaysSoundWithSpaces o t = Sound o t → (kind : RowKind) (front was now back : OrderedTree) (path : List ℕ) (u : OrderedTree)
    → DocumentChanged (container_of kind (followed_by front (followed_by was back)))
    (container_of kind (followed_by front (followed_by (spaced (leaves front) now (leaves back)) back))) path t u
    → (to : Last) → StretchAlone o kind (last_behind nothing_yet front) now to → IsTrue (may_come o to back)
    → LinesEnd false (followed_by front (followed_by now back)) → LeavesEnd o (leaves now) None
    → Sound o u

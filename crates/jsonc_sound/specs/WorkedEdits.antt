-- Two edits as stretches: a value put behind the last element of an array, and a stretch of a row taken out.
use Rattle.std.specs.Prelude.{◌≡◌, ℕ, true, false, List, [], IsTrue}
use Rattle.jsonc_text.specs.Options.{Options}
use Rattle.jsonc_tree.specs.OrderedTree.{OrderedTree, none, more, leaves, followed_by, Top}
use Rattle.jsonc_sound.specs.Lines.{LinesEndLoosely}
use Rattle.jsonc_sound.specs.Shape.{token_then}
use Rattle.jsonc_sound.specs.Rows.{RowKind, of_values, nothing_yet, an_element, container_of, last_behind}
use Rattle.jsonc_sound.specs.Sound.{IsValueBefore}
use Rattle.jsonc_sound.specs.TreeChanges.{DocumentChanged}
use Rattle.jsonc_sound.specs.Alone.{may_come}
use Rattle.jsonc_sound.specs.SoundTrees.{SoundTree}
use Rattle.jsonc_sound.specs.Spaces.{space_then, spaced}

-- a comma, a space and the value
abbrev pub appended : Top → OrderedTree
appended top = token_then 0x2C (space_then (more top.content top.below none))

abbrev pub KeptByAppending : Options → OrderedTree → Type 0
KeptByAppending o t = SoundTree o t → (front back : OrderedTree) (top : Top) (path : List ℕ) (u : OrderedTree)
    → DocumentChanged (container_of of_values (followed_by front back))
    (container_of of_values
    (followed_by front (followed_by (spaced (leaves front) (appended top) (leaves back)) back))) path t u
    → last_behind nothing_yet front ≡ an_element → IsTrue (may_come o an_element back) → IsValueBefore o top []
    → LinesEndLoosely true false (followed_by front (followed_by (appended top) back)) → SoundTree o u

-- what is left may come behind what stands before it
abbrev pub KeptByTakingOut : Options → OrderedTree → Type 0
KeptByTakingOut o t = SoundTree o t → (kind : RowKind) (front was back : OrderedTree) (path : List ℕ) (u : OrderedTree)
    → DocumentChanged (container_of kind (followed_by front (followed_by was back)))
    (container_of kind (followed_by front (followed_by (spaced (leaves front) none (leaves back)) back))) path t u
    → IsTrue (may_come o (last_behind nothing_yet front) back) → LinesEndLoosely true false (followed_by front back) → SoundTree o u

-- Laws of documents node by node, for all options.
use Rattle.std.specs.Prelude.{◌↔◌, ℕ, List, ◌++◌, Option, None, IsTrue, false}
use Rattle.jsonc_text.specs.Options.{Options}
use Rattle.jsonc_tree.specs.Content.{Content}
use Rattle.jsonc_tree.specs.OrderedTree.{OrderedTree, leaves, followed_by, Top}
use Rattle.jsonc_sound.specs.Lines.{LinesEnd, DocumentLinesEnd}
use Rattle.jsonc_sound.specs.Shape.{DocumentShaped, PrintsDocument}
use Rattle.jsonc_sound.specs.ChangeLaws.{DiffersIn}
use Rattle.jsonc_sound.specs.Sound.{Sound}
use Rattle.jsonc_sound.specs.TreeChanges.{leaves_of, DocumentChanged}
use Rattle.jsonc_sound.specs.Rows.{RowKind, Last, nothing_yet, container_of, last_behind}
use Rattle.jsonc_sound.specs.Adjacent.{follower, LeavesEnd, LastEnds}
use Rattle.jsonc_sound.specs.Alone.{ValueAlone, StretchAlone, may_come, DocumentAlone}

-- a tree has a document's shape exactly where it is one node by node, and its leaves end
abbrev pub ShapesComeApart : Options → OrderedTree → Type 0
ShapesComeApart o tree = DocumentShaped o tree ↔ DocumentAlone o tree × LeavesEnd o (leaves tree) None

-- a document node by node, whose leaves end and whose line comments end with their lines, prints a document of the grammar, and has its value
abbrev pub NodesPrint : Options → OrderedTree → Type 0
NodesPrint o tree = DocumentAlone o tree → LeavesEnd o (leaves tree) None → DocumentLinesEnd tree → PrintsDocument o tree

-- two stretches of leaves end exactly where each does, the first before what the second prints first
abbrev pub LeavesComeApart : Options → List Content → List Content → Option ℕ → Type 0
LeavesComeApart o first second n = LeavesEnd o (first ++ second) n ↔ LeavesEnd o first (follower second n) × LeavesEnd o second n

-- where leaves end before one thing, they end before another before which the last that prints something may
abbrev pub GoesByTheLast : Options → List Content → Type 0
GoesByTheLast o leaves = (n m : Option ℕ) → LeavesEnd o leaves n → LastEnds o leaves m → LeavesEnd o leaves m

-- where a stretch of leaves is replaced by another, all end, if those that come do and the last before them does
abbrev pub SeamsServe : Options → List Content → List Content → Type 0
SeamsServe o was now = (x y : List Content) → LeavesEnd o x None → (d : DiffersIn was now x y)
    → LastEnds o d.front (follower (now ++ d.back) None) → LeavesEnd o now (follower d.back None) → LeavesEnd o y None

-- where a value of a sound document is replaced by a node that is one alone, the document stays sound if the leaves end at the two seams
abbrev pub StaysSoundAtSeams : Options → OrderedTree → Type 0
StaysSoundAtSeams o t = Sound o t → (was now : Top) (path : List ℕ) (u : OrderedTree) → DocumentChanged was now path t u
    → ValueAlone o now.content now.below → LinesEnd false now.below
    → (d : DiffersIn (leaves_of was) (leaves_of now) (leaves t) (leaves u))
    → LastEnds o d.front (follower (leaves_of now ++ d.back) None)
    → LeavesEnd o (leaves_of now) (follower d.back None)
    → Sound o u

-- where a stretch of a container's row is replaced by one that leads to where the rest may come, the document stays sound
-- if the leaves end at the two seams; nothing outside of the row is looked at
abbrev pub StaysSoundWithStretch : Options → OrderedTree → Type 0
StaysSoundWithStretch o t = Sound o t → (kind : RowKind) (front was now back : OrderedTree) (path : List ℕ) (u : OrderedTree)
    → DocumentChanged (container_of kind (followed_by front (followed_by was back))) (container_of kind (followed_by front (followed_by now back))) path t u
    → (to : Last) → StretchAlone o kind (last_behind nothing_yet front) now to → IsTrue (may_come o to back)
    → LinesEnd false (followed_by front (followed_by now back))
    → LastEnds o (leaves front) (follower (leaves now ++ leaves back) None) → LeavesEnd o (leaves now) (follower (leaves back) None)
    → Sound o u

-- Soundness: the shape of the grammar, and line comments that end with their lines, in an array or object perhaps
-- behind whitespace. No law of it asks for commas.
use Rattle.std.specs.Prelude.{◌≡◌, Bool, ◌↔◌, ℕ, true, false, List, [], ◌++◌, None, IsTrue}
use Rattle.jsonc_text.specs.Options.{Options}
use Rattle.jsonc_tree.specs.Content.{Content}
use Rattle.jsonc_sound.specs.TriviaChanges.{AreTrivia, StretchChanged, EndsInComment}
use Rattle.jsonc_tree.specs.OrderedTree.{OrderedTree, leaves, followed_by, Top}
use Rattle.jsonc_sound.specs.Lines.{DocumentLinesEnd, is_loose, LinesEndLoosely, DocumentLinesEndLoosely}
use Rattle.jsonc_sound.specs.Shape.{DocumentShaped, PrintsDocument}
use Rattle.jsonc_sound.specs.ChangeLaws.{DiffersIn}
use Rattle.jsonc_sound.specs.Rows.{RowKind, Last, nothing_yet, container_of, last_behind}
use Rattle.jsonc_sound.specs.Sound.{IsValueBefore}
use Rattle.jsonc_sound.specs.TreeChanges.{leaves_of, DocumentChanged}
use Rattle.jsonc_sound.specs.Adjacent.{LeavesEnd, last_printed}
use Rattle.jsonc_sound.specs.Booleans.{is_hex_leaf, boolean_leaf}
use Rattle.jsonc_sound.specs.Alone.{DocumentAlone, StretchAlone, may_come}
use Rattle.jsonc_sound.specs.Spaces.{meet, spaced}

pub record SoundTree (o : Options) (tree : OrderedTree) : Type 0 where
  pub shaped : DocumentShaped o tree
  pub lines : DocumentLinesEndLoosely tree

-- it is three conditions: each node is what it is alone, each leaf ends before what is printed after it, and line comments end with their lines
abbrev pub SoundTreesComeApart : Options → OrderedTree → Type 0
SoundTreesComeApart o tree = SoundTree o tree ↔ DocumentAlone o tree × LeavesEnd o (leaves tree) None × DocumentLinesEndLoosely tree

-- a parsed document has it, and what has it prints a document of the grammar, and has its value
abbrev pub ParsedAreSound : Options → OrderedTree → Type 0
ParsedAreSound o tree = DocumentShaped o tree → DocumentLinesEnd tree → SoundTree o tree

abbrev pub SoundTreesPrint : Options → OrderedTree → Type 0
SoundTreesPrint o tree = SoundTree o tree → PrintsDocument o tree

-- where in the row of a container a stretch is replaced by one that leads to where the rest may come, whose leaves and
-- lines end, with a space wherever two literals without quotes would meet, the document keeps it
abbrev pub KeptByStretches : Options → OrderedTree → Type 0
KeptByStretches o t = SoundTree o t → (kind : RowKind) (front was now back : OrderedTree) (path : List ℕ) (u : OrderedTree)
    → DocumentChanged (container_of kind (followed_by front (followed_by was back)))
    (container_of kind (followed_by front (followed_by (spaced (leaves front) now (leaves back)) back))) path t u
    → (to : Last) → StretchAlone o kind (last_behind nothing_yet front) now to → IsTrue (may_come o to back)
    → LinesEndLoosely true false (followed_by front (followed_by now back)) → LeavesEnd o (leaves now) None
    → SoundTree o u

-- and without a space, where none meet
abbrev pub KeptWhereNoneMeet : Options → OrderedTree → Type 0
KeptWhereNoneMeet o t = SoundTree o t → (kind : RowKind) (front was now back : OrderedTree) (path : List ℕ) (u : OrderedTree)
    → DocumentChanged (container_of kind (followed_by front (followed_by was back))) (container_of kind (followed_by front (followed_by now back))) path t u
    → (to : Last) → StretchAlone o kind (last_behind nothing_yet front) now to → IsTrue (may_come o to back)
    → LinesEndLoosely true false (followed_by front (followed_by now back))
    → LeavesEnd o (leaves now) None → meet (leaves front) (leaves (followed_by now back)) ≡ false → meet (leaves now) (leaves back) ≡ false
    → SoundTree o u

-- and where a value is replaced by a whole value
abbrev pub KeptByValues : Options → OrderedTree → Type 0
KeptByValues o t = SoundTree o t → (was now : Top) (path : List ℕ) (u : OrderedTree) → DocumentChanged was now path t u
    → IsValueBefore o now [] → LinesEndLoosely (is_loose now.content) false now.below
    → (d : DiffersIn (leaves_of was) (leaves_of now) (leaves t) (leaves u))
    → meet d.front (leaves_of now ++ d.back) ≡ false → meet (leaves_of now) d.back ≡ false
    → SoundTree o u

-- and where a comment leaves, alone or as a line comment with trivia before it, and no two literals without quotes meet that it held apart
abbrev pub KeptWithoutComment : Options → OrderedTree → Type 0
KeptWithoutComment o t = SoundTree o t → (was : List Content) (u : OrderedTree) → StretchChanged was [] t u → AreTrivia was → EndsInComment was
    → (d : DiffersIn was [] (leaves t) (leaves u)) → meet d.front d.back ≡ false → SoundTree o u

-- and where a truth value is replaced by the other in its place, but for `false` directly behind a hexadecimal number
abbrev pub KeptByBooleans : Options → OrderedTree → Type 0
KeptByBooleans o t = SoundTree o t → (was now : Bool) (path : List ℕ) (u : OrderedTree) → DocumentChanged (boolean_leaf was) (boolean_leaf now) path t u
    → (d : DiffersIn (leaves_of (boolean_leaf was)) (leaves_of (boolean_leaf now)) (leaves t) (leaves u))
    → (now ≡ false → is_hex_leaf (last_printed d.front) ≡ false) → SoundTree o u

-- Laws of rows: what a document is where an element has left a row of it, or come into one.
use Rattle.std.specs.Prelude.{◌≡◌, ℕ, List, [], ◌++◌, Some, None}
use Rattle.jsonc_text.specs.Options.{Options}
use Rattle.jsonc_text.specs.Plain.{Plain, Items, Members, array, object}
use Rattle.jsonc_tree.specs.Content.{root}
use Rattle.jsonc_tree.specs.OrderedTree.{OrderedTree, none, more}
use Rattle.jsonc_tree.specs.Values.{DocumentValueOf, ItemsOf, MembersOf}
use Rattle.jsonc_sound.specs.Changes.{Changed}
use Rattle.jsonc_sound.specs.Rows.{RowKind, container_of}
use Rattle.jsonc_sound.specs.Sound.{IsNewValue, HasValue}
use Rattle.jsonc_tree.specs.OrderedTree.{Top}
use Rattle.jsonc_sound.specs.TreeChanges.{IsElement, DocumentChanged}
use Rattle.jsonc_sound.specs.SoundTrees.{SoundTree}
use Rattle.jsonc_sound.specs.Marks.{Mark, marks, comments_of}
use Rattle.jsonc_sound.specs.MarkChanges.{MarksDifferIn, marks_under}
use Rattle.jsonc_sound.specs.Leaving.{ElementRemoved, ClosesUp, ValueRemoved, Empties}
use Rattle.jsonc_sound.specs.Coming.{ValueInserted}
use Rattle.jsonc_sound.specs.Values.{ItemRemoved, MemberRemoved}

-- where an element leaves a container of a sound document, which then closes up if it may, the document stays sound
abbrev pub SoundWithoutElement : Options → OrderedTree → Type 0
SoundWithoutElement o t = SoundTree o t → (kind : RowKind) (top : Top) (i : ℕ) (row left new : OrderedTree) (path : List ℕ) (u : OrderedTree)
    → DocumentChanged (container_of kind row) (container_of kind new) path t u → IsElement top.content
    → ElementRemoved top i row left → ClosesUp left new → SoundTree o u

-- the items of an array lose the one of this number, and the properties of an object theirs
abbrev pub ItemsWithoutElement : Options → Top → OrderedTree → OrderedTree → OrderedTree → Type 0
ItemsWithoutElement o top row left new = IsElement top.content → (i : ℕ) → ElementRemoved top i row left
    → ClosesUp left new → (vs : Items) → ItemsOf o row vs → (ws : Items) × ItemRemoved i vs ws × ItemsOf o new ws

abbrev pub MembersWithoutElement : Options → Top → OrderedTree → OrderedTree → OrderedTree → Type 0
MembersWithoutElement o top row left new = IsElement top.content → (i : ℕ) → ElementRemoved top i row left
    → ClosesUp left new → (ms : Members) → MembersOf o row ms
    → (ns : Members) × MemberRemoved i ms ns × MembersOf o new ns

-- the document's value at the path of the container has changed so, and nothing else has
pub data LosesEntry (path : List ℕ) (i : ℕ) (x y : Plain) : Type 0 where
  loses_item : {vs ws : Items} → ItemRemoved i vs ws → Changed (array vs) (array ws) path x y → LosesEntry path i x y
  loses_member : {ms ns : Members} → MemberRemoved i ms ns → Changed (object ms) (object ns) path x y → LosesEntry path i x y

abbrev pub ValueWithoutElement : Options → OrderedTree → Plain → Type 0
ValueWithoutElement o t x = DocumentValueOf o t (Some x) → (kind : RowKind) (top : Top) (i : ℕ) (row left new : OrderedTree) (path : List ℕ) (u : OrderedTree)
    → DocumentChanged (container_of kind row) (container_of kind new) path t u → IsElement top.content → ElementRemoved top i row left → ClosesUp left new
    → (y : Plain) × DocumentValueOf o u (Some y) × LosesEntry path i x y

-- marks that are all comments
abbrev pub AreComments : List Mark → Type 0
AreComments ms = comments_of ms ≡ ms

-- of the marks x those of the node have left, and comments beside it; all others stay, in order
pub record LosesMarks (top : Top) (x y : List Mark) : Type 0 where
  pub leading : List Mark
  pub trailing : List Mark
  pub comments_before : AreComments leading
  pub comments_behind : AreComments trailing
  pub gone : MarksDifferIn (leading ++ (marks_under top ++ trailing)) [] x y

abbrev pub MarksWithoutElement : OrderedTree → Type 0
MarksWithoutElement t = (kind : RowKind) (top : Top) (i : ℕ) (row left new : OrderedTree) (path : List ℕ) (u : OrderedTree)
    → DocumentChanged (container_of kind row) (container_of kind new) path t u → ElementRemoved top i row left
    → ClosesUp left new → LosesMarks top (marks t) (marks u)

-- a document with this row below its root
abbrev pub root_with : OrderedTree → OrderedTree
root_with row = more root row none

-- where its value leaves a sound document, this stays sound, has no value, and has lost the value's marks
abbrev pub SoundWithoutValue : Options → Top → OrderedTree → OrderedTree → OrderedTree → Type 0
SoundWithoutValue o top row left new = SoundTree o (root_with row) → IsElement top.content → ValueRemoved top row left
    → Empties left new → SoundTree o (root_with new)

abbrev pub NoValueWithoutValue : Options → Top → OrderedTree → OrderedTree → OrderedTree → Type 0
NoValueWithoutValue o top row left new = (x : Plain) → DocumentValueOf o (root_with row) (Some x)
    → IsElement top.content → ValueRemoved top row left → Empties left new → DocumentValueOf o (root_with new) None

abbrev pub MarksWithoutValue : Top → OrderedTree → OrderedTree → OrderedTree → Type 0
MarksWithoutValue top row left new = ValueRemoved top row left → Empties left new → LosesMarks top (marks (root_with row)) (marks (root_with new))

-- where a whole value comes into a sound document that had none, this is sound, has that value, and its marks have come
abbrev pub SoundWithFirstValue : Options → Top → Plain → OrderedTree → OrderedTree → Type 0
SoundWithFirstValue o top v row new = SoundTree o (root_with row) → IsNewValue o top v → IsElement top.content
    → ValueInserted top row new → SoundTree o (root_with new)

abbrev pub HasFirstValue : Options → Top → Plain → OrderedTree → OrderedTree → Type 0
HasFirstValue o top v row new = HasValue o top v → IsElement top.content → ValueInserted top row new
    → DocumentValueOf o (root_with row) None × DocumentValueOf o (root_with new) (Some v)

abbrev pub MarksWithFirstValue : Top → OrderedTree → OrderedTree → Type 0
MarksWithFirstValue top row new = ValueInserted top row new → MarksDifferIn [] (marks_under top) (marks (root_with row)) (marks (root_with new))

-- A property of an object is replaced by a whole property of a name and value, and what becomes of the document.
use Rattle.std.specs.Prelude.{◌≡◌, ℕ, false, List, ◌++◌, Some}
use Rattle.jsonc_text.specs.Options.{Options}
use Rattle.jsonc_text.specs.Plain.{Plain, Members, object}
use Rattle.jsonc_tree.specs.OrderedTree.{OrderedTree, leaves}
use Rattle.jsonc_tree.specs.Values.{MembersOf, PropertyOf, DocumentValueOf}
use Rattle.jsonc_sound.specs.Lines.{LinesEnd}
use Rattle.jsonc_sound.specs.Shape.{PropertyShaped}
use Rattle.jsonc_sound.specs.Changes.{Changed}
use Rattle.jsonc_sound.specs.Followers.{EndsLiterals}
use Rattle.jsonc_sound.specs.Rows.{of_properties, container_of}
use Rattle.jsonc_tree.specs.OrderedTree.{Top}
use Rattle.jsonc_sound.specs.TreeChanges.{property_of, DocumentChanged}
use Rattle.jsonc_sound.specs.InRows.{row_around}
use Rattle.jsonc_sound.specs.SoundTrees.{SoundTree}
use Rattle.jsonc_sound.specs.Spaces.{meet}
use Rattle.jsonc_sound.specs.Marks.{marks}
use Rattle.jsonc_sound.specs.MarkChanges.{MarksDifferIn, marks_under}
use Rattle.jsonc_sound.specs.Leaving.{element_count}
use Rattle.jsonc_sound.specs.Values.{MemberReplaced}

-- the row of a property of this name and value, whole: it may stand wherever literals end
pub record IsNewProperty (o : Options) (row : OrderedTree) (name : List ℕ) (v : Plain) : Type 0 where
  pub shaped : (r : List ℕ) → EndsLiterals r → PropertyShaped o row r
  pub value : PropertyOf o row name v
  pub lines : LinesEnd false row

-- a row of properties, of which one has this row
abbrev pub among_properties : OrderedTree → OrderedTree → OrderedTree → OrderedTree
among_properties front held back = row_around front (property_of held) back

-- an object with such a row
abbrev pub object_of : OrderedTree → OrderedTree → OrderedTree → Top
object_of front held back = container_of of_properties (among_properties front held back)

-- the second document is the first, but that in the row of an object, between its front and its rest, a property with one row has been replaced by one with another
abbrev pub PropertyChanged : OrderedTree → OrderedTree → OrderedTree → OrderedTree → List ℕ → OrderedTree → OrderedTree → Type 0
PropertyChanged front was now back path t u = DocumentChanged (object_of front was back) (object_of front now back) path t u

-- where a property of a sound document is replaced by a whole property, and no two literals without quotes meet beside it, the document stays sound
abbrev pub SoundWithProperty : Options → OrderedTree → Type 0
SoundWithProperty o t = SoundTree o t → (front was now back : OrderedTree) (name : List ℕ) (v : Plain) (path : List ℕ) (u : OrderedTree)
    → PropertyChanged front was now back path t u → IsNewProperty o now name v
    → meet (leaves front) (leaves now ++ leaves back) ≡ false → meet (leaves now) (leaves back) ≡ false
    → SoundTree o u

-- the properties of the row become those with the name and the value in the place of the one that has left
abbrev pub MembersWithProperty : Options → List ℕ → Plain → Type 0
MembersWithProperty o name v = (front was now back : OrderedTree) (ms : Members) → MembersOf o (among_properties front was back) ms → PropertyOf o now name v
    → (ns : Members) × MemberReplaced name v (element_count front) ms ns × MembersOf o (among_properties front now back) ns

-- the document's value at the path of the object has changed so, and nothing else has
pub record ReplacesMember (path : List ℕ) (i : ℕ) (name : List ℕ) (v : Plain) (x y : Plain) : Type 0 where
  pub old : Members
  pub new : Members
  pub replaced : MemberReplaced name v i old new
  pub changed : Changed (object old) (object new) path x y

abbrev pub ValueWithProperty : Options → OrderedTree → Plain → Type 0
ValueWithProperty o t x = DocumentValueOf o t (Some x)
    → (front was now back : OrderedTree) (name : List ℕ) (v : Plain) (path : List ℕ) (u : OrderedTree)
    → PropertyChanged front was now back path t u → PropertyOf o now name v
    → (y : Plain) × DocumentValueOf o u (Some y) × ReplacesMember path (element_count front) name v x y

-- the marks of the property are replaced by those of the new one
abbrev pub MarksWithProperty : OrderedTree → Type 0
MarksWithProperty t = (front was now back : OrderedTree) (path : List ℕ) (u : OrderedTree) → PropertyChanged front was now back path t u
    → MarksDifferIn (marks_under (property_of was)) (marks_under (property_of now)) (marks t) (marks u)

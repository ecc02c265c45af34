-- What becomes of a document where a value at a path is replaced by another, or that of a property.
use Rattle.std.specs.Prelude.{◌≡◌, ℕ, false, List}
use Rattle.jsonc_text.specs.Plain.{Plain, object, Members}
use Rattle.jsonc_tree.specs.OrderedTree.{OrderedTree, leaves, Top}
use Rattle.jsonc_layout.specs.from_input.Laid.{laid}
use Rattle.jsonc_layout.specs.from_input.Layout.{Layout}
use Rattle.jsonc_sound.specs.Changes.{Changed, MemberChanged}
use Rattle.jsonc_sound.specs.ChangeLaws.{DiffersIn}
use Rattle.jsonc_sound.specs.TreeChanges.{leaves_of, DocumentChanged}
use Rattle.jsonc_edit.specs.Spaced.{SpacesPut}
use Rattle.jsonc_edit.specs.SeamPlaces.{ReplacedWithSeams}
use Rattle.jsonc_text.specs.declared.edit.Shape.{Shape}
use Rattle.jsonc_edit.specs.set.Shapes.{is_of, empty_of}

-- of the object at the path the value of the property at this place has been replaced by another, and nothing else has
pub record ReplacesHeld (path : List ℕ) (i : ℕ) (was now x y : Plain) : Type 0 where
  pub old : Members
  pub new : Members
  pub changed : MemberChanged was now i old new
  pub inside : Changed (object old) (object new) path x y

-- spaces have come into the document, and then of its leaves those of the value at the path have been replaced by those of this one, in some layout; all leaves
-- before and after stay. The spaces stand at the seams: one or none before the value, and one or none behind it.
pub record ReplacesValue (path : List ℕ) (v : Plain) (t u : OrderedTree) : Type 0 where
  pub was : Top
  pub layout : Layout
  pub spaced : OrderedTree
  pub spaces : SpacesPut t spaced
  pub changed : DocumentChanged was (laid layout v) path spaced u
  pub around : DiffersIn (leaves_of was) (leaves_of (laid layout v)) (leaves spaced) (leaves u)
  pub seams : ReplacedWithSeams path was (laid layout v) t u

-- all has stayed, or the value at the path, which was of another shape, has been replaced by the empty value of this one
pub data ValueEnsured (path : List ℕ) (shape : Shape) (t u : OrderedTree) : Type 0 where
  all_stays : u ≡ t → ValueEnsured path shape t u
  empty_given : (given : ReplacesValue path (empty_of shape) t u) → is_of shape given.was.content ≡ false → ValueEnsured path shape t u

-- The shapes that a document's value may have: those of nodes and of values, and their empty values.
use Rattle.std.specs.Prelude.{◌≡◌, Bool, true, false, Option, Some, None}
use Rattle.jsonc_text.specs.Plain.{Plain, array, object, no_items, no_members}
use Rattle.jsonc_tree.specs.Content.{Content}
use Rattle.jsonc_edit.specs.set.Kinds as kinds
use Rattle.jsonc_text.specs.declared.edit.Over.{Over}
use Rattle.jsonc_text.specs.declared.edit.Over.TheVariants as over
use Rattle.jsonc_text.specs.declared.edit.Shape.{Shape}
use Rattle.jsonc_text.specs.declared.edit.Shape.TheVariants.{Object, Array}

-- a value is an object, or an array
abbrev pub is_object : Plain → Bool
is_object (object ms) = true
is_object v = false

abbrev pub is_array : Plain → Bool
is_array (array vs) = true
is_array v = false

-- a value of this shape
abbrev pub has_shape : Shape → Plain → Bool
has_shape Object = is_object
has_shape Array = is_array

-- a node of this shape
abbrev pub is_of : Shape → Content → Bool
is_of Object = kinds.is_object
is_of Array = kinds.is_array

-- the empty value of a shape
abbrev pub empty_of : Shape → Plain
empty_of Object = object no_members
empty_of Array = array no_items

-- the second value is the empty one of the shape, where there was none, or one of another shape that was to give way; any other has stayed
pub data EnsuredValue (shape : Shape) : Over → Option Plain → Option Plain → Type 0 where
  comes_first : {how : Over} → EnsuredValue shape how None (Some (empty_of shape))
  has_it : {how : Over} {x : Plain} → has_shape shape x ≡ true → EnsuredValue shape how (Some x) (Some x)
  may_stay : {x : Plain} → has_shape shape x ≡ false → EnsuredValue shape over.Keep (Some x) (Some x)
  must_give_way : {x : Plain} → has_shape shape x ≡ false → EnsuredValue shape over.Replace (Some x) (Some (empty_of shape))

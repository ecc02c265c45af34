-- What the path of an edit leads to, and where edits are to be made.
use Rattle.std.specs.Prelude.{◌≡◌, ℕ, true, List, [], ◌∷◌, ◌++◌, Some, IsTrue}
use Rattle.jsonc_tree.specs.Content.{Content, array, object, property}
use Rattle.jsonc_tree.specs.Tree.{Node, content_at}
use Rattle.jsonc_edit.specs.Paths.{IsAt, IsElementOf}
use Rattle.jsonc_edit.specs.Comments.{comment_at}
use Rattle.jsonc_insert.specs.named.Places.{IsPropertyAt, IsPropertyOf}
use Rattle.jsonc_layout.specs.lines.Kinds.{is_array_or_object}
use Rattle.jsonc_edit.specs.set.Booleans.{is_boolean}
use Rattle.jsonc_run.specs.declared.places.Needed.{Needed}

-- the kind of node that an edit needs
abbrev pub IsNeeded : Needed → Content → Type 0
IsNeeded Needed.Array content = content ≡ array
IsNeeded Needed.Object content = content ≡ object
IsNeeded Needed.Container content = IsTrue (is_array_or_object content)
IsNeeded Needed.Property content = content ≡ property
IsNeeded Needed.Boolean content = is_boolean content ≡ true

-- the truth value that a path leads to
abbrev pub IsBooleanAt : List Node → List ℕ → ℕ → Type 0
IsBooleanAt ns path n = IsAt ns path n × (is_boolean (content_at ns n) ≡ true)

-- the array or object that a path leads to
abbrev pub IsContainerAt : List Node → List ℕ → ℕ → Type 0
IsContainerAt ns path n = IsAt ns path n × IsTrue (is_array_or_object (content_at ns n))

-- the array that a path leads to
abbrev pub IsArrayAt : List Node → List ℕ → ℕ → Type 0
IsArrayAt ns path n = IsAt ns path n × (content_at ns n ≡ array)

-- the object that a path leads to
abbrev pub IsObjectAt : List Node → List ℕ → ℕ → Type 0
IsObjectAt ns path n = IsAt ns path n × (content_at ns n ≡ object)

-- what stands at this place in an array, or the property at this place in an object
pub data IsEntryOf (ns : List Node) (c i n : ℕ) : Type 0 where
  in_array : content_at ns c ≡ array → IsElementOf ns c i n → IsEntryOf ns c i n
  in_object : IsPropertyOf ns c i n → IsEntryOf ns c i n

-- what leaves with a path: the document's value, or the entry of an array or object that the last step leads to
pub data IsEntryAt (ns : List Node) : List ℕ → ℕ → Type 0 where
  the_value : {n : ℕ} → IsAt ns [] n → IsEntryAt ns [] n
  an_entry : (front : List ℕ) (c i : ℕ) {n : ℕ} → IsAt ns front c → IsEntryOf ns c i n → IsEntryAt ns (front ++ i ∷ []) n

-- Where an edit is to be made: in the document itself; at a path, where a value has to stand, an entry, a property, a truth value, an array, an object, or either
-- of the two; or at the comment of a number.
pub data Place : Type 0 where
  in_document : Place
  at_value : List ℕ → Place
  at_entry : List ℕ → Place
  at_property : List ℕ → Place
  at_boolean : List ℕ → Place
  at_array : List ℕ → Place
  at_object : List ℕ → Place
  at_container : List ℕ → Place
  at_comment : ℕ → Place

-- a node of which this is so stands there; the document is its root
abbrev pub AtPlace : List Node → Place → (ℕ → Type 0) → Type 0
AtPlace ns in_document Is = Is 0
AtPlace ns (at_value path) Is = (n : ℕ) × IsAt ns path n × Is n
AtPlace ns (at_entry path) Is = (n : ℕ) × IsEntryAt ns path n × Is n
AtPlace ns (at_property path) Is = (n : ℕ) × IsPropertyAt ns path n × Is n
AtPlace ns (at_boolean path) Is = (n : ℕ) × IsBooleanAt ns path n × Is n
AtPlace ns (at_array path) Is = (n : ℕ) × IsArrayAt ns path n × Is n
AtPlace ns (at_object path) Is = (n : ℕ) × IsObjectAt ns path n × Is n
AtPlace ns (at_container path) Is = (n : ℕ) × IsContainerAt ns path n × Is n
AtPlace ns (at_comment number) Is = (n : ℕ) × (comment_at ns number ≡ Some n) × Is n

-- a node stands there; the document is always there
abbrev pub IsFound : List Node → Place → Type 0
IsFound ns in_document = Unit {0}
IsFound ns (at_value path) = (n : ℕ) × IsAt ns path n
IsFound ns (at_entry path) = (n : ℕ) × IsEntryAt ns path n
IsFound ns (at_property path) = (n : ℕ) × IsPropertyAt ns path n
IsFound ns (at_boolean path) = (n : ℕ) × IsBooleanAt ns path n
IsFound ns (at_array path) = (n : ℕ) × IsArrayAt ns path n
IsFound ns (at_object path) = (n : ℕ) × IsObjectAt ns path n
IsFound ns (at_container path) = (n : ℕ) × IsContainerAt ns path n
IsFound ns (at_comment number) = (n : ℕ) × (comment_at ns number ≡ Some n)

-- The properties of a value by their names: where the first of a name stands, and what it is to hold.
use Rattle.std.specs.Prelude.{◌≢◌, ℕ, suc, List, Some}
use Rattle.jsonc_text.specs.Plain.{Plain, object, Members, no_members, member}
use Rattle.jsonc_sound.specs.Changes.{Changed}
use Rattle.jsonc_text.specs.declared.edit.Over.{Over}
use Rattle.jsonc_text.specs.declared.edit.Shape.{Shape}
use Rattle.jsonc_edit.specs.set.Shapes.{empty_of, EnsuredValue}

-- none has this name
pub data LacksMember (name : List ℕ) : Members → Type 0 where
  no_more : LacksMember name no_members
  other_name : {n : List ℕ} {v : Plain} {ms : Members} → n ≢ name → LacksMember name ms → LacksMember name (member n v ms)

-- the first of this name is the one of this number
pub data IsFirstMember (name : List ℕ) : ℕ → Members → Type 0 where
  first_is : {v : Plain} {ms : Members} → IsFirstMember name 0 (member name v ms)
  first_later : {i : ℕ} {n : List ℕ} {v : Plain} {ms : Members} → n ≢ name → IsFirstMember name i ms → IsFirstMember name (suc i) (member n v ms)

-- The first of this name has a value of the shape, if it had one, or else an empty one, or the other that was to stay; where none had the name, one with an
-- empty value has come last. All others are the same.
pub data MemberEnsured (name : List ℕ) (shape : Shape) (how : Over) : Members → Members → Type 0 where
  comes_last : MemberEnsured name shape how no_members (member name (empty_of shape) no_members)
  this_member : {v w : Plain} {ms : Members} → EnsuredValue shape how (Some v) (Some w)
      → MemberEnsured name shape how (member name v ms) (member name w ms)
  later_member : {n : List ℕ} {v : Plain} {ms ns : Members} → n ≢ name → MemberEnsured name shape how ms ns
      → MemberEnsured name shape how (member n v ms) (member n v ns)

-- so it is in the object at the path, and nothing else has changed
pub record EnsuresMember (path name : List ℕ) (shape : Shape) (how : Over) (x y : Plain) : Type 0 where
  pub old : Members
  pub new : Members
  pub members : MemberEnsured name shape how old new
  pub inside : Changed (object old) (object new) path x y

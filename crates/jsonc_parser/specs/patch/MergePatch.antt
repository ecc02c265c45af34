-- What a merge patch makes of a value (RFC 7396, 2).
use Rattle.std.specs.Prelude.{◌≡◌, ℕ, cond, List, Option, Some, None}
use Rattle.std.specs.Str.{bytes_eq}
use Rattle.jsonc_text.specs.Plain.{Plain, null, boolean, number, string, array, object, collapse, without, Items, Members, no_members, member}
use Rattle.jsonc_parser.specs.patch.Equality.{AreEqual, HasUniqueNames}

-- the members of the target, which are none if it is no object
abbrev pub members_in : Option Plain → Members
members_in (Some (object ms)) = ms
members_in w = no_members

-- the value of the first member of this name
abbrev pub value_in : List ℕ → Members → Option Plain
value_in name no_members = None
value_in name (member n v ms) = cond (bytes_eq n name) (Some v) (value_in name ms)

-- the first member of this name has this value, or is appended
abbrev pub with_member : List ℕ → Plain → Members → Members
with_member name v no_members = member name v no_members
with_member name v (member n w ms) = cond (bytes_eq n name) (member name v ms) (member n w (with_member name v ms))

-- `MergePatch(Target, Patch)`. A patch that is no object is the result. Of one that is an object each member in order is merged into the members of the target: null
-- removes the member of its name, and any other value is merged with the value of that member, or with nothing, and set.
abbrev mutual
  pub merged : Option Plain → Plain → Plain
  merged target null = null
  merged target (boolean b) = boolean b
  merged target (number s) = number s
  merged target (string s) = string s
  merged target (array vs) = array vs
  merged target (object ms) = object (members_merged (members_in target) ms)

  pub members_merged : Members → Members → Members
  members_merged ns no_members = ns
  members_merged ns (member name null ms) = members_merged (without name ns) ms
  members_merged ns (member name v ms) = members_merged (with_member name (merged (value_in name ns) v) ns) ms

mutual
  -- The second value is the first, but that an array in it may be another that is equal, with the same texts of numbers, where of equal names the last counts.
  pub data IsUpToArrays : Plain → Plain → Type 0 where
    itself : {v : Plain} → IsUpToArrays v v
    equal_arrays : {vs ws : Items} → AreEqual (λ s t. s ≡ t) (collapse (array vs)) (collapse (array ws)) → IsUpToArrays (array vs) (array ws)
    objects : {ms ns : Members} → AreUpToArrays ms ns → IsUpToArrays (object ms) (object ns)

  -- members have the same names in the same order, and so are their values
  pub data AreUpToArrays : Members → Members → Type 0 where
    no_more : AreUpToArrays no_members no_members
    one : {name : List ℕ} {v w : Plain} {ms ns : Members} → IsUpToArrays v w → AreUpToArrays ms ns → AreUpToArrays (member name v ms) (member name w ns)

-- the target has become what the function makes of it, but for arrays that are equal
abbrev pub IsMergePatch : Plain → Option Plain → Option Plain → Type 0
IsMergePatch patch target y = (v : Plain) × (y ≡ Some v) × IsUpToArrays (merged target patch) v

-- the target has become a value that is equal to what the function makes of it
abbrev pub IsEqualToMergePatch : Plain → Option Plain → Option Plain → Type 0
IsEqualToMergePatch patch target y = (v : Plain) × (y ≡ Some v) × AreEqual (λ s t. s ≡ t) (collapse (merged target patch)) (collapse v)

-- no name occurs twice in an object of the value, if there is one
abbrev pub RepeatsNoName : Option Plain → Type 0
RepeatsNoName None = Unit {0}
RepeatsNoName (Some v) = HasUniqueNames v

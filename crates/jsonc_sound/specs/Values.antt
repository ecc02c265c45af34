-- What becomes of the plain values of a row where an element leaves, or a property is replaced by another.
use Rattle.std.specs.Prelude.{ℕ, suc, List}
use Rattle.jsonc_text.specs.Plain.{Plain, Items, item, Members, member}

-- the second list is the first without the item at this place
pub data ItemRemoved : ℕ → Items → Items → Type 0 where
  this_item : {v : Plain} {vs : Items} → ItemRemoved 0 (item v vs) vs
  later_item : {i : ℕ} {v : Plain} {vs ws : Items} → ItemRemoved i vs ws → ItemRemoved (suc i) (item v vs) (item v ws)

-- or without the property at this place
pub data MemberRemoved : ℕ → Members → Members → Type 0 where
  this_member : {name : List ℕ} {v : Plain} {ms : Members} → MemberRemoved 0 (member name v ms) ms
  later_member : {i : ℕ} {name : List ℕ} {v : Plain} {ms ns : Members} → MemberRemoved i ms ns → MemberRemoved (suc i) (member name v ms) (member name v ns)

-- or with a property of this name and value in its place
pub data MemberReplaced (name : List ℕ) (v : Plain) : ℕ → Members → Members → Type 0 where
  this_member : {n : List ℕ} {w : Plain} {ms : Members} → MemberReplaced name v 0 (member n w ms) (member name v ms)
  later_member : {i : ℕ} {n : List ℕ} {w : Plain} {ms ns : Members} → MemberReplaced name v i ms ns
      → MemberReplaced name v (suc i) (member n w ms) (member n w ns)

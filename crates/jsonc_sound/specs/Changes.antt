-- What a change at a path makes of a plain value. A step of a path leads in an array to an element, in an object to the value of a property.
use Rattle.std.specs.Prelude.{ℕ, suc, List, [], ◌∷◌}
use Rattle.jsonc_text.specs.Plain.{Plain, array, object, Items, item, Members, member}

-- the second list is the first, but that the element at this place has been replaced by another
pub data ItemChanged (was now : Plain) : ℕ → Items → Items → Type 0 where
  this_item : {vs : Items} → ItemChanged was now 0 (item was vs) (item now vs)
  later_item : {i : ℕ} {v : Plain} {vs ws : Items} → ItemChanged was now i vs ws → ItemChanged was now (suc i) (item v vs) (item v ws)

-- the second list is the first, but that the value of the property at this place has been replaced by another
pub data MemberChanged (was now : Plain) : ℕ → Members → Members → Type 0 where
  this_member : {name : List ℕ} {ms : Members} → MemberChanged was now 0 (member name was ms) (member name now ms)
  later_member : {i : ℕ} {name : List ℕ} {v : Plain} {ms ns : Members} → MemberChanged was now i ms ns
      → MemberChanged was now (suc i) (member name v ms) (member name v ns)

-- the second value is the first, but that the value at the path has been replaced by another
pub data Changed (was now : Plain) : List ℕ → Plain → Plain → Type 0 where
  itself : Changed was now [] was now
  in_array : {i : ℕ} {path : List ℕ} {x y : Plain} {vs ws : Items} → ItemChanged x y i vs ws → Changed was now path x y
      → Changed was now (i ∷ path) (array vs) (array ws)
  in_object : {i : ℕ} {path : List ℕ} {x y : Plain} {ms ns : Members} → MemberChanged x y i ms ns
      → Changed was now path x y → Changed was now (i ∷ path) (object ms) (object ns)

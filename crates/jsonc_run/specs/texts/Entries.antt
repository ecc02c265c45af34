-- What edits make of plain values: a container is a kind and a list of entries.
use Rattle.std.specs.Prelude.{ℕ, List, [], ◌∷◌, ◌++◌, length, Option, Some}
use Rattle.jsonc_text.specs.Plain.{Plain, array, object, Items, no_items, item, Members, no_members, member}
use Rattle.jsonc_run.specs.texts.Paths.{Kind, an_array, an_object}

-- a value with its name; in an array the name is of no weight
pub record Named : Type 0 where
  pub name : List ℕ
  pub value : Plain

abbrev pub items : List Named → Items
items [] = no_items
items (e ∷ es) = item e.value (items es)

abbrev pub members : List Named → Members
members [] = no_members
members (e ∷ es) = member e.name e.value (members es)

-- the array or object of these entries
abbrev pub of : Kind → List Named → Plain
of an_array es = array (items es)
of an_object es = object (members es)

-- the second value is the first, but that the value at the path has been replaced by another
pub data Changed (was now : Plain) : List ℕ → Plain → Plain → Type 0 where
  itself : Changed was now [] was now
  inside : (kind : Kind) (front back : List Named) (name : List ℕ) {path : List ℕ} {x y : Plain} → Changed was now path x y
      → Changed was now (length front ∷ path) (of kind (front ++ record { name = name; value = x } ∷ back))
      (of kind (front ++ record { name = name; value = y } ∷ back))

-- so it is of what a document says
abbrev pub Becomes : Plain → Plain → List ℕ → Option Plain → Option Plain → Type 0
Becomes was now path (Some x) (Some y) = Changed was now path x y
Becomes was now path w x = ⊥

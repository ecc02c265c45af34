-- Elements and properties of plain values, as lists.
use Rattle.std.specs.Prelude.{ℕ, List, [], ◌∷◌}
use Rattle.jsonc_text.specs.Plain.{Plain, Items, no_items, item, Members, no_members, member}

abbrev pub list_of : Items → List Plain
list_of no_items = []
list_of (item v vs) = v ∷ list_of vs

-- each name with its value
abbrev pub pairs_of : Members → List (List ℕ × Plain)
pairs_of no_members = []
pairs_of (member n v ms) = (n, v) ∷ pairs_of ms

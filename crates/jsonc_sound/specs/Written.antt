-- The literals that are written for a plain value, and the marks of the node that it is laid out as.
use Rattle.std.specs.Prelude.{ℕ, List, [], ◌∷◌, ◌++◌}
use Rattle.jsonc_text.specs.Plain.{Plain, Items, no_items, item, Members, no_members, member}
use Rattle.jsonc_text.specs.Words.{Keyword, keyword_text}
use Rattle.jsonc_text.specs.Spelling.{spelled}
use Rattle.jsonc_tree.specs.OrderedTree.{own_leaf, leaves, Top}
use Rattle.jsonc_sound.specs.Marks.{Mark, marks_of}

-- a string and a name as they are spelled, a number as it is, and of a container those of what it holds
abbrev mutual
  pub written : Plain → List Mark
  written Plain.null = Mark.literal (keyword_text Keyword.null) ∷ []
  written (Plain.boolean b) = Mark.literal (keyword_text (Keyword.boolean b)) ∷ []
  written (Plain.number s) = Mark.literal s ∷ []
  written (Plain.string s) = Mark.literal (spelled s) ∷ []
  written (Plain.array vs) = items_written vs
  written (Plain.object ms) = members_written ms

  pub items_written : Items → List Mark
  items_written no_items = []
  items_written (item v vs) = written v ++ items_written vs

  pub members_written : Members → List Mark
  members_written no_members = []
  members_written (member name v ms) = (Mark.literal (spelled name) ∷ written v) ++ members_written ms

-- of a property its name, and then its value
abbrev pub property_written : List ℕ → Plain → List Mark
property_written name v = Mark.literal (spelled name) ∷ written v

-- the marks of a laid node
abbrev pub marks_laid : Top → List Mark
marks_laid node = marks_of (own_leaf node.content ++ leaves node.below)

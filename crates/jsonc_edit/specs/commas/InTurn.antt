-- The trailing commas of arrays and objects one after another.
use Rattle.std.specs.Prelude.{◌≡◌, ◌≢◌, ◌==◌, ◌&&◌, ◌||◌, ℕ, Bool, true, false, not, List, [], ◌∷◌, ◌++◌, filter, Option, None, Some, is_some, IsTrue, if◌then◌else◌}
use Rattle.std.specs.List.{list_any}
use Rattle.jsonc_tree.specs.Tree.{Node, content_at, parent_at, IsTree}
use Rattle.jsonc_tree.specs.Order.{in_order, rest_at, upward}
use Rattle.jsonc_layout.specs.nodes.Kinds.{is_property}
use Rattle.jsonc_layout.specs.nodes.Properties.{value_at}
use Rattle.jsonc_layout.specs.lines.Kinds.{is_array_or_object}
use Rattle.jsonc_text.specs.declared.edit.TrailingCommaMode.{TrailingCommaMode}
use Rattle.jsonc_edit.specs.commas.Commas.{comma_wanted_behind, CommaIsSet, WantsComma}

-- the node is an array or an object
abbrev pub holds_at : List Node → ℕ → Bool
holds_at ns n = is_array_or_object (content_at ns n)

-- this number was found
abbrev pub is_it : Option ℕ → ℕ → Bool
is_it None n = false
is_it (Some m) n = m == n

-- a child of a property is entered where it is its value, and any other node always
abbrev pub is_entered_under : List Node → ℕ → Option ℕ → Bool
is_entered_under ns n None = true
is_entered_under ns n (Some p) = not (is_property (content_at ns p)) || is_it (value_at ns p) n

abbrev pub is_entered : List Node → ℕ → Bool
is_entered ns n = is_entered_under ns n (parent_at ns n)

-- each of these is entered, up to c
abbrev pub are_entered : List Node → ℕ → List ℕ → Bool
are_entered ns c [] = true
are_entered ns c (m ∷ above) = if m == c then true else is_entered ns m && are_entered ns c above

-- n is reached from c: it and each node above it is entered, up to c
abbrev pub is_reached : List Node → ℕ → ℕ → Bool
is_reached ns c n = are_entered ns c (upward ns (Some n))

-- what n stands in is reached from c, where n is not c itself
abbrev pub IsOpen : List Node → ℕ → ℕ → Type 0
IsOpen ns c n = (p : ℕ) → n ≢ c → parent_at ns n ≡ Some p → is_reached ns c p ≡ true

-- an array or object that is reached from c
abbrev pub is_met : List Node → ℕ → ℕ → Bool
is_met ns c n = holds_at ns n && is_reached ns c n

-- the arrays and objects among c and the nodes that are reached from it, in the order of the document
abbrev pub holders : List Node → ℕ → List ℕ
holders ns c = filter (is_met ns c) (in_order ns c)

-- those that are still to come where a walk below `end` stands at this node, or is done
abbrev pub to_come : List Node → ℕ → Option ℕ → List ℕ
to_come ns end o = filter (is_met ns end) (rest_at ns end o)

-- the trailing comma of each of these has been set, one after another, and nothing else has changed
abbrev pub AreSetInTurn : TrailingCommaMode → List Node → List ℕ → List Node → Type 0
AreSetInTurn mode old [] new = new ≡ old
AreSetInTurn mode old (n ∷ rest) new = (now : List Node) × CommaIsSet mode old now n × IsTree now × AreSetInTurn mode now rest new

-- one of the arrays and objects that are reached from c wants a comma
abbrev pub wants_comma : List Node → ℕ → Bool
wants_comma ns n = is_some (comma_wanted_behind ns n)

abbrev pub CommaIsDue : List Node → ℕ → Type 0
CommaIsDue ns c = IsTrue (list_any (wants_comma ns) (holders ns c))

-- those of the first of them have, and the next wants a comma
pub record AreSetInPart (mode : TrailingCommaMode) (old : List Node) (all : List ℕ) (new : List Node) : Type 0 where
  pub done : List ℕ
  pub next : ℕ
  pub left : List ℕ
  pub are : all ≡ done ++ next ∷ left
  pub set : AreSetInTurn mode old done new
  pub wants : WantsComma new next

-- The trailing comma of one array or object, by the numbers of nodes.
use Rattle.std.specs.Prelude.{◌≡◌, ℕ, suc, Bool, List, [], ◌∷◌, length, reverse, Option, Some, None, is_some, if◌then◌else◌}
use Rattle.std.specs.List.{find, list_any}
use Rattle.std.specs.Option.{option_and_then}
use Rattle.jsonc_tree.specs.Content.{Content, token}
use Rattle.jsonc_tree.specs.Changes.{Adds, Splices}
use Rattle.jsonc_tree.specs.Siblings.{TakesOut}
use Rattle.jsonc_tree.specs.Tree.{Node, children_at, place_at, IsTree}
use Rattle.jsonc_layout.specs.nodes.Kinds.{is_element_at, is_newline_at}
use Rattle.jsonc_layout.specs.lines.Siblings.{trailing_comma_at}
use Rattle.jsonc_text.specs.declared.edit.TrailingCommaMode.{TrailingCommaMode}
use Rattle.jsonc_text.specs.declared.edit.TrailingCommaMode.TheVariants.{Never, IfMultiline}

-- the last child that is neither trivia nor a token
abbrev pub last_element : List Node → ℕ → Option ℕ
last_element ns c = find (is_element_at ns) (reverse (children_at ns c))

-- a line ends between the children
abbrev pub has_newline : List Node → ℕ → Bool
has_newline ns c = list_any (is_newline_at ns) (children_at ns c)

-- the trailing comma of c: that of its last element, which may stand in the place of a bracket
abbrev pub comma_gone : List Node → ℕ → Option ℕ
comma_gone ns c = option_and_then (trailing_comma_at ns) (last_element ns c)

-- the node, if no comma stands behind it past trivia
abbrev pub if_without_comma : List Node → ℕ → Option ℕ
if_without_comma ns n = if is_some (trailing_comma_at ns n) then None else Some n

-- behind which node a comma is to come: behind the last element, where a line ends between the children and no comma stands there
abbrev pub comma_wanted_behind : List Node → ℕ → Option ℕ
comma_wanted_behind ns c = if has_newline ns c then option_and_then (if_without_comma ns) (last_element ns c) else None

abbrev pub WantsComma : List Node → ℕ → Type 0
WantsComma ns c = (n : ℕ) × (comma_wanted_behind ns c ≡ Some n)

-- a comma
abbrev pub a_comma : Content
a_comma = token 0x2C

-- a new leaf, a comma, stands directly behind the child n of c now
pub record CommaInsertedAfter (old new : List Node) (c n : ℕ) : Type 0 where
  pub ready : List Node
  pub added : Adds old ready a_comma
  pub tree : IsTree ready
  pub put : Splices ready new c (suc (place_at ready n)) (suc (place_at ready n)) (length old ∷ [])

-- c has lost its trailing comma, if it had one
abbrev pub LosesIt : List Node → List Node → ℕ → Option ℕ → Type 0
LosesIt old new c None = new ≡ old
LosesIt old new c (Some k) = TakesOut old new c k

abbrev pub LosesComma : List Node → List Node → ℕ → Type 0
LosesComma old new c = LosesIt old new c (comma_gone old c)

-- c has got one, if it wants one
abbrev pub GainsIt : List Node → List Node → ℕ → Option ℕ → Type 0
GainsIt old new c None = new ≡ old
GainsIt old new c (Some n) = CommaInsertedAfter old new c n

abbrev pub GainsComma : List Node → List Node → ℕ → Type 0
GainsComma old new c = GainsIt old new c (comma_wanted_behind old c)

-- the trailing comma of c is as the mode says, and nothing else has changed
abbrev pub CommaIsSet : TrailingCommaMode → List Node → List Node → ℕ → Type 0
CommaIsSet Never old new c = LosesComma old new c
CommaIsSet IfMultiline old new c = GainsComma old new c

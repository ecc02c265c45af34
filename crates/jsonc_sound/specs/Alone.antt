-- A document's tree node by node: each leaf is what it is alone, and each row goes on as it may, by what stood last in
-- it. Nothing is said of what is printed after a node.
use Rattle.std.specs.Prelude.{◌≡◌, Bool, true, false, [], IsTrue, ◌==◌, if◌then◌else◌}
use Rattle.jsonc_text.specs.Options.{Options}
use Rattle.jsonc_tree.specs.Content.{Content, root, array, object, property}
use Rattle.jsonc_tree.specs.OrderedTree.{OrderedTree, none, more}
use Rattle.jsonc_sound.specs.Shape.{IsTrivia, Trivia, IsLiteralBefore, IsNameBefore, token_then}
use Rattle.jsonc_sound.specs.Rows.{RowKind, of_values, of_properties, closing, Last, nothing_yet, an_element, a_comma, may_end, takes_comma}

-- an element may stand here: first, after a comma, or where commas may be missing after an element
abbrev pub may_stand : Options → Last → Bool
may_stand o nothing_yet = true
may_stand o an_element = o.missing_commas
may_stand o a_comma = true

mutual
  -- a node of this content, with the row below it, is a value: a literal, or a container with its brackets
  pub data ValueAlone (o : Options) : Content → OrderedTree → Type 0 where
    literal : {content : Content} → IsLiteralBefore o content [] → ValueAlone o content none
    an_array : {row : OrderedTree} → RowAlone o of_values nothing_yet row → ValueAlone o array (token_then 0x5B row)
    an_object : {row : OrderedTree} → RowAlone o of_properties nothing_yet row → ValueAlone o object (token_then 0x7B row)

  -- it is an element of such a row: a value, or a property
  pub data PartAlone (o : Options) : RowKind → Content → OrderedTree → Type 0 where
    a_value : {content : Content} {below : OrderedTree} → ValueAlone o content below → PartAlone o of_values content below
    a_property : {below : OrderedTree} → PropertyAlone o below → PartAlone o of_properties property below

  -- the rest of a row, behind what stood last: trivia anywhere, an element where one may stand, a comma after an element, and at the end the last bracket
  pub data RowAlone (o : Options) : RowKind → Last → OrderedTree → Type 0 where
    closes : {kind : RowKind} {last : Last} → IsTrue (may_end o last) → RowAlone o kind last (token_then (closing kind) none)
    trivia : {kind : RowKind} {last : Last} {content : Content} {after : OrderedTree} → IsTrivia o content
        → RowAlone o kind last after → RowAlone o kind last (more content none after)
    element : {kind : RowKind} {last : Last} {content : Content} {below after : OrderedTree} → IsTrue (may_stand o last)
        → PartAlone o kind content below → RowAlone o kind an_element after
        → RowAlone o kind last (more content below after)
    comma : {kind : RowKind} {after : OrderedTree} → RowAlone o kind a_comma after → RowAlone o kind an_element (token_then 0x2C after)

  -- the row is a name, trivia, a colon, trivia and a value
  pub data PropertyAlone (o : Options) : OrderedTree → Type 0 where
    named : {name content : Content} {below after u : OrderedTree} → IsNameBefore o name []
        → Trivia o after (token_then 0x3A u) → Trivia o u (more content below none) → ValueAlone o content below
        → PropertyAlone o (more name none after)

-- a stretch of a row, by what stands last before it and behind it: the same, with no last bracket
pub data StretchAlone (o : Options) (kind : RowKind) : Last → OrderedTree → Last → Type 0 where
  stays : {last : Last} → StretchAlone o kind last none last
  past_trivia : {last to : Last} {content : Content} {after : OrderedTree} → IsTrivia o content
      → StretchAlone o kind last after to → StretchAlone o kind last (more content none after) to
  past_element : {last to : Last} {content : Content} {below after : OrderedTree} → IsTrue (may_stand o last)
      → PartAlone o kind content below → StretchAlone o kind an_element after to
      → StretchAlone o kind last (more content below after) to
  past_comma : {to : Last} {after : OrderedTree} → StretchAlone o kind a_comma after to → StretchAlone o kind an_element (token_then 0x2C after) to

-- what is first in the rest of a row, trivia passed over, may stand here: a comma, the last bracket, or an element
abbrev pub may_come : Options → Last → OrderedTree → Bool
may_come o last none = false
may_come o last (more (Content.whitespace s) below after) = may_come o last after
may_come o last (more (Content.newline k) below after) = may_come o last after
may_come o last (more (Content.comment s) below after) = may_come o last after
may_come o last (more (Content.token c) below after) = if c == 0x2C then takes_comma last else may_end o last
may_come o last (more content below after) = may_stand o last

-- the rest of a root's row, in which a value stood or none did
pub data RootAlone (o : Options) : Bool → OrderedTree → Type 0 where
  root_ends : {stood : Bool} → RootAlone o stood none
  root_trivia : {stood : Bool} {content : Content} {after : OrderedTree} → IsTrivia o content → RootAlone o stood after
      → RootAlone o stood (more content none after)
  root_value : {content : Content} {below after : OrderedTree} → ValueAlone o content below → RootAlone o true after
      → RootAlone o false (more content below after)

-- a root, and such a row below it
abbrev pub DocumentAlone : Options → OrderedTree → Type 0
DocumentAlone o tree = (row : OrderedTree) × (tree ≡ more root row none) × RootAlone o false row

-- In laid nodes stand no comments.
use Rattle.std.proofs.Common.{◌≡◌, ℕ, Bool, true, false, ◌||◌, List, [], ◌∷◌, refl}
use Rattle.jsonc_text.specs.Plain.{Plain, Items, no_items, item, Members, no_members, member}
use Rattle.jsonc_tree.specs.Content.{Content, token, whitespace, newline}
use Rattle.jsonc_tree.specs.OrderedTree.{OrderedTree, none, Top}
use Rattle.jsonc_sound.specs.Lines.{is_line_comment, LinesEnd}
use Rattle.jsonc_layout.specs.from_input.Layout.{Layout, deeper}
use Rattle.jsonc_layout.specs.from_input.Laid.{laid, laid_items, laid_members, laid_property, on_one_line, on_lines, node_then, leaf_then, line_then, comma_if, gap_if, closed, property_of, string_leaf, holds_filled, is_some_node}
use Rattle.jsonc_edit.proofs.WrittenRows.{EachNode, one_of_rows}

-- the line comments of a row end with their lines
pub record Ends (row : OrderedTree) : Type 0 where
  pub lines : LinesEnd false row

-- the node is no line comment, and those below it end
pub record EndsBelow (node : Top) : Type 0 where
  pub none_here : is_line_comment node.content ≡ false
  pub below : LinesEnd false node.below

node_ends : {node : Top} {row : OrderedTree} → EndsBelow node → Ends row → Ends (node_then node row)
node_ends {node} h k = record { lines = (λ c. let never : ⊥ = cc (c, h.none_here) in absurd never, h.below, k.lines) }

leaf_ends : {content : Content} {row : OrderedTree} → is_line_comment content ≡ false → Ends row → Ends (leaf_then content row)
leaf_ends {content} e k = node_ends {node = record { content = content; below = none }} (record { none_here = e; below = tt }) k

closed_ends : (bracket : ℕ) → Ends (closed bracket)
closed_ends bracket = leaf_ends {content = token bracket} refl (record { lines = tt })

comma_ends : (b : Bool) {row : OrderedTree} → Ends row → Ends (comma_if b row)
comma_ends true k = leaf_ends {content = token 0x2C} refl k
comma_ends false k = k

space_ends : {row : OrderedTree} → Ends row → Ends (leaf_then (whitespace (0x20 ∷ [])) row)
space_ends k = leaf_ends {content = whitespace (0x20 ∷ [])} refl k

gap_ends : (b : Bool) {row : OrderedTree} → Ends row → Ends (gap_if b row)
gap_ends true k = leaf_ends {content = token 0x2C} refl (space_ends k)
gap_ends false k = k

line_ends : (layout : Layout) {row : OrderedTree} → Ends row → Ends (line_then layout row)
line_ends layout k = leaf_ends {content = newline layout.newline} refl (leaf_ends {content = whitespace layout.current} refl k)

one_line_ends : (nodes : List Top) {row : OrderedTree} → EachNode EndsBelow nodes → Ends row → Ends (on_one_line nodes row)
one_line_ends [] h k = k
one_line_ends (node ∷ nodes) h k = node_ends h.0 (gap_ends (is_some_node nodes) (one_line_ends nodes h.1 k))

lines_end : (layout : Layout) (nodes : List Top) {row : OrderedTree} → EachNode EndsBelow nodes → Ends row → Ends (on_lines layout nodes row)
lines_end layout [] h k = k
lines_end layout (node ∷ nodes) h k = line_ends layout (node_ends h.0 (comma_ends (layout.trailing_commas || is_some_node nodes) (lines_end layout nodes h.1 k)))

property_ends : (name : List ℕ) {value : Top} → EndsBelow value → EndsBelow (property_of name value)
property_ends name h =
    let row = leaf_ends {content = string_leaf name} refl (leaf_ends {content = token 0x3A} refl (space_ends (node_ends h (record { lines = tt })))) in
    record { none_here = refl; below = row.lines }

-- a leaf, and a container with its first bracket
leaf_below : {content : Content} → is_line_comment content ≡ false → EndsBelow (record { content = content; below = none })
leaf_below e = record { none_here = e; below = tt }

container_below : {content : Content} (bracket : ℕ) {row : OrderedTree} → is_line_comment content ≡ false → Ends row → EndsBelow (record { content = content; below = leaf_then (token bracket) row })
container_below bracket e k = let row = leaf_ends {content = token bracket} refl k in record { none_here = e; below = row.lines }

mutual
  pub value_ends : (layout : Layout) (v : Plain) → EndsBelow (laid layout v)
  value_ends layout Plain.null = leaf_below refl
  value_ends layout (Plain.boolean b) = leaf_below refl
  value_ends layout (Plain.number s) = leaf_below refl
  value_ends layout (Plain.string s) = leaf_below refl
  value_ends layout (Plain.array no_items) = container_below 0x5B refl (closed_ends 0x5D)
  value_ends layout (Plain.array (item v vs)) =
      container_below 0x5B refl
      (one_of_rows Ends (holds_filled (item v vs)) _ _
      (lines_end (deeper layout) (laid_items (deeper layout) (item v vs)) (items_end (deeper layout) (item v vs)) (line_ends layout (closed_ends 0x5D)))
      (one_line_ends (laid_items layout (item v vs)) (items_end layout (item v vs)) (closed_ends 0x5D)))
  value_ends layout (Plain.object no_members) = container_below 0x7B refl (closed_ends 0x7D)
  value_ends layout (Plain.object (member name v ms)) =
      container_below 0x7B refl
      (lines_end (deeper layout) (laid_members (deeper layout) (member name v ms)) (members_end (deeper layout) (member name v ms)) (line_ends layout (closed_ends 0x7D)))

  items_end : (layout : Layout) (vs : Items) → EachNode EndsBelow (laid_items layout vs)
  items_end layout no_items = tt
  items_end layout (item v vs) = (value_ends layout v, items_end layout vs)

  members_end : (layout : Layout) (ms : Members) → EachNode EndsBelow (laid_members layout ms)
  members_end layout no_members = tt
  members_end layout (member name v ms) = (property_ends name (value_ends layout v), members_end layout ms)

pub pair_ends : (layout : Layout) (name : List ℕ) (v : Plain) → EndsBelow (laid_property layout name v)
pair_ends layout name v = property_ends name (value_ends layout v)

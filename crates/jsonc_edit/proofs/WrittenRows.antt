-- Rows of laid nodes have the shape of the grammar.
use Rattle.std.proofs.Common.{◌≡◌, ℕ, Bool, true, false, ◌||◌, List, [], ◌∷◌, IsTrue, refl, sym, subst, rules, if◌then◌else◌}
use Rattle.std.proofs.lemmas.Str.{IsUtf8-from_ascii, chars-IsAscii}
use Rattle.std.specs.Str.{IsAscii}
use Rattle.jsonc_text.specs.Options.{Options}
use Rattle.jsonc_text.specs.Text.{end_or, Many, stop, step}
use Rattle.jsonc_tree.specs.Content.{Content, whitespace}
use Rattle.jsonc_tree.specs.OrderedTree.{OrderedTree, none, Top}
use Rattle.jsonc_sound.specs.Leaves.{is_inner_blank}
use Rattle.jsonc_sound.specs.Shape as shape
use Rattle.jsonc_sound.specs.Shape.{IsTrivia, Trivia, Separated, Closed, ValueShaped, ElementsShaped, PropertiesShaped, PropertyShaped, token_then, printed_text}
use Rattle.jsonc_sound.proofs.ShapeValues.{Mark, comma_mark, close_bracket_mark, close_brace_mark}
use Rattle.jsonc_layout.specs.from_input.Layout.{Layout, deeper}
use Rattle.jsonc_layout.specs.from_input.Laid.{on_one_line, on_lines, node_then, space_then, line_then, comma_if, closed, is_some_node}
use Rattle.jsonc_sound.specs.Followers.{ends_literals, EndsLiterals}
use Rattle.jsonc_sound.proofs.Followers.{mark_next, closed_ends}
use Rattle.jsonc_edit.specs.Writing.{IsIndent, FitsLayout}
use Rattle.jsonc_edit.proofs.FittingIndents.{indent_joined}

-- each node of a list
abbrev pub EachNode : (Top → Type 0) → List Top → Type 0
EachNode P [] = Unit {0}
EachNode P (node ∷ nodes) = P node × EachNode P nodes

-- one of two rows
pub one_of_rows : (P : OrderedTree → Type 0) (b : Bool) (x y : OrderedTree) → P x → P y → P (if b then x else y)
one_of_rows P true x y h k = h
one_of_rows P false x y h k = k

-- the node is a value, or a property, before whatever ends literals
abbrev pub IsValueNode : Options → Top → Type 0
IsValueNode o node = (r : List ℕ) → EndsLiterals r → ValueShaped o node.content node.below r

abbrev pub IsPropertyNode : Options → Top → Type 0
IsPropertyNode o node = (node.content ≡ Content.property) × ((r : List ℕ) → EndsLiterals r → PropertyShaped o node.below r)

pub deeper_fits : (o : Options) (layout : Layout) → FitsLayout o layout → FitsLayout o (deeper layout)
deeper_fits o layout f = record { current = indent_joined layout.current layout.single f.current f.single; single = f.single; commas = f.commas }

-- blanks of ASCII are an indent
pub ascii_is_indent : (s : List ℕ) → IsAscii s → Many is_inner_blank s [] → IsIndent s
ascii_is_indent s h m = (IsUtf8-from_ascii s h, subst (λ x. Many is_inner_blank x []) (sym (chars-IsAscii s h)) m)

-- a space, and the beginning of a line, are trivia
pub space_is_trivia : (o : Options) → IsTrivia o (whitespace (0x20 ∷ []))
space_is_trivia o = ascii_is_indent (0x20 ∷ []) (search rules) (step refl stop)

pub line_is_trivia : (o : Options) (layout : Layout) → FitsLayout o layout → {row r : OrderedTree} → Trivia o row r → Trivia o (line_then layout row) r
line_is_trivia o layout f g = shape.trivia tt (shape.trivia f.current g)

comma_ends : (row : OrderedTree) → EndsLiterals (printed_text (token_then 0x2C row))
comma_ends row = subst (λ n. IsTrue (end_or ends_literals n)) (sym (mark_next comma_mark row)) refl

-- between two nodes stands a comma
parted : (o : Options) (b : Bool) {row r : OrderedTree} → Trivia o row r → Separated o (comma_if (b || true) row) r
parted o true g = shape.comma shape.nothing g
parted o false g = shape.comma shape.nothing g

parted_ends : (b : Bool) (row : OrderedTree) → EndsLiterals (printed_text (comma_if (b || true) row))
parted_ends true row = comma_ends row
parted_ends false row = comma_ends row

-- after the last one stands the bracket, before it a comma where trailing commas are used
last_closed : (o : Options) (bracket : ℕ) (b : Bool) (row : OrderedTree) → (IsTrue b → IsTrue o.trailing_commas) → Trivia o row (token_then bracket none) → Closed o bracket (comma_if (b || false) row)
last_closed o bracket true row f g = shape.trailing_comma (f refl) shape.nothing g
last_closed o bracket false row f g = shape.plain g

-- Rows of one kind, before their bracket.
module _ (o : Options) (bracket : ℕ) (mark : Mark bracket) (ends : IsTrue (ends_literals bracket)) (TypedNode : Top → Type 0) (IsRow : OrderedTree → Type 0)
    (last : (node : Top) (after : OrderedTree) → TypedNode node → EndsLiterals (printed_text after) → Closed o bracket after → IsRow (node_then node after))
    (next : (node : Top) (after u : OrderedTree) → TypedNode node → EndsLiterals (printed_text after) → Separated o after u → IsRow u → IsRow (node_then node after)) where
  -- on lines of their own
  rows_of_lines : (layout : Layout) → FitsLayout o layout → (closing : OrderedTree) → Trivia o closing (token_then bracket none) → (node : Top) (nodes : List Top) → TypedNode node → EachNode TypedNode nodes
      → IsRow (node_then node (comma_if (layout.trailing_commas || is_some_node nodes) (on_lines layout nodes closing)))
  rows_of_lines layout f closing g node [] h k =
      let c = last_closed o bracket layout.trailing_commas closing f.commas g in
      last node (comma_if (layout.trailing_commas || false) closing) h (closed_ends o mark ends c) c
  rows_of_lines layout f closing g node (m ∷ nodes) h k =
      let row : OrderedTree = on_lines layout (m ∷ nodes) closing in
      let rest : OrderedTree = node_then m (comma_if (layout.trailing_commas || is_some_node nodes) (on_lines layout nodes closing)) in
      next node (comma_if (layout.trailing_commas || true) row) rest h (parted_ends layout.trailing_commas row) (parted o layout.trailing_commas (line_is_trivia o layout f shape.nothing)) (rows_of_lines layout f closing g m nodes k.0 k.1)

-- an array, and an object, with its elements or properties on lines
pub array_of_lines : (o : Options) (layout : Layout) → FitsLayout o layout → (closing : OrderedTree) → Trivia o closing (token_then 0x5D none) → (node : Top) (nodes : List Top) → EachNode (IsValueNode o) (node ∷ nodes)
    → (r : List ℕ) → ValueShaped o Content.array (token_then 0x5B (on_lines layout (node ∷ nodes) closing)) r
array_of_lines o layout f closing g node nodes h r =
    shape.array (line_is_trivia o layout f shape.nothing)
    (rows_of_lines o 0x5D close_bracket_mark refl (IsValueNode o) (ElementsShaped o) (λ n after k e c. shape.last_element (k (printed_text after) e) c) (λ n after u k e s t. shape.element (k (printed_text after) e) s t) layout f closing g node nodes h.0 h.1)

pub object_of_lines : (o : Options) (layout : Layout) → FitsLayout o layout → (closing : OrderedTree) → Trivia o closing (token_then 0x7D none) → (node : Top) (nodes : List Top) → EachNode (IsPropertyNode o) (node ∷ nodes)
    → (r : List ℕ) → ValueShaped o Content.object (token_then 0x7B (on_lines layout (node ∷ nodes) closing)) r
object_of_lines o layout f closing g node nodes h r =
    shape.object (line_is_trivia o layout f shape.nothing)
    (rows_of_lines o 0x7D close_brace_mark refl (IsPropertyNode o) (PropertiesShaped o)
    (λ n after k e c. subst (λ w. PropertiesShaped o (OrderedTree.more w n.below after)) (sym k.0) (shape.last_property (k.1 (printed_text after) e) c))
    (λ n after u k e s t. subst (λ w. PropertiesShaped o (OrderedTree.more w n.below after)) (sym k.0) (shape.property (k.1 (printed_text after) e) s t)) layout f closing g node nodes h.0 h.1)

-- elements on one line
pub elements_on_line : (o : Options) (node : Top) (nodes : List Top) → EachNode (IsValueNode o) (node ∷ nodes) → ElementsShaped o (on_one_line (node ∷ nodes) (closed 0x5D))
elements_on_line o node [] h =
    let c : Closed o 0x5D (closed 0x5D) = shape.plain shape.nothing in
    shape.last_element (h.0 (printed_text (closed 0x5D)) (closed_ends o close_bracket_mark refl c)) c
elements_on_line o node (m ∷ nodes) h =
    let row : OrderedTree = space_then (on_one_line (m ∷ nodes) (closed 0x5D)) in
    shape.element (h.0 (printed_text (token_then 0x2C row)) (comma_ends row)) (shape.comma shape.nothing (shape.trivia (space_is_trivia o) shape.nothing)) (elements_on_line o m nodes h.1)

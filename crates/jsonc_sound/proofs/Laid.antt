-- What a value is laid out as has the literals that are written for it.
use Rattle.std.proofs.Common.{◌≡◌, ◌∙◌, ◌||◌, sym, ap, refl, Bool, true, false, ℕ, List, [], ◌∷◌, ◌++◌, chars, encode_utf8_all, if◌then◌else◌}
use Rattle.std.specs.List.{flat_map}
use Rattle.std.proofs.lemmas.List.{append_assoc, append-nil}
use Rattle.std.proofs.lemmas.List.Elements.{filter-append}
use Rattle.std.proofs.lemmas.Str.{chars-encodes}
use Rattle.jsonc_text.specs.Plain.{Plain, Items, no_items, item, Members, no_members, member}
use Rattle.jsonc_tree.specs.OrderedTree.{OrderedTree, none, own_leaf, leaves, Top}
use Rattle.jsonc_text.specs.Spelling.{spelled}
use Rattle.jsonc_layout.specs.from_input.Layout.{Layout, deeper}
use Rattle.jsonc_layout.specs.from_input.Laid.{laid, laid_items, laid_members, laid_property, node_then, comma_if, gap_if, line_then, is_some_node, on_one_line, on_lines, spread, closed, holds_filled}
use Rattle.jsonc_layout.specs.from_input.Texts.{IsCharacters, IsOfTexts, AreOfTexts, AreNamedOfTexts}
use Rattle.jsonc_layout.proofs.lemmas.from_input.SpelledTexts.{spelled_characters}
use Rattle.jsonc_sound.specs.Marks.{Mark, marks_of, marks, is_comment, comments_of}
use Rattle.jsonc_sound.specs.Written.{written, items_written, members_written, property_written, marks_laid}
use Rattle.jsonc_sound.proofs.ReplacedStretches.{marks_join}

-- a node, and then a row
node_marks : (node : Top) (row : OrderedTree) → marks (node_then node row) ≡ marks_laid node ++ marks row
node_marks node row = ap marks_of (sym (append_assoc (own_leaf node.content) (leaves node.below) (leaves row))) ∙ marks_join (own_leaf node.content ++ leaves node.below) (leaves row)

gap_marks : (b : Bool) (row : OrderedTree) → marks (gap_if b row) ≡ marks row
gap_marks true row = refl
gap_marks false row = refl

comma_marks : (b : Bool) (row : OrderedTree) → marks (comma_if b row) ≡ marks row
comma_marks true row = refl
comma_marks false row = refl

-- nodes, and then a row, on one line or on several
one_more : (node : Top) (nodes : List Top) (row after : OrderedTree) → marks row ≡ flat_map marks_laid nodes ++ marks after → marks (node_then node row) ≡ flat_map marks_laid (node ∷ nodes) ++ marks after
one_more node nodes row after e = node_marks node row ∙ ap (λ ms. marks_laid node ++ ms) e ∙ sym (append_assoc (marks_laid node) (flat_map marks_laid nodes) (marks after))

line_marks : (nodes : List Top) (after : OrderedTree) → marks (on_one_line nodes after) ≡ flat_map marks_laid nodes ++ marks after
line_marks [] after = refl
line_marks (node ∷ nodes) after =
    one_more node nodes (gap_if (is_some_node nodes) (on_one_line nodes after)) after (gap_marks (is_some_node nodes) (on_one_line nodes after) ∙ line_marks nodes after)

lines_marks : (layout : Layout) (nodes : List Top) (after : OrderedTree) → marks (on_lines layout nodes after) ≡ flat_map marks_laid nodes ++ marks after
lines_marks layout [] after = refl
lines_marks layout (node ∷ nodes) after =
    let b : Bool = layout.trailing_commas || is_some_node nodes in
    one_more node nodes (comma_if b (on_lines layout nodes after)) after (comma_marks b (on_lines layout nodes after) ∙ lines_marks layout nodes after)

spread_marks : (layout : Layout) (nodes : List Top) (after : OrderedTree) → marks (spread layout nodes after) ≡ flat_map marks_laid nodes ++ marks after
spread_marks layout [] after = refl
spread_marks layout (node ∷ nodes) after = lines_marks (deeper layout) (node ∷ nodes) (line_then layout after)

-- the marks before a last bracket
before_bracket : (bracket : ℕ) (nodes : List Top) (row : OrderedTree) (ms : List Mark) → marks row ≡ flat_map marks_laid nodes ++ marks (closed bracket) → flat_map marks_laid nodes ≡ ms → marks row ≡ ms
before_bracket bracket nodes row ms e f = e ∙ append-nil (flat_map marks_laid nodes) ∙ f

either_row : (b : Bool) (x y : OrderedTree) (ms : List Mark) → marks x ≡ ms → marks y ≡ ms → marks (if b then x else y) ≡ ms
either_row true x y ms e f = e
either_row false x y ms e f = f

spelled_mark : (s : List ℕ) → IsCharacters s → Mark.literal (chars (encode_utf8_all (spelled s))) ≡ Mark.literal (spelled s)
spelled_mark s h = ap Mark.literal (chars-encodes (spelled s) (spelled_characters s h))

named_marks : (layout : Layout) (name : List ℕ) (v : Plain) → IsCharacters name → marks_laid (laid layout v) ≡ written v → marks_laid (laid_property layout name v) ≡ property_written name v
named_marks layout name v h e =
    ap (λ ms. Mark.literal (chars (encode_utf8_all (spelled name))) ∷ ms) (node_marks (laid layout v) none ∙ append-nil (marks_laid (laid layout v)) ∙ e) ∙ ap (λ m. m ∷ written v) (spelled_mark name h)

mutual
  pub laid_as_written : (layout : Layout) (v : Plain) → IsOfTexts v → marks_laid (laid layout v) ≡ written v
  laid_as_written layout Plain.null h = refl
  laid_as_written layout (Plain.boolean b) h = refl
  laid_as_written layout (Plain.number s) h = ap (λ t. Mark.literal t ∷ []) (chars-encodes s h)
  laid_as_written layout (Plain.string s) h = ap (λ m. m ∷ []) (spelled_mark s h)
  laid_as_written layout (Plain.array vs) h =
      let spread_row = spread layout (laid_items (deeper layout) vs) (closed 0x5D) in
      let flat_row = on_one_line (laid_items layout vs) (closed 0x5D) in
      either_row (holds_filled vs) spread_row flat_row (items_written vs)
      (before_bracket 0x5D (laid_items (deeper layout) vs) spread_row (items_written vs) (spread_marks layout (laid_items (deeper layout) vs) (closed 0x5D)) (laid_items_written (deeper layout) vs h))
      (before_bracket 0x5D (laid_items layout vs) flat_row (items_written vs) (line_marks (laid_items layout vs) (closed 0x5D)) (laid_items_written layout vs h))
  laid_as_written layout (Plain.object ms) h =
      let spread_row = spread layout (laid_members (deeper layout) ms) (closed 0x7D) in
      before_bracket 0x7D (laid_members (deeper layout) ms) spread_row (members_written ms) (spread_marks layout (laid_members (deeper layout) ms) (closed 0x7D)) (laid_members_written (deeper layout) ms h)

  laid_items_written : (layout : Layout) (vs : Items) → AreOfTexts vs → flat_map marks_laid (laid_items layout vs) ≡ items_written vs
  laid_items_written layout no_items h = refl
  laid_items_written layout (item v vs) h = ap (λ ms. ms ++ flat_map marks_laid (laid_items layout vs)) (laid_as_written layout v h.0) ∙ ap (λ ms. written v ++ ms) (laid_items_written layout vs h.1)

  laid_members_written : (layout : Layout) (ms : Members) → AreNamedOfTexts ms → flat_map marks_laid (laid_members layout ms) ≡ members_written ms
  laid_members_written layout no_members h = refl
  laid_members_written layout (member name v ms) h =
      ap (λ x. x ++ flat_map marks_laid (laid_members layout ms)) (named_marks layout name v h.0 (laid_as_written layout v h.1)) ∙ ap (λ x. property_written name v ++ x) (laid_members_written layout ms h.2)

pub laid_as_written_named : (layout : Layout) (name : List ℕ) (v : Plain) → IsCharacters name → IsOfTexts v → marks_laid (laid_property layout name v) ≡ property_written name v
laid_as_written_named layout name v h k = named_marks layout name v h (laid_as_written layout v k)

-- none of what is written is a comment
none_of_both : (first second : List Mark) → comments_of first ≡ [] → comments_of second ≡ [] → comments_of (first ++ second) ≡ []
none_of_both first second e f = filter-append is_comment first second ∙ ap (λ ms. ms ++ comments_of second) e ∙ f

mutual
  pub writes_no_comments : (v : Plain) → comments_of (written v) ≡ []
  writes_no_comments Plain.null = refl
  writes_no_comments (Plain.boolean b) = refl
  writes_no_comments (Plain.number s) = refl
  writes_no_comments (Plain.string s) = refl
  writes_no_comments (Plain.array vs) = items_no_comments vs
  writes_no_comments (Plain.object ms) = members_no_comments ms

  items_no_comments : (vs : Items) → comments_of (items_written vs) ≡ []
  items_no_comments no_items = refl
  items_no_comments (item v vs) = none_of_both (written v) (items_written vs) (writes_no_comments v) (items_no_comments vs)

  members_no_comments : (ms : Members) → comments_of (members_written ms) ≡ []
  members_no_comments no_members = refl
  members_no_comments (member name v ms) = none_of_both (written v) (members_written ms) (writes_no_comments v) (members_no_comments ms)

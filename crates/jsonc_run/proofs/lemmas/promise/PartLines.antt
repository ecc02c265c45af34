-- Where each part of a row is on a line of its own, it is so in the text.
use Rattle.std.proofs.Common.{ℕ, ◌≡◌, ◌⊎◌, ◌∙◌, sym, ap, subst, refl, inl, inr, Bool, true, false, not, ◌==◌, List, [], ◌∷◌, ◌++◌, IsTrue, Option, Some, None, arith, chars, if◌then◌else◌}
use Rattle.std.proofs.lemmas.List.{append_assoc, append-nil}
use Rattle.std.proofs.lemmas.Str.{chars-nil}
use Rattle.jsonc_text.specs.Options.{Options}
use Rattle.jsonc_text.specs.Plain.{Plain}
use Rattle.jsonc_text.specs.Text as many
use Rattle.jsonc_text.specs.Text.{next, starts, Many, stop, step}
use Rattle.jsonc_text.specs.Gaps.{IsComment, is_blank}
use Rattle.jsonc_text.proofs.Basics.{test_eq}
use Rattle.jsonc_text.proofs.Begins.{begins_item}
use Rattle.jsonc_text.proofs.UniqueGaps.{begins_gap, comment_begins}
use Rattle.jsonc_text.proofs.UniqueValues.{not_gap}
use Rattle.jsonc_tree.specs.Content.{Content, newline, text_of, token}
use Rattle.jsonc_tree.specs.OrderedTree.{OrderedTree, none, more, followed_by}
use Rattle.jsonc_tree.specs.declared.node.CstNewlineKind.{CstNewlineKind}
use Rattle.jsonc_layout.specs.nodes.Kinds.{is_comma, is_newline, is_whitespace}
use Rattle.jsonc_sound.specs.Documents.{document_of}
use Rattle.jsonc_sound.specs.Leaves.{is_inner_blank}
use Rattle.jsonc_sound.specs.Lines.{is_line_comment}
use Rattle.jsonc_sound.specs.Rows.{RowKind, container_of}
use Rattle.jsonc_sound.specs.Rows as rows
use Rattle.jsonc_sound.specs.Shape.{IsTrivia, printed_text, token_then}
use Rattle.jsonc_sound.specs.SoundTrees.{SoundTree}
use Rattle.jsonc_sound.specs.TreeChanges.{DocumentChanged, leaves_of}
use Rattle.jsonc_sound.proofs.LooseLines.{leaf_then}
use Rattle.jsonc_sound.proofs.ShapeTexts.{comment_before, trivia_utf8}
use Rattle.jsonc_sound.proofs.ShapeValues.{close_brace_mark, close_bracket_mark, closing_text, comma_mark, mark_text}
use Rattle.jsonc_edit.specs.multiline.Laws.{bracketed}
use Rattle.jsonc_edit.specs.multiline.Reflows.{Spot, behind, goes_on_lines, is_on_lines}
use Rattle.jsonc_edit.proofs.LeafKinds.{element_no_comma}
use Rattle.jsonc_run.specs.texts.Paths as places
use Rattle.jsonc_run.specs.texts.Paths.{Kind, Value}
use Rattle.jsonc_run.specs.texts.Stretches.{AreSpaces, IsLineEnd}
use Rattle.jsonc_run.specs.texts.Commenting.{OnLine, there, past_blank, past_comment}
use Rattle.jsonc_run.specs.texts.Entering as texts
use Rattle.jsonc_run.specs.texts.Entering.{BeginLines, IsOnLines, LineThen, OneLine}
use Rattle.jsonc_run.specs.promise.PlaceLaws.{text_of_leaves}
use Rattle.jsonc_run.proofs.lemmas.promise.Leaves.{back_of}
use Rattle.jsonc_run.proofs.lemmas.promise.LacksLines.{NoLineComments}
use Rattle.jsonc_run.proofs.lemmas.promise.LinesInside.{opened}
use Rattle.jsonc_run.proofs.lemmas.promise.LooseRows.{Read, Reads, entry_starts, is_a_comma, is_a_leaf, is_entry, kind_of_row, row_reads}
use Rattle.jsonc_run.proofs.lemmas.promise.Reversed.{flip}
use Rattle.jsonc_run.proofs.lemmas.promise.Trivia.{first_text, line_end_text, many_joined}
use Rattle.jsonc_run.proofs.lemmas.promise.Values.{at_the_place}

item_no_blank : (c : ℕ) → IsTrue (not (begins_gap c)) → IsTrue (not (is_blank c))
item_no_blank c h = grind arith

on_then : {t u r : List ℕ} → OnLine t u → OnLine u r → OnLine t r
on_then there k = k
on_then (past_blank b h) k = past_blank b (on_then h k)
on_then (past_comment i h) k = past_comment i (on_then h k)

spaces_on : {s r x : List ℕ} → Many is_inner_blank s r → r ≡ [] → OnLine (s ++ x) x
spaces_on {x = x} stop e = subst (λ y. OnLine (y ++ x) x) (sym e) there
spaces_on (step b m) e = past_blank b (spaces_on m e)

never_none : (row : OrderedTree) (c : Content) → followed_by row (more c none none) ≡ none → ⊥
never_none none c e = cc
never_none (more x w after) c e = cc

module _ (o : Options) (kind : Kind) (z : List ℕ) (mark : ℕ) (bracket : printed_text (token_then mark none) ++ z ≡ places.closing kind ∷ z) where
  -- the text of a row and of its last bracket
  abbrev closed : OrderedTree → OrderedTree
  closed row = followed_by row (token_then mark none)

  abbrev text : OrderedTree → List ℕ
  text row = printed_text (closed row) ++ z

  abbrev Begins : OrderedTree → Type 0
  Begins row = BeginLines o kind (text row) z

  -- up to the next comma, or to the line of the last bracket
  data Segment (t : List ℕ) : Type 0 where
    to_comma : {u : List ℕ} → OneLine o kind t (0x2C ∷ u) → BeginLines o kind u z → Segment t
    to_line : {u : List ℕ} → OneLine o kind t u → LineThen u (places.closing kind ∷ z) → Segment t

  led : {t u r : List ℕ} → OnLine t u → OneLine o kind u r → OneLine o kind t r
  led h (texts.leads k) = texts.leads (on_then h k)
  led h (texts.past_entry k e m) = texts.past_entry (on_then h k) e m

  led_on : {t u : List ℕ} → OnLine t u → Segment u → Segment t
  led_on h (to_comma k b) = to_comma (led h k) b
  led_on h (to_line k l) = to_line (led h k) l

  entry_on : {t u : List ℕ} → places.IsEntry o kind t u → Segment u → Segment t
  entry_on q (to_comma k b) = to_comma (texts.past_entry there q k) b
  entry_on q (to_line k l) = to_line (texts.past_entry there q k) l

  -- the last bracket stands behind an indent
  record Closes (t : List ℕ) : Type 0 where
    indent : List ℕ
    is : t ≡ indent ++ places.closing kind ∷ z
    spaces : AreSpaces indent

  -- or a part does
  record Part (t : List ℕ) : Type 0 where
    char : ℕ
    indent : List ℕ
    rest : List ℕ
    is : t ≡ indent ++ char ∷ rest
    spaces : AreSpaces indent
    solid : IsTrue (not (is_blank char))
    goes_on : Segment (char ∷ rest)

  -- what begins with no blank
  solid_part : (t : List ℕ) → IsTrue (starts (λ c. not (is_blank c)) (next t)) → Segment t → Part t
  solid_part [] h s = cc
  solid_part (c ∷ t) h s = record { char = c; indent = []; rest = t; is = refl; spaces = many.stop; solid = h; goes_on = s }

  slash_solid : (n : Option ℕ) → IsTrue (starts (λ c. c == 0x2F) n) → IsTrue (starts (λ c. not (is_blank c)) n)
  slash_solid None h = cc
  slash_solid (Some c) h = subst (λ x. IsTrue (not (is_blank x))) (sym (test_eq c 0x2F h)) refl

  item_solid : (t : List ℕ) → IsTrue (starts begins_item (next t)) → IsTrue (starts (λ c. not (is_blank c)) (next t))
  item_solid [] h = cc
  item_solid (c ∷ t) h = item_no_blank c (not_gap (c ∷ t) h)

  indented : (s : List ℕ) {t : List ℕ} → AreSpaces s → Closes t ⊎ Part t → Closes (s ++ t) ⊎ Part (s ++ t)
  indented s m (inl e) = inl (record { indent = s ++ e.indent; is = ap (λ x. s ++ x) e.is ∙ sym (append_assoc s e.indent (places.closing kind ∷ z)); spaces = many_joined m refl e.spaces })
  indented s m (inr p) =
      inr (record { char = p.char; indent = s ++ p.indent; rest = p.rest; is = ap (λ x. s ++ x) p.is ∙ sym (append_assoc s p.indent (p.char ∷ p.rest)); spaces = many_joined m refl p.spaces; solid = p.solid; goes_on = p.goes_on })

  closed_later : (s : List ℕ) {t : List ℕ} → AreSpaces s → Closes t → Closes (s ++ t)
  closed_later s m e = record { indent = s ++ e.indent; is = ap (λ x. s ++ x) e.is ∙ sym (append_assoc s e.indent (places.closing kind ∷ z)); spaces = many_joined m refl e.spaces }

  line_then : {line t : List ℕ} → IsLineEnd line → Closes t → LineThen (line ++ t) (places.closing kind ∷ z)
  line_then {line} l e = (line, e.indent, ap (λ x. line ++ x) e.is, l, e.spaces)

  part_begun : {t s : List ℕ} {c : ℕ} → LineThen t (c ∷ s) → IsTrue (not (is_blank c)) → Segment (c ∷ s) → BeginLines o kind t z
  part_begun l h (to_comma k b) = texts.one_part l k b
  part_begun l h (to_line k m) = texts.last_part l h k m

  begun : {line t : List ℕ} → IsLineEnd line → Closes t ⊎ Part t → BeginLines o kind (line ++ t) z
  begun l (inl e) = texts.no_part (line_then l e)
  begun {line} l (inr p) = part_begun (line, p.indent, ap (λ x. line ++ x) p.is, l, p.spaces) p.solid p.goes_on

  -- a leaf of trivia
  leaf_text : (content : Content) (below after : OrderedTree) → IsTrivia o content → below ≡ none → text (more content below after) ≡ chars (text_of content) ++ text after
  leaf_text content below after t e = ap (λ b. text (more content b after)) e ∙ leaf_then o z content (closed after) t

  newline_text : (k : CstNewlineKind) → IsLineEnd (chars (text_of (newline k)))
  newline_text k = subst IsLineEnd (first_text (newline k) [] (trivia_utf8 o (newline k) tt) ∙ ap (λ x. chars (text_of (newline k)) ++ x) chars-nil ∙ append-nil (chars (text_of (newline k)))) (line_end_text k)

  comment_text : (s : List ℕ) (after : OrderedTree) → IsTrivia o (Content.comment s) → (IsTrue (is_line_comment (Content.comment s)) → ⊥) → IsComment (chars s ++ text after) (text after)
  comment_text s after t n = comment_before o s (text after) t.1.0 t.1.1 (λ k. absurd (n k))

  comma_text : (content : Content) (below after : OrderedTree) → content ≡ token 0x2C → below ≡ none → text (more content below after) ≡ 0x2C ∷ text after
  comma_text content below after e n =
      ap (λ y. text (more y below after)) e ∙ ap (λ y. text (more (token 0x2C) y after)) n ∙ ap (λ y. y ++ z) (mark_text comma_mark (closed after))

  abbrev Rest : OrderedTree → Type 0
  Rest row = Reads o kind z (closed row)

  -- what is behind a node reads on
  reads_on : (content : Content) (below after : OrderedTree) → Rest (more content below after) → Read o kind z content below (closed after) × Rest after
  reads_on content below after (inl l) = absurd (never_none after (token mark) l.2)
  reads_on content below after (inr r) = r

  newline_leaf : {k : CstNewlineKind} {below after : OrderedTree} → Read o kind z (newline k) below after → below ≡ none
  newline_leaf (is_a_leaf t e) = e
  newline_leaf (is_entry p s q) = cc
  newline_leaf (is_a_comma e n) = n

  space_leaf : {s : List ℕ} {below after : OrderedTree} → Read o kind z (Content.whitespace s) below after → IsTrivia o (Content.whitespace s) × (below ≡ none)
  space_leaf (is_a_leaf t e) = (t, e)
  space_leaf (is_entry p s q) = cc
  space_leaf (is_a_comma e n) = cc

  -- the rest of a part from a node on that is no end of a line
  node_on : (content : Content) (below after : OrderedTree) → Read o kind z content below (closed after) → (IsTrue (is_line_comment content) → ⊥) → is_newline content ≡ false
      → (is_comma content ≡ true → Begins after) → (is_comma content ≡ false → Segment (text after)) → Segment (text (more content below after))
  node_on content below after (is_a_comma e n) c l b g =
      to_comma (subst (λ x. OneLine o kind x (0x2C ∷ text after)) (sym (comma_text content below after e n)) (texts.leads there)) (b (ap is_comma e))
  node_on content below after (is_entry p s q) c l b g = entry_on q (g (element_no_comma content p))
  node_on (Content.whitespace s) below after (is_a_leaf t e) c l b g =
      led_on (subst (λ x. OnLine x (text after)) (sym (leaf_text (Content.whitespace s) below after t e)) (spaces_on t.1 refl)) (g refl)
  node_on (Content.comment s) below after (is_a_leaf t e) c l b g =
      led_on (subst (λ x. OnLine x (text after)) (sym (leaf_text (Content.comment s) below after t e)) (past_comment (comment_text s after t c) there)) (g refl)
  node_on (newline k) below after (is_a_leaf t e) c l b g = cc
  node_on content below after (is_a_leaf t e) c l b g = absurd t

  -- it begins with no blank, unless it is one
  node_solid : (content : Content) (below after : OrderedTree) → Read o kind z content below (closed after) → is_newline content ≡ false → is_whitespace content ≡ false
      → IsTrue (starts (λ c. not (is_blank c)) (next (text (more content below after))))
  node_solid content below after (is_a_comma e n) l w = subst (λ x. IsTrue (starts (λ c. not (is_blank c)) (next x))) (sym (comma_text content below after e n)) refl
  node_solid content below after (is_entry p s q) l w = item_solid (text (more content below after)) (entry_starts o kind (text (more content below after)) (text after) q)
  node_solid (Content.comment s) below after (is_a_leaf t e) l w =
      subst (λ x. IsTrue (starts (λ c. not (is_blank c)) (next x))) (sym (leaf_text (Content.comment s) below after t e)) (first_of (chars s) (comment_begins t.1.1))
    where
      first_of : (s : List ℕ) → IsTrue (starts (λ c. c == 0x2F) (next s)) → IsTrue (starts (λ c. not (is_blank c)) (next (s ++ text after)))
      first_of [] h = cc
      first_of (c ∷ s) h = slash_solid (Some c) h
  node_solid (Content.whitespace s) below after (is_a_leaf t e) l w = cc
  node_solid (newline k) below after (is_a_leaf t e) l w = cc
  node_solid content below after (is_a_leaf t e) l w = absurd t

  behind_so : (content : Content) (row : OrderedTree) (b : Bool) → is_comma content ≡ b → goes_on_lines (behind content) row ≡ true → goes_on_lines (if b then Spot.begins else Spot.part) row ≡ true
  behind_so content row b e h = subst (λ c. goes_on_lines (if c then Spot.begins else Spot.part) row ≡ true) e h

  mutual
    begins : (row : OrderedTree) → Rest row → NoLineComments row → goes_on_lines Spot.begins row ≡ true → Begins row
    begins none r c h = cc
    begins (more (newline k) below after) r c h =
        let read = reads_on (newline k) below after r in
        subst (λ x. BeginLines o kind x z) (sym (leaf_text (newline k) below after tt (newline_leaf read.0))) (begun (newline_text k) (opens after read.1 c.1 h))
    begins (more content below after) r c h = cc

    opens : (row : OrderedTree) → Rest row → NoLineComments row → goes_on_lines Spot.indent row ≡ true → Closes (text row) ⊎ Part (text row)
    opens none r c h = inl (record { indent = []; is = bracket; spaces = many.stop })
    opens (more (newline k) below after) r c h = cc
    opens (more (Content.whitespace s) below after) r c h =
        let read = reads_on (Content.whitespace s) below after r in
        let leaf = space_leaf read.0 in
        subst (λ x. Closes x ⊎ Part x) (sym (leaf_text (Content.whitespace s) below after leaf.0 leaf.1)) (indented (chars s) leaf.0.1 (opens after read.1 c.1 h))
    opens (more content below after) r c h =
        let read = reads_on content below after r in
        let on : Segment (text (more content below after)) = node_on content below after read.0 c.0 refl (λ e. begins after read.1 c.1 (behind_so content after true e h)) (λ e. goes after read.1 c.1 (behind_so content after false e h)) in
        inr (solid_part (text (more content below after)) (node_solid content below after read.0 refl refl) on)

    goes : (row : OrderedTree) → Rest row → NoLineComments row → goes_on_lines Spot.part row ≡ true → Segment (text row)
    goes none r c h = cc
    goes (more (newline k) below after) r c h =
        let read = reads_on (newline k) below after r in
        to_line (texts.leads there) (subst (λ x. LineThen x (places.closing kind ∷ z)) (sym (leaf_text (newline k) below after tt (newline_leaf read.0))) (line_then (newline_text k) (ends after read.1 h)))
    goes (more content below after) r c h =
        let read = reads_on content below after r in
        node_on content below after read.0 c.0 refl (λ e. begins after read.1 c.1 (behind_so content after true e h)) (λ e. goes after read.1 c.1 (behind_so content after false e h))

    ends : (row : OrderedTree) → Rest row → goes_on_lines Spot.closes row ≡ true → Closes (text row)
    ends none r h = record { indent = []; is = bracket; spaces = many.stop }
    ends (more (Content.whitespace s) below after) r h =
        let read = reads_on (Content.whitespace s) below after r in
        let leaf = space_leaf read.0 in
        subst Closes (sym (leaf_text (Content.whitespace s) below after leaf.0 leaf.1)) (closed_later (chars s) leaf.0.1 (ends after read.1 h))
    ends (more content below after) r h = cc

bracket_text : (k : RowKind) (z : List ℕ) → printed_text (token_then (rows.closing k) none) ++ z ≡ places.closing (kind_of_row k) ∷ z
bracket_text rows.of_values z = closing_text close_bracket_mark z
bracket_text rows.of_properties z = closing_text close_brace_mark z

-- the container that has been put on several lines
pub parts_on_lines : (o : Options) (k : RowKind) (row new : OrderedTree) {path : List ℕ} {t u : OrderedTree} → SoundTree o u → (d : DocumentChanged (bracketed k row) (bracketed k new) path t u) → IsTrue (is_on_lines new) → NoLineComments new
    → (w : Option Plain) → IsOnLines path (document_of o u w)
parts_on_lines o k was new {path} {u = u} r d h c w =
    let row : OrderedTree = followed_by new (token_then (rows.closing k) none) in
    let kind : Kind = kind_of_row k in
    let place = at_the_place o r (flip d) in
    let back : List ℕ = text_of_leaves (back_of (flip d)) in
    let read = row_reads o back k place.2 in
    let inside : text_of_leaves (leaves_of (container_of k row)) ++ back ≡ places.opening kind ∷ (printed_text row ++ back) = ap (λ l. l ++ back) (opened k row) in
    let value = subst (λ x. Value path o (printed_text u) x back) inside place.1 in
    (kind, back, printed_text row ++ back, value, begins o kind back (rows.closing k) (bracket_text k back) new read.0 c h)

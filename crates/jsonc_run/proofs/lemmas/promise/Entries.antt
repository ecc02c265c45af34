-- In a sound tree the entry at a path prints from here to there, and so do all entries of a container.
use Rattle.std.proofs.Common.{ℕ, ◌≡◌, ◌∙◌, sym, ap, subst, refl, Bool, true, false, List, [], ◌∷◌, ◌++◌, IsTrue}
use Rattle.jsonc_text.specs.Options.{Options}
use Rattle.jsonc_text.specs.Gaps.{Gap}
use Rattle.jsonc_text.specs.Gaps as gaps
use Rattle.jsonc_tree.specs.Content.{Content}
use Rattle.jsonc_tree.specs.OrderedTree.{OrderedTree, none, more, Top}
use Rattle.jsonc_tree.specs.Values.{is_passed_over}
use Rattle.jsonc_sound.specs.Lines.{LinesEndLoosely}
use Rattle.jsonc_sound.specs.Shape as shape
use Rattle.jsonc_sound.specs.Shape.{IsTrivia, Trivia, Separated, Closed, ValueShaped, ElementsShaped, PropertiesShaped, token_then, printed_text}
use Rattle.jsonc_sound.proofs.LooseLines.{elements_stop, properties_stop, trivia_gap}
use Rattle.jsonc_sound.specs.Rows.{RowKind, of_values, of_properties, container_of}
use Rattle.jsonc_sound.specs.SoundTrees.{SoundTree}
use Rattle.jsonc_sound.specs.TreeChanges.{IsElement, leaves_of, property_of, ElementChanged, DocumentChanged}
use Rattle.jsonc_sound.proofs.FirstNodes.{no_element, trivia_over, value_element}
use Rattle.jsonc_run.specs.texts.Paths as places
use Rattle.jsonc_run.specs.texts.Paths.{Kind, an_array, an_object, Entry, Row, HasEntries}
use Rattle.jsonc_run.specs.promise.PlaceLaws.{text_of_leaves, node_chars, texts_of, EntriesStand}
use Rattle.jsonc_run.proofs.lemmas.promise.Leaves.{row_back, back_of}
use Rattle.jsonc_sound.proofs.ShapeValues.{bracket_mark, brace_mark, close_bracket_mark, close_brace_mark, mark_text, closing_text, value_utf8, property_utf8, closed_some, separated_some, elements_some, properties_some, separated_stands, closed_stands, carries_more, node_text, value_stands, property_stands}
use Rattle.jsonc_run.proofs.lemmas.promise.Values.{ValueHere, array_place, object_place, at_the_place}

-- an element is one of the texts, and what is passed over is none
pub element_text : (content : Content) (below after : OrderedTree) → IsElement content → texts_of (more content below after) ≡ node_chars (record { content = content; below = below }) ∷ texts_of after
element_text content below after h = by (is_passed_over content) refl h
  where
    by : (b : Bool) → is_passed_over content ≡ b → IsElement content → texts_of (more content below after) ≡ node_chars (record { content = content; below = below }) ∷ texts_of after
    by true e k = absurd (no_element content k e)
    by false e k = rw e refl

pub over_text : (content : Content) (below after : OrderedTree) → IsTrue (is_passed_over content) → texts_of (more content below after) ≡ texts_of after
over_text content below after h = rw h refl

module _ (o : Options) where
  trivia_texts : {t r : OrderedTree} → Trivia o t r → texts_of t ≡ texts_of r
  trivia_texts shape.nothing = refl
  trivia_texts (shape.trivia {content = content} {t = t} h g) = over_text content none t (trivia_over o content h) ∙ trivia_texts g

  separated_texts : {t r : OrderedTree} → Separated o t r → texts_of t ≡ texts_of r
  separated_texts (shape.comma g h) = trivia_texts g ∙ trivia_texts h
  separated_texts (shape.no_comma x g) = trivia_texts g

  closed_texts : {b : ℕ} {t : OrderedTree} → Closed o b t → texts_of t ≡ []
  closed_texts (shape.plain g) = trivia_texts g
  closed_texts (shape.trailing_comma x g h) = trivia_texts g ∙ trivia_texts h

  elements_row : (z : List ℕ) {row : OrderedTree} → ElementsShaped o row → LinesEndLoosely true false row → Row o an_array (printed_text row ++ z) (texts_of row) z
  elements_row z (shape.last_element {content = content} {below = below} {after = after} v c) l =
      let one = value_stands o (printed_text after ++ z) (carries_more o (printed_text after) z (closed_some o close_bracket_mark c)) v l.1 in
      let texts = element_text content below after (value_element v) ∙ ap (λ ts. node_chars (record { content = content; below = below }) ∷ ts) (closed_texts c) in
      subst (λ ts. Row o an_array (printed_text (more content below after) ++ z) ts z) (sym texts)
      (subst (λ x. Row o an_array x (node_chars (record { content = content; below = below }) ∷ []) z) (node_text o content below after z (value_utf8 o v)) (places.last_entry (one.0, one.1) (closed_stands o z close_bracket_mark c l.2)))
  elements_row z (shape.element {content = content} {below = below} {after = after} {u = u} v s g) l =
      let one = value_stands o (printed_text after ++ z) (carries_more o (printed_text after) z (separated_some o s (elements_some o g))) v l.1 in
      let gap = separated_stands o z (elements_stop g) s l.2 in
      let texts = element_text content below after (value_element v) ∙ ap (λ ts. node_chars (record { content = content; below = below }) ∷ ts) (separated_texts s) in
      subst (λ ts. Row o an_array (printed_text (more content below after) ++ z) ts z) (sym texts)
      (subst (λ x. Row o an_array x (node_chars (record { content = content; below = below }) ∷ texts_of u) z) (node_text o content below after z (value_utf8 o v)) (places.entry (one.0, one.1) gap.0 (elements_row z g gap.1)))

  properties_row : (z : List ℕ) {row : OrderedTree} → PropertiesShaped o row → LinesEndLoosely true false row → Row o an_object (printed_text row ++ z) (texts_of row) z
  properties_row z (shape.last_property {below = below} {after = after} v c) l =
      let one = property_stands o (printed_text after ++ z) (carries_more o (printed_text after) z (closed_some o close_brace_mark c)) v l.1 in
      let texts = ap (λ ts. printed_text below ∷ ts) (closed_texts c) in
      subst (λ ts. Row o an_object (printed_text (more Content.property below after) ++ z) ts z) (sym texts)
      (subst (λ x. Row o an_object x (printed_text below ∷ []) z) (node_text o Content.property below after z (property_utf8 o v)) (places.last_entry (one.0, one.1, one.2) (closed_stands o z close_brace_mark c l.2)))
  properties_row z (shape.property {below = below} {after = after} {u = u} v s g) l =
      let one = property_stands o (printed_text after ++ z) (carries_more o (printed_text after) z (separated_some o s (properties_some o g))) v l.1 in
      let gap = separated_stands o z (properties_stop g) s l.2 in
      let texts = ap (λ ts. printed_text below ∷ ts) (separated_texts s) in
      subst (λ ts. Row o an_object (printed_text (more Content.property below after) ++ z) ts z) (sym texts)
      (subst (λ x. Row o an_object x (printed_text below ∷ texts_of u) z) (node_text o Content.property below after z (property_utf8 o v)) (places.entry (one.0, one.1, one.2) gap.0 (properties_row z g gap.1)))

  array_entries : (z : List ℕ) {row : OrderedTree} → ValueHere o (record { content = Content.array; below = row }) z → HasEntries o (printed_text row ++ z) (texts_of row) z
  array_entries z here = by here.shaped here.lines
    where
      by : {row : OrderedTree} {r : List ℕ} → ValueShaped o Content.array row r → LinesEndLoosely true false row → HasEntries o (printed_text row ++ z) (texts_of row) z
      by (shape.literal h) l = absurd h
      by (shape.empty_array {t = t} g) l =
          let gap = trivia_gap o z true false (λ e. cc) tt g l.2 in (
            an_array,
            printed_text t ++ z,
            printed_text t ++ z,
            ap (λ c. c ++ z) (mark_text bracket_mark t),
            gaps.none,
            subst (λ ts. Row o an_array (printed_text t ++ z) ts z) (sym (trivia_texts g)) (places.no_entries (subst (Gap o _) (closing_text close_bracket_mark z) gap.0)),
          )
      by (shape.array {t = t} {u = u} g es) l =
          let gap = trivia_gap o z true false (λ e. cc) (elements_stop es) g l.2 in (
            an_array,
            printed_text t ++ z,
            printed_text u ++ z,
            ap (λ c. c ++ z) (mark_text bracket_mark t),
            gap.0,
            subst (λ ts. Row o an_array (printed_text u ++ z) ts z) (sym (trivia_texts g)) (elements_row z es gap.1),
          )

  object_entries : (z : List ℕ) {row : OrderedTree} → ValueHere o (record { content = Content.object; below = row }) z → HasEntries o (printed_text row ++ z) (texts_of row) z
  object_entries z here = by here.shaped here.lines
    where
      by : {row : OrderedTree} {r : List ℕ} → ValueShaped o Content.object row r → LinesEndLoosely true false row → HasEntries o (printed_text row ++ z) (texts_of row) z
      by (shape.literal h) l = absurd h
      by (shape.empty_object {t = t} g) l =
          let gap = trivia_gap o z true false (λ e. cc) tt g l.2 in (
            an_object,
            printed_text t ++ z,
            printed_text t ++ z,
            ap (λ c. c ++ z) (mark_text brace_mark t),
            gaps.none,
            subst (λ ts. Row o an_object (printed_text t ++ z) ts z) (sym (trivia_texts g)) (places.no_entries (subst (Gap o _) (closing_text close_brace_mark z) gap.0)),
          )
      by (shape.object {t = t} {u = u} g ps) l =
          let gap = trivia_gap o z true false (λ e. cc) (properties_stop ps) g l.2 in (
            an_object,
            printed_text t ++ z,
            printed_text u ++ z,
            ap (λ c. c ++ z) (mark_text brace_mark t),
            gap.0,
            subst (λ ts. Row o an_object (printed_text u ++ z) ts z) (sym (trivia_texts g)) (properties_row z ps gap.1),
          )

  pub has_entries : (kind : RowKind) (z : List ℕ) {row : OrderedTree} → ValueHere o (container_of kind row) z → HasEntries o (text_of_leaves (leaves_of (container_of kind row)) ++ z) (texts_of row) z
  has_entries of_values z here = array_entries z here
  has_entries of_properties z here = object_entries z here

  pub entries_stand : (t : OrderedTree) → EntriesStand o t
  entries_stand t s kind row now path u d =
      let m = at_the_place o s d in
      (text_of_leaves (back_of d), has_entries kind (text_of_leaves (back_of d)) m.2, m.1)

  -- the element of a container at a path is the entry there
  pub value_stands_in : {path : List ℕ} {t u : OrderedTree} {row new : OrderedTree} {other x y : Top} {i : ℕ} → SoundTree o t → (d : DocumentChanged (record { content = Content.array; below = row }) other path t u) → (e : ElementChanged x y i row new)
      → Entry (path ++ i ∷ []) o (printed_text t) (node_chars x ++ (text_of_leaves (row_back e) ++ text_of_leaves (back_of d))) (text_of_leaves (row_back e) ++ text_of_leaves (back_of d))
  value_stands_in {i = i} s d e =
      let m = at_the_place o s d in
      places.an_entry an_array i m.1 (array_place o (text_of_leaves (back_of d)) e m.2).1

  pub property_stands_in : {path : List ℕ} {t u : OrderedTree} {row new held given : OrderedTree} {other : Top} {i : ℕ} → SoundTree o t → (d : DocumentChanged (record { content = Content.object; below = row }) other path t u) → (e : ElementChanged (property_of held) (property_of given) i row new)
      → Entry (path ++ i ∷ []) o (printed_text t) (printed_text held ++ (text_of_leaves (row_back e) ++ text_of_leaves (back_of d))) (text_of_leaves (row_back e) ++ text_of_leaves (back_of d))
  property_stands_in {i = i} s d e =
      let m = at_the_place o s d in
      places.an_entry an_object i m.1 (object_place o (text_of_leaves (back_of d)) e m.2).1

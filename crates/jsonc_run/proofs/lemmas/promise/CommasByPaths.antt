-- Trailing commas that have come, by the paths of their containers.
use Rattle.std.proofs.Common.{ℕ, ◌≡◌, ◌∙◌, ◌⊎◌, sym, ap, subst, refl, inl, inr, Bool, true, false, List, [], ◌∷◌, ◌++◌, Option}
use Rattle.jsonc_text.specs.Options.{Options}
use Rattle.jsonc_text.specs.Plain.{Plain}
use Rattle.jsonc_text.specs.Gaps.{Gap}
use Rattle.jsonc_tree.specs.Content.{Content, token}
use Rattle.jsonc_tree.specs.OrderedTree.{OrderedTree, Top, none, more, leaves}
use Rattle.jsonc_sound.specs.Documents.{document_of}
use Rattle.jsonc_sound.specs.Lines.{LinesEndLoosely}
use Rattle.jsonc_sound.specs.Rows.{RowKind, of_values, of_properties, container_of}
use Rattle.jsonc_sound.specs.Rows as rows
use Rattle.jsonc_sound.specs.Shape as shape
use Rattle.jsonc_sound.specs.Shape.{IsTrivia, Trivia, printed_text, token_then}
use Rattle.jsonc_sound.specs.SoundTrees.{SoundTree}
use Rattle.jsonc_sound.specs.TreeChanges.{IsElement, ElementChanged, this_element, passed, later_element, DocumentChanged, property_of}
use Rattle.jsonc_sound.proofs.FirstNodes.{no_element, none_changed, trivia_over}
use Rattle.jsonc_sound.proofs.LooseLines.{trivia_gap}
use Rattle.jsonc_sound.proofs.ShapeValues.{close_brace_mark, close_bracket_mark, closing_text, comma_mark, mark_text}
use Rattle.jsonc_text.specs.declared.edit.TrailingCommaMode.TheVariants.{IfMultiline}
use Rattle.jsonc_edit.specs.commas.Laws.{allowing, GainsCommas, ends, stays, comes}
use Rattle.jsonc_edit.specs.multiline.Reflows.{has_newline}
use Rattle.jsonc_edit.proofs.lemmas.commas.WithoutCommas.{newline_stays, none_before}
use Rattle.jsonc_run.specs.texts.Paths as places
use Rattle.jsonc_run.specs.texts.Paths.{Kind, an_array, an_object, closing, Entry, Value}
use Rattle.jsonc_run.specs.texts.Entering.{HasLineEnd}
use Rattle.jsonc_run.specs.texts.Edits.{ComeOnLines, HasTrailing}
use Rattle.jsonc_run.specs.promise.PlaceLaws.{text_of_leaves}
use Rattle.jsonc_run.proofs.lemmas.promise.CommasCome.{document_was, element_over, element_was, row_after, ElementWas, Gained}
use Rattle.jsonc_run.proofs.lemmas.promise.FoundNodes.{entry_found, FoundEntry}
use Rattle.jsonc_run.proofs.lemmas.promise.Leaves.{row_back, back_of}
use Rattle.jsonc_run.proofs.lemmas.promise.LinesInside.{line_within}
use Rattle.jsonc_run.proofs.lemmas.promise.LooseRows.{kind_of_row, row_reads, Reads}
use Rattle.jsonc_run.proofs.lemmas.promise.TrailingRows.{trails_off, TrailsOff}
use Rattle.jsonc_run.proofs.lemmas.promise.Values.{array_place, at_the_place, node_leaves, object_place, top_same}

-- the leaves behind an element
pub back_leaves : {was now : Top} {i : ℕ} {row new : OrderedTree} → (e : ElementChanged was now i row new) → row_back e ≡ leaves (row_after e)
back_leaves (this_element p q) = refl
back_leaves (passed h e) = back_leaves e
back_leaves (later_element h e) = back_leaves e

-- trivia stays where commas come
trivia_stays : (o : Options) {line : Bool} {x y r : OrderedTree} → GainsCommas line x y → Trivia o y r → (s : OrderedTree) × Trivia o x s × GainsCommas line s r
trivia_stays o {x = x} g shape.nothing = (x, shape.nothing, g)
trivia_stays o (stays {below = below} {after = after} p q) (shape.trivia {content = content} h k) =
    let m = trivia_stays o q k in
    (m.0, subst (λ b. Trivia o (more content b after) m.0) (sym (none_before_it p)) (shape.trivia h m.1), m.2)
  where
    none_before_it : {line : Bool} {x : OrderedTree} → GainsCommas line x none → x ≡ none
    none_before_it ends = refl
trivia_stays o (comes {content = content} e c p q) (shape.trivia h k) = absurd (element_over content e (trivia_over o content h))

token_stays : {line : Bool} (c : ℕ) {x y : OrderedTree} → GainsCommas line x (token_then c y) → (s : OrderedTree) × (x ≡ token_then c s) × GainsCommas line s y
token_stays c (comes h k p q) = absurd (element_over (token c) h refl)
token_stays c (stays {after = after} p q) = (after, by p, q)
  where
    by : {line : Bool} {below : OrderedTree} → GainsCommas line below none → more (token c) below after ≡ token_then c after
    by ends = refl

-- what stands behind an element reads on
pub after_reads : (o : Options) (kind : Kind) (z : List ℕ) {y v : Top} {i : ℕ} {row new : OrderedTree} → (e : ElementChanged y v i row new) → Reads o kind z row → LinesEndLoosely true false row → Reads o kind z (row_after e) × LinesEndLoosely true false (row_after e)
after_reads o kind z (this_element p q) (inl m) l = absurd (no_element (token (closing kind)) (subst IsElement m.3 p) refl)
after_reads o kind z (this_element p q) (inr r) l = (r.1, l.2)
after_reads o kind z {y} {v} (passed {i = i} {y = n} h e) (inl m) l = absurd (none_changed (subst (λ w. ElementChanged y v i w n) m.2 e))
after_reads o kind z (passed h e) (inr r) l = after_reads o kind z e r.1 l.2
after_reads o kind z {y} {v} (later_element {i = i} {y = n} h e) (inl m) l = absurd (none_changed (subst (λ w. ElementChanged y v i w n) m.2 e))
after_reads o kind z (later_element h e) (inr r) l = after_reads o kind z e r.1 l.2

-- trivia is so where trailing commas are allowed
trivia_as : (o : Options) {x y : OrderedTree} → Trivia (allowing IfMultiline o) x y → Trivia o x y
trivia_as o shape.nothing = shape.nothing
trivia_as o (shape.trivia {content = content} h g) = shape.trivia (by content h) (trivia_as o g)
  where
    by : (content : Content) → IsTrivia (allowing IfMultiline o) content → IsTrivia o content
    by (Content.whitespace s) h = h
    by (Content.newline k) h = h
    by (Content.comment s) h = h
    by content h = absurd h

bracket_text : (k : RowKind) (z : List ℕ) → printed_text (token_then (closing (kind_of_row k)) none) ++ z ≡ closing (kind_of_row k) ∷ z
bracket_text of_values z = closing_text close_bracket_mark z
bracket_text of_properties z = closing_text close_brace_mark z

-- a row that trails off, in words of the text
module _ (o : Options) (k : RowKind) (z : List ℕ) where
  abbrev text : OrderedTree → List ℕ
  text row = printed_text row ++ z

  pub trailing_text : (row rest : OrderedTree) → LinesEndLoosely true false row → Trivia o row (token_then 0x2C rest) → Trivia o rest (token_then (closing (kind_of_row k)) none)
      → (t s : List ℕ) × Gap o (text row) (0x2C ∷ t) × Gap o t (closing (kind_of_row k) ∷ s)
  trailing_text row rest l g h =
      let one = trivia_gap o z true false (λ e. cc) tt g l in
      let two = trivia_gap o z true false (λ e. cc) tt h one.1.2 in
      (text rest, z, subst (Gap o (text row)) (ap (λ y. y ++ z) (mark_text comma_mark rest)) one.0, subst (Gap o (text rest)) (bracket_text k z) two.0)

-- the entry of a container in a text
module _ (o : Options) {row : OrderedTree} {i : ℕ} {path : List ℕ} {t : OrderedTree} (s : SoundTree o t) where
  element_text : {y : Top} → (e : ElementChanged y y i row row) → (d : DocumentChanged (container_of of_values row) (container_of of_values row) path t t)
      → (u : List ℕ) × Entry (path ++ i ∷ []) o (printed_text t) u (text_of_leaves (row_back e) ++ text_of_leaves (back_of d))
  element_text e d =
      let place = at_the_place o s d in
      let back : List ℕ = text_of_leaves (back_of d) in
      let has = (array_place o back {row = token_then 0x5B row} (passed refl e) place.2).1 in
      let value = subst (λ w. Value path o (printed_text t) (w ++ back) back) (sym (node_leaves o (container_of of_values row))) place.1 in
      (_, places.an_entry an_array i value has)

  property_text : {held : OrderedTree} → (e : ElementChanged (property_of held) (property_of held) i row row) → (d : DocumentChanged (container_of of_properties row) (container_of of_properties row) path t t)
      → (u : List ℕ) × Entry (path ++ i ∷ []) o (printed_text t) u (text_of_leaves (row_back e) ++ text_of_leaves (back_of d))
  property_text e d =
      let place = at_the_place o s d in
      let back : List ℕ = text_of_leaves (back_of d) in
      let has = (object_place o back {row = token_then 0x7B row} (passed refl e) place.2).1 in
      let value = subst (λ w. Value path o (printed_text t) (w ++ back) back) (sym (node_leaves o (container_of of_properties row))) place.1 in
      (_, places.an_entry an_object i value has)

  pub entry_text : (k : RowKind) {y : Top} → (e : ElementChanged y y i row row) → (k ≡ of_properties → y.content ≡ Content.property) → (d : DocumentChanged (container_of k row) (container_of k row) path t t)
      → (u : List ℕ) × Entry (path ++ i ∷ []) o (printed_text t) u (text_of_leaves (row_back e) ++ text_of_leaves (back_of d))
  entry_text of_values e n d = element_text e d
  entry_text of_properties {y} e n d =
      subst (λ c. (e : ElementChanged (record { content = c; below = y.below }) (record { content = c; below = y.below }) i row row) → (u : List ℕ) × Entry (path ++ i ∷ []) o (printed_text t) u (text_of_leaves (row_back e) ++ text_of_leaves (back_of d)))
      (sym (n refl)) (λ e. property_text e d) e

-- a comma that has come stands directly behind its entry, where a line ends; any other was there
pub come_on_lines : (o : Options) {t u : OrderedTree} → SoundTree o t → SoundTree (allowing IfMultiline o) u → GainsCommas false t u → (w x : Option Plain) → ComeOnLines (document_of o t w) (document_of (allowing IfMultiline o) u x)
come_on_lines o {t} {u} s r g w x p b (kind, i, a, t0, s0, entry, gap, last) = by el.after
  where
    f : FoundEntry (allowing IfMultiline o) p i u b
    f = entry_found (allowing IfMultiline o) r entry

    reads : Reads (allowing IfMultiline o) (kind_of_row f.kind) (text_of_leaves (back_of f.holder)) f.row × LinesEndLoosely true false f.row
    reads = row_reads (allowing IfMultiline o) (text_of_leaves (back_of f.holder)) f.kind (at_the_place (allowing IfMultiline o) r f.holder).2

    after : Reads (allowing IfMultiline o) (kind_of_row f.kind) (text_of_leaves (back_of f.holder)) (row_after f.at) × LinesEndLoosely true false (row_after f.at)
    after = after_reads (allowing IfMultiline o) (kind_of_row f.kind) (text_of_leaves (back_of f.holder)) f.at reads.0 reads.1

    text_is : b ≡ printed_text (row_after f.at) ++ (text_of_leaves (back_of f.holder))
    text_is = f.behind ∙ ap (λ l. text_of_leaves l ++ (text_of_leaves (back_of f.holder))) (back_leaves f.at)

    off : TrailsOff (allowing IfMultiline o) (kind_of_row f.kind) (text_of_leaves (back_of f.holder)) (row_after f.at)
    off = trails_off (allowing IfMultiline o) (kind_of_row f.kind) (text_of_leaves (back_of f.holder)) (row_after f.at) (row_after f.at) shape.nothing after.0 after.1 kind t0 s0 (subst (λ y. Gap (allowing IfMultiline o) y (0x2C ∷ t0)) text_is gap) last

    was : (y : Top) × DocumentChanged y y p t t × Gained y (container_of f.kind f.row)
    was = document_was g f.holder

    opened : (old : OrderedTree) × (was.0.below ≡ token_then (rows.opening f.kind) old) × GainsCommas (has_newline was.0.below) old f.row
    opened = token_stays (rows.opening f.kind) was.2.1

    holder : was.0 ≡ container_of f.kind opened.0
    holder = top_same was.0 (container_of f.kind opened.0) was.2.0 opened.1

    el : ElementWas (has_newline was.0.below) opened.0 i f.entry (row_after f.at)
    el = element_was opened.2 f.at

    by : GainsCommas (has_newline was.0.below) (row_after el.at) (row_after f.at) ⊎ ((has_newline was.0.below ≡ true) × (rest : OrderedTree) × (row_after f.at ≡ token_then 0x2C rest))
        → ((s : List ℕ) × HasTrailing p (document_of o t w) s) ⊎ (HasLineEnd p (document_of (allowing IfMultiline o) u x) × (t : List ℕ) × (b ≡ 0x2C ∷ t))
    by (inr (line, rest, is)) =
        let lines : has_newline f.row ≡ true = newline_stays opened.2 ∙ ap has_newline (sym opened.1) ∙ line in
        inr (line_within (allowing IfMultiline o) f.kind f.row r f.holder lines x, printed_text rest ++ (text_of_leaves (back_of f.holder)), text_is ∙ ap (λ y. printed_text y ++ (text_of_leaves (back_of f.holder))) is ∙ ap (λ y. y ++ (text_of_leaves (back_of f.holder))) (mark_text comma_mark rest))
    by (inl k) =
        let d : DocumentChanged (container_of f.kind opened.0) (container_of f.kind opened.0) p t t = subst (λ (y : Top). DocumentChanged y y p t t) holder was.1 in
        let one = trivia_stays (allowing IfMultiline o) k off.to_comma in
        let comma = token_stays 0x2C one.2 in
        let two = trivia_stays (allowing IfMultiline o) comma.2 off.to_bracket in
        let bracket = token_stays (closing (kind_of_row f.kind)) two.2 in
        let closed : two.0 ≡ token_then (closing (kind_of_row f.kind)) none = bracket.1 ∙ ap (token_then (closing (kind_of_row f.kind))) (none_before bracket.2) in
        let old_back : List ℕ = text_of_leaves (back_of d) in
        let old_reads = row_reads o old_back f.kind (at_the_place o s d).2 in
        let old_after = after_reads o (kind_of_row f.kind) old_back el.at old_reads.0 old_reads.1 in
        let gaps = trailing_text o f.kind old_back (row_after el.at) comma.0 old_after.1 (subst (Trivia o (row_after el.at)) comma.1 (trivia_as o one.1)) (subst (Trivia o comma.0) closed (trivia_as o two.1)) in
        let e = entry_text o s f.kind el.at (λ n. el.gained.0 ∙ f.named n) d in
        let behind : text_of_leaves (row_back el.at) ++ old_back ≡ printed_text (row_after el.at) ++ old_back = ap (λ l. text_of_leaves l ++ old_back) (back_leaves el.at) in
        inl (printed_text (row_after el.at) ++ old_back, (kind_of_row f.kind, i, e.0, gaps.0, gaps.1, subst (Entry (p ++ i ∷ []) o (printed_text t) e.0) behind e.1, gaps.2, gaps.3))

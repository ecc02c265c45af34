-- What an element that comes into a container of a sound tree adds to the text.
use Rattle.std.proofs.Common.{◌||◌, ◌&&◌, inr, inl, ◌⊎◌, arith, ℕ, ◌+◌, ◌≡◌, ◌≢◌, ◌∙◌, sym, ap, subst, refl, Bool, true, false, not, List, [], ◌∷◌, ◌++◌, length, IsTrue, Option}
use Rattle.std.proofs.lemmas.List.{append_assoc, append-nil}
use Rattle.std.proofs.lemmas.Bool.{false≢true}
use Rattle.std.proofs.lemmas.Str.{chars-nil}
use Rattle.jsonc_text.specs.Options.{Options}
use Rattle.jsonc_text.specs.Plain.{Plain}
use Rattle.jsonc_tree.specs.Content.{Content, token, newline}
use Rattle.jsonc_tree.specs.OrderedTree.{OrderedTree, none, more, own_leaf, leaves, followed_by, Top}
use Rattle.jsonc_sound.specs.Shape.{token_then, printed_text}
use Rattle.jsonc_sound.specs.Leaving.{element_count}
use Rattle.jsonc_sound.specs.Leaving as leaving
use Rattle.jsonc_sound.specs.Leaving.{AreInlineTrivia}
use Rattle.jsonc_edit.specs.multiline.Reflows.{has_newline}
use Rattle.jsonc_layout.specs.nodes.Kinds.{is_inline_trivia, is_newline}
use Rattle.jsonc_run.proofs.lemmas.promise.Trivia.{beside_text, line_end_text}
use Rattle.jsonc_sound.specs.Rows.{RowKind, closing, opening}
use Rattle.jsonc_sound.specs.SoundTrees.{SoundTree}
use Rattle.jsonc_sound.specs.Marks.{marks, marks_of}
use Rattle.jsonc_sound.specs.TreeChanges.{IsElement, leaves_of, ElementChanged, this_element, passed, later_element, DocumentChanged}
use Rattle.jsonc_sound.proofs.NodesAlone.{document_alone}
use Rattle.jsonc_sound.specs.Alone.{RowAlone}
use Rattle.jsonc_sound.proofs.Pieces.{LinesFlat, Pieces, document_flat, document_pieces}
use Rattle.jsonc_sound.proofs.Texts.{AllUtf8}
use Rattle.jsonc_sound.proofs.TriviaLeaves.{front_leaves}
use Rattle.jsonc_edit.specs.SeamRemovals.{line_comes}
use Rattle.jsonc_edit.proofs.lemmas.remove.Contents.{line_first}
use Rattle.jsonc_edit.specs.multiline.Laws.{bracketed}
use Rattle.jsonc_insert.proofs.lemmas.elements.Marked.{behind_marks, led_marks}
use Rattle.jsonc_tree.proofs.OrderedTrees.{leaves-followed_by}
use Rattle.jsonc_sound.specs.TriviaChanges.{AreTrivia, leaves_then}
use Rattle.jsonc_insert.specs.elements.Coming as coming
use Rattle.jsonc_insert.specs.elements.Coming.{BlankLinesLeave, Gap, CommaInserted, GoesOn, ElementInserted}
use Rattle.jsonc_run.specs.texts.Paths.{Entry, Value}
use Rattle.jsonc_text.specs.Marks.{Mark}
use Rattle.jsonc_text.specs.Documents.{Document}
use Rattle.jsonc_run.specs.texts.Stretches.{Come, Inside}
use Rattle.jsonc_run.specs.texts.Entering.{Along, Begins, Joins, NoCommaComes, Spreads}
use Rattle.jsonc_run.specs.promise.PlaceLaws.{text_of_leaves, node_chars, texts_of}
use Rattle.jsonc_run.proofs.lemmas.promise.Entries.{element_text}
use Rattle.jsonc_run.proofs.lemmas.promise.AlongRows.{along_row}
use Rattle.jsonc_run.proofs.lemmas.promise.LinesInside.{opened}
use Rattle.jsonc_run.proofs.lemmas.promise.Reversed.{flip, front_same, back_same}
use Rattle.jsonc_run.proofs.lemmas.promise.LeafEnds.{flat_behind}
use Rattle.jsonc_run.proofs.lemmas.promise.NothingBehind.{no_line_ends, row_line, row_stops, stops}
use Rattle.jsonc_run.proofs.lemmas.promise.Leaves.{row_back, front_of, back_of, document_parts, document_utf8, text_joined, utf8_first, utf8_joined, utf8_second}
use Rattle.jsonc_run.proofs.lemmas.promise.StretchElements.{Reached, at_first, past_leaves, past_row}
use Rattle.jsonc_run.proofs.lemmas.promise.RemovedTexts.{entry_begins, entry_there, none_more}
use Rattle.jsonc_run.proofs.lemmas.promise.Stretches.{marks_in, marks_in_both, parted, parted_as, pieces_first, pieces_second}
use Rattle.jsonc_sound.specs.Documents.{all_marks, document_of}
use Rattle.jsonc_run.proofs.lemmas.promise.Values.{at_the_place, node_leaves}
use Rattle.jsonc_run.proofs.lemmas.promise.Insides.{as_many, comma_comes, gap_trivia, goes_on, inside_so, texts_followed, texts_past}
use Rattle.jsonc_run.proofs.lemmas.promise.Joined.{EntriesOf, Good, none_behind, bracket_follows, close_text, good_as, good_first, good_second, good_tree, led_so, lines_behind, lines_past, lines_trimmed, no_comma_closes, one_token, onward, open_text, past_some, past_stretch, spacing_text, with_row}
use Rattle.jsonc_sound.proofs.RowParts.{at_comma, beside_trivia, leaves_followed, parted_at}
use Rattle.jsonc_sound.proofs.RowParts as row_parts
use Rattle.jsonc_sound.proofs.RootRows.{joined_trivia, leaves_then_joined}
use Rattle.jsonc_sound.specs.MarkChanges.{AreBlanks}
use Rattle.jsonc_tree.specs.declared.node.CstNewlineKind.{CstNewlineKind}
use Rattle.jsonc_tree.proofs.Rows.{followed_by-assoc, followed_by-none}
use Rattle.jsonc_run.proofs.lemmas.promise.Values.{ValueHere}
use Rattle.jsonc_run.proofs.lemmas.promise.CommentTexts.{blanks_text}
use Rattle.jsonc_run.proofs.lemmas.promise.LooseRows.{AreLeaves, Ended, all_trivia, behind_one, Reads, behind_entry, entry_read, reads_on, closing_gap, ended, kind_of_row, none_comes, row_reads, trivia_leaves}
use Rattle.jsonc_run.proofs.lemmas.promise.Closing.{container_row, count_followed}
use Rattle.jsonc_sound.proofs.LooseLines.{Stops, trivia_gap}
use Rattle.jsonc_sound.specs.Rows as rows
use Rattle.jsonc_text.specs.Gaps as text_gaps
use Rattle.jsonc_sound.proofs.ShapeValues.{comma_mark, mark_text}
use Rattle.jsonc_run.specs.texts.Stretches as documents
use Rattle.jsonc_run.specs.texts.Entering as entering
use Rattle.jsonc_sound.specs.Lines.{LinesEndLoosely}
use Rattle.jsonc_sound.proofs.Entries.{blanks_trivia}
use Rattle.jsonc_sound.proofs.SeamRows.{container_leaves}
use Rattle.jsonc_edit.proofs.Lists.{either_off}
use Rattle.jsonc_run.specs.texts.Paths as places

-- an element stands in a row with more behind it
record Followed {x y : Top} {i : ℕ} {row new : OrderedTree} (e : ElementChanged x y i row new) (after : OrderedTree) : Type 0 where
  changed : ElementChanged x y i (followed_by row after) (followed_by new after)
  same : row_back changed ≡ row_back e ++ leaves after

followed : {x y : Top} {i : ℕ} {row new : OrderedTree} (e : ElementChanged x y i row new) (after : OrderedTree) → Followed e after
followed (this_element {after = rest} p q) after = record { changed = this_element p q; same = leaves-followed_by rest after }
followed (passed h e) after = let m = followed e after in record { changed = passed h m.changed; same = m.same }
followed (later_element h e) after = let m = followed e after in record { changed = later_element h m.changed; same = m.same }

reached_with : {x y : Top} {i : ℕ} {row : OrderedTree} {rest : List Content} (after : OrderedTree) → Reached x y i row rest → Reached x y i (followed_by row after) (rest ++ leaves after)
reached_with after r = let m = followed r.changed after in record { new = followed_by r.new after; changed = m.changed; same = m.same ∙ ap (λ l. l ++ leaves after) r.same }

gap_unmarked : {b : Bool} {gap : List Content} → Gap b gap → marks_of gap ≡ []
gap_unmarked coming.nothing = refl
gap_unmarked coming.a_space = refl
gap_unmarked (coming.a_line h) = refl

regroup_row : (ld gp a b bh : List Content) → ld ++ (gp ++ (a ++ (b ++ bh))) ≡ (ld ++ gp) ++ ((a ++ b) ++ bh)
regroup_row ld gp a b bh = simp (append_assoc) refl

regroup : (f ld ow bh br b : List Content) (c : Content) → f ++ ((c ∷ ((ld ++ (ow ++ bh)) ++ br)) ++ b) ≡ (f ++ c ∷ ld) ++ (ow ++ ((bh ++ br) ++ b))
regroup f ld ow bh br b c = simp (append_assoc) refl

regroup_marks : (f a b c : List Mark) → f ++ ((a ++ b) ++ c) ≡ (f ++ a) ++ (b ++ c)
regroup_marks f a b c = simp (append_assoc) refl

-- what a new element adds to a text, which is such a one, its place there, and its marks
abbrev pub TextComes : RowKind → List ℕ → ℕ → (List ℕ → Type 0) → List Mark → Document → Document → Type 0
TextComes kind path n Is come d e = (before behind : List (List ℕ)) × (length before ≡ n) × (text rest : List ℕ) × Inside path (before ++ behind) (before ++ text ∷ behind) d e
    × Entry (path ++ length before ∷ []) e.options e.text (text ++ rest) rest × Come come (text ++ rest) rest d e × Joins (kind_of_row kind) path before behind text rest d e
    × Is text

no_length : (l : List (List ℕ)) → length l ≡ 0 → l ≡ []
no_length [] e = refl
no_length (x ∷ l) e = absurd (omega (arith, e))

pub element_stops : (content : Content) (below after : OrderedTree) → IsElement content → Stops (more content below after)
element_stops (Content.whitespace s) below after h = cc
element_stops (Content.newline k) below after h = cc
element_stops content below after h = tt

both_lack : (a b : OrderedTree) → has_newline (followed_by a b) ≡ false → (has_newline a ≡ false) × (has_newline b ≡ false)
both_lack none b h = (refl, h)
both_lack (more c w a) b h =
    let m = either_off (is_newline c) (has_newline (followed_by a b)) h in
    let n = both_lack a b m.1 in
    (ap (λ x. x || has_newline a) m.0 ∙ n.0, n.1)

lack_both : (a b : OrderedTree) → has_newline a ≡ false → has_newline b ≡ false → has_newline (followed_by a b) ≡ false
lack_both none b h k = k
lack_both (more c w a) b h k = let m = either_off (is_newline c) (has_newline a) h in ap (λ x. x || has_newline (followed_by a b)) m.0 ∙ lack_both a b m.1 k

led_lacks : {front led : OrderedTree} → CommaInserted front led → has_newline front ≡ false → has_newline led ≡ false
led_lacks coming.none_comes h = h
led_lacks (coming.one_comes f last beside p b) h =
    let rest : OrderedTree = leaves_then beside none in
    let m = both_lack f (more last.content last.below rest) h in
    let n = either_off (is_newline last.content) (has_newline rest) m.1 in
    lack_both f (more last.content last.below (token_then 0x2C rest)) m.0 (ap (λ x. x || has_newline rest) n.0 ∙ n.1)

-- leaves of trivia without the end of a line stand on one
on_one_line : (o : Options) (kind : places.Kind) (z : List ℕ) (ls : List Content) (are : AreTrivia ls) (c : Content) (b r : OrderedTree) (s : OrderedTree) → AreLeaves o kind z ls are c b r s → has_newline s ≡ false → AreInlineTrivia (leaves s)
on_one_line o kind z ls are c b r none a h = tt
on_one_line o kind z ls are c b r (more (Content.whitespace k) w s) a h = subst (λ y. AreInlineTrivia (leaves (more (Content.whitespace k) y s))) (sym a.1) (refl, on_one_line o kind z ls are c b r s a.2 h)
on_one_line o kind z ls are c b r (more (Content.comment k) w s) a h = subst (λ y. AreInlineTrivia (leaves (more (Content.comment k) y s))) (sym a.1) (refl, on_one_line o kind z ls are c b r s a.2 h)
on_one_line o kind z ls are c b r (more (Content.newline k) w s) a h = cc
on_one_line o kind z ls are c b r (more x w s) a h = absurd a.0

-- from the text of the document the second is spread
abbrev pub SpreadsFrom : places.Kind → List ℕ → Document → List ℕ → List ℕ → Type 0
SpreadsFrom places.an_array path d x y = y ≡ x
SpreadsFrom places.an_object path d x y = (y ≡ x) ⊎ ((entering.HasLineEnd path d → ⊥) × entering.Reflows x y)

spreads_so : (kind : places.Kind) (path : List ℕ) (d : Document) (y : List ℕ) → SpreadsFrom kind path d d.text y → Spreads kind path d y
spreads_so places.an_array path d y h = h
spreads_so places.an_object path d y h = h

-- behind what stands before the last bracket no line ends more
line_to_bracket : (row : OrderedTree) (c : ℕ) → line_comes (followed_by row (token_then c none)) ≡ line_comes row
line_to_bracket none c = refl
line_to_bracket (more x below after) c = ap (λ b. is_newline x || (is_inline_trivia x && b)) (line_to_bracket after c)

-- all around it stays
module _ (o : Options) (kind : RowKind) (row middle kept new : OrderedTree) {path : List ℕ} {t u : OrderedTree} (s : SoundTree o t) (r : SoundTree o u) (d : DocumentChanged (bracketed kind row) (bracketed kind new) path t u) (leave : BlankLinesLeave middle kept) where
  abbrev F : List ℕ
  F = text_of_leaves (front_of d)

  abbrev B : List ℕ
  B = text_of_leaves (back_of d)

  abbrev k : places.Kind
  k = kind_of_row kind

  abbrev pub Spreading : Type 0
  Spreading = (w : Option Plain) → Good o (leaves row) → Good o (leaves middle) × SpreadsFrom k path (document_of o t w) (with_row o kind F B (text_of_leaves (leaves row))) (with_row o kind F B (text_of_leaves (leaves middle)))

  abbrev close : List Content
  close = token (closing kind) ∷ []

  abbrev bracket : OrderedTree
  bracket = token_then (closing kind) none

  bracketed_leaves : (z : OrderedTree) → leaves_of (bracketed kind z) ≡ token (opening kind) ∷ (leaves z ++ close)
  bracketed_leaves z = container_leaves kind (followed_by z bracket) ∙ ap (λ l. token (opening kind) ∷ l) (leaves-followed_by z bracket)

  inner_good : (z : OrderedTree) (f b : List Content) → Good o (f ++ (leaves_of (bracketed kind z) ++ b)) → Good o (token (opening kind) ∷ (leaves z ++ close))
  inner_good z f b g = good_as o (bracketed_leaves z) (good_first o (leaves_of (bracketed kind z)) b (good_second o f (leaves_of (bracketed kind z) ++ b) g))

  row_good : (z : OrderedTree) → Good o (token (opening kind) ∷ (leaves z ++ close)) → Good o (leaves z)
  row_good z g = good_first o (leaves z) close (good_second o (token (opening kind) ∷ []) (leaves z ++ close) g)

  bracketed_text : (z : OrderedTree) → Good o (token (opening kind) ∷ (leaves z ++ close)) → text_of_leaves (leaves_of (bracketed kind z)) ≡ places.opening k ∷ (text_of_leaves (leaves z) ++ (places.closing k ∷ []))
  bracketed_text z g =
      let first = good_first o (token (opening kind) ∷ []) (leaves z ++ close) g in
      ap text_of_leaves (bracketed_leaves z) ∙ text_joined (token (opening kind) ∷ []) (leaves z ++ close) first.utf8
      ∙ ap (λ l. l ++ text_of_leaves (leaves z ++ close)) (open_text kind)
      ∙ ap (λ l. places.opening k ∷ l) (text_joined (leaves z) close (row_good z g).utf8 ∙ ap (λ l. text_of_leaves (leaves z) ++ l) (close_text kind))

  whole_text : (z : OrderedTree) (y : List ℕ) → Good o (token (opening kind) ∷ (leaves z ++ close)) → y ≡ F ++ (text_of_leaves (leaves_of (bracketed kind z)) ++ B) → y ≡ with_row o kind F B (text_of_leaves (leaves z))
  whole_text z y g e = e ∙ ap (λ l. F ++ (l ++ B)) (bracketed_text z g) ∙ ap (λ l. F ++ (places.opening k ∷ l)) (append_assoc (text_of_leaves (leaves z)) (places.closing k ∷ []) B)

  old_good : Good o (token (opening kind) ∷ (leaves row ++ close))
  old_good = inner_good row (front_of d) (back_of d) (good_as o (document_parts d) (good_tree o s))

  new_good : Good o (token (opening kind) ∷ (leaves new ++ close))
  new_good = inner_good new (front_of (flip d)) (back_of (flip d)) (good_as o (document_parts (flip d)) (good_tree o r))

  old_text : printed_text t ≡ with_row o kind F B (text_of_leaves (leaves row))
  old_text = whole_text row (printed_text t) old_good (at_the_place o s d).0

  new_text : printed_text u ≡ with_row o kind F B (text_of_leaves (leaves new))
  new_text =
      whole_text new (printed_text u) new_good
      ((at_the_place o r (flip d)).0 ∙ ap (λ l. text_of_leaves l ++ (text_of_leaves (leaves_of (bracketed kind new)) ++ text_of_leaves (back_of (flip d)))) (front_same d) ∙ ap (λ l. F ++ (text_of_leaves (leaves_of (bracketed kind new)) ++ text_of_leaves l)) (back_same d))

  here_new : ValueHere o (bracketed kind new) B
  here_new = subst (λ l. ValueHere o (bracketed kind new) (text_of_leaves l)) (back_same d) (at_the_place o r (flip d)).2

  join_regroup : (a b : ℕ) (f l g n h z : List ℕ) → f ++ (a ∷ ((l ++ (g ++ (n ++ h))) ++ (b ∷ z))) ≡ (f ++ (a ∷ l)) ++ (g ++ (n ++ (h ++ (b ∷ z))))
  join_regroup a b f l g n h z = simp (append_assoc) refl

  kept_regroup : (a b : ℕ) (f l h z : List ℕ) → f ++ (a ∷ ((l ++ h) ++ (b ∷ z))) ≡ (f ++ (a ∷ l)) ++ (h ++ (b ∷ z))
  kept_regroup a b f l h z = simp (append_assoc) refl

  behind_regroup : (c g h z : List ℕ) (b : ℕ) → (c ++ (g ++ h)) ++ (b ∷ z) ≡ c ++ (g ++ (h ++ (b ∷ z)))
  behind_regroup c g h z b = simp (append_assoc) refl

  ready_regroup : (q g a h z : List ℕ) (b : ℕ) → (q ++ (g ++ (a ++ (h ++ (b ∷ []))))) ++ z ≡ q ++ (g ++ (a ++ (h ++ (b ∷ z))))
  ready_regroup q g a h z b = simp (append_assoc) refl

  first_regroup : (a h z : List ℕ) (b : ℕ) → (a ++ (h ++ (b ∷ []))) ++ z ≡ a ++ (h ++ (b ∷ z))
  first_regroup a h z b = simp (append_assoc) refl

  later_regroup : (f l g a b h k z y : List Content) (c : Content) → f ++ ((c ∷ ((l ++ (g ++ (a ++ (b ++ (h ++ k))))) ++ z)) ++ y) ≡ (f ++ (c ∷ (l ++ (g ++ (a ++ (b ++ h)))))) ++ (k ++ (z ++ y))
  later_regroup f l g a b h k z y c = simp (append_assoc) refl

  row_regroup : (l g a b h : List Content) → l ++ (g ++ (a ++ (b ++ h))) ≡ l ++ (g ++ ((a ++ b) ++ h))
  row_regroup l g a b h = simp (append_assoc) refl

  module _ (spreads : Spreading) (top : Top) (element : IsElement top.content) (front back led behind : OrderedTree) (gap : List Content) (c : CommaInserted front led) (taken : IsTrue (coming.takes_element (rows.last_behind rows.nothing_yet led))) (no_comma : IsTrue (not (leaving.comma_comes back))) {must : Bool} (g : Gap must gap) (must_is : must ≡ has_newline (followed_by front back)) (on : GoesOn o gap back behind) (stands : coming.Follows gap led back (element_count (followed_by front back))) (ends : coming.EndsRow behind (element_count (followed_by front back)))
      (kept_is : followed_by front back ≡ kept) (new_is : followed_by led (leaves_then gap (more top.content top.below behind)) ≡ new) (w x : Option Plain) where
    abbrev own : List Content
    own = leaves_of top

    abbrev tail : OrderedTree
    tail = more top.content top.below behind

    parts : leaves new ≡ leaves led ++ (gap ++ (own ++ leaves behind))
    parts =
        ap leaves (sym new_is) ∙ leaves-followed_by led (leaves_then gap tail) ∙ ap (λ l. leaves led ++ l) (front_leaves gap tail (gap_trivia g))
        ∙ row_regroup (leaves led) gap (own_leaf top.content) (leaves top.below) (leaves behind)

    g0 : Good o (leaves led ++ (gap ++ (own ++ leaves behind)))
    g0 = good_as o parts (row_good new new_good)

    g_led : Good o (leaves led)
    g_led = good_first o (leaves led) (gap ++ (own ++ leaves behind)) g0

    g1 : Good o (gap ++ (own ++ leaves behind))
    g1 = good_second o (leaves led) (gap ++ (own ++ leaves behind)) g0

    g2 : Good o (own ++ leaves behind)
    g2 = good_second o gap (own ++ leaves behind) g1

    g3 : Good o (leaves behind)
    g3 = good_second o own (leaves behind) g2

    row_text : text_of_leaves (leaves new) ≡ text_of_leaves (leaves led) ++ (text_of_leaves gap ++ (node_chars top ++ text_of_leaves (leaves behind)))
    row_text =
        ap text_of_leaves parts ∙ text_joined (leaves led) (gap ++ (own ++ leaves behind)) g_led.utf8
        ∙ ap (λ l. text_of_leaves (leaves led) ++ l) (text_joined gap (own ++ leaves behind) (good_first o gap (own ++ leaves behind) g1).utf8
        ∙ ap (λ l. text_of_leaves gap ++ l) (text_joined own (leaves behind) (good_first o own (leaves behind) g2).utf8 ∙ ap (λ l. l ++ text_of_leaves (leaves behind)) (sym (node_leaves o top))))

    on_text : text_of_leaves (leaves behind) ≡ (onward o comma_mark on).comma ++ (text_of_leaves (onward o comma_mark on).gap ++ text_of_leaves (leaves back))
    on_text =
        let n = onward o comma_mark on in
        let h = good_as o n.parts g3 in
        let h1 = good_second o n.leaf (n.gap ++ leaves back) h in
        ap text_of_leaves n.parts ∙ text_joined n.leaf (n.gap ++ leaves back) (good_first o n.leaf (n.gap ++ leaves back) h).utf8
        ∙ ap (λ l. l ++ text_of_leaves (n.gap ++ leaves back)) n.text ∙ ap (λ l. n.comma ++ l) (text_joined n.gap (leaves back) (good_first o n.gap (leaves back) h1).utf8)

    abbrev back_text : List ℕ
    back_text = text_of_leaves (leaves back) ++ (places.closing k ∷ B)

    whole_row : followed_by new bracket ≡ followed_by led (leaves_then gap (more top.content top.below (followed_by behind bracket)))
    whole_row = ap (λ z. followed_by z bracket) (sym new_is) ∙ followed_by-assoc led (leaves_then gap tail) bracket ∙ ap (followed_by led) (leaves_followed gap tail bracket)

    some_row : (ls : List Content) → leaves_then ls (more top.content top.below (followed_by behind bracket)) ≡ none → ⊥
    some_row [] e = cc
    some_row (l ∷ ls) e = cc

    -- what is behind it, with the last bracket
    abbrev BehindIt : Type 0
    BehindIt = Reads o k B (followed_by back bracket) × LinesEndLoosely true false (followed_by back bracket)

    behind_it : BehindIt
    behind_it =
        let all = row_reads o B kind here_new in
        let next : OrderedTree = more top.content top.below (followed_by behind bracket) in
        let r0 = subst (Reads o k B) whole_row all.0 in
        let l0 = subst (LinesEndLoosely true false) whole_row all.1 in
        let r1 = past_stretch o k B led (leaves_then gap next) (some_row gap) r0 in
        let r2 = past_some o k B gap next (λ e. cc) r1 in
        let r3 = behind_entry o k B top.content top.below (followed_by behind bracket) element r2 in
        let l3 = (lines_past gap next (lines_behind led (leaves_then gap next) l0)).2 in
        (onward o comma_mark on).rows B k (closing kind) r3 l3

    back_printed : printed_text (followed_by back bracket) ++ B ≡ back_text
    back_printed =
        let u = (good_second o (onward o comma_mark on).gap (leaves back) (good_second o (onward o comma_mark on).leaf ((onward o comma_mark on).gap ++ leaves back) (good_as o (onward o comma_mark on).parts g3))).utf8 in
        let text : text_of_leaves (leaves (followed_by back bracket)) ≡ text_of_leaves (leaves back) ++ (places.closing k ∷ []) =
        ap text_of_leaves (leaves-followed_by back bracket) ∙ text_joined (leaves back) close u ∙ ap (λ l. text_of_leaves (leaves back) ++ l) (close_text kind) in
        ap (λ l. l ++ B) text ∙ append_assoc (text_of_leaves (leaves back)) (places.closing k ∷ []) B

    lacks : IsTrue (not (leaving.comma_comes (followed_by back bracket)))
    lacks = bracket_follows back (closing kind) (no_comma_closes kind) no_comma

    not_next : NoCommaComes o back_text
    not_next = subst (NoCommaComes o) back_printed (none_comes o k B (followed_by back bracket) behind_it.0 behind_it.1 lacks)

    -- with no comma behind the entry a gap leads to the last bracket
    none_counted : (row : OrderedTree) → element_count row ≡ 0 → element_count (followed_by row bracket) ≡ 0
    none_counted row e = count_followed row bracket ∙ omega (arith, e)

    starts_line : {m : Bool} {gp : List Content} → Gap m gp → m ≡ true → AllUtf8 gp → entering.StartsLine (text_of_leaves gp)
    starts_line coming.nothing q u = cc
    starts_line coming.a_space q u = cc
    starts_line (coming.a_line {k = n} {s = y} i) q u = (text_of_leaves (newline n ∷ []), text_of_leaves (Content.whitespace y ∷ []), text_joined (newline n ∷ []) (Content.whitespace y ∷ []) (u.0, tt), line_end_text n)

    follows : (((onward o comma_mark on).comma ≡ 0x2C ∷ []) × ((texts_of back ≢ []) ⊎ entering.StartsLine (text_of_leaves gap))) ⊎ (((onward o comma_mark on).comma ≡ []) × (y : List ℕ) × text_gaps.Gap o back_text (places.closing k ∷ y))
    follows =
        elim (onward o comma_mark on).one [
          | inl e ↦ inl (e.0, elim e.1 [ inl n ↦ inl (λ none. n (as_many back ∙ ap (λ (l : List (List ℕ)). length l) none)) | inr b ↦ inr (starts_line b refl (good_first o gap (own ++ leaves behind) g1).utf8) ])
          | inr e ↦ inr (e.0, B, subst (λ y. text_gaps.Gap o y (places.closing k ∷ B)) back_printed (closing_gap o k B (followed_by back bracket) behind_it.0 behind_it.1 lacks (none_counted back e.1)))
        ]

    -- a gap leads to it from the bracket or a comma
    abbrev next_row : OrderedTree
    next_row = more top.content top.below (followed_by behind bracket)

    next_text : (rest : List ℕ) → rest ≡ text_of_leaves (leaves behind) ++ (places.closing k ∷ B) → (q : OrderedTree) → Good o (leaves q) → printed_text (followed_by q (leaves_then gap next_row)) ++ B ≡ text_of_leaves (leaves q) ++ (text_of_leaves gap ++ (node_chars top ++ rest))
    next_text rest e q g0q =
        let close_good = good_second o (leaves new) close (good_second o (token (opening kind) ∷ []) (leaves new ++ close) new_good) in
        let g_gap = good_first o gap (own ++ leaves behind) g1 in
        let g_own = good_first o own (leaves behind) g2 in
        let inner : leaves (followed_by q (leaves_then gap next_row)) ≡ leaves q ++ (gap ++ (own ++ (leaves behind ++ close))) =
        leaves-followed_by q (leaves_then gap next_row) ∙ ap (λ l. leaves q ++ l) (front_leaves gap next_row (gap_trivia g)
        ∙ ap (λ l. gap ++ l) (ap (λ l. own_leaf top.content ++ (leaves top.below ++ l)) (leaves-followed_by behind bracket) ∙ sym (append_assoc (own_leaf top.content) (leaves top.below) (leaves behind ++ close)))) in
        let text : text_of_leaves (leaves q ++ (gap ++ (own ++ (leaves behind ++ close)))) ≡ text_of_leaves (leaves q) ++ (text_of_leaves gap ++ (text_of_leaves own ++ (text_of_leaves (leaves behind) ++ text_of_leaves close))) =
        text_joined (leaves q) (gap ++ (own ++ (leaves behind ++ close))) g0q.utf8
        ∙ ap (λ l. text_of_leaves (leaves q) ++ l) (text_joined gap (own ++ (leaves behind ++ close)) g_gap.utf8
        ∙ ap (λ l. text_of_leaves gap ++ l) (text_joined own (leaves behind ++ close) g_own.utf8 ∙ ap (λ l. text_of_leaves own ++ l) (text_joined (leaves behind) close g3.utf8))) in
        ap (λ l. text_of_leaves l ++ B) inner ∙ ap (λ l. l ++ B) text
        ∙ ap (λ l. (text_of_leaves (leaves q) ++ (text_of_leaves gap ++ (text_of_leaves own ++ (text_of_leaves (leaves behind) ++ l)))) ++ B) (close_text kind)
        ∙ ready_regroup (text_of_leaves (leaves q)) (text_of_leaves gap) (text_of_leaves own) (text_of_leaves (leaves behind)) B (places.closing k)
        ∙ ap (λ l. text_of_leaves (leaves q) ++ (text_of_leaves gap ++ (l ++ (text_of_leaves (leaves behind) ++ (places.closing k ∷ B))))) (sym (node_leaves o top))
        ∙ ap (λ l. text_of_leaves (leaves q) ++ (text_of_leaves gap ++ (node_chars top ++ l))) (sym e)

    first_text : (rest : List ℕ) → rest ≡ text_of_leaves (leaves behind) ++ (places.closing k ∷ B) → printed_text next_row ++ B ≡ node_chars top ++ rest
    first_text rest e =
        let g_own = good_first o own (leaves behind) g2 in
        let inner : leaves next_row ≡ own ++ (leaves behind ++ close) = ap (λ l. own_leaf top.content ++ (leaves top.below ++ l)) (leaves-followed_by behind bracket) ∙ sym (append_assoc (own_leaf top.content) (leaves top.below) (leaves behind ++ close)) in
        ap (λ l. text_of_leaves l ++ B) inner
        ∙ ap (λ l. l ++ B) (text_joined own (leaves behind ++ close) g_own.utf8 ∙ ap (λ l. text_of_leaves own ++ l) (text_joined (leaves behind) close g3.utf8 ∙ ap (λ l. text_of_leaves (leaves behind) ++ l) (close_text kind)))
        ∙ first_regroup (text_of_leaves own) (text_of_leaves (leaves behind)) B (places.closing k) ∙ ap (λ l. l ++ (text_of_leaves (leaves behind) ++ (places.closing k ∷ B))) (sym (node_leaves o top)) ∙ ap (λ l. node_chars top ++ l) (sym e)

    -- what stands between the brackets, and behind
    abbrev inside : List ℕ
    inside = printed_text (followed_by new bracket) ++ B

    stands_in : Value path o (printed_text u) (places.opening k ∷ inside) B
    stands_in =
        let own : List ℕ = text_of_leaves (leaves_of (bracketed kind new)) in
        let here : Value path o (printed_text u) (own ++ B) B = subst (λ l. Value path o (printed_text u) (own ++ text_of_leaves l) (text_of_leaves l)) (back_same d) (at_the_place o r (flip d)).1 in
        subst (λ y. Value path o (printed_text u) y B) (ap (λ l. l ++ B) (opened kind (followed_by new bracket))) here

    inside_is : (rest : List ℕ) → rest ≡ text_of_leaves (leaves behind) ++ (places.closing k ∷ B) → inside ≡ text_of_leaves (leaves led) ++ (text_of_leaves gap ++ (node_chars top ++ rest))
    inside_is rest e = ap (λ y. printed_text y ++ B) whole_row ∙ next_text rest e led g_led

    -- entries and commas lead from the bracket to a comma of the row
    along_comma : (rest : List ℕ) → rest ≡ text_of_leaves (leaves behind) ++ (places.closing k ∷ B) → (first s2 : OrderedTree) → led ≡ followed_by first (token_then 0x2C s2) → Good o (leaves s2)
        → Along o k inside (0x2C ∷ (text_of_leaves (leaves s2) ++ (text_of_leaves gap ++ (node_chars top ++ rest))))
    along_comma rest e first s2 q h =
        let after : OrderedTree = leaves_then gap next_row in
        let target : OrderedTree = token_then 0x2C (followed_by s2 after) in
        let row_is : followed_by new bracket ≡ followed_by first target = whole_row ∙ ap (λ y. followed_by y after) q ∙ followed_by-assoc first (token_then 0x2C s2) after in
        let all = row_reads o B kind here_new in
        let along = along_row o k B target tt (λ y. cc) first (subst (Reads o k B) row_is all.0) (subst (LinesEndLoosely true false) row_is all.1) in
        let to : printed_text target ++ B ≡ 0x2C ∷ (text_of_leaves (leaves s2) ++ (text_of_leaves gap ++ (node_chars top ++ rest))) =
        ap (λ y. y ++ B) (mark_text comma_mark (followed_by s2 after)) ∙ ap (λ l. 0x2C ∷ l) (next_text rest e s2 h) in
        subst (λ y. Along o k y (0x2C ∷ (text_of_leaves (leaves s2) ++ (text_of_leaves gap ++ (node_chars top ++ rest))))) (ap (λ y. printed_text y ++ B) (sym row_is)) (subst (Along o k (printed_text (followed_by first target) ++ B)) to along)

    abbrev StartsLine : Type 0
    StartsLine = (line q : List ℕ) × (text_of_leaves gap ≡ line ++ q) × documents.IsLineEnd line

    -- on its line stands nothing that stood there on another
    started : {m : Bool} {gp : List Content} → Gap m gp → (q : OrderedTree) → Good o (leaves q) → AreLeaves o k B gap (gap_trivia g) top.content top.below (followed_by behind bracket) q → (m ≡ false → has_newline q ≡ false) → AllUtf8 gp
        → documents.InLine (text_of_leaves (leaves q)) ⊎ ((line y : List ℕ) × (text_of_leaves gp ≡ line ++ y) × documents.IsLineEnd line)
    started coming.nothing q h a f u = inl (beside_text o (leaves q) (on_one_line o k B gap (gap_trivia g) top.content top.below (followed_by behind bracket) q a (f refl)) h.pieces)
    started coming.a_space q h a f u = inl (beside_text o (leaves q) (on_one_line o k B gap (gap_trivia g) top.content top.below (followed_by behind bracket) q a (f refl)) h.pieces)
    started (coming.a_line {k = n} {s = y} i) q h a f u = inr (text_of_leaves (newline n ∷ []), text_of_leaves (Content.whitespace y ∷ []), text_joined (newline n ∷ []) (Content.whitespace y ∷ []) (u.0, tt), line_end_text n)

    no_line_led : must ≡ false → has_newline led ≡ false
    no_line_led e = led_lacks c (both_lack front back (sym must_is ∙ e)).0

    abbrev Reaches : List ℕ → List ℕ → Type 0
    Reaches lead rest = (y z : List ℕ) × (b : Bool) × (lead ≡ y ++ z) × Begins o k inside b (z ++ (text_of_leaves gap ++ (node_chars top ++ rest)))
        × text_gaps.Gap o (z ++ (text_of_leaves gap ++ (node_chars top ++ rest))) (node_chars top ++ rest) × (documents.InLine z ⊎ StartsLine)

    reaches : (rest : List ℕ) → rest ≡ text_of_leaves (leaves behind) ++ (places.closing k ∷ B) → Reaches (F ++ (places.opening k ∷ text_of_leaves (leaves led))) rest
    reaches rest e =
        let all = row_reads o B kind here_new in
        let r0 = subst (Reads o k B) whole_row all.0 in
        let l0 = subst (LinesEndLoosely true false) whole_row all.1 in
        by (ended o k B gap (gap_trivia g) top.content top.below (followed_by behind bracket) led rows.nothing_yet r0 taken) l0
      where
        by : Ended o k B gap (gap_trivia g) top.content top.below (followed_by behind bracket) rows.nothing_yet led → LinesEndLoosely true false (followed_by led (leaves_then gap next_row)) → Reaches (F ++ (places.opening k ∷ text_of_leaves (leaves led))) rest
        by (all_trivia h f a) l0 =
            (F ++ (places.opening k ∷ []), text_of_leaves (leaves led), false, sym (append_assoc F (places.opening k ∷ []) (text_of_leaves (leaves led))), subst (Begins o k inside false) (inside_is rest e) entering.at_bracket, subst (λ y. text_gaps.Gap o y (node_chars top ++ rest)) (next_text rest e led g_led) (subst (text_gaps.Gap o (printed_text (followed_by led (leaves_then gap next_row)) ++ B)) (first_text rest e) (trivia_gap o B true false (λ w. cc) (element_stops top.content top.below (followed_by behind bracket) element) f l0).0), started g led g_led a no_line_led (good_first o gap (own ++ leaves behind) g1).utf8)
        by (behind_one s1 s2 q f a) l0 =
            let parts2 : leaves led ≡ leaves s1 ++ (token 0x2C ∷ leaves s2) = ap leaves q ∙ leaves-followed_by s1 (token_then 0x2C s2) in
            let h0 = good_as o parts2 g_led in
            let h1 = good_second o (leaves s1) (token 0x2C ∷ leaves s2) h0 in
            let h2 = good_second o (token 0x2C ∷ []) (leaves s2) h1 in
            let text : text_of_leaves (leaves led) ≡ text_of_leaves (leaves s1) ++ (0x2C ∷ text_of_leaves (leaves s2)) =
            ap text_of_leaves parts2 ∙ text_joined (leaves s1) (token 0x2C ∷ leaves s2) (good_first o (leaves s1) (token 0x2C ∷ leaves s2) h0).utf8
            ∙ ap (λ l. text_of_leaves (leaves s1) ++ l) (text_joined (token 0x2C ∷ []) (leaves s2) (good_first o (token 0x2C ∷ []) (leaves s2) h1).utf8 ∙ ap (λ l. l ++ text_of_leaves (leaves s2)) (one_token comma_mark)) in
            let rows_is : followed_by led (leaves_then gap next_row) ≡ followed_by s1 (token_then 0x2C (followed_by s2 (leaves_then gap next_row))) = ap (λ y. followed_by y (leaves_then gap next_row)) q ∙ followed_by-assoc s1 (token_then 0x2C s2) (leaves_then gap next_row) in
            let l1 = (lines_behind s1 (token_then 0x2C (followed_by s2 (leaves_then gap next_row))) (subst (LinesEndLoosely true false) rows_is l0)).2 in (
              (F ++ (places.opening k ∷ text_of_leaves (leaves s1))) ++ (0x2C ∷ []),
              text_of_leaves (leaves s2),
              true,
              ap (λ l. F ++ (places.opening k ∷ l)) text ∙ sym (append_assoc F (places.opening k ∷ text_of_leaves (leaves s1)) (0x2C ∷ text_of_leaves (leaves s2)))
                  ∙ sym (append_assoc (F ++ (places.opening k ∷ text_of_leaves (leaves s1))) (0x2C ∷ []) (text_of_leaves (leaves s2))),
              entering.at_comma (along_comma rest e s1 s2 q h2),
              subst (λ y. text_gaps.Gap o y (node_chars top ++ rest)) (next_text rest e s2 h2) (subst (text_gaps.Gap o (printed_text (followed_by s2 (leaves_then gap next_row)) ++ B)) (first_text rest e) (trivia_gap o B true false (λ w. cc) (element_stops top.content top.below (followed_by behind bracket) element) f l1).0),
              started g s2 (good_second o (token 0x2C ∷ []) (leaves s2) h1) a (λ e2. (both_lack s1 (token_then 0x2C s2) (ap has_newline (sym q) ∙ no_line_led e2)).1) (good_first o gap (own ++ leaves behind) g1).utf8,
            )

    -- and from the last comma of the front, past comments beside it
    gap_from : (before : OrderedTree) (beside : List Content) → AreTrivia beside → led ≡ followed_by before (leaves_then beside none) → Good o beside → (rest : List ℕ) → rest ≡ text_of_leaves (leaves behind) ++ (places.closing k ∷ B)
        → text_gaps.Gap o (text_of_leaves beside ++ (text_of_leaves gap ++ (node_chars top ++ rest))) (node_chars top ++ rest)
    gap_from before beside are is good rest e =
        let all = row_reads o B kind here_new in
        let after : OrderedTree = leaves_then gap next_row in
        let joined : leaves_then (beside ++ gap) next_row ≡ leaves_then beside after = leaves_then_joined beside gap next_row in
        let row_is : followed_by new bracket ≡ followed_by before (leaves_then (beside ++ gap) next_row) =
        whole_row ∙ ap (λ z. followed_by z after) is ∙ followed_by-assoc before (leaves_then beside none) after ∙ ap (followed_by before) (leaves_followed beside none after ∙ sym joined) in
        let r0 = subst (Reads o k B) row_is all.0 in
        let l0 = subst (LinesEndLoosely true false) row_is all.1 in
        let r1 = past_stretch o k B before (leaves_then (beside ++ gap) next_row) (some_row (beside ++ gap)) r0 in
        let l1 = lines_behind before (leaves_then (beside ++ gap) next_row) l0 in
        let f = trivia_leaves o k B gap (gap_trivia g) top.content top.below (followed_by behind bracket) (beside ++ gap) (joined_trivia beside gap are (gap_trivia g)) r1 in
        let leaves_are : leaves (leaves_then beside none) ≡ beside = none_behind beside are in
        let text : printed_text (leaves_then (beside ++ gap) next_row) ++ B ≡ text_of_leaves beside ++ (text_of_leaves gap ++ (node_chars top ++ rest)) =
        ap (λ z. printed_text z ++ B) (joined ∙ sym (leaves_followed beside none after)) ∙ next_text rest e (leaves_then beside none) (good_as o (sym leaves_are) good)
        ∙ ap (λ l. text_of_leaves l ++ (text_of_leaves gap ++ (node_chars top ++ rest))) leaves_are in
        subst (λ y. text_gaps.Gap o y (node_chars top ++ rest)) text
        (subst (text_gaps.Gap o (printed_text (leaves_then (beside ++ gap) next_row) ++ B)) (first_text rest e) (trivia_gap o B true false (λ w. cc) (element_stops top.content top.below (followed_by behind bracket) element) f l1).0)

    gap_here : (rest : List ℕ) → rest ≡ text_of_leaves (leaves behind) ++ (places.closing k ∷ B) → text_gaps.Gap o (text_of_leaves gap ++ (node_chars top ++ rest)) (node_chars top ++ rest)
    gap_here rest e =
        subst (λ y. text_gaps.Gap o (y ++ (text_of_leaves gap ++ (node_chars top ++ rest))) (node_chars top ++ rest)) chars-nil
        (gap_from led [] tt (sym (followed_by-none led)) (good_first o [] (leaves led) g_led) rest e)

    -- the line that the row goes on with ends
    g_back : Good o (leaves back)
    g_back =
        let n = onward o comma_mark on in
        good_second o n.gap (leaves back) (good_second o n.leaf (n.gap ++ leaves back) (good_as o n.parts g3))

    line_ends : (rest : OrderedTree) (spaces : List Content) (kind_of_end : CstNewlineKind) → AreInlineTrivia spaces → AreBlanks spaces → back ≡ leaves_then spaces (more (newline kind_of_end) none rest) → entering.EndsLine back_text
    line_ends rest spaces n inline blank is =
        let line : List Content = newline n ∷ [] in
        let last : List ℕ = places.closing k ∷ B in
        let parts2 : leaves back ≡ spaces ++ (line ++ leaves rest) = ap leaves is ∙ front_leaves spaces (more (newline n) none rest) (blanks_trivia spaces blank) in
        let h = good_as o parts2 g_back in
        let spaces_good = good_first o spaces (line ++ leaves rest) h in
        let h1 = good_second o spaces (line ++ leaves rest) h in
        let text : text_of_leaves (leaves back) ≡ text_of_leaves spaces ++ (text_of_leaves line ++ text_of_leaves (leaves rest)) =
        ap text_of_leaves parts2 ∙ text_joined spaces (line ++ leaves rest) spaces_good.utf8 ∙ ap (λ l. text_of_leaves spaces ++ l) (text_joined line (leaves rest) (good_first o line (leaves rest) h1).utf8) in (
          text_of_leaves spaces,
          text_of_leaves line ++ (text_of_leaves (leaves rest) ++ last),
          ap (λ l. l ++ last) text ∙ append_assoc (text_of_leaves spaces) (text_of_leaves line ++ text_of_leaves (leaves rest)) last ∙ ap (λ l. text_of_leaves spaces ++ l) (append_assoc (text_of_leaves line) (text_of_leaves (leaves rest)) last),
          blanks_text o spaces blank spaces_good.pieces,
          beside_text o spaces inline spaces_good.pieces,
          (text_of_leaves line, text_of_leaves (leaves rest) ++ last, refl, line_end_text n),
        )

    -- where no line ends behind the comma in the row, none does in the text
    back_row : (l : rows.Last) × RowAlone o kind l (followed_by back bracket)
    back_row =
        let whole = subst (RowAlone o kind rows.nothing_yet) whole_row (container_row o kind here_new.shaped) in
        by on (parted_at o kind led gap top [] (followed_by behind bracket) (gap_trivia g) tt element whole).behind
      where
        past : {l : rows.Last} {must2 : Bool} (gp : List Content) → Gap must2 gp → RowAlone o kind l (followed_by (leaves_then gp back) bracket) → (l2 : rows.Last) × RowAlone o kind l2 (followed_by back bracket)
        past {l} gp gg h = (l, row_parts.past_leaves o kind gp (gap_trivia gg) (subst (RowAlone o kind l) (leaves_followed gp back bracket) h))

        by : {b : OrderedTree} → GoesOn o gap back b → RowAlone o kind rows.an_element (followed_by b bracket) → (l : rows.Last) × RowAlone o kind l (followed_by back bracket)
        by (coming.elements_follow gp gg n) h = past gp gg (at_comma o kind h).1
        by (coming.none_follow gp gg n) h = past gp gg h
        by (coming.comma_last t gg n) h = (rows.a_comma, (at_comma o kind h).1)

    no_line : line_comes back ≡ false → entering.LineEnds back_text → ⊥
    no_line e w =
        let n = onward o comma_mark on in
        let z : List Content = back_of (flip d) in
        let later : List Content = leaves back ++ (close ++ z) in
        let ahead : List Content = front_of (flip d) ++ (token (opening kind) ∷ (leaves led ++ (gap ++ (own ++ (n.leaf ++ n.gap))))) in
        let whole : leaves u ≡ ahead ++ later =
        document_parts (flip d) ∙ ap (λ l. front_of (flip d) ++ (l ++ z)) (bracketed_leaves new ∙ ap (λ l. token (opening kind) ∷ (l ++ close)) (parts ∙ ap (λ l. leaves led ++ (gap ++ (own ++ l))) n.parts))
        ∙ later_regroup (front_of (flip d)) (leaves led) gap own n.leaf n.gap (leaves back) close z (token (opening kind)) in
        let good : Good o later = good_second o ahead later (good_as o whole (good_tree o r)) in
        let flat : LinesFlat later = flat_behind ahead later (subst LinesFlat whole (document_flat o (document_alone o r.shaped) r.lines)) in
        let same : leaves (followed_by back bracket) ++ z ≡ later = ap (λ l. l ++ z) (leaves-followed_by back bracket) ∙ append_assoc (leaves back) close z in
        let first : line_first later ≡ false = ap line_first (sym same) ∙ row_line o back_row.1 z ∙ line_to_bracket back (closing kind) ∙ e in
        let far : stops later ≡ true = ap stops (sym same) ∙ row_stops o back_row.1 z in
        let text : text_of_leaves later ≡ back_text =
        text_joined (leaves back) (close ++ z) (good_first o (leaves back) (close ++ z) good).utf8
        ∙ ap (λ l. text_of_leaves (leaves back) ++ l) (text_joined close z (good_first o close z (good_second o (leaves back) (close ++ z) good)).utf8 ∙ ap (λ l. l ++ text_of_leaves z) (close_text kind) ∙ ap (λ l. places.closing k ∷ text_of_leaves l) (back_same d)) in
        no_line_ends o later first far flat good (subst entering.LineEnds (sym text) w)

    abbrev Alone : Type 0
    Alone = texts_of front ++ texts_of back ≡ []

    abbrev Ready : List ℕ → List ℕ → Type 0
    Ready lead rest = (y z : List ℕ) × (b : Bool) × (lead ≡ y ++ z) × Begins o k inside b (z ++ (text_of_leaves gap ++ (node_chars top ++ rest)))
        × text_gaps.Gap o (z ++ (text_of_leaves gap ++ (node_chars top ++ rest))) (node_chars top ++ rest)
        × (((z ≡ []) × (b ≡ true → entering.LineEnds back_text → ⊥)) ⊎ (((b ≡ true) × documents.InLine z × entering.StartsLine (text_of_leaves gap) × entering.EndsLine back_text) ⊎ (Alone × (documents.InLine z ⊎ StartsLine))))

    -- the text through a comma, and beside it
    comma_text : (first : OrderedTree) (beside : List Content) → AreTrivia beside → led ≡ followed_by first (token_then 0x2C (leaves_then beside none))
        → Good o beside × (F ++ (places.opening k ∷ text_of_leaves (leaves led)) ≡ (F ++ (places.opening k ∷ text_of_leaves (leaves first))) ++ 0x2C ∷ text_of_leaves beside)
    comma_text first beside are q =
        let parts2 : leaves led ≡ leaves first ++ (token 0x2C ∷ beside) = ap leaves q ∙ leaves-followed_by first (token_then 0x2C (leaves_then beside none)) ∙ ap (λ l. leaves first ++ (token 0x2C ∷ l)) (none_behind beside are) in
        let h0 = good_as o parts2 g_led in
        let h1 = good_second o (leaves first) (token 0x2C ∷ beside) h0 in
        let text : text_of_leaves (leaves led) ≡ text_of_leaves (leaves first) ++ (0x2C ∷ text_of_leaves beside) =
        ap text_of_leaves parts2 ∙ text_joined (leaves first) (token 0x2C ∷ beside) (good_first o (leaves first) (token 0x2C ∷ beside) h0).utf8
        ∙ ap (λ l. text_of_leaves (leaves first) ++ l) (text_joined (token 0x2C ∷ []) beside (good_first o (token 0x2C ∷ []) beside h1).utf8 ∙ ap (λ l. l ++ text_of_leaves beside) (one_token comma_mark)) in
        (good_second o (token 0x2C ∷ []) beside h1, ap (λ l. F ++ (places.opening k ∷ l)) text ∙ sym (append_assoc F (places.opening k ∷ text_of_leaves (leaves first)) (0x2C ∷ text_of_leaves beside)))

    ready : (rest : List ℕ) → rest ≡ text_of_leaves (leaves behind) ++ (places.closing k ∷ B) → Ready (F ++ (places.opening k ∷ text_of_leaves (leaves led))) rest
    ready rest e = by stands
      where
        by : coming.Follows gap led back (element_count (followed_by front back)) → Ready (F ++ (places.opening k ∷ text_of_leaves (leaves led))) rest
        by (coming.behind_bracket q) =
            let empty : text_of_leaves (leaves led) ≡ [] = ap (λ z. text_of_leaves (leaves z)) q ∙ chars-nil in (
              F ++ (places.opening k ∷ []),
              [],
              false,
              ap (λ l. F ++ (places.opening k ∷ l)) empty ∙ sym (append-nil (F ++ (places.opening k ∷ []))),
              subst (Begins o k inside false) (inside_is rest e ∙ ap (λ l. l ++ (text_of_leaves gap ++ (node_chars top ++ rest))) empty) entering.at_bracket,
              gap_here rest e,
              inl (refl, λ w. absurd (false≢true w)),
            )
        by (coming.behind_comma first q l) =
            let t = comma_text first [] tt q in
            let through : List ℕ = (F ++ (places.opening k ∷ text_of_leaves (leaves first))) ++ (0x2C ∷ []) in (
              through,
              [],
              true,
              t.1 ∙ ap (λ l. (F ++ (places.opening k ∷ text_of_leaves (leaves first))) ++ 0x2C ∷ l) chars-nil ∙ sym (append-nil through),
              entering.at_comma (subst (λ l. Along o k inside (0x2C ∷ (l ++ (text_of_leaves gap ++ (node_chars top ++ rest))))) chars-nil (along_comma rest e first none q (good_first o [] (leaves led) g_led))),
              gap_here rest e,
              inl (refl, λ w. no_line l),
            )
        by (coming.behind_comments b first after beside spaces n inline in_spaces blank q is) =
            let are = beside_trivia beside inline in
            let t = comma_text first beside are q in
            let through : OrderedTree = followed_by first (token_then 0x2C none) in
            let led_is : led ≡ followed_by through (leaves_then beside none) = q ∙ sym (followed_by-assoc first (token_then 0x2C none) (leaves_then beside none)) in (
              (F ++ (places.opening k ∷ text_of_leaves (leaves first))) ++ (0x2C ∷ []),
              text_of_leaves beside,
              true,
              t.1 ∙ sym (append_assoc (F ++ (places.opening k ∷ text_of_leaves (leaves first))) (0x2C ∷ []) (text_of_leaves beside)),
              entering.at_comma (subst (λ l. Along o k inside (0x2C ∷ (text_of_leaves l ++ (text_of_leaves gap ++ (node_chars top ++ rest))))) (none_behind beside are) (along_comma rest e first (leaves_then beside none) q (good_as o (sym (none_behind beside are)) t.0))),
              gap_from through beside are led_is t.0 rest e,
              inr (inl (refl, beside_text o beside inline t.0.pieces, starts_line b refl (good_first o gap (own ++ leaves behind) g1).utf8, line_ends after spaces n in_spaces blank is)),
            )
        by (coming.no_others n) =
            let y = reaches rest e in
            let none_there : Alone = sym (texts_followed front back) ∙ no_length (texts_of (followed_by front back)) (sym (as_many (followed_by front back)) ∙ n) in
            (y.0, y.1, y.2, y.3, y.4, y.5, inr (inr (none_there, y.6)))

    -- blanks alone stand behind the only entry
    ends_alone : (rest : List ℕ) → rest ≡ text_of_leaves (leaves behind) ++ (places.closing k ∷ B) → Alone → (z y : List ℕ) × documents.AreBlanks z × (rest ≡ z ++ places.closing k ∷ y)
    ends_alone rest e none_there =
        let counted : element_count (followed_by front back) ≡ 0 = as_many (followed_by front back) ∙ ap (λ (l : List (List ℕ)). length l) (texts_followed front back ∙ none_there) in
        let a = ends counted in
        let is : leaves behind ≡ a.0 = ap leaves a.2 ∙ none_behind a.0 (blanks_trivia a.0 a.1) in (
          text_of_leaves a.0,
          B,
          blanks_text o a.0 a.1 (good_as o is g3).pieces,
          e ∙ ap (λ l. text_of_leaves l ++ (places.closing k ∷ B)) is,
        )

    -- the entry that a comma has come behind
    comma_entry : (rest : List ℕ) → rest ≡ text_of_leaves (leaves behind) ++ (places.closing k ∷ B) → EntriesOf o kind F B led (text_of_leaves gap ++ (node_chars top ++ rest))
    comma_entry rest e f last beside is h trivia =
        let r : List ℕ = text_of_leaves gap ++ (node_chars top ++ rest) in
        let entry : List ℕ = text_of_leaves (leaves_of last) in
        let q : OrderedTree = token_then 0x2C (leaves_then beside none) in
        let w : OrderedTree = more last.content last.below q in
        let after : OrderedTree = leaves_then gap next_row in
        let r0 = subst (Reads o k B) whole_row (row_reads o B kind here_new).0 in
        let r1 : Reads o k B (followed_by f (followed_by w after)) = subst (Reads o k B) (ap (λ y. followed_by y after) is ∙ followed_by-assoc f w after) r0 in
        let own = entry_read o k B last.content last.below (followed_by q after) h (reads_on o k B f last.content last.below (followed_by q after) r1) in
        let g_w : Good o (leaves w) = good_second o (leaves f) (leaves w) (good_as o (ap leaves is ∙ leaves-followed_by f w) g_led) in
        let w_parts : leaves w ≡ leaves_of last ++ leaves q = sym (append_assoc (own_leaf last.content) (leaves last.below) (leaves q)) in
        let g_parts : Good o (leaves_of last ++ leaves q) = good_as o w_parts g_w in
        let g_q : Good o (leaves q) = good_second o (leaves_of last) (leaves q) g_parts in
        let q_leaves : leaves q ≡ token 0x2C ∷ beside = ap (λ l. token 0x2C ∷ l) (none_behind beside trivia) in
        let q_text : text_of_leaves (leaves q) ≡ 0x2C ∷ text_of_leaves beside =
        ap text_of_leaves q_leaves ∙ text_joined (token 0x2C ∷ []) beside (good_first o (token 0x2C ∷ []) beside (good_as o q_leaves g_q)).utf8 ∙ ap (λ l. l ++ text_of_leaves beside) (one_token comma_mark) in
        let w_text : text_of_leaves (leaves w) ≡ entry ++ (0x2C ∷ text_of_leaves beside) =
        ap text_of_leaves w_parts ∙ text_joined (leaves_of last) (leaves q) (good_first o (leaves_of last) (leaves q) g_parts).utf8 ∙ ap (λ l. entry ++ l) q_text in
        let from : printed_text (followed_by w after) ++ B ≡ entry ++ (0x2C ∷ (text_of_leaves beside ++ r)) = next_text rest e w g_w ∙ ap (λ l. l ++ r) w_text ∙ append_assoc entry (0x2C ∷ text_of_leaves beside) r in
        let to : printed_text (followed_by q after) ++ B ≡ 0x2C ∷ (text_of_leaves beside ++ r) = next_text rest e q g_q ∙ ap (λ l. l ++ r) q_text in
        subst (λ y. places.IsEntry o k y (0x2C ∷ (text_of_leaves beside ++ r))) from (subst (places.IsEntry o k (printed_text (followed_by w after) ++ B)) to own)

    kept_text : Good o (leaves kept) → with_row o kind F B (text_of_leaves (leaves kept)) ≡ (F ++ (places.opening k ∷ text_of_leaves (leaves front))) ++ back_text
    kept_text h =
        let split : leaves kept ≡ leaves front ++ leaves back = ap leaves (sym kept_is) ∙ leaves-followed_by front back in
        let u = (good_first o (leaves front) (leaves back) (good_as o split h)).utf8 in
        ap (with_row o kind F B) (ap text_of_leaves split ∙ text_joined (leaves front) (leaves back) u) ∙ kept_regroup (places.opening k) (places.closing k) F (text_of_leaves (leaves front)) (text_of_leaves (leaves back)) B

    pub joins_so : (rest : List ℕ) → rest ≡ text_of_leaves (leaves behind) ++ (places.closing k ∷ B) → Joins k path (texts_of front) (texts_of back) (node_chars top) rest (document_of o t w) (document_of o u x)
    joins_so rest e =
        let m = spreads w (row_good row old_good) in
        let l = lines_trimmed o kind F B leave m.0 in
        let y = ready rest e in
        let n = onward o comma_mark on in (
          with_row o kind F B (text_of_leaves (leaves middle)),
          l.shorter,
          F ++ (places.opening k ∷ text_of_leaves (leaves front)),
          F ++ (places.opening k ∷ text_of_leaves (leaves led)),
          text_of_leaves gap,
          n.comma,
          text_of_leaves n.gap,
          back_text,
          spreads_so k path (document_of o t w) (with_row o kind F B (text_of_leaves (leaves middle))) (subst (λ y. SpreadsFrom k path (document_of o t w) y (with_row o kind F B (text_of_leaves (leaves middle)))) (sym old_text) m.1),
          l.last,
          subst (entering.Trims k l.shorter) (kept_text l.good) l.first,
          led_so o kind F B comma_mark (text_of_leaves gap ++ (node_chars top ++ rest)) (comma_entry rest e) c g_led,
          spacing_text g (good_first o gap (own ++ leaves behind) g1).utf8,
          follows,
          spacing_text n.spaced (good_first o n.gap (leaves back) (good_second o n.leaf (n.gap ++ leaves back) (good_as o n.parts g3))).utf8,
          not_next,
          new_text ∙ ap (with_row o kind F B) row_text ∙ join_regroup (places.opening k) (places.closing k) F (text_of_leaves (leaves led)) (text_of_leaves gap) (node_chars top) (text_of_leaves (leaves behind)) B
              ∙ ap (λ y. (F ++ (places.opening k ∷ text_of_leaves (leaves led))) ++ (text_of_leaves gap ++ (node_chars top ++ y))) (sym e),
          e ∙ ap (λ y. y ++ (places.closing k ∷ B)) on_text ∙ behind_regroup n.comma (text_of_leaves n.gap) (text_of_leaves (leaves back)) B (places.closing k),
          y.0,
          y.1,
          inside,
          B,
          y.2,
          y.3,
          stands_in,
          y.4,
          y.5,
          y.6,
          ends_alone rest e,
        )

    pub rest_is : (b : List Content) → b ≡ back_of d → text_of_leaves ((leaves behind ++ leaves bracket) ++ b) ≡ text_of_leaves (leaves behind) ++ (places.closing k ∷ B)
    rest_is b e =
        let whole : Good o (leaves_of (bracketed kind new) ++ back_of (flip d)) = good_second o (front_of (flip d)) (leaves_of (bracketed kind new) ++ back_of (flip d)) (good_as o (document_parts (flip d)) (good_tree o r)) in
        let closing_good = good_second o (leaves new) close (good_second o (token (opening kind) ∷ []) (leaves new ++ close) new_good) in
        let both : AllUtf8 (leaves behind ++ close) = utf8_joined (leaves behind) close g3.utf8 closing_good.utf8 in
        ap (λ l. text_of_leaves ((leaves behind ++ close) ++ l)) e ∙ text_joined (leaves behind ++ close) (back_of d) both
        ∙ ap (λ l. l ++ B) (text_joined (leaves behind) close g3.utf8 ∙ ap (λ l. text_of_leaves (leaves behind) ++ l) (close_text kind)) ∙ append_assoc (text_of_leaves (leaves behind)) (places.closing k ∷ []) B

module _ (o : Options) (kind : RowKind) (row kept new : OrderedTree) {path : List ℕ} {t u : OrderedTree} (s : SoundTree o t) (r : SoundTree o u) (d : DocumentChanged (bracketed kind row) (bracketed kind new) path t u)
    (w x : Option Plain) (same_texts : texts_of row ≡ texts_of kept) (same_marks : marks kept ≡ marks row) {top : Top} (element : IsElement top.content) (come : List Mark) (is : marks_in (leaves_of top) ≡ come)
    (Is : List ℕ → Type 0) (laid_so : Pieces o (leaves_of top) → AllUtf8 (leaves_of top) → Is (text_of_leaves (leaves_of top)))
    (middle : OrderedTree) (leave : BlankLinesLeave middle kept) (spreads : Spreading o kind row middle kept new s r d leave) where
  pub text_comes : {n : ℕ} → ElementInserted o top n kept new → TextComes kind path n Is come (document_of o t w) (document_of o u x)
  text_comes c = by c refl refl
    where
      by : {n : ℕ} {k now : OrderedTree} → ElementInserted o top n k now → k ≡ kept → now ≡ new → TextComes kind path n Is come (document_of o t w) (document_of o u x)
      by (coming.comes front back led behind gap c taken no_comma g on stands ends) e f =
          let bracket : OrderedTree = token_then (closing kind) none in
          let around : DocumentChanged (bracketed kind new) (bracketed kind row) path u t = flip d in
          let tail : OrderedTree = more top.content top.below behind in
          let trivia : AreTrivia gap = gap_trivia g in
          let now : OrderedTree = followed_by led (leaves_then gap tail) in
          let own : List Content = leaves_of top in
          let rest : List Content = leaves behind ++ leaves bracket in
          let back_leaves : List Content = rest ++ back_of around in
          let all_row : leaves now ≡ (leaves led ++ gap) ++ (own ++ leaves behind) =
          leaves-followed_by led (leaves_then gap tail) ∙ ap (λ l. leaves led ++ l) (front_leaves gap tail trivia) ∙ regroup_row (leaves led) gap (own_leaf top.content) (leaves top.below) (leaves behind) in
          let ahead : List Content = front_of around ++ token (opening kind) ∷ (leaves led ++ gap) in
          let whole : leaves u ≡ ahead ++ (own ++ back_leaves) =
          document_parts around ∙ ap (λ l. front_of around ++ (l ++ back_of around)) (container_leaves kind (followed_by new bracket) ∙ ap (λ l. token (opening kind) ∷ l) (leaves-followed_by new bracket ∙ ap (λ l. leaves l ++ leaves bracket) (sym f) ∙ ap (λ l. l ++ leaves bracket) all_row))
          ∙ regroup (front_of around) (leaves led ++ gap) own (leaves behind) (leaves bracket) (back_of around) (token (opening kind)) in
          let reach : (y : Top) → IsElement y.content → Reached top y (element_count led + 0) (followed_by now bracket) rest = λ y q. reached_with bracket (past_row led (past_leaves gap trivia (at_first behind element q))) in
          let reach_new : (y : Top) → IsElement y.content → Reached top y (element_count led + 0) (followed_by new bracket) rest = λ y q. subst (λ z. Reached top y (element_count led + 0) (followed_by z bracket) rest) f (reach y q) in
          let number : element_count led + 0 ≡ length (texts_of front) = none_more (element_count led) ∙ as_many led ∙ ap (λ (l : List (List ℕ)). length l) (comma_comes c) in
          let u0 = subst AllUtf8 whole (document_utf8 o r.shaped) in
          let u1 = utf8_second ahead (own ++ back_leaves) u0 in
          let u2 = utf8_second own back_leaves u1 in
          let rest_text : text_of_leaves back_leaves ≡ text_of_leaves rest ++ text_of_leaves (back_of around) = text_joined rest (back_of around) (utf8_first rest (back_of around) u2) in
          let own_text : text_of_leaves own ≡ node_chars top = sym (node_leaves o top) in
          let own_pieces : Pieces o own = pieces_first o own back_leaves (pieces_second o ahead (own ++ back_leaves) (subst (Pieces o) whole (document_pieces o (document_alone o r.shaped)))) in
          let entry = subst (λ b. Entry (path ++ length (texts_of front) ∷ []) o (printed_text u) (node_chars top ++ b) b) (sym rest_text)
          (subst (λ l. Entry (path ++ length (texts_of front) ∷ []) o (printed_text u) (l ++ (text_of_leaves rest ++ text_of_leaves (back_of around))) (text_of_leaves rest ++ text_of_leaves (back_of around))) own_text
          (subst (λ k. Entry (path ++ k ∷ []) o (printed_text u) (text_of_leaves own ++ (text_of_leaves rest ++ text_of_leaves (back_of around))) (text_of_leaves rest ++ text_of_leaves (back_of around))) number (entry_there o kind r around reach_new))) in
          let new_parted = parted o r x ahead own back_leaves whole (entry_begins o kind r around reach_new back_leaves) (text_joined own back_leaves (utf8_first own back_leaves u1) ∙ ap (λ l. l ++ text_of_leaves back_leaves) own_text) refl in
          let old_texts : texts_of (followed_by row bracket) ≡ texts_of front ++ texts_of back = texts_followed row bracket ∙ append-nil (texts_of row) ∙ same_texts ∙ ap texts_of (sym e) ∙ texts_followed front back in
          let new_texts : texts_of (followed_by new bracket) ≡ texts_of front ++ node_chars top ∷ texts_of back =
          texts_followed new bracket ∙ append-nil (texts_of new) ∙ ap texts_of (sym f) ∙ texts_followed led (leaves_then gap tail) ∙ ap (λ l. l ++ texts_of (leaves_then gap tail)) (comma_comes c)
          ∙ ap (λ l. texts_of front ++ l) (texts_past gap tail trivia ∙ element_text top.content top.below behind element ∙ ap (λ l. node_chars top ∷ l) (goes_on on)) in
          let old_row : marks_in (leaves row) ≡ marks_in (leaves front) ++ marks_in (leaves back) = ap all_marks (sym same_marks ∙ ap marks (sym e)) ∙ ap marks_in (leaves-followed_by front back) ∙ marks_in_both (leaves front) (leaves back) in
          let old_marks : marks_in (leaves t) ≡ marks_in ahead ++ marks_in back_leaves =
          ap marks_in (document_parts d ∙ ap (λ l. l ++ (leaves_of (bracketed kind row) ++ back_of d)) (sym (front_same d)) ∙ ap (λ l. front_of around ++ (leaves_of (bracketed kind row) ++ l)) (sym (back_same d)))
          ∙ marks_in_both (front_of around) (leaves_of (bracketed kind row) ++ back_of around)
          ∙ ap (λ l. marks_in (front_of around) ++ l) (marks_in_both (leaves_of (bracketed kind row)) (back_of around)
          ∙ ap (λ l. l ++ marks_in (back_of around)) (ap marks_in (container_leaves kind (followed_by row bracket) ∙ ap (λ l. token (opening kind) ∷ l) (leaves-followed_by row bracket)) ∙ marks_in_both (leaves row) (leaves bracket) ∙ append-nil (marks_in (leaves row)) ∙ old_row))
          ∙ regroup_marks (marks_in (front_of around)) (marks_in (leaves front)) (marks_in (leaves back)) (marks_in (back_of around))
          ∙ ap (λ l. (marks_in (front_of around) ++ l) ++ (marks_in (leaves back) ++ marks_in (back_of around))) (sym (marks_in_both (leaves led) gap ∙ ap (λ l. marks_in (leaves led) ++ l) (ap all_marks (gap_unmarked g)) ∙ append-nil (marks_in (leaves led)) ∙ ap all_marks (led_marks c)))
          ∙ ap (λ l. l ++ (marks_in (leaves back) ++ marks_in (back_of around))) (sym (marks_in_both (front_of around) (token (opening kind) ∷ (leaves led ++ gap))))
          ∙ ap (λ l. marks_in ahead ++ l) (sym (marks_in_both rest (back_of around) ∙ ap (λ l. l ++ marks_in (back_of around)) (marks_in_both (leaves behind) (leaves bracket) ∙ append-nil (marks_in (leaves behind)) ∙ ap all_marks (behind_marks on)))) in (
            texts_of front,
            texts_of back,
            sym (as_many front),
            node_chars top,
            text_of_leaves back_leaves,
            subst (λ ts. Inside path (texts_of front ++ texts_of back) ts (document_of o t w) (document_of o u x)) new_texts (subst (λ ts. Inside path ts (texts_of (followed_by new bracket)) (document_of o t w) (document_of o u x)) old_texts (inside_so o kind s r d w x)),
            entry,
            (marks_in ahead, marks_in back_leaves, parted_as refl is refl new_parted, old_marks),
            joins_so o kind row middle kept new s r d leave spreads top element front back led behind gap c taken no_comma g refl on stands ends e f w x (text_of_leaves back_leaves) (rest_is o kind row middle kept new s r d leave spreads top element front back led behind gap c taken no_comma g refl on stands ends e f w x (back_of around) (back_same d)),
            subst Is own_text (laid_so own_pieces (utf8_first own back_leaves u1)),
          )

-- Where a line ends in the row of a container of a sound tree, one ends directly inside of the container in the text.
use Rattle.std.proofs.Common.{ℕ, ◌≡◌, ◌∙◌, sym, ap, subst, refl, inl, inr, Bool, true, false, ◌||◌, List, [], ◌∷◌, ◌++◌, IsTrue, Option}
use Rattle.std.proofs.lemmas.List.{append_assoc}
use Rattle.jsonc_text.specs.Options.{Options}
use Rattle.jsonc_text.specs.Plain.{Plain}
use Rattle.jsonc_text.specs.Text.{is_line_end}
use Rattle.jsonc_text.specs.Gaps.{Gap}
use Rattle.jsonc_run.specs.texts.Paths.{Kind}
use Rattle.jsonc_run.specs.texts.Paths as places
use Rattle.jsonc_run.specs.texts.Stretches as documents
use Rattle.jsonc_run.specs.texts.Entering as entering
use Rattle.jsonc_run.specs.texts.Stretches.{IsLineEnd}
use Rattle.jsonc_run.specs.texts.Entering.{Along, HasLineEnd}
use Rattle.jsonc_tree.specs.Content.{Content, newline, token}
use Rattle.jsonc_tree.specs.OrderedTree.{OrderedTree, Top, none, more, leaves, followed_by}
use Rattle.jsonc_sound.specs.Documents.{document_of}
use Rattle.jsonc_sound.specs.Lines.{LinesEndLoosely}
use Rattle.jsonc_sound.specs.Rows.{RowKind, of_values, of_properties, container_of, closing}
use Rattle.jsonc_sound.specs.Shape as shape
use Rattle.jsonc_sound.specs.Shape.{IsTrivia, Trivia, printed_text, token_then}
use Rattle.jsonc_sound.specs.SoundTrees.{SoundTree}
use Rattle.jsonc_sound.specs.TreeChanges.{leaves_of, DocumentChanged, IsElement}
use Rattle.jsonc_sound.proofs.LooseLines.{Halts, Stops, loose_gap, trivia_gap}
use Rattle.jsonc_sound.proofs.ShapeTexts.{trivia_utf8}
use Rattle.jsonc_layout.specs.nodes.Kinds.{is_newline}
use Rattle.jsonc_edit.specs.multiline.Reflows.{has_newline}
use Rattle.jsonc_edit.specs.multiline.Laws.{bracketed}
use Rattle.jsonc_run.specs.promise.PlaceLaws.{text_of_leaves}
use Rattle.jsonc_run.proofs.lemmas.promise.Leaves.{back_of, text_joined}
use Rattle.jsonc_run.proofs.lemmas.promise.LooseRows.{is_a_comma, is_a_leaf, is_entry, kind_of_row, row_reads, Reads}
use Rattle.jsonc_sound.proofs.ShapeValues.{bracket_mark, brace_mark, comma_mark, mark_text}
use Rattle.jsonc_run.proofs.lemmas.promise.Trivia.{line_end_text}
use Rattle.jsonc_run.proofs.lemmas.promise.Values.{at_the_place}

-- the text begins with the end of a line
record StartsLine (s : List ℕ) : Type 0 where
  char : ℕ
  rest : List ℕ
  is : s ≡ char ∷ rest
  ends : IsTrue (is_line_end char)

line_starts : {s : List ℕ} → IsLineEnd s → (r : List ℕ) → StartsLine (s ++ r)
line_starts documents.line_feed r = record { char = 0x0A; rest = r; is = refl; ends = refl }
line_starts documents.carriage_return r = record { char = 0x0D; rest = r; is = refl; ends = refl }
line_starts documents.both r = record { char = 0x0D; rest = 0x0A ∷ r; is = refl; ends = refl }

pub further : {o : Options} {a b c : OrderedTree} → Trivia o a b → Trivia o b c → Trivia o a c
further shape.nothing h = h
further (shape.trivia t g) h = shape.trivia t (further g h)

abbrev is_line : Content → Bool
is_line (newline k) = true
is_line content = false

no_line_element : (content : Content) (below after : OrderedTree) → IsElement content → has_newline (more content below after) ≡ true → has_newline after ≡ true
no_line_element (Content.newline k) below after e h = cc
no_line_element content below after e h = h

pub element_stops : (content : Content) (below after : OrderedTree) → content ≡ token 0x2C → Stops (more content below after)
element_stops content below after e = subst (λ c. Stops (more c below after)) (sym e) tt

module _ (o : Options) (kind : Kind) (z : List ℕ) where
  -- from here on a line ends
  record HasLine (t : List ℕ) : Type 0 where
    char : ℕ
    rest : List ℕ
    along : Along o kind t (char ∷ rest)
    ends : IsTrue (is_line_end char)

  past_gap : {t u : List ℕ} → Gap o t u → HasLine u → HasLine t
  past_gap g h = record { char = h.char; rest = h.rest; along = entering.past_gap g h.along; ends = h.ends }

  past_comma : {t u : List ℕ} → u ≡ 0x2C ∷ t → HasLine t → HasLine u
  past_comma e h = subst HasLine (sym e) (record { char = h.char; rest = h.rest; along = entering.past_comma h.along; ends = h.ends })

  past_entry : {t u : List ℕ} → places.IsEntry o kind t u → HasLine u → HasLine t
  past_entry q h = record { char = h.char; rest = h.rest; along = entering.past_entry q h.along; ends = h.ends }

  here : (t : List ℕ) → StartsLine t → HasLine t
  here t s = record { char = s.char; rest = s.rest; along = subst (λ u. Along o kind t u) s.is entering.there; ends = s.ends }

  abbrev text : OrderedTree → List ℕ
  text row = printed_text row ++ z

  newline_starts : (content : Content) (after : OrderedTree) → is_line content ≡ true → StartsLine (text (more content none after))
  newline_starts (Content.newline k) after e =
      let joined : text (more (newline k) none after) ≡ text_of_leaves (newline k ∷ []) ++ (text_of_leaves (leaves after) ++ z) =
      ap (λ l. l ++ z) (text_joined (newline k ∷ []) (leaves after) (trivia_utf8 o (newline k) tt, tt)) ∙ append_assoc (text_of_leaves (newline k ∷ [])) (text_of_leaves (leaves after)) z in
      subst StartsLine (sym joined) (line_starts (line_end_text k) (text_of_leaves (leaves after) ++ z))
  newline_starts content after e = let wrong : false ≡ true = e in cc

  line_halts : (content : Content) (after : OrderedTree) → is_line content ≡ true → Halts (more content none after)
  line_halts (Content.newline k) after e = tt
  line_halts content after e = let wrong : false ≡ true = e in cc

  other_line : (content : Content) (below after : OrderedTree) → is_line content ≡ false → has_newline (more content below after) ≡ true → has_newline after ≡ true
  other_line (Content.newline k) below after e h = let wrong : true ≡ false = e in cc
  other_line content below after e h = h

  at_leaf : (start : OrderedTree) (x : Content) (w after : OrderedTree) → Trivia o start (more x w after) → IsTrivia o x → w ≡ none → LinesEndLoosely true false start → has_newline (more x w after) ≡ true
      → (Trivia o start after → has_newline after ≡ true → HasLine (text start)) → HasLine (text start)
  at_leaf start x w after t k e l h on = by (is_line x) refl
    where
      along : Trivia o start (more x none after)
      along = subst (λ y. Trivia o start (more x y after)) e t

      by : (b : Bool) → is_line x ≡ b → HasLine (text start)
      by true f = past_gap (loose_gap o z true false (λ y. cc) (line_halts x after f) along l) (here (text (more x none after)) (newline_starts x after f))
      by false f = on (further along (shape.trivia k shape.nothing)) (other_line x w after f h)

  walk : (start row : OrderedTree) → Trivia o start row → Reads o kind z row → LinesEndLoosely true false start → has_newline row ≡ true → HasLine (text start)
  walk start none t r l h = absurd r
  walk start (more x w after) t (inl m) l h = let wrong : false ≡ true = sym (ap has_newline (ap (λ y. more y w after) m.3 ∙ ap (more (token (places.closing kind)) w) m.2)) ∙ h in cc
  walk start (more x w after) t (inr (is_a_leaf k e, reads)) l h = at_leaf start x w after t k e l h (λ on later. walk start after on reads l later)
  walk start (more x w after) t (inr (is_entry p s q, reads)) l h =
      let m = trivia_gap o z true false (λ y. cc) s t l in
      past_gap m.0 (past_entry q (walk after after shape.nothing reads m.1.2 (no_line_element x w after p h)))
  walk start (more x w after) t (inr (is_a_comma e n, reads)) l h =
      let m = trivia_gap o z true false (λ y. cc) (element_stops x w after e) t l in
      let comma : more x w after ≡ token_then 0x2C after = ap (λ y. more y w after) e ∙ ap (λ y. more (token 0x2C) y after) n in
      past_gap m.0 (past_comma (ap (λ y. printed_text y ++ z) comma ∙ ap (λ y. y ++ z) (mark_text comma_mark after)) (walk after after shape.nothing reads m.1.2 (other_line (token 0x2C) none after refl (ap has_newline (sym comma) ∙ h))))

or_both : (a b c : Bool) → (b ≡ true → c ≡ true) → a || b ≡ true → a || c ≡ true
or_both true b c f h = refl
or_both false b c f h = f h

newline_stays : (row close : OrderedTree) → has_newline row ≡ true → has_newline (followed_by row close) ≡ true
newline_stays none close h = let wrong : false ≡ true = h in cc
newline_stays (more content below after) close h = or_both (is_newline content) (has_newline after) (has_newline (followed_by after close)) (newline_stays after close) h

pub opened : (kind : RowKind) (row : OrderedTree) → text_of_leaves (leaves_of (container_of kind row)) ≡ places.opening (kind_of_row kind) ∷ printed_text row
opened of_values row = mark_text bracket_mark row
opened of_properties row = mark_text brace_mark row

-- a container in whose row a line ends
pub line_within : (o : Options) (k : RowKind) (row : OrderedTree) {now : Top} {path : List ℕ} {t u : OrderedTree} → SoundTree o t → (d : DocumentChanged (container_of k row) now path t u) → has_newline row ≡ true → (w : Option Plain)
    → HasLineEnd path (document_of o t w)
line_within o k row s d h w =
    let place = at_the_place o s d in
    let back : List ℕ = text_of_leaves (back_of d) in
    let read = row_reads o back k place.2 in
    let line = walk o (kind_of_row k) back row row shape.nothing read.0 read.1 h in
    let own : text_of_leaves (leaves_of (container_of k row)) ++ back ≡ places.opening (kind_of_row k) ∷ (printed_text row ++ back) = ap (λ l. l ++ back) (opened k row) in
    (kind_of_row k, text_of_leaves (leaves_of (container_of k row)) ++ back, back, printed_text row ++ back, line.rest, line.char, place.1, own, line.along, line.ends)

-- between its brackets
pub line_inside : (o : Options) (k : RowKind) (row : OrderedTree) {now : Top} {path : List ℕ} {t u : OrderedTree} → SoundTree o t → (d : DocumentChanged (bracketed k row) now path t u) → has_newline row ≡ true → (w : Option Plain)
    → HasLineEnd path (document_of o t w)
line_inside o k row s d h w = let close : OrderedTree = token_then (closing k) none in line_within o k (followed_by row close) s d (newline_stays row close h) w

-- In a sound tree the value at a path prints from here to there.
use Rattle.std.proofs.Common.{ℕ, suc, ◌<◌, ◌≡◌, ◌∙◌, sym, ap, subst, refl, true, false, List, [], ◌∷◌, ◌++◌, length, chars}
use Rattle.std.proofs.lemmas.List.{append_assoc, append-nil}
use Rattle.std.proofs.lemmas.Str.{chars-nil}
use Rattle.jsonc_text.specs.Options.{Options}
use Rattle.jsonc_text.specs.Gaps.{Gap}
use Rattle.jsonc_text.specs.Grammar.{IsName}
use Rattle.jsonc_tree.specs.Content.{Content, text_of}
use Rattle.std.specs.List.{flat_map}
use Rattle.jsonc_tree.specs.OrderedTree.{OrderedTree, none, more, own_leaf, leaves, printed, Top}
use Rattle.jsonc_tree.proofs.OrderedTrees.{printed-more}
use Rattle.jsonc_sound.specs.Lines.{is_loose, LinesEndLoosely, DocumentLinesEndLoosely}
use Rattle.jsonc_sound.specs.Shape as shape
use Rattle.jsonc_sound.specs.Shape.{IsTrivia, Trivia, Separated, Closed, ValueShaped, ElementsShaped, PropertiesShaped, PropertyShaped, DocumentShaped, token_then, printed_text}
use Rattle.jsonc_sound.proofs.LooseLines.{value_stops, elements_stop, properties_stop, trivia_gap}
use Rattle.jsonc_sound.proofs.ShapeTexts.{text_more, text_leaf, trivia_some}
use Rattle.jsonc_sound.specs.SoundTrees.{SoundTree}
use Rattle.jsonc_sound.specs.TreeChanges.{IsElement, leaves_of, property_of, ElementChanged, this_element, passed, later_element, ValueChanged, itself, in_array, in_object, DocumentChanged, in_root}
use Rattle.jsonc_sound.proofs.FirstNodes.{none_changed, no_element, trivia_over, value_element, name_element}
use Rattle.jsonc_sound.proofs.ReadRows.{closed_changed}
use Rattle.jsonc_sound.proofs.Texts.{AllUtf8}
use Rattle.jsonc_run.specs.texts.Paths as places
use Rattle.jsonc_run.specs.texts.Paths.{an_array, an_object, opening, IsEntry, LeadsTo, EntryAt, HasEntry, ValueAt, Value}
use Rattle.jsonc_run.specs.promise.PlaceLaws.{text_of_leaves, node_chars, StandsInText}
use Rattle.jsonc_run.proofs.lemmas.promise.Leaves.{row_back, value_back, front_of, back_of, document_parts, document_parts_then, text_joined, utf8_first, utf8_second, document_utf8}
use Rattle.jsonc_sound.proofs.ShapeValues as standing
use Rattle.jsonc_sound.proofs.ShapeValues.{colon_mark, bracket_mark, brace_mark, mark_text, Carries, value_utf8, property_utf8, closed_some, separated_some, elements_some, properties_some, separated_stands, carries_more, node_text, value_stands, property_stands, name_stands, name_utf8, mark_some, closing_text, close_bracket_mark, close_brace_mark}

top_of : Content → OrderedTree → Top
top_of c a = record { content = c; below = a }

pub top_same : (x y : Top) → x.content ≡ y.content → x.below ≡ y.below → x ≡ y
unfolding top_of
top_same x y c b = ap (λ k. top_of k x.below) c ∙ ap (top_of y.content) b

module _ (o : Options) where
  -- the node is a value before z, and its lines end
  pub record ValueHere (x : Top) (z : List ℕ) : Type 0 where
    pub r : List ℕ
    pub shaped : ValueShaped o x.content x.below r
    pub carries : Carries o r z
    pub lines : LinesEndLoosely (is_loose x.content) false x.below

  pub record PropertyHere (held : OrderedTree) (z : List ℕ) : Type 0 where
    pub r : List ℕ
    pub shaped : PropertyShaped o held r
    pub carries : Carries o r z
    pub lines : LinesEndLoosely false false held

  -- the change of an element behind trivia
  pub record Past {was now : Top} {i : ℕ} {t new : OrderedTree} (e : ElementChanged was now i t new) (r : OrderedTree) : Type 0 where
    pub rest : OrderedTree
    pub changed : ElementChanged was now i r rest
    pub same : row_back changed ≡ row_back e

  pub past_trivia : {was now : Top} {i : ℕ} {t r new : OrderedTree} → Trivia o t r → (e : ElementChanged was now i t new) → Past e r
  past_trivia {new = new} shape.nothing e = record { rest = new; changed = e; same = refl }
  past_trivia {was} (shape.trivia h g) (this_element p q) = absurd (no_element was.content p (trivia_over o was.content h))
  past_trivia (shape.trivia h g) (passed k e) = let m = past_trivia g e in record { rest = m.rest; changed = m.changed; same = m.same }
  past_trivia (shape.trivia {content = content} h g) (later_element k e) = absurd (no_element content k (trivia_over o content h))

  pub past_token : {was now : Top} (c : ℕ) {i : ℕ} {u new : OrderedTree} → (e : ElementChanged was now i (token_then c u) new) → Past e u
  past_token {was} c (this_element p q) = absurd (no_element was.content p refl)
  past_token c (passed {y = y} k e) = record { rest = y; changed = e; same = refl }
  past_token c (later_element k e) = absurd (no_element (Content.token c) k refl)

  pub past_separated : {was now : Top} {i : ℕ} {t r new : OrderedTree} → Separated o t r → (e : ElementChanged was now i t new) → Past e r
  past_separated (shape.comma g h) e =
      let m = past_trivia g e in
      let k = past_token 0x2C m.changed in
      let l = past_trivia h k.changed in
      record { rest = l.rest; changed = l.changed; same = l.same ∙ k.same ∙ m.same }
  past_separated (shape.no_comma x g) e = past_trivia g e

  -- an element of a row is a value there, and stands where the grammar has it
  pub record ElementHere (kind : places.Kind) (i : ℕ) (text own back : List ℕ) : Type 0 where
    pub at : EntryAt o kind i text (own ++ back) back

  -- the same back, in other words
  back_as : {xs ys : List Content} (z : List ℕ) → xs ≡ ys → text_of_leaves xs ++ z ≡ text_of_leaves ys ++ z
  back_as z e = ap (λ l. text_of_leaves l ++ z) e

  pub elements_place : {was now : Top} (z : List ℕ) {row : OrderedTree} → ElementsShaped o row → {i : ℕ} {new : OrderedTree} (e : ElementChanged was now i row new) → LinesEndLoosely true false row
      → ValueHere was (text_of_leaves (row_back e) ++ z) × EntryAt o an_array i (printed_text row ++ z) (node_chars was ++ (text_of_leaves (row_back e) ++ z)) (text_of_leaves (row_back e) ++ z)
  elements_place {was} z (shape.last_element v c) (this_element {after = after} p q) l =
      let f = carries_more o (printed_text after) z (closed_some o close_bracket_mark c) in
      let one = value_stands o (printed_text after ++ z) f v l.1 in
      let here : ValueHere was (printed_text after ++ z) = record { r = printed_text after; shaped = v; carries = f; lines = l.1 } in
      (here, subst (λ x. EntryAt o an_array 0 x (node_chars was ++ (printed_text after ++ z)) (printed_text after ++ z)) (node_text o was.content was.below after z (value_utf8 o v)) (places.this_entry (one.0, one.1)))
  elements_place {was} z (shape.element v s g) (this_element {after = after} p q) l =
      let f = carries_more o (printed_text after) z (separated_some o s (elements_some o g)) in
      let one = value_stands o (printed_text after ++ z) f v l.1 in
      let here : ValueHere was (printed_text after ++ z) = record { r = printed_text after; shaped = v; carries = f; lines = l.1 } in
      (here, subst (λ x. EntryAt o an_array 0 x (node_chars was ++ (printed_text after ++ z)) (printed_text after ++ z)) (node_text o was.content was.below after z (value_utf8 o v)) (places.this_entry (one.0, one.1)))
  elements_place z (shape.last_element v c) (passed {content = content} h e) l = absurd (no_element content (value_element v) h)
  elements_place z (shape.element v s g) (passed {content = content} h e) l = absurd (no_element content (value_element v) h)
  elements_place z (shape.last_element v c) (later_element h e) l = absurd (closed_changed o c e)
  elements_place {was} z (shape.element {after = after} {u = u} v s g) (later_element {i = i} {content = content} {below = below} h e) l =
      let f = carries_more o (printed_text after) z (separated_some o s (elements_some o g)) in
      let one = value_stands o (printed_text after ++ z) f v l.1 in
      let gap = separated_stands o z (elements_stop g) s l.2 in
      let past = past_separated s e in
      let others = elements_place z g past.changed gap.1 in
      let same = back_as z past.same in
      let at = subst (λ b. EntryAt o an_array i (printed_text u ++ z) (node_chars was ++ b) b) same others.1 in (
        subst (ValueHere was) same others.0,
        subst (λ x. EntryAt o an_array (suc i) x (node_chars was ++ (text_of_leaves (row_back e) ++ z)) (text_of_leaves (row_back e) ++ z)) (node_text o content below after z (value_utf8 o v)) (places.later_entry (one.0, one.1) gap.0 at),
      )

  pub properties_place : {held given : OrderedTree} (z : List ℕ) {row : OrderedTree} → PropertiesShaped o row → {i : ℕ} {new : OrderedTree} (e : ElementChanged (property_of held) (property_of given) i row new) → LinesEndLoosely true false row
      → PropertyHere held (text_of_leaves (row_back e) ++ z) × EntryAt o an_object i (printed_text row ++ z) (printed_text held ++ (text_of_leaves (row_back e) ++ z)) (text_of_leaves (row_back e) ++ z)
  properties_place {held} z (shape.last_property v c) (this_element {after = after} p q) l =
      let f = carries_more o (printed_text after) z (closed_some o close_brace_mark c) in
      let one = property_stands o (printed_text after ++ z) f v l.1 in
      let here : PropertyHere held (printed_text after ++ z) = record { r = printed_text after; shaped = v; carries = f; lines = l.1 } in
      (here, subst (λ x. EntryAt o an_object 0 x (printed_text held ++ (printed_text after ++ z)) (printed_text after ++ z)) (node_text o Content.property held after z (property_utf8 o v)) (places.this_entry (one.0, one.1, one.2)))
  properties_place {held} z (shape.property v s g) (this_element {after = after} p q) l =
      let f = carries_more o (printed_text after) z (separated_some o s (properties_some o g)) in
      let one = property_stands o (printed_text after ++ z) f v l.1 in
      let here : PropertyHere held (printed_text after ++ z) = record { r = printed_text after; shaped = v; carries = f; lines = l.1 } in
      (here, subst (λ x. EntryAt o an_object 0 x (printed_text held ++ (printed_text after ++ z)) (printed_text after ++ z)) (node_text o Content.property held after z (property_utf8 o v)) (places.this_entry (one.0, one.1, one.2)))
  properties_place z (shape.last_property v c) (passed h e) l = absurd (no_element Content.property refl h)
  properties_place z (shape.property v s g) (passed h e) l = absurd (no_element Content.property refl h)
  properties_place z (shape.last_property v c) (later_element h e) l = absurd (closed_changed o c e)
  properties_place {held} z (shape.property {after = after} {u = u} v s g) (later_element {i = i} {below = below} h e) l =
      let f = carries_more o (printed_text after) z (separated_some o s (properties_some o g)) in
      let one = property_stands o (printed_text after ++ z) f v l.1 in
      let gap = separated_stands o z (properties_stop g) s l.2 in
      let past = past_separated s e in
      let others = properties_place z g past.changed gap.1 in
      let same = back_as z past.same in
      let at = subst (λ b. EntryAt o an_object i (printed_text u ++ z) (printed_text held ++ b) b) same others.1 in (
        subst (PropertyHere held) same others.0,
        subst (λ x. EntryAt o an_object (suc i) x (printed_text held ++ (text_of_leaves (row_back e) ++ z)) (text_of_leaves (row_back e) ++ z)) (node_text o Content.property below after z (property_utf8 o v)) (places.later_entry (one.0, one.1, one.2) gap.0 at),
      )

  -- the value of a property is last in it
  pub property_place : {x y : Top} (z : List ℕ) {held : OrderedTree} {given : OrderedTree} (g : ElementChanged x y 1 held given) → PropertyHere held z
      → (row_back g ≡ []) × ValueHere x z × LeadsTo o an_object (printed_text held ++ z) (node_chars x ++ z)
  property_place {x} {y} z g p = by p.shaped p.lines p.carries g
    where
      nothing_behind : {content : Content} {below new : OrderedTree} → (e : ElementChanged x y 0 (more content below none) new) → IsElement content → (row_back e ≡ []) × (content ≡ x.content) × (below ≡ x.below)
      nothing_behind (this_element p q) h = (refl, refl, refl)
      nothing_behind (passed {content = content} k e) h = absurd (no_element content h k)

      by : {held given : OrderedTree} {r : List ℕ} → PropertyShaped o held r → LinesEndLoosely false false held → Carries o r z → (g : ElementChanged x y 1 held given) → (row_back g ≡ []) × ValueHere x z × LeadsTo o an_object (printed_text held ++ z) (node_chars x ++ z)
      by (shape.named {name = name} n g h v) l f (passed k e) = absurd (no_element name (name_element o name _ n) k)
      by {r = r} (shape.named {name = name} {content = content} {below = below} {after = after} {u = u} n g h v) l f (later_element k e) =
          let a = past_trivia g e in
          let b = past_token 0x3A a.changed in
          let c = past_trivia h b.changed in
          let last = nothing_behind c.changed (value_element v) in
          let none_behind : row_back e ≡ [] = sym a.same ∙ sym b.same ∙ sym c.same ∙ last.0 in
          let before = trivia_gap o z false false (λ e. cc) tt g l.2 in
          let behind = trivia_gap o z false false (λ e. cc) (value_stops none v) h before.1.2 in
          let here : ValueHere (record { content = content; below = below }) z = record { r = r; shaped = v; carries = f; lines = behind.1.1 } in
          let some : 0 < length (printed_text after) = trivia_some o g (mark_some colon_mark u) in
          let called = name_stands o name (printed_text after ++ z) (carries_more o (printed_text after) z some) n in
          let value_text : printed_text (more content below none) ≡ chars (text_of content ++ printed below) = text_more content below none (value_utf8 o v) ∙ ap (λ t. chars (text_of content ++ printed below) ++ t) chars-nil ∙ append-nil (chars (text_of content ++ printed below)) in
          let row_text : chars (text_of name) ++ (printed_text after ++ z) ≡ printed_text (more name none after) ++ z = sym (ap (λ t. t ++ z) (text_leaf name after (name_utf8 o name _ n)) ∙ append_assoc (chars (text_of name)) (printed_text after) z) in
          let first : Top = record { content = content; below = below } in
          let same : first ≡ x = top_same first x last.1 last.2 in
          let leads : LeadsTo o an_object (printed_text (more name none after) ++ z) (chars (text_of content ++ printed below) ++ z) =
          (called.0, _, _, subst (λ t. IsName o t called.0 (printed_text after ++ z)) row_text called.1, subst (Gap o _) (ap (λ t. t ++ z) (mark_text colon_mark u)) before.0, subst (Gap o _) (ap (λ t. t ++ z) value_text) behind.0) in
          (none_behind, subst (λ t. ValueHere t z) same here, subst (λ t. LeadsTo o an_object (printed_text (more name none after) ++ z) (node_chars t ++ z)) same leads)

  -- a container holds the entry that is replaced
  pub array_place : {x y : Top} (z : List ℕ) {row : OrderedTree} {i : ℕ} {new : OrderedTree} (e : ElementChanged x y i row new) → ValueHere (record { content = Content.array; below = row }) z
      → ValueHere x (text_of_leaves (row_back e) ++ z) × HasEntry o an_array i (printed_text row ++ z) (node_chars x ++ (text_of_leaves (row_back e) ++ z)) (text_of_leaves (row_back e) ++ z)
  array_place {x} {y} z e here = by here.shaped here.lines e
    where
      by : {row : OrderedTree} {r : List ℕ} → ValueShaped o Content.array row r → LinesEndLoosely true false row → {i : ℕ} {new : OrderedTree} (e : ElementChanged x y i row new)
          → ValueHere x (text_of_leaves (row_back e) ++ z) × HasEntry o an_array i (printed_text row ++ z) (node_chars x ++ (text_of_leaves (row_back e) ++ z)) (text_of_leaves (row_back e) ++ z)
      by (shape.literal h) l e = absurd h
      by (shape.empty_array g) l e =
          let a = past_token 0x5B e in
          let b = past_trivia g a.changed in
          let c = past_token 0x5D b.changed in
          absurd (none_changed c.changed)
      by (shape.array {t = t} {u = u} g es) l {i = i} e =
          let a = past_token 0x5B e in
          let b = past_trivia g a.changed in
          let gap = trivia_gap o z true false (λ e. cc) (elements_stop es) g l.2 in
          let m = elements_place z es b.changed gap.1 in
          let same = back_as z (b.same ∙ a.same) in
          (subst (ValueHere x) same m.0, (printed_text t ++ z, printed_text u ++ z, ap (λ c. c ++ z) (mark_text bracket_mark t), gap.0, subst (λ b. EntryAt o an_array i (printed_text u ++ z) (node_chars x ++ b) b) same m.1))

  pub object_place : {held given : OrderedTree} (z : List ℕ) {row : OrderedTree} {i : ℕ} {new : OrderedTree} (e : ElementChanged (property_of held) (property_of given) i row new) → ValueHere (record { content = Content.object; below = row }) z
      → PropertyHere held (text_of_leaves (row_back e) ++ z) × HasEntry o an_object i (printed_text row ++ z) (printed_text held ++ (text_of_leaves (row_back e) ++ z)) (text_of_leaves (row_back e) ++ z)
  object_place {held} {given} z e here = by here.shaped here.lines e
    where
      by : {row : OrderedTree} {r : List ℕ} → ValueShaped o Content.object row r → LinesEndLoosely true false row → {i : ℕ} {new : OrderedTree} (e : ElementChanged (property_of held) (property_of given) i row new)
          → PropertyHere held (text_of_leaves (row_back e) ++ z) × HasEntry o an_object i (printed_text row ++ z) (printed_text held ++ (text_of_leaves (row_back e) ++ z)) (text_of_leaves (row_back e) ++ z)
      by (shape.literal h) l e = absurd h
      by (shape.empty_object g) l e =
          let a = past_token 0x7B e in
          let b = past_trivia g a.changed in
          let c = past_token 0x7D b.changed in
          absurd (none_changed c.changed)
      by (shape.object {t = t} {u = u} g ps) l {i = i} e =
          let a = past_token 0x7B e in
          let b = past_trivia g a.changed in
          let gap = trivia_gap o z true false (λ e. cc) (properties_stop ps) g l.2 in
          let m = properties_place z ps b.changed gap.1 in
          let same = back_as z (b.same ∙ a.same) in
          (subst (PropertyHere held) same m.0, (printed_text t ++ z, printed_text u ++ z, ap (λ c. c ++ z) (mark_text brace_mark t), gap.0, subst (λ b. EntryAt o an_object i (printed_text u ++ z) (printed_text held ++ b) b) same m.1))

  joined_back : (first second : List Content) (z : List ℕ) → AllUtf8 first → text_of_leaves first ++ (text_of_leaves second ++ z) ≡ text_of_leaves (first ++ second) ++ z
  joined_back first second z u = sym (append_assoc (text_of_leaves first) (text_of_leaves second) z) ∙ ap (λ l. l ++ z) (sym (text_joined first second u))

  -- a value at a path of a value that stands there
  value_place : {was now : Top} {path : List ℕ} {x y : Top} (z : List ℕ) (h : ValueChanged was now path x y) → ValueHere x z → AllUtf8 (value_back h)
      → ValueHere was (text_of_leaves (value_back h) ++ z) × ValueAt o path (node_chars x ++ z) (node_chars was ++ (text_of_leaves (value_back h) ++ z)) (text_of_leaves (value_back h) ++ z)
  value_place {was} z itself here u =
      let one = value_stands o z here.carries here.shaped here.lines in
      let nothing : z ≡ text_of_leaves [] ++ z = sym (ap (λ l. l ++ z) chars-nil) in
      (subst (ValueHere was) nothing here, subst (λ b. ValueAt o [] (node_chars was ++ z) (node_chars was ++ b) b) nothing (places.itself one.1))
  value_place {was} z (in_array {i = i} {path = path} {x = x} {row = row} e h) here u =
      let m = array_place z e here in
      let n = value_place (text_of_leaves (row_back e) ++ z) h m.0 (utf8_first (value_back h) (row_back e) u) in
      let same = joined_back (value_back h) (row_back e) z (utf8_first (value_back h) (row_back e) u) in
      (subst (ValueHere was) same n.0, subst (λ b. ValueAt o (i ∷ path) (printed_text row ++ z) (node_chars was ++ b) b) same (places.inside an_array m.1 refl n.1))
  value_place {was} z (in_object {i = i} {path = path} {x = x} {held = held} {row = row} e g h) here u =
      let m = object_place z e here in
      let k = property_place (text_of_leaves (row_back e) ++ z) g m.0 in
      let none_more : value_back h ++ row_back g ≡ value_back h = ap (λ l. value_back h ++ l) k.0 ∙ append-nil (value_back h) in
      let first : AllUtf8 (value_back h) = subst AllUtf8 none_more (utf8_first (value_back h ++ row_back g) (row_back e) u) in
      let n = value_place (text_of_leaves (row_back e) ++ z) h k.1 first in
      let same = joined_back (value_back h) (row_back e) z first ∙ ap (λ l. text_of_leaves (l ++ row_back e) ++ z) (sym none_more) in
      (subst (ValueHere was) same n.0, subst (λ b. ValueAt o (i ∷ path) (printed_text row ++ z) (node_chars was ++ b) b) same (places.inside an_object m.1 k.2 n.1))

  root_text : (row : OrderedTree) → printed_text (more Content.root row none) ≡ printed_text row
  root_text row = standing.root_text o row

  -- the value of a document
  abbrev StandsFirst : {x y : Top} {row new : OrderedTree} → ElementChanged x y 0 row new → Type 0
  StandsFirst {x} {row = row} e = ValueHere x (text_of_leaves (row_back e)) × Gap o (printed_text row) (node_chars x ++ text_of_leaves (row_back e))

  here_first : {x y : Top} {content : Content} {below after new : OrderedTree} → ValueShaped o content below (printed_text after) → LinesEndLoosely (is_loose content) false below → (e : ElementChanged x y 0 (more content below after) new)
      → ValueHere x (text_of_leaves (row_back e)) × (printed_text (more content below after) ≡ node_chars x ++ text_of_leaves (row_back e))
  here_first {x} v l (this_element {after = after} p q) = (record { r = printed_text after; shaped = v; carries = λ k s h. h; lines = l }, text_more x.content x.below after (value_utf8 o v))
  here_first v l (passed {content = content} k e) = absurd (no_element content (value_element v) k)

  document_place : {x y : Top} {row new : OrderedTree} (e : ElementChanged x y 0 row new) → DocumentShaped o (more Content.root row none) → LinesEndLoosely false true row → StandsFirst e
  document_place e (shape.no_value g) l = absurd (none_changed (past_trivia g e).changed)
  document_place {x} {row = row} e (shape.a_value {content = content} {below = below} {after = after} g v h) l =
      let a = past_trivia g e in
      let before = trivia_gap o [] false true (λ e. refl) (value_stops after v) g l in
      let m = here_first v before.1.1 a.changed in
      let gap : Gap o (printed_text row) (printed_text (more content below after)) = subst (λ t. Gap o t (printed_text (more content below after))) (append-nil (printed_text row)) (subst (Gap o (printed_text row ++ [])) (append-nil (printed_text (more content below after))) before.0) in
      subst (λ b. ValueHere x (text_of_leaves b) × Gap o (printed_text row) (node_chars x ++ text_of_leaves b)) a.same (m.0, subst (Gap o (printed_text row)) m.1 gap)

  pub node_leaves : (x : Top) → node_chars x ≡ text_of_leaves (leaves_of x)
  node_leaves x =
      ap chars (ap (λ l. text_of x.content ++ l) (sym (append-nil (printed x.below))) ∙ sym (printed-more x.content x.below none))
      ∙ ap (λ l. chars (flat_map text_of (own_leaf x.content ++ l))) (append-nil (leaves x.below))

  lines_of : (row : OrderedTree) → DocumentLinesEndLoosely (more Content.root row none) → LinesEndLoosely false true row
  lines_of row (row2, e, l) = let same : row2 ≡ row = cc in subst (LinesEndLoosely false true) same l

  -- the text of a document around the value at a path, and that this stands there
  pub at_the_place : {was now : Top} {path : List ℕ} {t u : OrderedTree} → SoundTree o t → (d : DocumentChanged was now path t u)
      → (printed_text t ≡ text_of_leaves (front_of d) ++ (text_of_leaves (leaves_of was) ++ text_of_leaves (back_of d)))
      × Value path o (printed_text t) (text_of_leaves (leaves_of was) ++ text_of_leaves (back_of d)) (text_of_leaves (back_of d))
      × ValueHere was (text_of_leaves (back_of d))
  at_the_place {was} {now} {path} s (in_root {x = x} {row = row} {new = new} e h) =
      let d : DocumentChanged was now path (more Content.root row none) (more Content.root new none) = in_root e h in
      let all : AllUtf8 (front_of d ++ (leaves_of was ++ back_of d)) = subst AllUtf8 (document_parts d) (document_utf8 o s.shaped) in
      let later : AllUtf8 (leaves_of was ++ back_of d) = utf8_second (front_of d) (leaves_of was ++ back_of d) all in
      let own : AllUtf8 (leaves_of was) = utf8_first (leaves_of was) (back_of d) later in
      let behind : AllUtf8 (value_back h) = utf8_first (value_back h) (row_back e) (utf8_second (leaves_of was) (back_of d) later) in
      let m = document_place e s.shaped (lines_of row s.lines) in
      let n = value_place (text_of_leaves (row_back e)) h m.0 behind in
      let back : text_of_leaves (value_back h) ++ text_of_leaves (row_back e) ≡ text_of_leaves (back_of d) = sym (text_joined (value_back h) (row_back e) behind) in
      let at = subst (λ b. ValueAt o path (node_chars x ++ text_of_leaves (row_back e)) (node_chars was ++ b) b) back n.1 in
      let at_leaves = subst (λ w. ValueAt o path (node_chars x ++ text_of_leaves (row_back e)) (w ++ text_of_leaves (back_of d)) (text_of_leaves (back_of d))) (node_leaves was) at in (
        ap text_of_leaves (document_parts d) ∙ text_joined (front_of d) (leaves_of was ++ back_of d) (utf8_first (front_of d) (leaves_of was ++ back_of d) all) ∙ ap (λ l. text_of_leaves (front_of d) ++ l) (text_joined (leaves_of was) (back_of d) own),
        (_, subst (λ t. Gap o t (node_chars x ++ text_of_leaves (row_back e))) (sym (root_text row)) m.1, at_leaves),
        subst (ValueHere was) back n.0,
      )

  pub values_stand : (t : OrderedTree) → SoundTree o t → (was now : Top) (path : List ℕ) (u : OrderedTree) → (d : DocumentChanged was now path t u) → StandsInText o was now path t u
  values_stand t s was now path u d =
      let m = at_the_place s d in
      record { around = record { front = front_of d; back = back_of d; before = document_parts d; after = document_parts_then d }; text = m.0; stands = m.1 }

-- What stands at a path of a sound document's text is a node of its tree.
use Rattle.std.proofs.Common.{ℕ, ◌≡◌, ◌∙◌, ◌⊎◌, sym, ap, subst, refl, inl, inr, true, false, not, List, [], ◌∷◌, ◌++◌, IsTrue, chars, append-nil}
use Rattle.std.proofs.lemmas.Str.{chars-nil}
use Rattle.jsonc_text.specs.Options.{Options}
use Rattle.jsonc_text.specs.Text.{next, starts}
use Rattle.jsonc_text.specs.Gaps.{Gap}
use Rattle.jsonc_text.specs.Grammar as grammar
use Rattle.jsonc_text.specs.Grammar.{Closes, Separates}
use Rattle.jsonc_text.proofs.Basics.{apart, heads, tails}
use Rattle.jsonc_text.proofs.Begins.{begins_item}
use Rattle.jsonc_text.proofs.UniqueGaps.{begins_gap, gap_unique}
use Rattle.jsonc_text.proofs.UniqueValues.{gap_after, no_item_at, no_literal, not_gap, value_begins}
use Rattle.jsonc_text.specs.Words as words
use Rattle.jsonc_text.specs.Words.{keyword_text}
use Rattle.jsonc_text.specs.Lexemes as lexemes
use Rattle.jsonc_text.specs.Lexemes.{Lexeme, is_punctuation}
use Rattle.jsonc_tree.specs.Content.{Content, text_of}
use Rattle.jsonc_tree.specs.OrderedTree.{OrderedTree, Top, none, more, printed}
use Rattle.jsonc_layout.specs.lines.Kinds.{is_array_or_object}
use Rattle.jsonc_sound.specs.Lines.{LinesEndLoosely, DocumentLinesEndLoosely}
use Rattle.jsonc_sound.specs.Shape as shape
use Rattle.jsonc_sound.specs.Shape.{IsLiteralBefore, Separated, Trivia, ValueShaped, ElementsShaped, PropertiesShaped, PropertyShaped, DocumentShaped, printed_text, token_then}
use Rattle.jsonc_sound.specs.SoundTrees.{SoundTree}
use Rattle.jsonc_sound.specs.TreeChanges.{ElementChanged, this_element, passed, later_element, ValueChanged, itself, in_array, in_object, DocumentChanged, in_root, property_of}
use Rattle.jsonc_sound.proofs.FirstNodes.{name_element, no_element, trivia_over, value_element}
use Rattle.jsonc_sound.proofs.LooseLines.{elements_stop, properties_stop, trivia_gap, value_stops}
use Rattle.jsonc_sound.proofs.ShapeValues.{Carries, bracket_mark, brace_mark, carries_more, close_brace_mark, close_bracket_mark, closed_some, closed_stands, closing_text, elements_some, mark_text, node_text, null_chars, properties_some, property_stands, property_utf8, root_text, separated_some, separated_stands, value_stands, value_utf8, word_chars}
use Rattle.jsonc_sound.proofs.ShapeTexts.{text_more}
use Rattle.jsonc_run.specs.promise.PlaceLaws.{text_of_leaves, node_chars}
use Rattle.jsonc_run.proofs.lemmas.promise.CommasCome.{row_after}
use Rattle.jsonc_run.proofs.lemmas.promise.Leaves.{row_back, back_of}
use Rattle.jsonc_sound.specs.Rows.{RowKind, of_values, of_properties, container_of}
use Rattle.jsonc_run.specs.texts.Paths.{Kind, an_array, an_object, opening, IsEntry, LeadsTo, EntryAt, this_entry, later_entry, HasEntry, ValueAt, inside, Value, Entry}
use Rattle.jsonc_run.specs.texts.Paths as places
use Rattle.jsonc_run.proofs.lemmas.promise.UniquePlaces.{at_begins, entry_begins, entry_ends, has_ends, has_once, kinds_same, leads_once, separates_once, value_at_begins, value_once}
use Rattle.jsonc_run.proofs.lemmas.promise.Values.{array_place, at_the_place, node_leaves, object_place, property_place, ValueHere, PropertyHere}

-- a last bracket
abbrev IsBracket : ℕ → Type 0
IsBracket c = (c ≡ 0x5D) ⊎ (c ≡ 0x7D)

bracket_no_gap : (c : ℕ) → IsBracket c → IsTrue (not (begins_gap c))
bracket_no_gap c (inl e) = rw e refl
bracket_no_gap c (inr e) = rw e refl

bracket_no_comma : (c : ℕ) {r s : List ℕ} → IsBracket c → c ∷ r ≡ 0x2C ∷ s → ⊥
bracket_no_comma c {r} {s} (inl e) f = apart refl (subst (λ d. d ∷ r ≡ 0x2C ∷ s) e f)
bracket_no_comma c {r} {s} (inr e) f = apart refl (subst (λ d. d ∷ r ≡ 0x2C ∷ s) e f)

none_begins : {w : List ℕ} → [] ≡ w → IsTrue (starts begins_item (next w)) → ⊥
none_begins {w = []} e h = cc
none_begins {w = c ∷ w} e h = cc

bracket_no_item : (c : ℕ) → IsBracket c → begins_item c ≡ false
bracket_no_item c (inl e) = rw e refl
bracket_no_item c (inr e) = rw e refl

module _ (o : Options) where
  -- behind a last entry no other comes
  closes_no_more : {c : ℕ} {t r s : List ℕ} → IsBracket c → Closes o c t r → Separates o t s → IsTrue (starts begins_item (next s)) → ⊥
  closes_no_more {c = c} {s = s} b (grammar.plain g) (grammar.comma k l) a = bracket_no_comma c b (gap_after refl g k (bracket_no_gap c b) refl)
  closes_no_more {c = c} {s = s} b (grammar.plain g) (grammar.no_comma m l) a = no_item_at (bracket_no_item c b) (gap_after refl g l (bracket_no_gap c b) (not_gap s a)) a
  closes_no_more {c = c} {s = s} b (grammar.trailing_comma d g h) (grammar.comma k l) a = no_item_at (bracket_no_item c b) (gap_after (tails (gap_after refl g k refl refl)) h l (bracket_no_gap c b) (not_gap s a)) a
  closes_no_more {c = c} {s = s} b (grammar.trailing_comma d g h) (grammar.no_comma m l) a = no_item_at refl (gap_after refl g l refl (not_gap s a)) a

  -- an element of a row, behind what is none
  pub behind_trivia : {t r : OrderedTree} {y : Top} {i : ℕ} → Trivia o t r → ElementChanged y y i r r → ElementChanged y y i t t
  behind_trivia shape.nothing e = e
  behind_trivia (shape.trivia {content = content} h g) e = passed (trivia_over o content h) (behind_trivia g e)

  pub behind_token : (c : ℕ) {u : OrderedTree} {y : Top} {i : ℕ} → ElementChanged y y i u u → ElementChanged y y i (token_then c u) (token_then c u)
  behind_token c e = passed refl e

  pub behind_separated : {t r : OrderedTree} {y : Top} {i : ℕ} → Separated o t r → ElementChanged y y i r r → ElementChanged y y i t t
  behind_separated (shape.comma g h) e = behind_trivia g (behind_token 0x2C (behind_trivia h e))
  behind_separated (shape.no_comma x g) e = behind_trivia g e

  pub after_trivia : {t r : OrderedTree} {y : Top} {i : ℕ} (g : Trivia o t r) (e : ElementChanged y y i r r) → row_after (behind_trivia g e) ≡ row_after e
  unfolding behind_trivia
  after_trivia shape.nothing e = refl
  after_trivia (shape.trivia h g) e = after_trivia g e

  pub after_separated : {t r : OrderedTree} {y : Top} {i : ℕ} (g : Separated o t r) (e : ElementChanged y y i r r) → row_after (behind_separated g e) ≡ row_after e
  unfolding behind_separated behind_token
  after_separated (shape.comma g h) e = after_trivia g (behind_token 0x2C (behind_trivia h e)) ∙ after_trivia h e
  after_separated (shape.no_comma x g) e = after_trivia g e

  -- the text of a node, and then that of a row
  abbrev node_then : Content → OrderedTree → OrderedTree → List ℕ → List ℕ
  node_then content below after z = chars (text_of content ++ printed below) ++ (printed_text after ++ z)

  elements_begin : (z : List ℕ) {row : OrderedTree} → ElementsShaped o row → LinesEndLoosely true false row → IsTrue (starts begins_item (next (printed_text row ++ z)))
  elements_begin z (shape.last_element {content = content} {below = below} {after = after} v c) l =
      let one = value_stands o (printed_text after ++ z) (carries_more o (printed_text after) z (closed_some o close_bracket_mark c)) v l.1 in
      subst (λ w. IsTrue (starts begins_item (next w))) (node_text o content below after z (value_utf8 o v)) (value_begins o one.1)
  elements_begin z (shape.element {content = content} {below = below} {after = after} v s g) l =
      let one = value_stands o (printed_text after ++ z) (carries_more o (printed_text after) z (separated_some o s (elements_some o g))) v l.1 in
      subst (λ w. IsTrue (starts begins_item (next w))) (node_text o content below after z (value_utf8 o v)) (value_begins o one.1)

  properties_begin : (z : List ℕ) {row : OrderedTree} → PropertiesShaped o row → LinesEndLoosely true false row → IsTrue (starts begins_item (next (printed_text row ++ z)))
  properties_begin z (shape.last_property {below = below} {after = after} p c) l =
      let one = property_stands o (printed_text after ++ z) (carries_more o (printed_text after) z (closed_some o close_brace_mark c)) p l.1 in
      subst (λ w. IsTrue (starts begins_item (next w))) (node_text o Content.property below after z (property_utf8 o p)) (entry_begins o an_object (node_then Content.property below after z) (printed_text after ++ z) (one.0, one.1, one.2))
  properties_begin z (shape.property {below = below} {after = after} p s g) l =
      let one = property_stands o (printed_text after ++ z) (carries_more o (printed_text after) z (separated_some o s (properties_some o g))) p l.1 in
      subst (λ w. IsTrue (starts begins_item (next w))) (node_text o Content.property below after z (property_utf8 o p)) (entry_begins o an_object (node_then Content.property below after z) (printed_text after ++ z) (one.0, one.1, one.2))

  elements_found : (z : List ℕ) {row : OrderedTree} → ElementsShaped o row → LinesEndLoosely true false row → {i : ℕ} {a r : List ℕ} → EntryAt o an_array i (printed_text row ++ z) a r → (y : Top) × ElementChanged y y i row row
  elements_found z shaped l at = by shaped l refl at
    where
      by : {row : OrderedTree} → ElementsShaped o row → LinesEndLoosely true false row → {i : ℕ} {t a r : List ℕ} → t ≡ printed_text row ++ z → EntryAt o an_array i t a r → (y : Top) × ElementChanged y y i row row
      by (shape.last_element {content = content} {below = below} v c) l e (this_entry h) = (record { content = content; below = below }, this_element (value_element v) (value_element v))
      by (shape.element {content = content} {below = below} v s g) l e (this_entry h) = (record { content = content; below = below }, this_element (value_element v) (value_element v))
      by (shape.last_element {content = content} {below = below} {after = after} v c) l e (later_entry {t = t} {x = x} {y = y} h s k) =
          let f = carries_more o (printed_text after) z (closed_some o close_bracket_mark c) in
          let one = value_stands o (printed_text after ++ z) f v l.1 in
          let same : t ≡ node_then content below after z = e ∙ sym (node_text o content below after z (value_utf8 o v)) in
          let ends = entry_ends o an_array (node_then content below after z) x (printed_text after ++ z) (subst (λ w. IsEntry o an_array w x) same h) (one.0, one.1) in
          absurd (closes_no_more (inl refl) (closed_stands o z close_bracket_mark c l.2) (subst (λ w. Separates o w y) ends s) (at_begins o an_array k))
      by (shape.element {content = content} {below = below} {after = after} {u = u} v s g) l e (later_entry {t = t} {x = x} {y = y} h b k) =
          let f = carries_more o (printed_text after) z (separated_some o s (elements_some o g)) in
          let one = value_stands o (printed_text after ++ z) f v l.1 in
          let gap = separated_stands o z (elements_stop g) s l.2 in
          let same : t ≡ node_then content below after z = e ∙ sym (node_text o content below after z (value_utf8 o v)) in
          let ends = entry_ends o an_array (node_then content below after z) x (printed_text after ++ z) (subst (λ w. IsEntry o an_array w x) same h) (one.0, one.1) in
          let begins : IsTrue (starts begins_item (next (printed_text u ++ z))) = elements_begin z g gap.1 in
          let here = separates_once o ends b gap.0 (at_begins o an_array k) begins in
          let m = by g gap.1 here k in
          (m.0, later_element (value_element v) (behind_separated s m.1))

  properties_found : (z : List ℕ) {row : OrderedTree} → PropertiesShaped o row → LinesEndLoosely true false row → {i : ℕ} {a r : List ℕ} → EntryAt o an_object i (printed_text row ++ z) a r
      → (held : OrderedTree) × ElementChanged (property_of held) (property_of held) i row row
  properties_found z shaped l at = by shaped l refl at
    where
      by : {row : OrderedTree} → PropertiesShaped o row → LinesEndLoosely true false row → {i : ℕ} {t a r : List ℕ} → t ≡ printed_text row ++ z → EntryAt o an_object i t a r
          → (held : OrderedTree) × ElementChanged (property_of held) (property_of held) i row row
      by (shape.last_property {below = below} p c) l e (this_entry h) = (below, this_element refl refl)
      by (shape.property {below = below} p s g) l e (this_entry h) = (below, this_element refl refl)
      by (shape.last_property {below = below} {after = after} p c) l e (later_entry {t = t} {x = x} {y = y} h s k) =
          let f = carries_more o (printed_text after) z (closed_some o close_brace_mark c) in
          let one = property_stands o (printed_text after ++ z) f p l.1 in
          let same : t ≡ node_then Content.property below after z = e ∙ sym (node_text o Content.property below after z (property_utf8 o p)) in
          let ends = entry_ends o an_object (node_then Content.property below after z) x (printed_text after ++ z) (subst (λ w. IsEntry o an_object w x) same h) (one.0, one.1, one.2) in
          absurd (closes_no_more (inr refl) (closed_stands o z close_brace_mark c l.2) (subst (λ w. Separates o w y) ends s) (at_begins o an_object k))
      by (shape.property {below = below} {after = after} {u = u} p s g) l e (later_entry {t = t} {x = x} {y = y} h b k) =
          let f = carries_more o (printed_text after) z (separated_some o s (properties_some o g)) in
          let one = property_stands o (printed_text after ++ z) f p l.1 in
          let gap = separated_stands o z (properties_stop g) s l.2 in
          let same : t ≡ node_then Content.property below after z = e ∙ sym (node_text o Content.property below after z (property_utf8 o p)) in
          let ends = entry_ends o an_object (node_then Content.property below after z) x (printed_text after ++ z) (subst (λ w. IsEntry o an_object w x) same h) (one.0, one.1, one.2) in
          let here = separates_once o ends b gap.0 (at_begins o an_object k) (properties_begin z g gap.1) in
          let m = by g gap.1 here k in
          (m.0, later_element refl (behind_separated s m.1))

  -- no entry comes where the row closes at once
  none_closes : {c : ℕ} (z : List ℕ) (t y : List ℕ) → IsBracket c → Gap o t (c ∷ z) → Gap o t y → IsTrue (starts begins_item (next y)) → ⊥
  none_closes {c} z t y b g h a = no_item_at (bracket_no_item c b) (gap_unique g h (bracket_no_gap c b) (not_gap y a)) a

  array_found : (z : List ℕ) {row : OrderedTree} {i : ℕ} {a r : List ℕ} → ValueHere o (record { content = Content.array; below = row }) z → HasEntry o an_array i (printed_text row ++ z) a r → (y : Top) × ElementChanged y y i row row
  array_found z here has = by here.shaped here.lines has
    where
      by : {row : OrderedTree} {q : List ℕ} {i : ℕ} {a r : List ℕ} → ValueShaped o Content.array row q → LinesEndLoosely true false row → HasEntry o an_array i (printed_text row ++ z) a r → (y : Top) × ElementChanged y y i row row
      by (shape.literal h) l has = absurd h
      by (shape.empty_array {t = t} g) l (x, y, e, k, at) =
          let gap = trivia_gap o z true false (λ e. cc) tt g l.2 in
          let same : x ≡ printed_text t ++ z = tails (sym e ∙ ap (λ c. c ++ z) (mark_text bracket_mark t)) in
          absurd (none_closes z (printed_text t ++ z) y (inl refl) (subst (Gap o (printed_text t ++ z)) (closing_text close_bracket_mark z) gap.0) (subst (λ w. Gap o w y) same k) (at_begins o an_array at))
      by {i = i} {a = a} {r = r} (shape.array {t = t} {u = u} g es) l (x, y, e, k, at) =
          let gap = trivia_gap o z true false (λ e. cc) (elements_stop es) g l.2 in
          let same : x ≡ printed_text t ++ z = tails (sym e ∙ ap (λ c. c ++ z) (mark_text bracket_mark t)) in
          let first : y ≡ printed_text u ++ z = gap_unique (subst (λ w. Gap o w y) same k) gap.0 (not_gap y (at_begins o an_array at)) (not_gap (printed_text u ++ z) (elements_begin z es gap.1)) in
          let m = elements_found z es gap.1 (subst (λ w. EntryAt o an_array i w a r) first at) in
          (m.0, behind_token 0x5B (behind_trivia g m.1))

  object_found : (z : List ℕ) {row : OrderedTree} {i : ℕ} {a r : List ℕ} → ValueHere o (record { content = Content.object; below = row }) z → HasEntry o an_object i (printed_text row ++ z) a r
      → (held : OrderedTree) × ElementChanged (property_of held) (property_of held) i row row
  object_found z here has = by here.shaped here.lines has
    where
      by : {row : OrderedTree} {q : List ℕ} {i : ℕ} {a r : List ℕ} → ValueShaped o Content.object row q → LinesEndLoosely true false row → HasEntry o an_object i (printed_text row ++ z) a r
          → (held : OrderedTree) × ElementChanged (property_of held) (property_of held) i row row
      by (shape.literal h) l has = absurd h
      by (shape.empty_object {t = t} g) l (x, y, e, k, at) =
          let gap = trivia_gap o z true false (λ e. cc) tt g l.2 in
          let same : x ≡ printed_text t ++ z = tails (sym e ∙ ap (λ c. c ++ z) (mark_text brace_mark t)) in
          absurd (none_closes z (printed_text t ++ z) y (inr refl) (subst (Gap o (printed_text t ++ z)) (closing_text close_brace_mark z) gap.0) (subst (λ w. Gap o w y) same k) (at_begins o an_object at))
      by {i = i} {a = a} {r = r} (shape.object {t = t} {u = u} g ps) l (x, y, e, k, at) =
          let gap = trivia_gap o z true false (λ e. cc) (properties_stop ps) g l.2 in
          let same : x ≡ printed_text t ++ z = tails (sym e ∙ ap (λ c. c ++ z) (mark_text brace_mark t)) in
          let first : y ≡ printed_text u ++ z = gap_unique (subst (λ w. Gap o w y) same k) gap.0 (not_gap y (at_begins o an_object at)) (not_gap (printed_text u ++ z) (properties_begin z ps gap.1)) in
          let m = properties_found z ps gap.1 (subst (λ w. EntryAt o an_object i w a r) first at) in
          (m.0, behind_token 0x7B (behind_trivia g m.1))

  -- the value of a property
  held_found : {held : OrderedTree} {z : List ℕ} → PropertyHere o held z → (y : Top) × ElementChanged y y 1 held held
  held_found here = by here.shaped
    where
      by : {held : OrderedTree} {r : List ℕ} → PropertyShaped o held r → (y : Top) × ElementChanged y y 1 held held
      by (shape.named {name = name} {content = content} {below = below} n g h v) =
          (record { content = content; below = below }, later_element (name_element o name _ n) (behind_trivia g (behind_token 0x3A (behind_trivia h (this_element (value_element v) (value_element v))))))

  -- no literal begins with a bracket
  literal_begins : (content : Content) {q : List ℕ} (z : List ℕ) → Carries o q z → IsLiteralBefore o content q → (c : ℕ) → IsTrue (is_punctuation c) → (t : List ℕ) → chars (text_of content ++ printed none) ++ z ≡ c ∷ t → ⊥
  literal_begins (Content.string s) z f (v, (u, h)) c m t e =
      no_literal o c (lexemes.string v) t z m (subst (λ w. Lexeme o (lexemes.string v) w z) (sym (ap (λ b. chars b ++ z) (append-nil s)) ∙ e) (f (lexemes.string v) (chars s) h)) refl
  literal_begins (Content.number s) z f (u, h) c m t e =
      no_literal o c (lexemes.number (chars s)) t z m (subst (λ w. Lexeme o (lexemes.number (chars s)) w z) (sym (ap (λ b. chars b ++ z) (append-nil s)) ∙ e) (f (lexemes.number (chars s)) (chars s) h)) refl
  literal_begins (Content.boolean b) z f h c m t e =
      let text : keyword_text (words.boolean b) ≡ chars (text_of (Content.boolean b) ++ []) = sym (ap chars (append-nil (text_of (Content.boolean b))) ∙ word_chars b) in
      no_literal o c (lexemes.keyword (words.boolean b)) t z m
      (subst (λ w. Lexeme o (lexemes.keyword (words.boolean b)) w z) (ap (λ x. x ++ z) text ∙ e) (f (lexemes.keyword (words.boolean b)) (keyword_text (words.boolean b)) (refl, h))) refl
  literal_begins Content.null z f h c m t e =
      let text : keyword_text words.null ≡ chars (text_of Content.null ++ []) = sym (ap chars (append-nil (text_of Content.null)) ∙ null_chars) in
      no_literal o c (lexemes.keyword words.null) t z m (subst (λ w. Lexeme o (lexemes.keyword words.null) w z) (ap (λ x. x ++ z) text ∙ e) (f (lexemes.keyword words.null) (keyword_text words.null) (refl, h))) refl
  literal_begins content z f h c m t e = absurd h

  opening_mark : (kind : Kind) → IsTrue (is_punctuation (opening kind))
  opening_mark an_array = refl
  opening_mark an_object = refl

  array_opens : {row : OrderedTree} {q : List ℕ} → ValueShaped o Content.array row q → (u : List ℕ) × (printed_text row ≡ 0x5B ∷ u)
  array_opens (shape.literal h) = absurd h
  array_opens (shape.empty_array {t = t} g) = (printed_text t, mark_text bracket_mark t)
  array_opens (shape.array {t = t} g e) = (printed_text t, mark_text bracket_mark t)

  object_opens : {row : OrderedTree} {q : List ℕ} → ValueShaped o Content.object row q → (u : List ℕ) × (printed_text row ≡ 0x7B ∷ u)
  object_opens (shape.literal h) = absurd h
  object_opens (shape.empty_object {t = t} g) = (printed_text t, mark_text brace_mark t)
  object_opens (shape.object {t = t} g e) = (printed_text t, mark_text brace_mark t)

  other_bracket : (k l : Kind) {t x y : List ℕ} → t ≡ opening k ∷ x → t ≡ opening l ∷ y → k ≡ l
  other_bracket k l e f = kinds_same k l (sym e ∙ f)

  -- a container is an array or an object
  no_container : (kind : Kind) {content : Content} {below : OrderedTree} {q z x : List ℕ} → ValueShaped o content below q → is_array_or_object content ≡ false → Carries o q z → chars (text_of content ++ printed below) ++ z ≡ opening kind ∷ x → ⊥
  no_container kind {z = z} {x = x} (shape.literal {content = content} h) n f e = literal_begins content z f h (opening kind) (opening_mark kind) x e
  no_container kind (shape.empty_array g) n f e = cc
  no_container kind (shape.array g es) n f e = cc
  no_container kind (shape.empty_object g) n f e = cc
  no_container kind (shape.object g ps) n f e = cc

  -- what is found further inside
  abbrev Further : List ℕ → List ℕ → Type 0
  Further path c = (x : Top) (z : List ℕ) → ValueHere o x z → c ≡ node_chars x ++ z → (y : Top) × ValueChanged y y path x x

  abbrev InContainer : Content → OrderedTree → ℕ → List ℕ → Type 0
  InContainer content below i path = (y : Top) × ValueChanged y y (i ∷ path) (record { content = content; below = below }) (record { content = content; below = below })

  in_array_found : {i : ℕ} {path c first behind z : List ℕ} (row : OrderedTree) → ValueHere o (record { content = Content.array; below = row }) z → HasEntry o an_array i (printed_text row ++ z) first behind → LeadsTo o an_array first c → Further path c
      → InContainer Content.array row i path
  in_array_found {z = z} row h own leads further =
      let m = array_found z h own in
      let p = array_place o z m.1 h in
      let n = further m.0 (text_of_leaves (row_back m.1) ++ z) p.0 (leads ∙ has_once o an_array own p.1) in
      (n.0, in_array m.1 n.1)

  in_object_found : {i : ℕ} {path c first behind z : List ℕ} (row : OrderedTree) → ValueHere o (record { content = Content.object; below = row }) z → HasEntry o an_object i (printed_text row ++ z) first behind → LeadsTo o an_object first c
      → IsTrue (starts begins_item (next c)) → Further path c → InContainer Content.object row i path
  in_object_found {c = c} {first = first} {z = z} row h own leads b further =
      let m = object_found z h own in
      let p = object_place o z m.1 h in
      let back : List ℕ = text_of_leaves (row_back m.1) ++ z in
      let v = held_found p.0 in
      let q = property_place o back v.1 p.0 in
      let begins : IsTrue (starts begins_item (next (node_chars v.0 ++ back))) = value_begins o (value_stands o back q.1.carries q.1.shaped q.1.lines).1 in
      let same : c ≡ node_chars v.0 ++ back = leads_once o an_object first (printed_text m.0 ++ back) c (node_chars v.0 ++ back) (has_once o an_object own p.1) leads q.2 b begins in
      let n = further v.0 back q.1 same in
      (n.0, in_object m.1 v.1 n.1)

  in_container : (kind : Kind) {i : ℕ} {path t c first behind z : List ℕ} (content : Content) (below : OrderedTree) → ValueHere o (record { content = content; below = below }) z → t ≡ chars (text_of content ++ printed below) ++ z
      → HasEntry o kind i t first behind → LeadsTo o kind first c → IsTrue (starts begins_item (next c)) → Further path c → InContainer content below i path
  in_container kind {i = i} {t = t} {c = c} {first = first} {behind = behind} {z = z} Content.array row h e has leads b further =
      let opens = array_opens h.shaped in
      let same : kind ≡ an_array = other_bracket kind an_array has.2 (e ∙ ap (λ w. w ++ z) opens.1) in
      in_array_found row h (subst (λ w. HasEntry o an_array i w first behind) e (subst (λ j. HasEntry o j i t first behind) same has)) (subst (λ j. LeadsTo o j first c) same leads) further
  in_container kind {i = i} {t = t} {c = c} {first = first} {behind = behind} {z = z} Content.object row h e has leads b further =
      let opens = object_opens h.shaped in
      let same : kind ≡ an_object = other_bracket kind an_object has.2 (e ∙ ap (λ w. w ++ z) opens.1) in
      in_object_found row h (subst (λ w. HasEntry o an_object i w first behind) e (subst (λ j. HasEntry o j i t first behind) same has)) (subst (λ j. LeadsTo o j first c) same leads) b further
  in_container kind content below h e has leads b further = absurd (no_container kind h.shaped refl h.carries (sym e ∙ has.2))

  -- a value of a value
  value_found : {path t a r : List ℕ} → ValueAt o path t a r → (x : Top) (z : List ℕ) → ValueHere o x z → t ≡ node_chars x ++ z → (y : Top) × ValueChanged y y path x x
  value_found (places.itself v) x z here e = (x, itself)
  value_found (inside kind has leads at) x z here e = in_container kind x.content x.below here e has leads (value_at_begins o at) (value_found at)

  -- so it is in a document
  pub document_found : {path a r : List ℕ} {t : OrderedTree} → SoundTree o t → Value path o (printed_text t) a r → (y : Top) × DocumentChanged y y path t t
  document_found {path} {a} {r} {t} s v = by s.shaped s.lines v
    where
      by : {t : OrderedTree} → DocumentShaped o t → DocumentLinesEndLoosely t → Value path o (printed_text t) a r → (y : Top) × DocumentChanged y y path t t
      by (shape.no_value {row = row} g) (row2, e, l) (w, gap, at) =
          let same : row2 ≡ row = cc in
          let last = trivia_gap o [] false true (λ e. refl) tt g (subst (LinesEndLoosely false true) same l) in
          let nothing : Gap o (printed_text (more Content.root row none)) [] =
          subst (λ t. Gap o t []) (append-nil (printed_text row) ∙ sym (root_text o row)) (subst (Gap o _) (ap (λ t. t ++ []) chars-nil) last.0) in
          let ends : [] ≡ w = gap_unique nothing gap refl (not_gap w (value_at_begins o at)) in
          absurd (none_begins ends (value_at_begins o at))
      by (shape.a_value {content = content} {row = row} {below = below} {after = after} g v h) (row2, e, l) (w, gap, at) =
          let same : row2 ≡ row = cc in
          let before = trivia_gap o [] false true (λ e. refl) (value_stops after v) g (subst (LinesEndLoosely false true) same l) in
          let here : List ℕ = chars (text_of content ++ printed below) ++ printed_text after in
          let start : Gap o (printed_text (more Content.root row none)) here =
          subst (λ t. Gap o t here) (append-nil (printed_text row) ∙ sym (root_text o row)) (subst (Gap o _) (append-nil (printed_text (more content below after)) ∙ text_more content below after (value_utf8 o v)) before.0) in
          let x : Top = record { content = content; below = below } in
          let stands : ValueHere o x (printed_text after) = record { r = printed_text after; shaped = v; carries = λ k s x. x; lines = before.1.1 } in
          let begins : IsTrue (starts begins_item (next here)) = value_begins o (value_stands o (printed_text after) (λ k s x. x) v before.1.1).1 in
          let first : w ≡ here = gap_unique gap start (not_gap w (value_at_begins o at)) (not_gap here begins) in
          let m = value_found at x (printed_text after) stands first in
          (m.0, in_root (behind_trivia g (this_element (value_element v) (value_element v))) m.1)

-- a path that ends in a number has one last number
no_end : (p : List ℕ) (i : ℕ) → [] ≡ p ++ i ∷ [] → ⊥
no_end [] i e = cc
no_end (x ∷ p) i e = cc

last_step : (p q : List ℕ) (i j : ℕ) → p ++ i ∷ [] ≡ q ++ j ∷ [] → (p ≡ q) × (i ≡ j)
last_step [] [] i j e = (refl, heads e)
last_step [] (x ∷ q) i j e = absurd (no_end q j (tails e))
last_step (x ∷ p) [] i j e = absurd (no_end p i (sym (tails e)))
last_step (x ∷ p) (y ∷ q) i j e = let m = last_step p q i j (tails e) in (ap (λ n. n ∷ p) (heads e) ∙ ap (λ l. y ∷ l) m.0, m.1)

-- the container of an entry
record EntryParts (o : Options) (path : List ℕ) (i : ℕ) (text u r : List ℕ) : Type 0 where
  kind : Kind
  begins : List ℕ
  behind : List ℕ
  value : Value path o text begins behind
  has : HasEntry o kind i begins u r

entry_parts : (o : Options) (path : List ℕ) (i : ℕ) {q text u r : List ℕ} → Entry q o text u r → q ≡ path ++ i ∷ [] → EntryParts o path i text u r
entry_parts o path i (places.the_value v) e = absurd (no_end path i e)
entry_parts o path i {text = text} {u = u} {r = r} (places.an_entry kind j {path = p} {t = t} {z = z} v has) e =
    let same = last_step p path j i e in
    record { kind = kind; begins = t; behind = z; value = subst (λ k. Value k o text t z) same.0 v; has = subst (λ n. HasEntry o kind n t u r) same.1 has }

-- an entry of the text is an element of the row of a container, behind which this stands
pub record FoundEntry (o : Options) (path : List ℕ) (i : ℕ) (t : OrderedTree) (r : List ℕ) : Type 0 where
  pub kind : RowKind
  pub row : OrderedTree
  pub entry : Top
  pub at : ElementChanged entry entry i row row
  pub named : kind ≡ of_properties → entry.content ≡ Content.property
  pub holder : DocumentChanged (container_of kind row) (container_of kind row) path t t
  pub behind : r ≡ text_of_leaves (row_back at) ++ text_of_leaves (back_of holder)

-- an element that is there
stays_there : {y z : Top} {i : ℕ} {r n : OrderedTree} → ElementChanged y z i r n → ElementChanged y y i r r
stays_there (this_element p q) = this_element p p
stays_there (passed h e) = passed h (stays_there e)
stays_there (later_element h e) = later_element h (stays_there e)

back_stays : {y z : Top} {i : ℕ} {r n : OrderedTree} → (e : ElementChanged y z i r n) → row_back (stays_there e) ≡ row_back e
unfolding stays_there
back_stays (this_element p q) = refl
back_stays (passed h e) = back_stays e
back_stays (later_element h e) = back_stays e

-- without the first bracket
record Unbracketed {y z : Top} {i c : ℕ} {r new : OrderedTree} (e : ElementChanged y z i (token_then c r) new) : Type 0 where
  inner : ElementChanged y y i r r
  same : row_back inner ≡ row_back e

unbracketed : {y z : Top} {i c : ℕ} {r new : OrderedTree} → (e : ElementChanged y z i (token_then c r) new) → Unbracketed e
unbracketed (passed k e) = record { inner = stays_there e; same = back_stays e }
unbracketed {c = c} (later_element k e) = absurd (no_element (Content.token c) k refl)
unbracketed {c = c} (this_element k l) = absurd (no_element (Content.token c) k refl)

module _ (o : Options) where
  module _ {path : List ℕ} {i : ℕ} {t : OrderedTree} {u r : List ℕ} where
    array_entry : (inner : OrderedTree) {back : List ℕ} → ValueHere o (container_of of_values inner) back → (d : DocumentChanged (container_of of_values inner) (container_of of_values inner) path t t) → back ≡ text_of_leaves (back_of d)
        → HasEntry o an_array i (printed_text (token_then 0x5B inner) ++ back) u r → FoundEntry o path i t r
    array_entry inner {back} here d b own =
        let n = array_found o back here own in
        let p = array_place o back n.1 here in
        let m = unbracketed n.1 in
        record { kind = of_values; row = inner; entry = n.0; at = m.inner; named = λ e. cc; holder = d; behind = has_ends o an_array own p.1 ∙ ap (λ l. text_of_leaves l ++ back) (sym m.same) ∙ ap (λ w. text_of_leaves (row_back m.inner) ++ w) b }

    in_an_array : {row : OrderedTree} {q back : List ℕ} → ValueShaped o Content.array row q → ValueHere o (record { content = Content.array; below = row }) back
        → (d : DocumentChanged (record { content = Content.array; below = row }) (record { content = Content.array; below = row }) path t t) → back ≡ text_of_leaves (back_of d) → HasEntry o an_array i (printed_text row ++ back) u r → FoundEntry o path i t r
    in_an_array (shape.literal h) here d b own = absurd h
    in_an_array (shape.empty_array {t = inner} g) here d b own = array_entry inner here d b own
    in_an_array (shape.array {t = inner} g es) here d b own = array_entry inner here d b own

    object_entry : (inner : OrderedTree) {back : List ℕ} → ValueHere o (container_of of_properties inner) back → (d : DocumentChanged (container_of of_properties inner) (container_of of_properties inner) path t t) → back ≡ text_of_leaves (back_of d)
        → HasEntry o an_object i (printed_text (token_then 0x7B inner) ++ back) u r → FoundEntry o path i t r
    object_entry inner {back} here d b own =
        let n = object_found o back here own in
        let p = object_place o back n.1 here in
        let m = unbracketed n.1 in
        record { kind = of_properties; row = inner; entry = property_of n.0; at = m.inner; named = λ e. refl; holder = d; behind = has_ends o an_object own p.1 ∙ ap (λ l. text_of_leaves l ++ back) (sym m.same) ∙ ap (λ w. text_of_leaves (row_back m.inner) ++ w) b }

    in_an_object : {row : OrderedTree} {q back : List ℕ} → ValueShaped o Content.object row q → ValueHere o (record { content = Content.object; below = row }) back
        → (d : DocumentChanged (record { content = Content.object; below = row }) (record { content = Content.object; below = row }) path t t) → back ≡ text_of_leaves (back_of d) → HasEntry o an_object i (printed_text row ++ back) u r → FoundEntry o path i t r
    in_an_object (shape.literal h) here d b own = absurd h
    in_an_object (shape.empty_object {t = inner} g) here d b own = object_entry inner here d b own
    in_an_object (shape.object {t = inner} g ps) here d b own = object_entry inner here d b own

  pub entry_found : {path : List ℕ} {i : ℕ} {t : OrderedTree} {u r : List ℕ} → SoundTree o t → Entry (path ++ i ∷ []) o (printed_text t) u r → FoundEntry o path i t r
  entry_found {path} {i} {t} {u} {r} s entry = by f.0.content f.0.below f.1 refl (at_the_place o s f.1).2 start
    where
      m : EntryParts o path i (printed_text t) u r
      m = entry_parts o path i entry refl

      f : (y : Top) × DocumentChanged y y path t t
      f = document_found o s m.value

      start : m.begins ≡ node_chars f.0 ++ text_of_leaves (back_of f.1)
      start = value_once o m.value (at_the_place o s f.1).1 ∙ ap (λ l. l ++ text_of_leaves (back_of f.1)) (sym (node_leaves o f.0))

      by : (content : Content) (below : OrderedTree) {back : List ℕ} → (d : DocumentChanged (record { content = content; below = below }) (record { content = content; below = below }) path t t) → back ≡ text_of_leaves (back_of d)
          → ValueHere o (record { content = content; below = below }) back → m.begins ≡ chars (text_of content ++ printed below) ++ back → FoundEntry o path i t r
      by Content.array row {back} d b here e =
          let opens = array_opens o here.shaped in
          let same : m.kind ≡ an_array = other_bracket o m.kind an_array m.has.2 (e ∙ ap (λ w. w ++ back) opens.1) in
          in_an_array here.shaped here d b (subst (λ w. HasEntry o an_array i w u r) e (subst (λ k. HasEntry o k i m.begins u r) same m.has))
      by Content.object row {back} d b here e =
          let opens = object_opens o here.shaped in
          let same : m.kind ≡ an_object = other_bracket o m.kind an_object m.has.2 (e ∙ ap (λ w. w ++ back) opens.1) in
          in_an_object here.shaped here d b (subst (λ w. HasEntry o an_object i w u r) e (subst (λ k. HasEntry o k i m.begins u r) same m.has))
      by content below d b here e = absurd (no_container o m.kind here.shaped refl here.carries (sym e ∙ m.has.2))

-- A tree of a document's shape prints a document, and has its value, where its line comments end with their lines.
use Rattle.std.proofs.Common.{ℕ, ◌<◌, ◌≡◌, ◌∙◌, sym, ap, subst, refl, Bool, true, false, inl, inr, List, [], ◌∷◌, ◌++◌, length, arith, rules, Some, None, IsUtf8, chars, encode_utf8, length-append}
use Rattle.std.proofs.lemmas.List.{append_assoc, append-nil}
use Rattle.std.proofs.lemmas.Str.{chars-nil, chars-IsAscii, IsUtf8-append, IsUtf8-nil, IsUtf8-from_ascii}
use lib.Utf8.{encode}
use Rattle.jsonc_text.specs.Options.{Options}
use Rattle.jsonc_text.specs.Gaps.{Gap}
use Rattle.jsonc_text.specs.Words as words
use Rattle.jsonc_text.specs.Words.{keyword_text}
use Rattle.jsonc_text.specs.Lexemes as lexemes
use Rattle.jsonc_text.specs.Lexemes.{LexemeKind, Lexeme, lexeme}
use Rattle.jsonc_text.specs.Plain.{Plain, Items, no_items, item, Members, no_members, member}
use Rattle.jsonc_text.specs.Grammar as grammar
use Rattle.jsonc_text.specs.Grammar.{Separates, Closes, IsName, IsValue, AreElements, AreProperties, IsProperty}
use Rattle.jsonc_text.proofs.LexemesAlone.{scanned_alone}
use Rattle.jsonc_tree.specs.Content.{Content, text_of}
use Rattle.jsonc_tree.specs.OrderedTree.{OrderedTree, none, more, printed}
use Rattle.jsonc_tree.specs.Values as values
use Rattle.jsonc_tree.specs.Values.{IsNameLeaf, ValueOf, ItemsOf, MembersOf, PropertyOf}
use Rattle.jsonc_tree.proofs.OrderedTrees.{printed-more}
use Rattle.jsonc_sound.specs.Lines.{is_loose, LinesEndLoosely, DocumentLinesEndLoosely}
use Rattle.jsonc_sound.specs.Shape as shape
use Rattle.jsonc_sound.specs.Shape.{IsLiteralBefore, IsNameBefore, Separated, Closed, ValueShaped, ElementsShaped, PropertiesShaped, PropertyShaped, DocumentShaped, PrintsDocument, token_then, printed_text}
use Rattle.jsonc_sound.proofs.LexemeEnds.{lexeme_more}
use Rattle.jsonc_sound.proofs.LooseLines.{Stops, value_stops, elements_stop, properties_stop, trivia_gap}
use Rattle.jsonc_sound.proofs.ShapeTexts.{text_more, text_leaf, trivia_items, trivia_members, trivia_value, trivia_none, trivia_row_utf8, trivia_some}

-- punctuation is one byte
pub record Mark (c : ℕ) : Type 0 where
  pub bytes : encode_utf8 c ≡ c ∷ []
  pub utf8 : IsUtf8 (c ∷ [])
  pub text : chars (c ∷ []) ≡ c ∷ []

pub comma_mark : Mark 0x2C
unfolding encode
comma_mark = record { bytes = refl; utf8 = IsUtf8-from_ascii (0x2C ∷ []) (search rules); text = chars-IsAscii (0x2C ∷ []) (search rules) }

pub colon_mark : Mark 0x3A
unfolding encode
colon_mark = record { bytes = refl; utf8 = IsUtf8-from_ascii (0x3A ∷ []) (search rules); text = chars-IsAscii (0x3A ∷ []) (search rules) }

pub bracket_mark : Mark 0x5B
unfolding encode
bracket_mark = record { bytes = refl; utf8 = IsUtf8-from_ascii (0x5B ∷ []) (search rules); text = chars-IsAscii (0x5B ∷ []) (search rules) }

pub close_bracket_mark : Mark 0x5D
unfolding encode
close_bracket_mark = record { bytes = refl; utf8 = IsUtf8-from_ascii (0x5D ∷ []) (search rules); text = chars-IsAscii (0x5D ∷ []) (search rules) }

pub brace_mark : Mark 0x7B
unfolding encode
brace_mark = record { bytes = refl; utf8 = IsUtf8-from_ascii (0x7B ∷ []) (search rules); text = chars-IsAscii (0x7B ∷ []) (search rules) }

pub close_brace_mark : Mark 0x7D
unfolding encode
close_brace_mark = record { bytes = refl; utf8 = IsUtf8-from_ascii (0x7D ∷ []) (search rules); text = chars-IsAscii (0x7D ∷ []) (search rules) }

pub mark_text : {c : ℕ} → Mark c → (row : OrderedTree) → printed_text (token_then c row) ≡ c ∷ printed_text row
mark_text {c} m row = text_leaf (Content.token c) row (subst IsUtf8 (sym m.bytes) m.utf8) ∙ ap (λ t. t ++ printed_text row) (ap chars m.bytes ∙ m.text)

pub mark_utf8 : {c : ℕ} → Mark c → (row : OrderedTree) → IsUtf8 (printed row) → IsUtf8 (printed (token_then c row))
mark_utf8 {c} m row u = subst IsUtf8 (sym (printed-more (Content.token c) none row)) (IsUtf8-append (encode_utf8 c) (printed row) (subst IsUtf8 (sym m.bytes) m.utf8) u)

pub mark_some : {c : ℕ} → Mark c → (row : OrderedTree) → 0 < length (printed_text (token_then c row))
mark_some m row = omega (arith, ap length (mark_text m row))

-- the last bracket
pub closing_text : {c : ℕ} → Mark c → (z : List ℕ) → printed_text (token_then c none) ++ z ≡ c ∷ z
closing_text {c} m z = ap (λ t. t ++ z) (mark_text m none ∙ ap (λ t. c ∷ t) chars-nil)

pub printed_none : IsUtf8 (printed none)
printed_none = IsUtf8-nil

pub word_utf8 : (b : Bool) → IsUtf8 (text_of (Content.boolean b))
word_utf8 true = IsUtf8-from_ascii _ (search rules)
word_utf8 false = IsUtf8-from_ascii _ (search rules)

pub word_chars : (b : Bool) → chars (text_of (Content.boolean b)) ≡ keyword_text (words.boolean b)
word_chars true = chars-IsAscii _ (search rules)
word_chars false = chars-IsAscii _ (search rules)

pub null_utf8 : IsUtf8 (text_of Content.null)
null_utf8 = IsUtf8-from_ascii _ (search rules)

pub null_chars : chars (text_of Content.null) ≡ keyword_text words.null
null_chars = chars-IsAscii _ (search rules)

-- what the shape says of a lexeme before r is so before z too
abbrev pub Carries : Options → List ℕ → List ℕ → Type 0
Carries o r z = (k : LexemeKind) (s : List ℕ) → Lexeme o k (s ++ r) r → Lexeme o k (s ++ z) z

-- a node prints a value before z, and has it
abbrev pub Stands : Options → Content → OrderedTree → List ℕ → Type 0
Stands o content below z = (v : Plain) × IsValue o (chars (text_of content ++ printed below) ++ z) v z × ValueOf o content below v

module _ (o : Options) where
  pub literal_utf8 : (content : Content) (r : List ℕ) → IsLiteralBefore o content r → IsUtf8 (text_of content)
  literal_utf8 (Content.string s) r h = h.1.0
  literal_utf8 (Content.number s) r h = h.0
  literal_utf8 (Content.boolean b) r h = word_utf8 b
  literal_utf8 Content.null r h = null_utf8
  literal_utf8 Content.root r h = absurd h
  literal_utf8 Content.object r h = absurd h
  literal_utf8 Content.array r h = absurd h
  literal_utf8 Content.property r h = absurd h
  literal_utf8 (Content.word s) r h = absurd h
  literal_utf8 (Content.token c) r h = absurd h
  literal_utf8 (Content.whitespace s) r h = absurd h
  literal_utf8 (Content.newline k) r h = absurd h
  literal_utf8 (Content.comment s) r h = absurd h

  pub literal_stands : (content : Content) {r : List ℕ} (z : List ℕ) → Carries o r z → IsLiteralBefore o content r → Stands o content none z
  literal_stands (Content.string s) {r} z f (v, (u, h)) =
      (Plain.string v, subst (λ b. IsValue o (chars b ++ z) (Plain.string v) z) (sym (append-nil s)) (grammar.literal (lexemes.string v) (f (lexemes.string v) (chars s) h) refl), values.string (scanned_alone o (lexeme (lexemes.string v)) (chars s) r h).0)
  literal_stands (Content.number s) z f (u, h) =
      (Plain.number (chars s), subst (λ b. IsValue o (chars b ++ z) (Plain.number (chars s)) z) (sym (append-nil s)) (grammar.literal (lexemes.number (chars s)) (f (lexemes.number (chars s)) (chars s) h) refl), values.number)
  literal_stands (Content.boolean b) z f h =
      let word : List ℕ = keyword_text (words.boolean b) in
      let lexeme_here = f (lexemes.keyword (words.boolean b)) word (refl, h) in
      let text : word ≡ chars (text_of (Content.boolean b) ++ []) = sym (ap chars (append-nil (text_of (Content.boolean b))) ∙ word_chars b) in
      (Plain.boolean b, subst (λ t. IsValue o (t ++ z) (Plain.boolean b) z) text (grammar.literal (lexemes.keyword (words.boolean b)) lexeme_here refl), values.boolean)
  literal_stands Content.null z f h =
      let word : List ℕ = keyword_text words.null in
      let lexeme_here = f (lexemes.keyword words.null) word (refl, h) in
      let text : word ≡ chars (text_of Content.null ++ []) = sym (ap chars (append-nil (text_of Content.null)) ∙ null_chars) in
      (Plain.null, subst (λ t. IsValue o (t ++ z) Plain.null z) text (grammar.literal (lexemes.keyword words.null) lexeme_here refl), values.null)
  literal_stands Content.root z f h = absurd h
  literal_stands Content.object z f h = absurd h
  literal_stands Content.array z f h = absurd h
  literal_stands Content.property z f h = absurd h
  literal_stands (Content.word s) z f h = absurd h
  literal_stands (Content.token c) z f h = absurd h
  literal_stands (Content.whitespace s) z f h = absurd h
  literal_stands (Content.newline k) z f h = absurd h
  literal_stands (Content.comment s) z f h = absurd h

  pub name_utf8 : (content : Content) (r : List ℕ) → IsNameBefore o content r → IsUtf8 (text_of content)
  name_utf8 (Content.string s) r h = h.1.0
  name_utf8 (Content.word s) r h = h.0
  name_utf8 Content.root r h = absurd h
  name_utf8 Content.object r h = absurd h
  name_utf8 Content.array r h = absurd h
  name_utf8 Content.property r h = absurd h
  name_utf8 (Content.number s) r h = absurd h
  name_utf8 (Content.boolean b) r h = absurd h
  name_utf8 Content.null r h = absurd h
  name_utf8 (Content.token c) r h = absurd h
  name_utf8 (Content.whitespace s) r h = absurd h
  name_utf8 (Content.newline k) r h = absurd h
  name_utf8 (Content.comment s) r h = absurd h

  pub name_stands : (content : Content) {r : List ℕ} (z : List ℕ) → Carries o r z → IsNameBefore o content r → (name : List ℕ) × IsName o (chars (text_of content) ++ z) name z × IsNameLeaf o content name
  name_stands (Content.string s) {r} z f (v, (u, h)) = (v, inl (f (lexemes.string v) (chars s) h), (scanned_alone o (lexeme (lexemes.string v)) (chars s) r h).0)
  name_stands (Content.word s) z f (u, h) = (chars s, inr (h.0, refl, h.2, h.3, f h.2 (chars s) h.4), (refl, refl))
  name_stands Content.root z f h = absurd h
  name_stands Content.object z f h = absurd h
  name_stands Content.array z f h = absurd h
  name_stands Content.property z f h = absurd h
  name_stands (Content.number s) z f h = absurd h
  name_stands (Content.boolean b) z f h = absurd h
  name_stands Content.null z f h = absurd h
  name_stands (Content.token c) z f h = absurd h
  name_stands (Content.whitespace s) z f h = absurd h
  name_stands (Content.newline k) z f h = absurd h
  name_stands (Content.comment s) z f h = absurd h

  pub closed_utf8 : {b : ℕ} {row : OrderedTree} → Mark b → Closed o b row → IsUtf8 (printed row)
  closed_utf8 m (shape.plain g) = trivia_row_utf8 o g (mark_utf8 m none printed_none)
  closed_utf8 m (shape.trailing_comma {u = u} x g h) = trivia_row_utf8 o g (mark_utf8 comma_mark u (trivia_row_utf8 o h (mark_utf8 m none printed_none)))

  pub separated_utf8 : {row next : OrderedTree} → Separated o row next → IsUtf8 (printed next) → IsUtf8 (printed row)
  separated_utf8 (shape.comma {u = u} g h) v = trivia_row_utf8 o g (mark_utf8 comma_mark u (trivia_row_utf8 o h v))
  separated_utf8 (shape.no_comma x g) v = trivia_row_utf8 o g v

  pub row_utf8 : (content : Content) (below after : OrderedTree) → IsUtf8 (text_of content ++ printed below) → IsUtf8 (printed after) → IsUtf8 (printed (more content below after))
  row_utf8 content below after u v =
      subst IsUtf8 (sym (printed-more content below after ∙ sym (append_assoc (text_of content) (printed below) (printed after)))) (IsUtf8-append (text_of content ++ printed below) (printed after) u v)

  mutual
    pub value_utf8 : {content : Content} {below : OrderedTree} {r : List ℕ} → ValueShaped o content below r → IsUtf8 (text_of content ++ printed below)
    value_utf8 (shape.literal {content = content} h) = subst IsUtf8 (sym (append-nil (text_of content))) (literal_utf8 content _ h)
    value_utf8 (shape.empty_array {t = t} g) = mark_utf8 bracket_mark t (trivia_row_utf8 o g (mark_utf8 close_bracket_mark none printed_none))
    value_utf8 (shape.array {t = t} g e) = mark_utf8 bracket_mark t (trivia_row_utf8 o g (elements_utf8 e))
    value_utf8 (shape.empty_object {t = t} g) = mark_utf8 brace_mark t (trivia_row_utf8 o g (mark_utf8 close_brace_mark none printed_none))
    value_utf8 (shape.object {t = t} g p) = mark_utf8 brace_mark t (trivia_row_utf8 o g (properties_utf8 p))

    pub elements_utf8 : {row : OrderedTree} → ElementsShaped o row → IsUtf8 (printed row)
    elements_utf8 (shape.last_element {content = content} {below = below} {after = after} v c) = row_utf8 content below after (value_utf8 v) (closed_utf8 close_bracket_mark c)
    elements_utf8 (shape.element {content = content} {below = below} {after = after} v s e) = row_utf8 content below after (value_utf8 v) (separated_utf8 s (elements_utf8 e))

    pub properties_utf8 : {row : OrderedTree} → PropertiesShaped o row → IsUtf8 (printed row)
    properties_utf8 (shape.last_property {below = below} {after = after} p c) = row_utf8 Content.property below after (property_utf8 p) (closed_utf8 close_brace_mark c)
    properties_utf8 (shape.property {below = below} {after = after} p s e) = row_utf8 Content.property below after (property_utf8 p) (separated_utf8 s (properties_utf8 e))

    pub property_utf8 : {row : OrderedTree} {r : List ℕ} → PropertyShaped o row r → IsUtf8 (printed row)
    property_utf8 (shape.named {name = name} {content = content} {below = below} {after = after} {u = u} n g h v) =
        row_utf8 name none after (subst IsUtf8 (sym (append-nil (text_of name))) (name_utf8 name _ n)) (trivia_row_utf8 o g (mark_utf8 colon_mark u (trivia_row_utf8 o h (row_utf8 content below none (value_utf8 v) printed_none))))

  -- what stands after a value or property is something
  pub closed_some : {b : ℕ} {row : OrderedTree} → Mark b → Closed o b row → 0 < length (printed_text row)
  closed_some m (shape.plain g) = trivia_some o g (mark_some m none)
  closed_some m (shape.trailing_comma {u = u} x g h) = trivia_some o g (mark_some comma_mark u)

  pub separated_some : {row next : OrderedTree} → Separated o row next → 0 < length (printed_text next) → 0 < length (printed_text row)
  separated_some (shape.comma {u = u} g h) l = trivia_some o g (mark_some comma_mark u)
  separated_some (shape.no_comma x g) l = trivia_some o g l

  pub more_some : (content : Content) (below after : OrderedTree) → IsUtf8 (text_of content ++ printed below) → 0 < length (printed_text after) → 0 < length (printed_text (more content below after))
  more_some content below after u l = omega (arith, l, ap length (text_more content below after u), length-append (chars (text_of content ++ printed below)) (printed_text after))

  pub elements_some : {row : OrderedTree} → ElementsShaped o row → 0 < length (printed_text row)
  elements_some (shape.last_element {content = content} {below = below} {after = after} v c) = more_some content below after (value_utf8 v) (closed_some close_bracket_mark c)
  elements_some (shape.element {content = content} {below = below} {after = after} v s e) = more_some content below after (value_utf8 v) (separated_some s (elements_some e))

  pub properties_some : {row : OrderedTree} → PropertiesShaped o row → 0 < length (printed_text row)
  properties_some (shape.last_property {below = below} {after = after} p c) = more_some Content.property below after (property_utf8 p) (closed_some close_brace_mark c)
  properties_some (shape.property {below = below} {after = after} p s e) = more_some Content.property below after (property_utf8 p) (separated_some s (properties_some e))

  pub closed_stands : {b : ℕ} {row : OrderedTree} (z : List ℕ) → Mark b → Closed o b row → LinesEndLoosely true false row → Closes o b (printed_text row ++ z) z
  closed_stands z m (shape.plain g) l =
      let gap = trivia_gap o z true false (λ e. cc) tt g l in
      grammar.plain (subst (Gap o _) (closing_text m z) gap.0)
  closed_stands z m (shape.trailing_comma {u = u} x g h) l =
      let before = trivia_gap o z true false (λ e. cc) tt g l in
      let after = trivia_gap o z true false (λ e. cc) tt h before.1.2 in
      grammar.trailing_comma x (subst (Gap o _) (ap (λ t. t ++ z) (mark_text comma_mark u)) before.0) (subst (Gap o _) (closing_text m z) after.0)

  pub separated_stands : {row next : OrderedTree} (z : List ℕ) → Stops next → Separated o row next → LinesEndLoosely true false row → Separates o (printed_text row ++ z) (printed_text next ++ z) × LinesEndLoosely true false next
  separated_stands z s (shape.comma {u = u} g h) l =
      let before = trivia_gap o z true false (λ e. cc) tt g l in
      let after = trivia_gap o z true false (λ e. cc) s h before.1.2 in
      (grammar.comma (subst (Gap o _) (ap (λ t. t ++ z) (mark_text comma_mark u)) before.0) after.0, after.1)
  separated_stands z s (shape.no_comma x g) l = let gap = trivia_gap o z true false (λ e. cc) s g l in (grammar.no_comma x gap.0, gap.1)

  pub closed_items : {b : ℕ} {row : OrderedTree} → Closed o b row → ItemsOf o row no_items
  closed_items (shape.plain g) = trivia_items o g (values.pass_to_items refl values.no_more_items)
  closed_items (shape.trailing_comma x g h) = trivia_items o g (values.pass_to_items refl (trivia_items o h (values.pass_to_items refl values.no_more_items)))

  pub separated_items : {row next : OrderedTree} {vs : Items} → Separated o row next → ItemsOf o next vs → ItemsOf o row vs
  separated_items (shape.comma g h) i = trivia_items o g (values.pass_to_items refl (trivia_items o h i))
  separated_items (shape.no_comma x g) i = trivia_items o g i

  pub closed_members : {b : ℕ} {row : OrderedTree} → Closed o b row → MembersOf o row no_members
  closed_members (shape.plain g) = trivia_members o g (values.pass_to_members refl values.no_more_members)
  closed_members (shape.trailing_comma x g h) = trivia_members o g (values.pass_to_members refl (trivia_members o h (values.pass_to_members refl values.no_more_members)))

  pub separated_members : {row next : OrderedTree} {ms : Members} → Separated o row next → MembersOf o next ms → MembersOf o row ms
  separated_members (shape.comma g h) i = trivia_members o g (values.pass_to_members refl (trivia_members o h i))
  separated_members (shape.no_comma x g) i = trivia_members o g i

  -- more after what stands there changes nothing
  pub carries_more : (r z : List ℕ) → 0 < length r → Carries o r (r ++ z)
  carries_more r z l k s h = lexeme_more o k s r z l h

  -- a node before those after it
  pub node_text : (content : Content) (below after : OrderedTree) (z : List ℕ) → IsUtf8 (text_of content ++ printed below) → chars (text_of content ++ printed below) ++ (printed_text after ++ z) ≡ printed_text (more content below after) ++ z
  node_text content below after z u = sym (ap (λ t. t ++ z) (text_more content below after u) ∙ append_assoc (chars (text_of content ++ printed below)) (printed_text after) z)

  mutual
    pub value_stands : {content : Content} {below : OrderedTree} {r : List ℕ} (z : List ℕ) → Carries o r z → ValueShaped o content below r → LinesEndLoosely (is_loose content) false below → Stands o content below z
    value_stands z f (shape.literal {content = content} h) l = literal_stands content z f h
    value_stands z f (shape.empty_array {t = t} g) l =
        let gap = trivia_gap o z true false (λ e. cc) tt g l.2 in
        (Plain.array no_items, subst (λ x. IsValue o (x ++ z) (Plain.array no_items) z) (sym (mark_text bracket_mark t)) (grammar.empty_array (subst (Gap o _) (closing_text close_bracket_mark z) gap.0)), values.array (values.pass_to_items refl (trivia_items o g (values.pass_to_items refl values.no_more_items))))
    value_stands z f (shape.array {t = t} g e) l =
        let gap = trivia_gap o z true false (λ e. cc) (elements_stop e) g l.2 in
        let es = elements_stand z e gap.1 in
        (Plain.array es.0, subst (λ x. IsValue o (x ++ z) (Plain.array es.0) z) (sym (mark_text bracket_mark t)) (grammar.array gap.0 es.1), values.array (values.pass_to_items refl (trivia_items o g es.2)))
    value_stands z f (shape.empty_object {t = t} g) l =
        let gap = trivia_gap o z true false (λ e. cc) tt g l.2 in
        (Plain.object no_members, subst (λ x. IsValue o (x ++ z) (Plain.object no_members) z) (sym (mark_text brace_mark t)) (grammar.empty_object (subst (Gap o _) (closing_text close_brace_mark z) gap.0)), values.object (values.pass_to_members refl (trivia_members o g (values.pass_to_members refl values.no_more_members))))
    value_stands z f (shape.object {t = t} g p) l =
        let gap = trivia_gap o z true false (λ e. cc) (properties_stop p) g l.2 in
        let ps = properties_stand z p gap.1 in
        (Plain.object ps.0, subst (λ x. IsValue o (x ++ z) (Plain.object ps.0) z) (sym (mark_text brace_mark t)) (grammar.object gap.0 ps.1), values.object (values.pass_to_members refl (trivia_members o g ps.2)))

    pub elements_stand : {row : OrderedTree} (z : List ℕ) → ElementsShaped o row → LinesEndLoosely true false row → (vs : Items) × AreElements o (printed_text row ++ z) vs z × ItemsOf o row vs
    elements_stand z (shape.last_element {content = content} {below = below} {after = after} v c) l =
        let one = value_stands (printed_text after ++ z) (carries_more (printed_text after) z (closed_some close_bracket_mark c)) v l.1 in
        (item one.0 no_items, subst (λ x. AreElements o x (item one.0 no_items) z) (node_text content below after z (value_utf8 v)) (grammar.last_element one.1 (closed_stands z close_bracket_mark c l.2)), values.one_item one.2 (closed_items c))
    elements_stand z (shape.element {content = content} {below = below} {after = after} v s e) l =
        let one = value_stands (printed_text after ++ z) (carries_more (printed_text after) z (separated_some s (elements_some e))) v l.1 in
        let gap = separated_stands z (elements_stop e) s l.2 in
        let others = elements_stand z e gap.1 in
        (item one.0 others.0, subst (λ x. AreElements o x (item one.0 others.0) z) (node_text content below after z (value_utf8 v)) (grammar.element one.1 gap.0 others.1), values.one_item one.2 (separated_items s others.2))

    pub properties_stand : {row : OrderedTree} (z : List ℕ) → PropertiesShaped o row → LinesEndLoosely true false row → (ms : Members) × AreProperties o (printed_text row ++ z) ms z × MembersOf o row ms
    properties_stand z (shape.last_property {below = below} {after = after} p c) l =
        let one = property_stands (printed_text after ++ z) (carries_more (printed_text after) z (closed_some close_brace_mark c)) p l.1 in
        (member one.0 one.1 no_members, subst (λ x. AreProperties o x (member one.0 one.1 no_members) z) (node_text Content.property below after z (property_utf8 p)) (grammar.last_property one.2 (closed_stands z close_brace_mark c l.2)), values.one_member one.3 (closed_members c))
    properties_stand z (shape.property {below = below} {after = after} p s e) l =
        let one = property_stands (printed_text after ++ z) (carries_more (printed_text after) z (separated_some s (properties_some e))) p l.1 in
        let gap = separated_stands z (properties_stop e) s l.2 in
        let others = properties_stand z e gap.1 in
        (member one.0 one.1 others.0, subst (λ x. AreProperties o x (member one.0 one.1 others.0) z) (node_text Content.property below after z (property_utf8 p)) (grammar.property one.2 gap.0 others.1), values.one_member one.3 (separated_members s others.2))

    pub property_stands : {row : OrderedTree} {r : List ℕ} (z : List ℕ) → Carries o r z → PropertyShaped o row r → LinesEndLoosely false false row → (name : List ℕ) × (v : Plain) × IsProperty o (printed_text row ++ z) name v z × PropertyOf o row name v
    property_stands z f (shape.named {name = name} {content = content} {below = below} {after = after} {u = u} n g h v) l =
        let before = trivia_gap o z false false (λ e. cc) tt g l.2 in
        let behind = trivia_gap o z false false (λ e. cc) (value_stops none v) h before.1.2 in
        let one = value_stands z f v behind.1.1 in
        let some : 0 < length (printed_text after) = trivia_some o g (mark_some colon_mark u) in
        let called = name_stands name (printed_text after ++ z) (carries_more (printed_text after) z some) n in
        let value_text : printed_text (more content below none) ≡ chars (text_of content ++ printed below) = text_more content below none (value_utf8 v) ∙ ap (λ t. chars (text_of content ++ printed below) ++ t) chars-nil ∙ append-nil (chars (text_of content ++ printed below)) in
        let row_text : chars (text_of name) ++ (printed_text after ++ z) ≡ printed_text (more name none after) ++ z = sym (ap (λ t. t ++ z) (text_leaf name after (name_utf8 name _ n)) ∙ append_assoc (chars (text_of name)) (printed_text after) z) in
        let here = grammar.named called.1 (subst (Gap o _) (ap (λ t. t ++ z) (mark_text colon_mark u)) before.0) (subst (Gap o _) (ap (λ t. t ++ z) value_text) behind.0) one.1 in
        (called.0, one.0, subst (λ x. IsProperty o x called.0 one.0 z) row_text here, values.name_of called.2 (trivia_value o g (values.pass_to_value refl (trivia_value o h (values.value_of one.2 values.end)))))

  pub root_text : (row : OrderedTree) → printed_text (more Content.root row none) ≡ printed_text row
  root_text row = ap chars (printed-more Content.root row none ∙ append-nil (printed row))

  pub document_printed : (tree : OrderedTree) → DocumentShaped o tree → DocumentLinesEndLoosely tree → PrintsDocument o tree
  document_printed tree (shape.no_value {row = row} g) (row2, e, l) =
      let same : row2 ≡ row = cc in
      let gap = trivia_gap o [] false true (λ e. refl) tt g (subst (LinesEndLoosely false true) same l) in
      (None, subst (λ t. Gap o t []) (append-nil (printed_text row) ∙ sym (root_text row)) (subst (Gap o _) (ap (λ t. t ++ []) chars-nil) gap.0), (row, refl, trivia_none o g))
  document_printed tree (shape.a_value {content = content} {row = row} {below = below} {after = after} g v h) (row2, e, l) =
      let same : row2 ≡ row = cc in
      let before = trivia_gap o [] false true (λ e. refl) (value_stops after v) g (subst (LinesEndLoosely false true) same l) in
      let behind = trivia_gap o [] false true (λ e. refl) tt h before.1.2 in
      let one = value_stands (printed_text after) (λ k s x. x) v before.1.1 in
      let here : List ℕ = chars (text_of content ++ printed below) ++ printed_text after in
      let start : Gap o (printed_text (more Content.root row none)) here =
      subst (λ t. Gap o t here) (append-nil (printed_text row) ∙ sym (root_text row)) (subst (Gap o _) (append-nil (printed_text (more content below after)) ∙ text_more content below after (value_utf8 v)) before.0) in
      let last : Gap o (printed_text after) [] = subst (λ t. Gap o t []) (append-nil (printed_text after)) (subst (Gap o _) (ap (λ t. t ++ []) chars-nil) behind.0) in
      (Some one.0, (_, _, start, one.1, last), (row, refl, trivia_value o g (values.value_of one.2 (trivia_none o h))))

-- The tree of a located document that is laid out has the shape of a document.
use Rattle.std.proofs.Common.{ℕ, ◌≡◌, ◌∙◌, sym, ap, subst, refl, arith, List, ◌∷◌, ◌++◌, length, Option, Some, None, IsTrue, IsUtf8, chars}
use Rattle.jsonc_text.specs.declared.common.Range.{Range}
use Rattle.jsonc_text.specs.Options.{Options}
use Rattle.jsonc_text.specs.Text.{rest, next, no}
use Rattle.jsonc_text.specs.Gaps.{Gap, is_blank}
use Rattle.jsonc_text.specs.Plain.{Plain}
use Rattle.jsonc_text.specs.Grammar as grammar
use Rattle.jsonc_text.specs.Grammar.{Separates, Closes}
use Rattle.jsonc_text.proofs.Cuts.{chars_between}
use Rattle.jsonc_text.proofs.CharacterSteps.{no_at_end}
use Rattle.jsonc_tree.specs.Content.{Content}
use Rattle.jsonc_tree.specs.OrderedTree.{OrderedTree, none, more, followed_by}
use Rattle.jsonc_walk.specs.Located.{Located, LocatedItems, LocatedMembers, LocatedName, Between, One, range_at, IsLocated, AreItems, AreFurtherItems, AreMembers, AreFurtherMembers, IsNamed, IsLocatedDocument}
use Rattle.jsonc_sound.specs.Filling.{is_separator}
use Rattle.jsonc_build.specs.Laid as laid
use Rattle.jsonc_build.specs.Laid.{bracketed, FillsBetween, Laid, ItemsLaid, MembersLaid, PropertyLaid, RootLaid, DocumentLaid}
use Rattle.jsonc_sound.specs.Shape as shape
use Rattle.jsonc_sound.specs.Shape.{Trivia, Separated, Closed, ValueShaped, ElementsShaped, PropertiesShaped, PropertyShaped, DocumentShaped, token_then, printed_text}
use Rattle.jsonc_build.proofs.GapShapes.{gap_trivia, gap_mark}
use Rattle.jsonc_build.proofs.Meanings.{Prints, prints_append, prints_fill, prints_bracket, laid_prints, items_print, members_print, further_items, further_members}
use Rattle.jsonc_build.proofs.LeafShapes.{string_shaped, number_shaped, keyword_shaped, name_shaped}
use Rattle.jsonc_build.proofs.Rows.{followed_assoc, followed_none}
use Rattle.jsonc_build.proofs.Starts.{StartsAt, no_blank, value_starts, property_starts}

-- no blank stands at a place
abbrev NoBlankAt : List ℕ → ℕ → Type 0
NoBlankAt bytes i = IsTrue (no is_blank (next (rest bytes i)))

begins_no_blank : (bytes : List ℕ) (i : ℕ) → StartsAt bytes i → NoBlankAt bytes i
begins_no_blank bytes i h = no_blank (next (rest bytes i)) h

bracket_no_blank : {bytes : List ℕ} {i j : ℕ} (c : ℕ) → IsTrue (no is_blank (Some c)) → Between bytes (One c) i j → NoBlankAt bytes i
bracket_no_blank c h b = rw b.stands h

module _ (o : Options) (bytes : List ℕ) (utf8 : IsUtf8 bytes) where
  -- the leaves of a gap between two places
  trivia_between : {i j : ℕ} {row : OrderedTree} (after : OrderedTree) → FillsBetween bytes i j row → Gap o (rest bytes i) (rest bytes j) → NoBlankAt bytes j → Trivia o (followed_by row after) after
  trivia_between {i} after f g n = gap_trivia o bytes utf8 after f.fills (record { place = i; boundary = f.spans.from; in_tree = refl }) g n

  -- and those of a gap, a comma or colon, and a gap
  mark_between : {i j : ℕ} {w : List ℕ} {row : OrderedTree} (c : ℕ) (after : OrderedTree) → IsTrue (is_separator c) → FillsBetween bytes i j row → Gap o (rest bytes i) (c ∷ w) → Gap o w (rest bytes j) → NoBlankAt bytes j
      → (u : OrderedTree) × Trivia o (followed_by row after) (token_then c u) × Trivia o u after
  mark_between {i} c after h f g k n = gap_mark o bytes utf8 c after h f.fills (record { place = i; boundary = f.spans.from; in_tree = refl }) g k n

  separated : {i j : ℕ} {row : OrderedTree} (after : OrderedTree) → FillsBetween bytes i j row → Separates o (rest bytes i) (rest bytes j) → NoBlankAt bytes j → Separated o (followed_by row after) after
  separated after f (grammar.comma g h) n = let m = mark_between 0x2C after refl f g h n in shape.comma m.1 m.2
  separated after f (grammar.no_comma x g) n = shape.no_comma x (trivia_between after f g n)

  closed : {i j k : ℕ} {row : OrderedTree} (bracket : ℕ) → IsTrue (no is_blank (Some bracket)) → FillsBetween bytes i j row → Between bytes (One bracket) j k → Closes o bracket (rest bytes i) (rest bytes k) → Closed o bracket (followed_by row (token_then bracket none))
  closed {i} bracket h f b (grammar.plain g) = shape.plain (trivia_between (token_then bracket none) f (subst (Gap o (rest bytes i)) (sym b.stands) g) (bracket_no_blank bracket h b))
  closed bracket h f b (grammar.trailing_comma x g k) =
      let m = mark_between 0x2C (token_then bracket none) refl f g (subst (Gap o _) (sym b.stands) k) (bracket_no_blank bracket h b) in
      shape.trailing_comma x m.1 m.2

  -- what a row prints stands in the text
  stands_printed : {i j : ℕ} {row : OrderedTree} → Prints bytes i j row → rest bytes i ≡ printed_text row ++ rest bytes j
  stands_printed {i} {j} p = chars_between bytes i j utf8 p.spans ∙ ap (λ b. chars b ++ rest bytes j) (sym p.text)

  further_text : {i j k : ℕ} {xs : LocatedItems} {row : OrderedTree} → ItemsLaid bytes i xs j row → AreFurtherItems o bytes i xs k → Between bytes (One 0x5D) j k → rest bytes i ≡ printed_text (followed_by row (token_then 0x5D none)) ++ rest bytes k
  further_text {xs = xs} items h b = stands_printed (prints_append bytes (items_print bytes utf8 o items (further_items o bytes _ _ xs h)) (prints_bracket bytes utf8 0x5D b))

  further_members_text : {i j k : ℕ} {ms : LocatedMembers} {row : OrderedTree} → MembersLaid bytes i ms j row → AreFurtherMembers o bytes i ms k → Between bytes (One 0x7D) j k → rest bytes i ≡ printed_text (followed_by row (token_then 0x7D none)) ++ rest bytes k
  further_members_text {ms = ms} members h b = stands_printed (prints_append bytes (members_print bytes utf8 o members (further_members o bytes _ _ ms h)) (prints_bracket bytes utf8 0x7D b))

  mutual
    pub value_shaped : {x : Located} {content : Content} {below : OrderedTree} (r u : List ℕ) → Laid bytes x content below → IsLocated o bytes x → rest bytes (range_at x).end ≡ r ++ u → ValueShaped o content below r
    value_shaped r u (laid.string_leaf s e) h f = shape.literal (string_shaped o bytes utf8 r u e h f)
    value_shaped r u (laid.number_leaf s e) h f = shape.literal (number_shaped o bytes utf8 r u e h f)
    value_shaped r u (laid.boolean_leaf {b = b} s) h f = shape.literal (keyword_shaped o bytes utf8 (Plain.boolean b) r u tt h f)
    value_shaped r u (laid.null_leaf s) h f = shape.literal (keyword_shaped o bytes utf8 Plain.null r u tt h f)
    value_shaped r u (laid.array_node items) h f = array_shaped r items h.0.closes h.1
    value_shaped r u (laid.object_node members) h f = object_shaped r members h.0.closes h.1

    array_shaped : {i j k : ℕ} {xs : LocatedItems} {row : OrderedTree} (r : List ℕ) → ItemsLaid bytes i xs j row → Between bytes (One 0x5D) j k → AreItems o bytes i xs k → ValueShaped o Content.array (bracketed 0x5B row 0x5D) r
    array_shaped {i} r (laid.no_element f) b h = shape.empty_array (trivia_between (token_then 0x5D none) f (subst (Gap o (rest bytes i)) (sym b.stands) h.stands) (bracket_no_blank 0x5D refl b))
    array_shaped r (laid.an_element {x = x} {row = row} {below = below} {after = after} {content = content} f one tail) b h =
        let next : OrderedTree = more content below (followed_by after (token_then 0x5D none)) in
        shape.array (subst (λ t. Trivia o t next) (sym (followed_assoc row (more content below after) (token_then 0x5D none))) (trivia_between next f h.0.stands (begins_no_blank bytes _ (value_starts o bytes x h.1))))
        (elements (value_shaped _ _ one h.1 (further_text tail h.2 b)) tail b h.2)

    -- an element, and those after it
    elements : {i j k : ℕ} {xs : LocatedItems} {row below : OrderedTree} {content : Content} → ValueShaped o content below (printed_text (followed_by row (token_then 0x5D none))) → ItemsLaid bytes i xs j row → Between bytes (One 0x5D) j k
        → AreFurtherItems o bytes i xs k → ElementsShaped o (more content below (followed_by row (token_then 0x5D none)))
    elements v (laid.no_element f) b h = shape.last_element v (closed 0x5D refl f b h.stands)
    elements v (laid.an_element {x = x} {row = row} {below = below} {after = after} {content = content} f one tail) b h =
        let next : OrderedTree = more content below (followed_by after (token_then 0x5D none)) in
        shape.element v (subst (λ t. Separated o t next) (sym (followed_assoc row (more content below after) (token_then 0x5D none))) (separated next f h.0.stands (begins_no_blank bytes _ (value_starts o bytes x h.1))))
        (elements (value_shaped _ _ one h.1 (further_text tail h.2 b)) tail b h.2)

    object_shaped : {i j k : ℕ} {ms : LocatedMembers} {row : OrderedTree} (r : List ℕ) → MembersLaid bytes i ms j row → Between bytes (One 0x7D) j k → AreMembers o bytes i ms k → ValueShaped o Content.object (bracketed 0x7B row 0x7D) r
    object_shaped {i} r (laid.no_property f) b h = shape.empty_object (trivia_between (token_then 0x7D none) f (subst (Gap o (rest bytes i)) (sym b.stands) h.stands) (bracket_no_blank 0x7D refl b))
    object_shaped r (laid.a_property {row = row} {below = below} {after = after} f p tail) b h =
        let next : OrderedTree = more Content.property below (followed_by after (token_then 0x7D none)) in
        shape.object (subst (λ t. Trivia o t next) (sym (followed_assoc row (more Content.property below after) (token_then 0x7D none))) (trivia_between next f h.0.stands (begins_no_blank bytes _ (property_starts o bytes h.1))))
        (properties (property_shaped _ _ p h.1 h.2 (further_members_text tail h.3 b)) tail b h.3)

    -- a property, and those after it
    properties : {i j k : ℕ} {ms : LocatedMembers} {row below : OrderedTree} → PropertyShaped o below (printed_text (followed_by row (token_then 0x7D none))) → MembersLaid bytes i ms j row → Between bytes (One 0x7D) j k
        → AreFurtherMembers o bytes i ms k → PropertiesShaped o (more Content.property below (followed_by row (token_then 0x7D none)))
    properties v (laid.no_property f) b h = shape.last_property v (closed 0x7D refl f b h.stands)
    properties v (laid.a_property {row = row} {below = below} {after = after} f p tail) b h =
        let next : OrderedTree = more Content.property below (followed_by after (token_then 0x7D none)) in
        shape.property v (subst (λ t. Separated o t next) (sym (followed_assoc row (more Content.property below after) (token_then 0x7D none))) (separated next f h.0.stands (begins_no_blank bytes _ (property_starts o bytes h.1))))
        (properties (property_shaped _ _ p h.1 h.2 (further_members_text tail h.3 b)) tail b h.3)

    property_shaped : {n : LocatedName} {x : Located} {row : OrderedTree} {place : Range} (r u : List ℕ) → PropertyLaid bytes n x row → IsNamed o bytes n place (range_at x) → IsLocated o bytes x → rest bytes place.end ≡ r ++ u → PropertyShaped o row r
    property_shaped r u (laid.name_and_value {n = n} {x = x} {row = row} {below = below} {content = content} s name f one) named h e =
        let value : OrderedTree = more content below none in
        let after = stands_printed (prints_append bytes (prints_fill bytes utf8 f) (laid_prints bytes utf8 o one h)) in
        let m = mark_between 0x3A value refl f named.colon.stands.1 named.colon.stands.2 (begins_no_blank bytes _ (value_starts o bytes x h)) in
        shape.named (name_shaped o bytes utf8 n.range n.name _ _ s name named.name.stands after) m.1 m.2 (value_shaped r u one h (ap (rest bytes) named.ends ∙ e))

  -- up to the end of the text
  trivia_to_end : {i : ℕ} {row : OrderedTree} → FillsBetween bytes i (length bytes) row → Gap o (rest bytes i) (rest bytes (length bytes)) → Trivia o row none
  trivia_to_end {row = row} f g = subst (λ t. Trivia o t none) (followed_none row) (trivia_between none f g (no_at_end is_blank bytes (length bytes) (omega arith)))

  root_shaped : (x : Option Located) (row : OrderedTree) → RootLaid bytes x row → IsLocatedDocument o bytes x → DocumentShaped o (more Content.root row none)
  root_shaped None row l h = shape.no_value (trivia_to_end l h.stands)
  root_shaped (Some x) row (before, after, below, content, e, f, one, g) h =
      shape.a_value (subst (λ t. Trivia o t (more content below after)) (sym e) (trivia_between (more content below after) f h.0.stands (begins_no_blank bytes _ (value_starts o bytes x h.1))))
      (value_shaped _ _ one h.1 (stands_printed (prints_fill bytes utf8 g))) (trivia_to_end g h.2.stands)

  pub document_shaped : (x : Option Located) (tree : OrderedTree) → DocumentLaid bytes x tree → IsLocatedDocument o bytes x → DocumentShaped o tree
  document_shaped x tree l h = subst (DocumentShaped o) (sym l.1) (root_shaped x l.0 l.2 h)

-- An entry that is inserted brings no blank.
use Rattle.std.proofs.Common.{ℕ, ◌≡◌, List, [], ◌∷◌, ◌++◌, IsTrue, IsUtf8, refl, sym, subst, rules}
use Rattle.std.proofs.lemmas.Str.{chars-IsAscii, IsUtf8-from_ascii}
use Rattle.jsonc_text.specs.Options.{Options}
use Rattle.jsonc_text.specs.Plain.{Plain}
use Rattle.jsonc_text.specs.Spelling.{spelled}
use Rattle.jsonc_text.specs.Text.{Many, step, stop}
use Rattle.jsonc_text.specs.Marks.{literals_of}
use Rattle.jsonc_tree.specs.Content.{Content, array, newline, object, text_of, whitespace}
use Rattle.jsonc_tree.specs.OrderedTree.{leaves, ordered_tree}
use Rattle.jsonc_tree.specs.declared.node.CstNewlineKind.TheVariants.{LineFeed}
use Rattle.jsonc_tree.specs.Tree.{Node, content_at, IsTree}
use Rattle.jsonc_layout.specs.from_input.Laid.{laid, laid_property}
use Rattle.jsonc_layout.specs.from_input.Layout as trees
use Rattle.jsonc_layout.specs.from_input.Texts.{IsCharacters, IsOfTexts}
use Rattle.jsonc_sound.specs.Shape.{IsText}
use Rattle.jsonc_sound.specs.SoundTrees.{SoundTree}
use Rattle.jsonc_sound.specs.TreeChanges.{leaves_of}
use Rattle.jsonc_sound.proofs.NodesAlone.{document_alone}
use Rattle.jsonc_sound.proofs.Pieces.{Piece, Pieces, document_pieces}
use Rattle.jsonc_sound.proofs.Texts.{AllUtf8}
use Rattle.jsonc_edit.specs.Paths.{IsAt}
use Rattle.jsonc_edit.proofs.LayoutTold.{Each}
use Rattle.jsonc_insert.specs.Inserted.{ElementPut}
use Rattle.jsonc_insert.specs.members.Inserted.{PropertyPut}
use Rattle.jsonc_insert.proofs.lemmas.elements.InsertedValues.{element_told}
use Rattle.jsonc_insert.proofs.lemmas.elements.Objects.{property_told}
use Rattle.jsonc_run.specs.Written.{PrintsNoBlank}
use Rattle.jsonc_run.specs.texts.Edits as texts
use Rattle.jsonc_run.specs.texts.Edits.{is_odd_blank, text_of_marks}
use Rattle.jsonc_run.specs.texts.Entries.{Named}
use Rattle.jsonc_run.specs.texts.Paths.{an_array, an_object}
use Rattle.jsonc_run.proofs.lemmas.promise.BlanksCome.{Lacks, differs, lacks_first, lacks_second}
use Rattle.jsonc_run.proofs.lemmas.promise.BlanksLaid.{laid_lacks, named_lacks, LayoutLacks}
use Rattle.jsonc_run.proofs.lemmas.promise.BlanksLeaves.{TextLacks, prints_no_blank}
use Rattle.jsonc_run.proofs.lemmas.promise.BlanksRows.{comma_lacks}
use Rattle.jsonc_run.proofs.lemmas.promise.BlanksTold.{all_told, is_other, leaves_so, others_lack, space_told, LeafLacks}
use Rattle.jsonc_run.proofs.lemmas.promise.LaidTexts.{in_text, laid_prints, named_so, node_text}
use Rattle.jsonc_run.proofs.lemmas.promise.Leaves.{document_utf8}
use Rattle.jsonc_run.proofs.lemmas.promise.Trivia.{newline_chars}

module _ (o : Options) where
  -- a leaf that is a piece of a document, and text
  abbrev IsWhole : Content → Type 0
  IsWhole content = IsUtf8 (text_of content) × Piece o content

  each_whole : (ls : List Content) → AllUtf8 ls → Pieces o ls → Each IsWhole ls
  each_whole [] u p = tt
  each_whole (content ∷ ls) u p = ((u.0, p.0), each_whole ls u.1 p.1)

  utf8_of : (ls : List Content) → Each IsWhole ls → AllUtf8 ls
  utf8_of [] h = tt
  utf8_of (content ∷ ls) h = (h.0.0, utf8_of ls h.1)

  pieces_of : (ls : List Content) → Each IsWhole ls → Pieces o ls
  pieces_of [] h = tt
  pieces_of (content ∷ ls) h = (h.0.1, pieces_of ls h.1)

-- and lacks the character
leaf_text : (c : ℕ) (content : Content) → LeafLacks c content → TextLacks c content
leaf_text c (Content.whitespace s) h = others_lack c h.1 refl
leaf_text c content h = h

leaf_texts : (c : ℕ) (ls : List Content) → Each (LeafLacks c) ls → Each (TextLacks c) ls
leaf_texts c [] h = tt
leaf_texts c (content ∷ ls) h = (leaf_text c content h.0, leaf_texts c ls h.1)

module _ (c : ℕ) (odd : IsTrue (is_odd_blank c)) where
  feed_lacks : TextLacks c (newline LineFeed)
  feed_lacks = subst (Lacks c) (sym (newline_chars LineFeed)) (differs c odd 0x0A refl, tt)

  space_lacks : IsTrue (is_other c 0x20) → LeafLacks c (whitespace (0x20 ∷ []))
  space_lacks space = (IsUtf8-from_ascii (0x20 ∷ []) (search rules), subst (λ t. Many (is_other c) t []) (sym (chars-IsAscii (0x20 ∷ []) (search rules))) (step space stop))

  layout_lacks : (l : trees.Layout) → TextLacks c (newline l.newline) → IsText (Many (is_other c)) l.current → IsText (Many (is_other c)) l.single → LayoutLacks c (in_text l)
  layout_lacks l line current single = record { line_end = subst (Lacks c) (newline_chars l.newline) line; indent = others_lack c current.1 refl; level = others_lack c single.1 refl }

  value_so : (o : Options) (v : Plain) → IsOfTexts v → Lacks c (text_of_marks (literals_of v)) → (l : trees.Layout) → TextLacks c (newline l.newline) → IsText (Many (is_other c)) l.current → IsText (Many (is_other c)) l.single → Each (IsWhole o) (leaves_of (laid l v))
      → Each (LeafLacks c) (leaves_of (laid l v))
  value_so o v ofs w l line current single u =
      let utf8 : AllUtf8 (leaves_of (laid l v)) = utf8_of o (leaves_of (laid l v)) u in
      leaves_so c o (leaves_of (laid l v)) (pieces_of o (leaves_of (laid l v)) u) utf8 (subst (Lacks c) (sym (laid_prints l v ofs utf8)) (laid_lacks c odd (in_text l) (layout_lacks l line current single) v w))

  property_so : (o : Options) (name : List ℕ) (v : Plain) → IsCharacters name → IsOfTexts v → Lacks c (spelled name ++ text_of_marks (literals_of v)) → (l : trees.Layout) → TextLacks c (newline l.newline) → IsText (Many (is_other c)) l.current → IsText (Many (is_other c)) l.single
      → Each (IsWhole o) (leaves_of (laid_property l name v)) → Each (LeafLacks c) (leaves_of (laid_property l name v))
  property_so o name v characters ofs w l line current single u =
      let utf8 : AllUtf8 (leaves_of (laid_property l name v)) = utf8_of o (leaves_of (laid_property l name v)) u in
      let m = named_so name (laid l v) characters utf8 in
      leaves_so c o (leaves_of (laid_property l name v)) (pieces_of o (leaves_of (laid_property l name v)) u) utf8 (subst (Lacks c) (sym m.text_is) (named_lacks c odd name (node_text (laid l v)) (lacks_first c (spelled name) (text_of_marks (literals_of v)) w)
      (subst (Lacks c) (sym (laid_prints l v ofs m.own)) (laid_lacks c odd (in_text l) (layout_lacks l line current single) v (lacks_second c (spelled name) (text_of_marks (literals_of v)) w)))))

module _ (o : Options) (old new : List Node) (tree : IsTree old) (s : SoundTree o (ordered_tree old 0)) (r : SoundTree o (ordered_tree new 0)) (path : List ℕ) (n : ℕ) (at : IsAt old path n) where
  new_whole : Each (IsWhole o) (leaves (ordered_tree new 0))
  new_whole = each_whole o (leaves (ordered_tree new 0)) (document_utf8 o r.shaped) (document_pieces o (document_alone o r.shaped))

  pub element_brings_none : content_at old n ≡ array → (i k m : ℕ) (e : Named) → IsOfTexts e.value → ElementPut old new n i e.value m → PrintsNoBlank (texts.insert an_array path k e) (ordered_tree old 0) (ordered_tree new 0)
  element_brings_none is i k m e ofs put =
      prints_no_blank o (ordered_tree old 0) (ordered_tree new 0) (texts.insert an_array path k e) s r (λ c odd h all w.
      leaf_texts c (leaves (ordered_tree new 0)) (element_told o old new path n i e.value m tree s at is put (LeafLacks c) (IsWhole o) (all_told c odd o old tree s h) new_whole (feed_lacks c odd) (comma_lacks o old new tree s r c odd h) (space_lacks c odd (space_told c odd o old tree s h)) (is_other c) (space_told c odd o old tree s h) (λ x t. t) (λ x t. t)
      (value_so c odd o e.value ofs w)))

  pub property_brings_none : content_at old n ≡ object → (i k m : ℕ) (e : Named) → IsCharacters e.name → IsOfTexts e.value → PropertyPut old new n i e.name e.value m → PrintsNoBlank (texts.insert an_object path k e) (ordered_tree old 0) (ordered_tree new 0)
  property_brings_none is i k m e characters ofs put =
      prints_no_blank o (ordered_tree old 0) (ordered_tree new 0) (texts.insert an_object path k e) s r (λ c odd h all w.
      leaf_texts c (leaves (ordered_tree new 0)) (property_told o old new path n i e.name e.value m tree s at is put (LeafLacks c) (IsWhole o) (all_told c odd o old tree s h) new_whole (feed_lacks c odd) (comma_lacks o old new tree s r c odd h) (space_lacks c odd (space_told c odd o old tree s h)) (is_other c) (space_told c odd o old tree s h) (λ x t. t) (λ x t. t)
      (property_so c odd o e.name e.value characters ofs w)))

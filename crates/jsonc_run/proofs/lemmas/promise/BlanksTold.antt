-- The layout that a sound document tells has no blank but spaces, LFs and those of its text.
use Rattle.std.proofs.Common.{unwrap_or, ℕ, ◌≡◌, ◌⊎◌, inl, inr, ◌==◌, ◌&&◌, sym, subst, refl, Bool, true, false, not, List, [], ◌∷◌, ◌++◌, IsTrue, chars}
use Rattle.jsonc_text.specs.Options.{Options}
use Rattle.jsonc_text.specs.Text.{Many, stop, step}
use Rattle.jsonc_text.proofs.Basics.{and_both}
use Rattle.jsonc_tree.specs.Content.{Content, whitespace, newline_text, text_of}
use Rattle.jsonc_tree.specs.declared.node.CstNewlineKind.TheVariants.{LineFeed}
use Rattle.jsonc_tree.specs.Tree.{Node, content_at, IsTree, IsOver}
use Rattle.jsonc_tree.specs.OrderedTree.{OrderedTree, leaves, ordered_tree}
use Rattle.jsonc_layout.specs.lines.Breadth.{newline_kind_at, newline_kind_of}
use Rattle.jsonc_layout.specs.lines.Indents.{indents_at}
use Rattle.jsonc_sound.specs.Leaves.{is_inner_blank}
use Rattle.jsonc_sound.specs.Shape.{printed_text, IsText}
use Rattle.jsonc_sound.specs.SoundTrees.{SoundTree}
use Rattle.jsonc_sound.proofs.NodesAlone.{document_alone}
use Rattle.jsonc_sound.proofs.Pieces.{Piece, Pieces, document_pieces}
use Rattle.jsonc_sound.proofs.Texts.{AllUtf8}
use Rattle.jsonc_edit.specs.Reading.{layout_for}
use Rattle.jsonc_edit.proofs.LayoutTold as told
use Rattle.jsonc_edit.proofs.IndentsTold as indents
use Rattle.jsonc_layout.specs.lines.Lines.{indent_at}
use Rattle.jsonc_edit.proofs.LayoutTold.{Each}
use Rattle.jsonc_run.specs.Written.{IsTold}
use Rattle.jsonc_layout.specs.from_input.Layout.{Layout}
use Rattle.jsonc_run.specs.texts.Edits.{Has, is_odd_blank}
use Rattle.jsonc_run.specs.promise.PlaceLaws.{text_of_leaves}
use Rattle.jsonc_run.proofs.lemmas.promise.BlanksCome.{Lacks, differs, lacks_both, lacks_first, lacks_second, not_there, stands_or_not}
use Rattle.jsonc_run.proofs.lemmas.promise.BlanksLaid.{LayoutLacks}
use Rattle.jsonc_run.proofs.lemmas.promise.LaidTexts.{in_text}
use Rattle.jsonc_run.proofs.lemmas.promise.Leaves.{document_utf8}
use Rattle.jsonc_run.proofs.lemmas.promise.Trivia.{first_text, newline_chars, piece_trivia}

both_true : (a b : Bool) → IsTrue a → IsTrue b → IsTrue (a && b)
both_true true b h k = k
both_true false b h k = cc

module _ (c : ℕ) where
  -- a blank within a line that is another
  abbrev pub is_other : ℕ → Bool
  is_other x = is_inner_blank x && not (x == c)

  pub others_lack : {s r : List ℕ} → Many is_other s r → r ≡ [] → Lacks c s
  others_lack stop e = subst (Lacks c) (sym e) tt
  others_lack (step {c = x} b m) e = ((and_both (is_inner_blank x) (not (x == c)) b).1, others_lack m e)

  are_others : {s r : List ℕ} → Many is_inner_blank s r → r ≡ [] → Lacks c s → Many is_other s []
  are_others stop e h = subst (λ s. Many is_other s []) (sym e) stop
  are_others (step {c = x} b m) e h = step (both_true (is_inner_blank x) (not (x == c)) b h.0) (are_others m e h.1)

  -- a leaf lacks the character; and whitespace is blanks within a line
  abbrev pub LeafLacks : Content → Type 0
  LeafLacks (Content.whitespace s) = IsText (Many is_other) s
  LeafLacks content = Lacks c (chars (text_of content))

  module _ (o : Options) where
    one_lacks : (content : Content) → Piece o content → Lacks c (chars (text_of content)) → LeafLacks content
    one_lacks (Content.whitespace s) p h = let t = piece_trivia o (Content.whitespace s) refl p in (t.0, are_others t.1 refl h)
    one_lacks content p h = h

    pub leaves_so : (ls : List Content) → Pieces o ls → AllUtf8 ls → Lacks c (text_of_leaves ls) → Each LeafLacks ls
    leaves_so [] p u h = tt
    leaves_so (content ∷ ls) p u h =
        let both : Lacks c (chars (text_of content) ++ text_of_leaves ls) = subst (Lacks c) (first_text content ls u.0) h in
        (one_lacks content p.0 (lacks_first c (chars (text_of content)) (text_of_leaves ls) both), leaves_so ls p.1 u.1 (lacks_second c (chars (text_of content)) (text_of_leaves ls) both))

module _ (c : ℕ) (odd : IsTrue (is_odd_blank c)) (o : Options) (ns : List Node) (tree : IsTree ns) (s : SoundTree o (ordered_tree ns 0)) (h : Lacks c (printed_text (ordered_tree ns 0))) where
  pub all_told : Each (LeafLacks c) (leaves (ordered_tree ns 0))
  all_told = leaves_so c o (leaves (ordered_tree ns 0)) (document_pieces o (document_alone o s.shaped)) (document_utf8 o s.shaped) h

  -- the ends of lines, and the indents at a node
  pub line_end_lacks : (n : ℕ) → Lacks c (newline_text (newline_kind_at ns n))
  line_end_lacks n =
      let feed : Lacks c (chars (newline_text LineFeed)) = subst (Lacks c) (sym (newline_chars LineFeed)) (differs c odd 0x0A refl, tt) in
      subst (Lacks c) (newline_chars (newline_kind_at ns n)) (told.newline_told (LeafLacks c) ns tree all_told feed n)

  pub line_end_of_lacks : Lacks c (chars (newline_text (newline_kind_of ns)))
  line_end_of_lacks = told.newline_of_told (LeafLacks c) ns tree all_told (subst (Lacks c) (sym (newline_chars LineFeed)) (differs c odd 0x0A refl, tt))

  pub indents_lack : (n : ℕ) → IsOver ns 0 n → Lacks c (chars (indents_at ns n).current) × Lacks c (chars (indents_at ns n).single)
  indents_lack n over =
      let both = told.indents_told (LeafLacks c) ns tree all_told (is_other c) (both_true (is_inner_blank 0x20) (not (0x20 == c)) refl (differs c odd 0x20 refl)) (λ t k. k) n over in
      (others_lack c both.0.1 refl, others_lack c both.1.1 refl)

  spaces_told : (s : List ℕ) → LeafLacks c (Content.whitespace s) → IsText (Many (is_other c)) s
  spaces_told s k = k

  pub space_told : IsTrue (is_other c 0x20)
  space_told = both_true (is_inner_blank 0x20) (not (0x20 == c)) refl (differs c odd 0x20 refl)

  pub blank_told : (m : ℕ) (s : List ℕ) → IsOver ns 0 m → content_at ns m ≡ whitespace s → IsText (Many (is_other c)) s
  blank_told m s over e = (told.of_node (LeafLacks c) ns tree all_told m (whitespace s) over e).0

  pub inner_told : (n : ℕ) → IsOver ns 0 n → IsText (Many (is_other c)) ((indents_at ns n).current ++ (indents_at ns n).single)
  inner_told n over =
      let both = told.indents_told (LeafLacks c) ns tree all_told (is_other c) space_told spaces_told n over in
      indents.indent_joined (is_other c) space_told (indents_at ns n).current (indents_at ns n).single both.0 both.1

  pub own_told : (n : ℕ) → IsOver ns 0 n → IsText (Many (is_other c)) (unwrap_or (indent_at ns n) [])
  own_told n over = indents.unwrap_kept (IsText (Many (is_other c))) (indent_at ns n) [] (told.line_indent_told (LeafLacks c) ns tree all_told (is_other c) space_told spaces_told n over) (indents.indent_empty (is_other c) space_told)

  pub none_told : IsText (Many (is_other c)) []
  none_told = indents.indent_empty (is_other c) space_told

  pub text_told : (s : List ℕ) → IsText (Many (is_other c)) s → Lacks c (chars s)
  text_told s t = others_lack c t.1 refl

  told_there : (k n : ℕ) → IsOver ns 0 k → Lacks c (newline_text (newline_kind_at ns k) ++ (chars (indents_at ns k).current ++ chars (indents_at ns k).single))
  told_there k n over =
      let both = indents_lack k over in
      lacks_both c (newline_text (newline_kind_at ns k)) (chars (indents_at ns k).current ++ chars (indents_at ns k).single) (line_end_lacks k) (lacks_both c (chars (indents_at ns k).current) (chars (indents_at ns k).single) both.0 both.1)

-- so that layout is told by the document
pub layout_told : (o : Options) (ns : List Node) (tree : IsTree ns) → SoundTree o (ordered_tree ns 0) → (k n : ℕ) → IsOver ns 0 k → IsTold (ordered_tree ns 0) (layout_for ns k n)
layout_told o ns tree s k n over c odd has = by (stands_or_not c (printed_text (ordered_tree ns 0)))
  where
    by : Has c (printed_text (ordered_tree ns 0)) ⊎ Lacks c (printed_text (ordered_tree ns 0)) → Has c (printed_text (ordered_tree ns 0))
    by (inl h) = h
    by (inr h) = absurd (not_there c (newline_text (newline_kind_at ns k) ++ (chars (indents_at ns k).current ++ chars (indents_at ns k).single)) (told_there c odd o ns tree s h k n over) has)

-- and a layout that is told has no other blank
pub told_lacks : (c : ℕ) → IsTrue (is_odd_blank c) → (t : OrderedTree) (layout : Layout) → IsTold t layout → Lacks c (printed_text t) → LayoutLacks c (in_text layout)
told_lacks c odd t layout told h = by (stands_or_not c (newline_text layout.newline ++ (chars layout.current ++ chars layout.single)))
  where
    by : Has c (newline_text layout.newline ++ (chars layout.current ++ chars layout.single)) ⊎ Lacks c (newline_text layout.newline ++ (chars layout.current ++ chars layout.single)) → LayoutLacks c (in_text layout)
    by (inl k) = absurd (not_there c (printed_text t) h (told c odd k))
    by (inr k) =
        let rest = lacks_second c (newline_text layout.newline) (chars layout.current ++ chars layout.single) k in
        record { line_end = lacks_first c (newline_text layout.newline) (chars layout.current ++ chars layout.single) k; indent = lacks_first c (chars layout.current) (chars layout.single) rest; level = lacks_second c (chars layout.current) (chars layout.single) rest }

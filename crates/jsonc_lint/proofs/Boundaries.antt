-- Each node of a document begins between two characters of its text, since each leaf is a text.
use Rattle.std.proofs.Common.{◌≡◌, ◌∙◌, sym, ap, subst, ℕ, ◌<◌, ◌^◌, List, [], ◌∷◌, ◌++◌, length, map, Some, IsTrue, IsUtf8, IsCharBoundary, arith, true, refl}
use Rattle.std.specs.List.{flat_map}
use Rattle.std.proofs.lemmas.List.{append-nil}
use Rattle.std.proofs.lemmas.List.Concat.{flat_map-append}
use Rattle.std.proofs.lemmas.Str.{IsCharBoundary-at_seam, IsUtf8-append, IsUtf8-nil}
use Rattle.std.proofs.Math.Utf8.{low_scalar, scalars}
use Rattle.jsonc_text.specs.Lexemes.{is_punctuation}
use Rattle.jsonc_text.specs.Options.{Options}
use Rattle.jsonc_tree.specs.Content.{Content, text_of}
use Rattle.jsonc_tree.specs.Order.{following, in_order, pieces_at, rest_at, text_at}
use Rattle.jsonc_tree.specs.OrderedTree.{leaves, ordered_tree, own_leaf, printed}
use Rattle.jsonc_tree.specs.Tree.{Node, IsTree, content_at}
use Rattle.jsonc_tree.proofs.Order.{following_end}
use Rattle.jsonc_tree.proofs.PieceList.{pieces_whole}
use Rattle.jsonc_sound.specs.Shape.{DocumentShaped}
use Rattle.jsonc_sound.proofs.NodesAlone.{document_alone}
use Rattle.jsonc_sound.proofs.Pieces.{Piece, Pieces, a_literal, a_name, a_token, a_trivia, document_pieces}
use Rattle.jsonc_sound.proofs.ShapeTexts.{trivia_utf8}
use Rattle.jsonc_sound.proofs.ShapeValues.{literal_utf8, name_utf8}
use Rattle.jsonc_cst.specs.Ranges.{IsBefore}
use Rattle.jsonc_cst.proofs.RangeWalk.{ends_all}
use Rattle.jsonc_lint.specs.Steps.{PrintsText}

-- each is a text
abbrev AllTexts : List (List ℕ) → Type 0
AllTexts [] = Unit {0}
AllTexts (s ∷ ss) = IsUtf8 s × AllTexts ss

texts_after : (xs ys : List (List ℕ)) → AllTexts (xs ++ ys) → AllTexts ys
texts_after [] ys h = h
texts_after (x ∷ xs) ys h = texts_after xs ys h.1

low : (c : ℕ) → IsTrue (is_punctuation c) → c < 55296
low c h = grind arith

one_scalar : (c : ℕ) → IsTrue (is_punctuation c) → scalars (c ∷ []) ≡ true
one_scalar c h = rw (low_scalar c (low c h)) refl

module _ (o : Options) where
  piece_text : {content : Content} → Piece o content → IsUtf8 (text_of content)
  piece_text (a_literal {content = content} h) = literal_utf8 o content [] h
  piece_text (a_name {content = content} h) = name_utf8 o content [] h
  piece_text (a_token {c = c} h) = (c ∷ [], (one_scalar c h, append-nil (text_of (Content.token c))))
  piece_text (a_trivia {content = content} h) = trivia_utf8 o content h

  leaf_texts : (contents : List Content) → Pieces o contents → AllTexts (map text_of contents)
  leaf_texts [] h = tt
  leaf_texts (content ∷ rest) h = (piece_text h.0, leaf_texts rest h.1)

-- what a node prints itself, before a text, is one
own_text : (content : Content) (pieces : List (List ℕ)) (rest : List ℕ) → (AllTexts pieces → IsUtf8 rest) → AllTexts (map text_of (own_leaf content) ++ pieces) → IsUtf8 (text_of content ++ rest)
own_text Content.root pieces rest k h = k h
own_text Content.object pieces rest k h = k h
own_text Content.array pieces rest k h = k h
own_text Content.property pieces rest k h = k h
own_text (Content.string s) pieces rest k h = IsUtf8-append (text_of (Content.string s)) rest h.0 (k h.1)
own_text (Content.word s) pieces rest k h = IsUtf8-append (text_of (Content.word s)) rest h.0 (k h.1)
own_text (Content.number s) pieces rest k h = IsUtf8-append (text_of (Content.number s)) rest h.0 (k h.1)
own_text (Content.boolean b) pieces rest k h = IsUtf8-append (text_of (Content.boolean b)) rest h.0 (k h.1)
own_text Content.null pieces rest k h = IsUtf8-append (text_of Content.null) rest h.0 (k h.1)
own_text (Content.token c) pieces rest k h = IsUtf8-append (text_of (Content.token c)) rest h.0 (k h.1)
own_text (Content.whitespace s) pieces rest k h = IsUtf8-append (text_of (Content.whitespace s)) rest h.0 (k h.1)
own_text (Content.newline n) pieces rest k h = IsUtf8-append (text_of (Content.newline n)) rest h.0 (k h.1)
own_text (Content.comment s) pieces rest k h = IsUtf8-append (text_of (Content.comment s)) rest h.0 (k h.1)

row_text : (ns : List Node) (row : List ℕ) → AllTexts (flat_map (pieces_at ns) row) → IsUtf8 (flat_map (text_at ns) row)
row_text ns [] h = IsUtf8-nil
row_text ns (n ∷ row) h = own_text (content_at ns n) (flat_map (pieces_at ns) row) (flat_map (text_at ns) row) (row_text ns row) h

module _ (o : Options) (ns : List Node) (tree : IsTree ns) (shaped : DocumentShaped o (ordered_tree ns 0)) where
  boundary : (n start : ℕ) → IsBefore ns n start → IsCharBoundary (printed (ordered_tree ns 0)) start
  boundary n start x =
      let ends = ends_all ns tree n x.in_document in
      let whole = subst AllTexts (sym (pieces_whole ns tree)) (leaf_texts o (leaves (ordered_tree ns 0)) (document_pieces o (document_alone o shaped))) in
      let split =
      ap (flat_map (pieces_at ns)) (ap (λ l. in_order ns 0 ++ l) (following_end ns tree 0 tree.first) ∙ append-nil (in_order ns 0) ∙ ends.1)
      ∙ flat_map-append (pieces_at ns) ends.0 (rest_at ns 0 (Some n)) in
      let later = texts_after (flat_map (pieces_at ns) ends.0) (flat_map (pieces_at ns) (rest_at ns 0 (Some n))) (subst AllTexts split whole) in
      let text = subst IsUtf8 (flat_map-append (text_at ns) (in_order ns n) (following ns 0 n)) (row_text ns (rest_at ns 0 (Some n)) later) in
      subst (IsCharBoundary (printed (ordered_tree ns 0))) (sym x.starts) (IsCharBoundary-at_seam (printed (ordered_tree ns 0)) x.before _ x.split text)

  pub prints_text : (text : List ℕ) → printed (ordered_tree ns 0) ≡ text → length text < 2 ^ 64 → PrintsText ns text
  prints_text text e few = record { printed = e; small = few; boundary = λ n start x. subst (λ bytes. IsCharBoundary bytes start) e (boundary n start x) }

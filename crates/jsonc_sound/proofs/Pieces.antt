-- The leaves of a sound tree one by one: each is a lexeme or trivia alone, and line comments end with their lines.
use Rattle.std.proofs.Common.{ℕ, ◌≡◌, sym, subst, refl, Bool, true, false, List, [], ◌∷◌, ◌++◌, IsTrue}
use Rattle.std.proofs.lemmas.List.{append_assoc, append-nil}
use Rattle.jsonc_text.specs.Options.{Options}
use Rattle.jsonc_text.specs.Lexemes.{is_punctuation}
use Rattle.jsonc_tree.specs.Content.{Content, token}
use Rattle.jsonc_tree.specs.OrderedTree.{OrderedTree, none, more, own_leaf, leaves}
use Rattle.jsonc_sound.specs.Lines.{is_line_comment, is_loose, ends_loosely, LinesEndLoosely, DocumentLinesEndLoosely}
use Rattle.jsonc_sound.specs.Shape as shape
use Rattle.jsonc_sound.specs.Shape.{IsTrivia, Trivia, IsLiteralBefore, IsNameBefore, token_then}
use Rattle.jsonc_sound.specs.Rows as rows
use Rattle.jsonc_sound.specs.Rows.{RowKind, closing, Last}
use Rattle.jsonc_sound.specs.TreeChanges.{IsElement}
use Rattle.jsonc_sound.proofs.FirstNodes.{no_element, line_comment_over, name_element}
use Rattle.jsonc_sound.specs.Alone as alone
use Rattle.jsonc_sound.specs.Alone.{ValueAlone, PartAlone, RowAlone, PropertyAlone, RootAlone, DocumentAlone}
use Rattle.jsonc_sound.proofs.Changed.{alone_element, part_element}
use Rattle.jsonc_sound.proofs.Comments.{regroup}
use Rattle.jsonc_sound.proofs.LooseChanges.{element_no_end}
use Rattle.jsonc_sound.proofs.Texts.{trivia_leaf, literal_leaf, name_leaf}

-- what a leaf is alone
pub data Piece (o : Options) : Content → Type 0 where
  a_literal : {content : Content} → IsLiteralBefore o content [] → Piece o content
  a_name : {content : Content} → IsNameBefore o content [] → Piece o content
  a_token : {c : ℕ} → IsTrue (is_punctuation c) → Piece o (token c)
  a_trivia : {content : Content} → IsTrivia o content → Piece o content

abbrev pub Pieces : Options → List Content → Type 0
Pieces o [] = Unit {0}
Pieces o (content ∷ rest) = Piece o content × Pieces o rest

-- a newline is first, past whitespace, or nothing is there
abbrev pub ends_line : List Content → Bool
ends_line [] = true
ends_line (Content.newline k ∷ rest) = true
ends_line (Content.whitespace s ∷ rest) = ends_line rest
ends_line (content ∷ rest) = false

abbrev pub LinesFlat : List Content → Type 0
LinesFlat [] = Unit {0}
LinesFlat (content ∷ rest) = (IsTrue (is_line_comment content) → IsTrue (ends_line rest)) × LinesFlat rest

closing_token : (kind : RowKind) → IsTrue (is_punctuation (closing kind))
closing_token rows.of_values = refl
closing_token rows.of_properties = refl

-- a line's end in a strict row
strict_end : (after : OrderedTree) (z : List Content) → IsTrue (ends_loosely false false after) → IsTrue (ends_line (leaves after ++ z))
strict_end none z h = cc
strict_end (more (Content.newline k) below after) z h = refl
strict_end (more content below after) z h = cc

root_end : (after : OrderedTree) → IsTrue (ends_loosely false true after) → IsTrue (ends_line (leaves after))
root_end none h = refl
root_end (more (Content.newline k) below after) h = refl
root_end (more content below after) h = cc

no_line_flat : (content : Content) (after : List Content) → IsElement content → LinesFlat after → LinesFlat (own_leaf content ++ after)
no_line_flat Content.root after e l = l
no_line_flat Content.object after e l = l
no_line_flat Content.array after e l = l
no_line_flat Content.property after e l = l
no_line_flat (Content.comment s) after e l = cc
no_line_flat content after e l = (λ h. cc, l)

module _ (o : Options) where
  joined_pieces : (first second : List Content) → Pieces o first → Pieces o second → Pieces o (first ++ second)
  joined_pieces [] second h k = k
  joined_pieces (content ∷ rest) second h k = (h.0, joined_pieces rest second h.1 k)

  leaf_pieces : {content : Content} (after : List Content) → own_leaf content ≡ content ∷ [] → Piece o content → Pieces o after → Pieces o (own_leaf content ++ after)
  leaf_pieces after e h k = subst (λ l. Pieces o (l ++ after)) (sym e) (h, k)

  node_pieces : (a b c : List Content) → Pieces o (a ++ b) → Pieces o c → Pieces o (a ++ (b ++ c))
  node_pieces a b c h k = subst (Pieces o) (append_assoc a b c) (joined_pieces (a ++ b) c h k)

  trivia_pieces : {t r : OrderedTree} → Trivia o t r → Pieces o (leaves r) → Pieces o (leaves t)
  trivia_pieces shape.nothing k = k
  trivia_pieces (shape.trivia {content = content} {t = t} h g) k = leaf_pieces (leaves t) (trivia_leaf o content h) (a_trivia h) (trivia_pieces g k)

  mutual
    value_pieces : {content : Content} {below : OrderedTree} → ValueAlone o content below → Pieces o (own_leaf content ++ leaves below)
    value_pieces (alone.literal {content = content} h) = leaf_pieces [] (literal_leaf o content [] h) (a_literal h) tt
    value_pieces (alone.an_array g) = (a_token refl, row_pieces g)
    value_pieces (alone.an_object g) = (a_token refl, row_pieces g)

    part_pieces : {kind : RowKind} {content : Content} {below : OrderedTree} → PartAlone o kind content below → Pieces o (own_leaf content ++ leaves below)
    part_pieces (alone.a_value v) = value_pieces v
    part_pieces (alone.a_property p) = property_pieces p

    row_pieces : {kind : RowKind} {last : Last} {row : OrderedTree} → RowAlone o kind last row → Pieces o (leaves row)
    row_pieces {kind} (alone.closes m) = (a_token (closing_token kind), tt)
    row_pieces (alone.trivia {content = content} {after = after} h g) = leaf_pieces (leaves after) (trivia_leaf o content h) (a_trivia h) (row_pieces g)
    row_pieces (alone.element {content = content} {below = below} {after = after} m p g) = node_pieces (own_leaf content) (leaves below) (leaves after) (part_pieces p) (row_pieces g)
    row_pieces (alone.comma g) = (a_token refl, row_pieces g)

    property_pieces : {row : OrderedTree} → PropertyAlone o row → Pieces o (leaves row)
    property_pieces (alone.named {name = name} {content = content} {below = below} {after = after} n g h v) =
        leaf_pieces (leaves after) (name_leaf o name [] n) (a_name n) (trivia_pieces g (a_token refl, trivia_pieces h (node_pieces (own_leaf content) (leaves below) [] (value_pieces v) tt)))

  root_pieces : {stood : Bool} {row : OrderedTree} → RootAlone o stood row → Pieces o (leaves row)
  root_pieces alone.root_ends = tt
  root_pieces (alone.root_trivia {content = content} {after = after} h g) = leaf_pieces (leaves after) (trivia_leaf o content h) (a_trivia h) (root_pieces g)
  root_pieces (alone.root_value {content = content} {below = below} {after = after} v g) = node_pieces (own_leaf content) (leaves below) (leaves after) (value_pieces v) (root_pieces g)

  pub document_pieces : {t : OrderedTree} → DocumentAlone o t → Pieces o (leaves t)
  document_pieces (row, e, g) = subst (λ t. Pieces o (leaves t)) (sym e) (joined_pieces (leaves row) [] (root_pieces g) tt)

  -- a line's end in the row of an array or an object
  loose_end : {kind : RowKind} {last : Last} {row : OrderedTree} (z : List Content) → RowAlone o kind last row → IsTrue (ends_loosely true false row) → IsTrue (ends_line (leaves row ++ z))
  loose_end z (alone.closes m) h = cc
  loose_end z (alone.trivia {content = Content.whitespace s} {after = after} t g) h = loose_end z g h
  loose_end z (alone.trivia {content = Content.newline k} t g) h = refl
  loose_end z (alone.trivia t g) h = cc
  loose_end z (alone.element {content = content} {below = below} {after = after} m p g) h = absurd (element_no_end true false content below after (part_element o p) h)
  loose_end z (alone.comma g) h = cc

  trivia_flat : {t r : OrderedTree} (z : List Content) → Trivia o t r → LinesEndLoosely false false t → (LinesEndLoosely false false r → LinesFlat (leaves r ++ z)) → LinesFlat (leaves t ++ z)
  trivia_flat z shape.nothing l f = f l
  trivia_flat z (shape.trivia {content = content} {t = t} h g) l f = subst (λ x. LinesFlat ((x ++ leaves t) ++ z)) (sym (trivia_leaf o content h)) (λ k. strict_end t z (l.0 k), trivia_flat z g l.2 f)

  mutual
    value_flat : {content : Content} {below : OrderedTree} (z : List Content) → ValueAlone o content below → LinesEndLoosely (is_loose content) false below → LinesFlat z → LinesFlat ((own_leaf content ++ leaves below) ++ z)
    value_flat z (alone.literal {content = content} h) l f = subst (λ x. LinesFlat ((x ++ []) ++ z)) (sym (literal_leaf o content [] h)) (λ k. absurd (no_element content (alone_element o (alone.literal h)) (line_comment_over content k)), f)
    value_flat z (alone.an_array g) l f = (λ h. cc, row_flat z g l.2 f)
    value_flat z (alone.an_object g) l f = (λ h. cc, row_flat z g l.2 f)

    part_flat : {kind : RowKind} {content : Content} {below : OrderedTree} (z : List Content) → PartAlone o kind content below → LinesEndLoosely (is_loose content) false below → LinesFlat z → LinesFlat ((own_leaf content ++ leaves below) ++ z)
    part_flat z (alone.a_value v) l f = value_flat z v l f
    part_flat z (alone.a_property p) l f = property_flat z p l f

    row_flat : {kind : RowKind} {last : Last} {row : OrderedTree} (z : List Content) → RowAlone o kind last row → LinesEndLoosely true false row → LinesFlat z → LinesFlat (leaves row ++ z)
    row_flat z (alone.closes m) l f = (λ h. cc, f)
    row_flat z (alone.trivia {content = content} {after = after} h g) l f = subst (λ x. LinesFlat ((x ++ leaves after) ++ z)) (sym (trivia_leaf o content h)) (λ k. loose_end z g (l.0 k), row_flat z g l.2 f)
    row_flat z (alone.element {content = content} {below = below} {after = after} m p g) l f = subst LinesFlat (regroup (own_leaf content) (leaves below) (leaves after) z) (part_flat (leaves after ++ z) p l.1 (row_flat z g l.2 f))
    row_flat z (alone.comma g) l f = (λ h. cc, row_flat z g l.2 f)

    property_flat : {row : OrderedTree} (z : List Content) → PropertyAlone o row → LinesEndLoosely false false row → LinesFlat z → LinesFlat (leaves row ++ z)
    property_flat z (alone.named {name = name} {content = content} {below = below} {after = after} {u = u} n g h v) l f =
        let value = λ (k : LinesEndLoosely false false (more content below none)). subst (λ x. LinesFlat ((own_leaf content ++ x) ++ z)) (sym (append-nil (leaves below))) (value_flat z v k.1 f) in
        let rest = trivia_flat z g l.2 (λ k. (λ x. cc, trivia_flat z h k.2 value)) in
        subst LinesFlat (sym (append_assoc (own_leaf name) (leaves after) z)) (no_line_flat name (leaves after ++ z) (name_element o name [] n) rest)

  root_flat : {stood : Bool} {row : OrderedTree} → RootAlone o stood row → LinesEndLoosely false true row → LinesFlat (leaves row)
  root_flat alone.root_ends l = tt
  root_flat (alone.root_trivia {content = content} {after = after} h g) l = subst (λ x. LinesFlat (x ++ leaves after)) (sym (trivia_leaf o content h)) (λ k. root_end after (l.0 k), root_flat g l.2)
  root_flat (alone.root_value {content = content} {below = below} {after = after} v g) l = subst LinesFlat (append_assoc (own_leaf content) (leaves below) (leaves after)) (value_flat (leaves after) v l.1 (root_flat g l.2))

  pub document_flat : {t : OrderedTree} → DocumentAlone o t → DocumentLinesEndLoosely t → LinesFlat (leaves t)
  document_flat (row, e, g) (below, same, l) =
      let first : below ≡ row = cc in
      subst (λ t. LinesFlat (leaves t)) (sym e) (subst LinesFlat (sym (append-nil (leaves row))) (root_flat g (subst (LinesEndLoosely false true) first l)))

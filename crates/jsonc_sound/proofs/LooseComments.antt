-- A comment leaves a document whose line comments end loosely.
use Rattle.std.proofs.Common.{ℕ, ◌≡◌, ◌∙◌, sym, ap, subst, refl, Bool, true, false, ◌&&◌, List, [], ◌∷◌, ◌++◌, Option, Some, None, IsTrue, chars}
use Rattle.std.proofs.lemmas.List.{append_assoc, append-nil}
use Rattle.jsonc_text.specs.Options.{Options}
use Rattle.jsonc_text.specs.Words.{EndsWord}
use Rattle.jsonc_tree.specs.Content.{Content, token}
use Rattle.jsonc_tree.specs.OrderedTree.{OrderedTree, none, more, own_leaf, leaves, followed_by}
use Rattle.jsonc_sound.specs.Lines.{is_line_comment, is_loose, ends_loosely, LinesEndLoosely, DocumentLinesEndLoosely}
use Rattle.jsonc_sound.specs.Shape as shape
use Rattle.jsonc_sound.specs.Shape.{IsTrivia, Trivia, IsNameBefore}
use Rattle.jsonc_sound.specs.ChangeLaws.{DiffersIn}
use Rattle.jsonc_sound.specs.Rows as rows
use Rattle.jsonc_sound.specs.Rows.{RowKind, closing, Last}
use Rattle.jsonc_sound.specs.TreeChanges.{IsElement}
use Rattle.jsonc_sound.specs.TriviaChanges.{AreTrivia, leaves_then, LeavesChanged, given_way, come, later, deeper, StretchChanged, in_root, inside, EndsInComment, one_comment, line_comment}
use Rattle.jsonc_sound.proofs.FirstNodes.{no_element, line_comment_over, name_element}
use Rattle.jsonc_sound.specs.Adjacent.{first_char, follower, LeavesEnd, last_printed, MayEndBefore, LastEnds}
use Rattle.jsonc_sound.specs.Alone as alone
use Rattle.jsonc_sound.specs.Alone.{ValueAlone, PartAlone, RowAlone, PropertyAlone, RootAlone, DocumentAlone}
use Rattle.jsonc_sound.specs.SoundTrees.{SoundTree}
use Rattle.jsonc_sound.specs.Spaces.{is_bare_leaf, first_printed, meet}
use Rattle.jsonc_sound.proofs.NodesAlone.{document_alone, document_leaves}
use Rattle.jsonc_sound.proofs.Changed.{alone_element}
use Rattle.jsonc_sound.proofs.Comments.{StartsLine, regroup, regrouped, line_ends_words, word_leads, leads_ends, trivia_lead, kind_moved, slash_ends_no_word}
use Rattle.jsonc_sound.proofs.LeafByLeaf.{AllLeaves, leads_to_colon, behind_all, all_begin, document_leaves_all, literal_leads}
use Rattle.jsonc_sound.proofs.Leaves.{parted_leaves}
use Rattle.jsonc_sound.proofs.Spaces.{Ends, last_of, serves_unless, not_both}
use Rattle.jsonc_sound.proofs.Texts.{trivia_leaf, literal_leaf}
use Rattle.jsonc_sound.proofs.Trivia.{shaped_with_trivia}

-- where a colon follows, past trivia, a line comment is directly followed by a newline
abbrev LinesFlat : List Content → Type 0
LinesFlat [] = Unit {0}
LinesFlat (content ∷ rest) = (IsTrue (is_line_comment content) → IsTrue (leads_to_colon rest) → StartsLine rest) × LinesFlat rest

starts_line : (after : OrderedTree) (z : List Content) → IsTrue (ends_loosely false false after) → StartsLine (leaves after ++ z)
starts_line none z h = cc
starts_line (more (Content.newline k) below after) z h = tt
starts_line (more content below after) z h = cc

no_line_flat : (content : Content) (after : List Content) → IsElement content → LinesFlat after → LinesFlat (own_leaf content ++ after)
no_line_flat Content.root after e l = l
no_line_flat Content.object after e l = l
no_line_flat Content.array after e l = l
no_line_flat Content.property after e l = l
no_line_flat (Content.comment s) after e l = cc
no_line_flat content after e l = (λ h. cc, l)

name_leads : (o : Options) (content : Content) (rest : List Content) → IsNameBefore o content [] → IsTrue (leads_to_colon (own_leaf content ++ rest)) → ⊥
name_leads o (Content.string s) rest h k = cc
name_leads o (Content.word s) rest h k = cc
name_leads o content rest h k = absurd h

closing_leads : (kind : RowKind) (rest : List Content) → IsTrue (leads_to_colon (token (closing kind) ∷ rest)) → ⊥
closing_leads rows.of_values rest h = cc
closing_leads rows.of_properties rest h = cc

module _ (o : Options) where
  trivia_flat : {t r : OrderedTree} (z : List Content) → Trivia o t r → LinesEndLoosely false false t → (LinesEndLoosely false false r → LinesFlat (leaves r ++ z)) → LinesFlat (leaves t ++ z)
  trivia_flat z shape.nothing l f = f l
  trivia_flat z (shape.trivia {content = content} {t = t} h g) l f = subst (λ x. LinesFlat ((x ++ leaves t) ++ z)) (sym (trivia_leaf o content h)) (λ k e. starts_line t z (l.0 k), trivia_flat z g l.2 f)

  part_leads : {kind : RowKind} {content : Content} {below : OrderedTree} (z : List Content) → PartAlone o kind content below → IsTrue (leads_to_colon ((own_leaf content ++ leaves below) ++ z)) → ⊥
  part_leads z (alone.a_value (alone.literal {content = content} h)) k = literal_leads o content [] z h (subst (λ l. IsTrue (leads_to_colon ((l ++ []) ++ z))) (literal_leaf o content [] h) k)
  part_leads z (alone.a_value (alone.an_array g)) k = cc
  part_leads z (alone.a_value (alone.an_object g)) k = cc
  part_leads z (alone.a_property (alone.named {name = name} {after = after} n g h v)) k = name_leads o name (leaves after ++ z) n (subst (λ l. IsTrue (leads_to_colon l)) (append_assoc (own_leaf name) (leaves after) z) k)

  -- no colon follows in a container's row, nor in the root's
  row_leads : {kind : RowKind} {last : Last} {row : OrderedTree} (z : List Content) → RowAlone o kind last row → IsTrue (leads_to_colon (leaves row ++ z)) → ⊥
  row_leads z (alone.closes {kind = kind} m) k = closing_leads kind z k
  row_leads z (alone.trivia {content = content} {after = after} h g) k = row_leads z g (trivia_one_leads content (leaves after ++ z) h (subst (λ l. IsTrue (leads_to_colon ((l ++ leaves after) ++ z))) (trivia_leaf o content h) k))
    where
      trivia_one_leads : (c : Content) (rest : List Content) → IsTrivia o c → IsTrue (leads_to_colon (c ∷ rest)) → IsTrue (leads_to_colon rest)
      trivia_one_leads (Content.whitespace s) rest t e = e
      trivia_one_leads (Content.newline s) rest t e = e
      trivia_one_leads (Content.comment s) rest t e = e
      trivia_one_leads c rest t e = absurd t
  row_leads z (alone.element {content = content} {below = below} {after = after} m p g) k = part_leads (leaves after ++ z) p (subst (λ l. IsTrue (leads_to_colon l)) (sym (regroup (own_leaf content) (leaves below) (leaves after) z)) k)
  row_leads z (alone.comma g) k = cc

  root_leads : {stood : Bool} {row : OrderedTree} → RootAlone o stood row → IsTrue (leads_to_colon (leaves row)) → ⊥
  root_leads alone.root_ends k = cc
  root_leads (alone.root_trivia {content = content} {after = after} h g) k = root_leads g (trivia_one_leads content (leaves after) h (subst (λ l. IsTrue (leads_to_colon (l ++ leaves after))) (trivia_leaf o content h) k))
    where
      trivia_one_leads : (c : Content) (rest : List Content) → IsTrivia o c → IsTrue (leads_to_colon (c ∷ rest)) → IsTrue (leads_to_colon rest)
      trivia_one_leads (Content.whitespace s) rest t e = e
      trivia_one_leads (Content.newline s) rest t e = e
      trivia_one_leads (Content.comment s) rest t e = e
      trivia_one_leads c rest t e = absurd t
  root_leads (alone.root_value {content = content} {below = below} {after = after} v g) k = part_leads (leaves after) (alone.a_value v) (subst (λ l. IsTrue (leads_to_colon l)) (sym (append_assoc (own_leaf content) (leaves below) (leaves after))) k)

  mutual
    value_flat : {content : Content} {below : OrderedTree} (z : List Content) → ValueAlone o content below → LinesEndLoosely (is_loose content) false below → LinesFlat z → LinesFlat ((own_leaf content ++ leaves below) ++ z)
    value_flat z (alone.literal {content = content} h) l f = subst (λ x. LinesFlat ((x ++ []) ++ z)) (sym (literal_leaf o content [] h)) (λ k e. absurd (no_element content (alone_element o (alone.literal h)) (line_comment_over content k)), f)
    value_flat z (alone.an_array g) l f = (λ h. cc, row_flat z g l.2 f)
    value_flat z (alone.an_object g) l f = (λ h. cc, row_flat z g l.2 f)

    part_flat : {kind : RowKind} {content : Content} {below : OrderedTree} (z : List Content) → PartAlone o kind content below → LinesEndLoosely (is_loose content) false below → LinesFlat z → LinesFlat ((own_leaf content ++ leaves below) ++ z)
    part_flat z (alone.a_value v) l f = value_flat z v l f
    part_flat z (alone.a_property p) l f = property_flat z p l f

    row_flat : {kind : RowKind} {last : Last} {row : OrderedTree} (z : List Content) → RowAlone o kind last row → LinesEndLoosely true false row → LinesFlat z → LinesFlat (leaves row ++ z)
    row_flat z (alone.closes m) l f = (λ h. cc, f)
    row_flat z (alone.trivia {content = content} {after = after} h g) l f = subst (λ x. LinesFlat ((x ++ leaves after) ++ z)) (sym (trivia_leaf o content h)) (λ k e. absurd (row_leads z g e), row_flat z g l.2 f)
    row_flat z (alone.element {content = content} {below = below} {after = after} m p g) l f = subst LinesFlat (regroup (own_leaf content) (leaves below) (leaves after) z) (part_flat (leaves after ++ z) p l.1 (row_flat z g l.2 f))
    row_flat z (alone.comma g) l f = (λ h. cc, row_flat z g l.2 f)

    property_flat : {row : OrderedTree} (z : List Content) → PropertyAlone o row → LinesEndLoosely false false row → LinesFlat z → LinesFlat (leaves row ++ z)
    property_flat z (alone.named {name = name} {content = content} {below = below} {after = after} {u = u} n g h v) l f =
        let value = λ (k : LinesEndLoosely false false (more content below none)). subst (λ x. LinesFlat ((own_leaf content ++ x) ++ z)) (sym (append-nil (leaves below))) (value_flat z v k.1 f) in
        let rest = trivia_flat z g l.2 (λ k. (λ x. cc, trivia_flat z h k.2 value)) in
        subst LinesFlat (sym (append_assoc (own_leaf name) (leaves after) z)) (no_line_flat name (leaves after ++ z) (name_element o name [] n) rest)

  root_flat : {stood : Bool} {row : OrderedTree} → RootAlone o stood row → LinesEndLoosely false true row → LinesFlat (leaves row)
  root_flat alone.root_ends l = tt
  root_flat (alone.root_trivia {content = content} {after = after} h g) l = subst (λ x. LinesFlat (x ++ leaves after)) (sym (trivia_leaf o content h)) (λ k e. absurd (root_leads g e), root_flat g l.2)
  root_flat (alone.root_value {content = content} {below = below} {after = after} v g) l = subst LinesFlat (append_assoc (own_leaf content) (leaves below) (leaves after)) (value_flat (leaves after) v l.1 (root_flat g l.2))

  document_flat : {t : OrderedTree} → DocumentAlone o t → DocumentLinesEndLoosely t → LinesFlat (leaves t)
  document_flat (row, e, g) (below, same, l) =
      let first : below ≡ row = cc in
      subst (λ t. LinesFlat (leaves t)) (sym e) (subst LinesFlat (sym (append-nil (leaves row))) (root_flat g (subst (LinesEndLoosely false true) first l)))

line_followed : (first : List Content) (c : Content) (back : List Content) → LinesFlat (first ++ (c ∷ back)) → IsTrue (is_line_comment c) → IsTrue (leads_to_colon back) → StartsLine back
line_followed [] c back l h e = l.0 h e
line_followed (d ∷ first) c back l h e = line_followed first c back l.1 h e

word_moved : (front was back : List Content) → EndsInComment was → AllLeaves (front ++ (was ++ back)) → LinesFlat (front ++ (was ++ back)) → IsTrue (leads_to_colon back) → EndsWord (follower (was ++ back) None) → EndsWord (follower back None)
word_moved front was back (one_comment {s = s}) a l h e = absurd (slash_ends_no_word (first_char (Content.comment s)) (follower back None) ((behind_all front (Content.comment s ∷ back) a).0.1 refl) e)
word_moved front was back (line_comment f c x) a l h e = line_ends_words back (line_followed (front ++ f) c back (subst LinesFlat (regrouped front f c back) l) x h) h

last_ends_without : (o : Options) (front was back : List Content) → AreTrivia was → EndsInComment was → AllLeaves (front ++ (was ++ back)) → LinesFlat (front ++ (was ++ back)) → LeavesEnd o (front ++ (was ++ back)) None → meet front back ≡ false → LastEnds o front (follower back None)
last_ends_without o front was back t c a l e m =
    by (last_printed front) refl (last_of o front (follower (was ++ back) None) (parted_leaves o front (was ++ back) None e).0)
  where
    all_back : AllLeaves back
    all_back = behind_all was back (behind_all front (was ++ back) a)

    leads : (s : List ℕ) → last_printed front ≡ Some (Content.word s) → IsTrue (leads_to_colon back)
    leads s p = trivia_lead was back t (word_leads front (was ++ back) s a p)

    begins : (x : Option Content) → last_printed front ≡ x → is_bare_leaf x ≡ true → Ends (follower back None)
    begins x p b = all_begin back all_back (not_both (is_bare_leaf (last_printed front)) (is_bare_leaf (first_printed back)) m (ap is_bare_leaf p ∙ b)) None refl

    by : (x : Option Content) → last_printed front ≡ x → MayEndBefore o x (follower (was ++ back) None) → MayEndBefore o x (follower back None)
    by (Some (Content.word s)) p k = (k.0, k.1, k.2, kind_moved k.0 (chars s) (follower (was ++ back) None) (follower back None) (leads_ends back None all_back (leads s p)) (λ w. word_moved front was back c a l (leads s p) w) k.3)
    by x p k = serves_unless o x (follower (was ++ back) None) (follower back None) tt (begins x p) k

-- the lines of the new document
abbrev LinesKept : Bool → Bool → OrderedTree → OrderedTree → Type 0
LinesKept loose at_end row new = LinesEndLoosely loose at_end new × (IsTrue (ends_loosely loose at_end row) → IsTrue (ends_loosely loose at_end new))

both : (a b c : Bool) → (IsTrue b → IsTrue c) → IsTrue (a && b) → IsTrue (a && c)
both true b c f g = f g
both false b c f g = g

over_end : (loose at_end : Bool) (content : Content) (below x y : OrderedTree) → (IsTrue (ends_loosely loose at_end x) → IsTrue (ends_loosely loose at_end y)) → IsTrue (ends_loosely loose at_end (more content below x)) → IsTrue (ends_loosely loose at_end (more content below y))
over_end loose at_end (Content.newline k) below x y f h = refl
over_end loose at_end (Content.whitespace k) below x y f h = both loose (ends_loosely loose at_end x) (ends_loosely loose at_end y) f h
over_end loose at_end content below x y f h = cc

below_same : (loose at_end : Bool) (content : Content) (below other after : OrderedTree) → ends_loosely loose at_end (more content below after) ≡ ends_loosely loose at_end (more content other after)
below_same loose at_end (Content.newline k) below other after = refl
below_same loose at_end (Content.whitespace k) below other after = refl
below_same loose at_end content below other after = refl

over_lines : (loose at_end : Bool) (content : Content) (below x y : OrderedTree) → LinesEndLoosely loose at_end (more content below x) → LinesKept loose at_end x y → LinesKept loose at_end (more content below x) (more content below y)
over_lines loose at_end content below x y l k = ((λ h. k.1 (l.0 h), l.1, k.0), over_end loose at_end content below x y k.1)

lines_taken : (loose at_end : Bool) (cs : List Content) (back : OrderedTree) → LinesEndLoosely loose at_end (leaves_then cs back) → LinesEndLoosely loose at_end back
lines_taken loose at_end [] back l = l
lines_taken loose at_end (c ∷ cs) back l = lines_taken loose at_end cs back l.2

line_behind : (loose at_end : Bool) (front : List Content) (c : Content) (back : OrderedTree) → IsTrue (is_line_comment c) → LinesEndLoosely loose at_end (leaves_then (front ++ c ∷ []) back) → IsTrue (ends_loosely loose at_end back)
line_behind loose at_end [] c back h l = l.0 h
line_behind loose at_end (d ∷ front) c back h l = line_behind loose at_end front c back h l.2

front_lines : (loose at_end : Bool) {was : List Content} (back : OrderedTree) → EndsInComment was → LinesEndLoosely loose at_end (leaves_then was back) → LinesKept loose at_end (leaves_then was back) back
front_lines loose at_end back one_comment l = (l.2, λ h. cc)
front_lines loose at_end back (line_comment front c h) l = (lines_taken loose at_end (front ++ c ∷ []) back l, λ e. line_behind loose at_end front c back h l)

module _ {was : List Content} (ends : EndsInComment was) where
  row_kept : (loose at_end : Bool) {row new : OrderedTree} → LeavesChanged was [] row new → LinesEndLoosely loose at_end row → LinesKept loose at_end row new
  row_kept loose at_end (given_way back ne) l = front_lines loose at_end back ends l
  row_kept loose at_end (come last under back e) l = (l, λ h. h)
  row_kept loose at_end (later {content = content} {below = below} {x = x} {y = y} h) l = over_lines loose at_end content below x y l (row_kept loose at_end h l.2)
  row_kept loose at_end (deeper {content = content} {x = x} {y = y} {after = after} h) l = ((l.0, (row_kept (is_loose content) false h l.1).0, l.2), λ e. subst IsTrue (below_same loose at_end content x y after) e)

  root_kept : (row back : OrderedTree) → LinesEndLoosely false true (followed_by row (leaves_then was back)) → LinesKept false true (followed_by row (leaves_then was back)) (followed_by row back)
  root_kept none back l = front_lines false true back ends l
  root_kept (more content below after) back l = over_lines false true content below _ _ l (root_kept after back l.2)

  document_lines : {t u : OrderedTree} → StretchChanged was [] t u → DocumentLinesEndLoosely t → DocumentLinesEndLoosely u
  document_lines (in_root row back) (below, same, l) =
      let first : below ≡ followed_by row (leaves_then was back) = cc in
      (followed_by row back, refl, (root_kept row back (subst (LinesEndLoosely false true) first l)).0)
  document_lines (inside {row = row} {new = new} h) (below, same, l) =
      let first : below ≡ row = cc in
      (new, refl, (row_kept false true h (subst (LinesEndLoosely false true) first l)).0)

pub kept_without_comment : (o : Options) (t : OrderedTree) → SoundTree o t → (was : List Content) (u : OrderedTree) → StretchChanged was [] t u → AreTrivia was → EndsInComment was
    → (d : DiffersIn was [] (leaves t) (leaves u)) → meet d.front d.back ≡ false → SoundTree o u
kept_without_comment o t s was u k old ends d m =
    let nodes = document_alone o s.shaped in
    let all = subst AllLeaves d.before (document_leaves_all o nodes) in
    let lines = subst LinesFlat d.before (document_flat o nodes s.lines) in
    let leaves_end = subst (λ x. LeavesEnd o x None) d.before (document_leaves o s.shaped) in
    record { shaped = shaped_with_trivia o t s.shaped was [] u k old tt d (last_ends_without o d.front was d.back old ends all lines leaves_end m); lines = document_lines ends k s.lines }

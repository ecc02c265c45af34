-- A comment comes behind an entry of a sound document.
use Rattle.std.proofs.Common.{◌≡◌, ◌∙◌, ℕ, ◌+◌, ◌<◌, Bool, true, false, cond, List, [], ◌∷◌, ◌++◌, length, take, drop, Option, Some, None, IsTrue, refl, sym, ap, subst, arith}
use Rattle.std.proofs.lemmas.Bool.{false≢true}
use Rattle.jsonc_text.specs.Options.{Options}
use Rattle.jsonc_text.specs.Gaps.{IsComment}
use Rattle.jsonc_text.proofs.Basics.{test_eq}
use Rattle.jsonc_tree.specs.Content.{Content, comment, token}
use Rattle.jsonc_tree.specs.Order.{with_parent}
use Rattle.jsonc_tree.specs.OrderedTree.{OrderedTree, more, followed_by, leaves, ordered_tree, Shows, shows_none}
use Rattle.jsonc_tree.specs.Siblings.{first, siblings_after}
use Rattle.jsonc_tree.specs.Tree.{Node, content_at, children_at, parent_at, place_at, is_newline_at, IsTree}
use Rattle.jsonc_tree.proofs.Rows.{Shows-part}
use Rattle.jsonc_layout.specs.lines.Kinds.{is_array_or_object}
use Rattle.jsonc_layout.specs.lines.Siblings.{if_comma}
use Rattle.jsonc_layout.specs.nodes.Comments.{after_inline_trivia_at, is_not_inline_trivia_at}
use Rattle.jsonc_layout.specs.nodes.Kinds.{is_comma, is_element, is_newline, is_whitespace}
use Rattle.jsonc_sound.specs.Lines.{is_line_comment, ends_loosely, LinesEndLoosely}
use Rattle.jsonc_sound.specs.Rows as rows
use Rattle.jsonc_sound.specs.Shape.{IsText}
use Rattle.jsonc_sound.specs.SoundTrees.{SoundTree}
use Rattle.jsonc_sound.specs.TriviaChanges.{leaves_then}
use Rattle.jsonc_sound.proofs.FirstNodes.{line_comment_over, no_element}
use Rattle.jsonc_sound.proofs.LooseChanges.{element_no_end}
use Rattle.jsonc_sound.proofs.Spaced.{space_trivia}
use Rattle.jsonc_edit.specs.commenting.Behind.{end_of_entry, ends_line_at, last_blank, may_end_line, spaced, ComesBehind}
use Rattle.jsonc_edit.specs.commenting.Come.{LeavesCome}
use Rattle.jsonc_edit.specs.commenting.Laws.{IsEntry}
use Rattle.jsonc_edit.specs.remove.Comments.{or_itself}
use Rattle.jsonc_edit.proofs.FittingFinds.{found_one}
use Rattle.jsonc_edit.proofs.InsertedSpaces.{first_of}
use Rattle.jsonc_edit.proofs.lemmas.commenting.Arriving.{arrival}
use Rattle.jsonc_edit.proofs.lemmas.commenting.Blanks.{blanks_shown, children_behind, follows_blanks, follows_itself, last_holds, Follows}
use Rattle.jsonc_edit.proofs.lemmas.commenting.Coming.{cut_at, Cut}
use Rattle.jsonc_edit.proofs.lemmas.commenting.Ends.{space_before}
use Rattle.jsonc_edit.proofs.lemmas.commenting.Lines.{lines_past, never, space_line_ends, Solid}
use Rattle.jsonc_edit.proofs.lemmas.commenting.Rows.{before_last, container_over, element_closes, entry_there, ClosesNone}
use Rattle.jsonc_edit.proofs.lemmas.commenting.Sound.{Arrival}
use Rattle.jsonc_edit.proofs.LeafKinds.{comma_is}

-- an entry and a comma end no line, and close no row
element_solid : (content : Content) → IsTrue (is_element content) → Solid content
element_solid content h = record {
  no_end = λ loose at_end below after. never (ends_loosely loose at_end (more content below after)) (element_no_end loose at_end content below after h);
  no_line = λ k. no_element content h (line_comment_over content k);
}

comma_solid : Solid (token 0x2C)
comma_solid = record { no_end = λ loose at_end below after. refl; no_line = λ k. cc }

comma_closes : ClosesNone (token 0x2C)
comma_closes rows.of_values e = false≢true (sym (ap is_comma e))
comma_closes rows.of_properties e = false≢true (sym (ap is_comma e))

blank_closes : (content : Content) → is_whitespace content ≡ true → ClosesNone content
blank_closes (Content.whitespace s) h kind e = cc
blank_closes content h kind e = cc

-- where an entry ends: a child of its container
pub record EndsAt (ns : List Node) (c m : ℕ) : Type 0 where
  pub child : parent_at ns m ≡ Some c
  pub solid : Solid (content_at ns m)
  pub closes : ClosesNone (content_at ns m)

module _ (ns : List Node) (tree : IsTree ns) (n : ℕ) (e : IsEntry ns n) where
  abbrev c : ℕ
  c = e.container

  itself : EndsAt ns c n
  itself = record { child = e.parent; solid = element_solid (content_at ns n) e.element; closes = element_closes (content_at ns n) e.element }

  a_comma : (m : ℕ) → parent_at ns m ≡ Some c → is_comma (content_at ns m) ≡ true → EndsAt ns c m
  a_comma m said h =
      let is : content_at ns m ≡ token 0x2C = comma_is (content_at ns m) h in
      record { child = said; solid = subst Solid (sym is) comma_solid; closes = subst ClosesNone (sym is) comma_closes }

  by_next : (o : Option ℕ) → after_inline_trivia_at ns n ≡ o → EndsAt ns c (or_itself n (if_comma ns o))
  by_next None is = itself
  by_next (Some m) is = by (is_comma (content_at ns m)) refl
    where
      by : (b : Bool) → is_comma (content_at ns m) ≡ b → EndsAt ns c (or_itself n (cond b (Some m) None))
      by true h = a_comma m (found_one (is_not_inline_trivia_at ns) (λ k. parent_at ns k ≡ Some c) (siblings_after ns n) m (children_behind ns tree n c e.parent) is).0 h
      by false h = itself

  pub ends_at : EndsAt ns c (end_of_entry ns n)
  ends_at = by_next (after_inline_trivia_at ns n) refl

module _ (o : Options) (old new : List Node) (n : ℕ) (text : List ℕ) (tree : IsTree old) (sound : SoundTree o (ordered_tree old 0)) (allowed : IsTrue o.comments) (whole : IsText IsComment text) (e : IsEntry old n) where
  abbrev pub contents : List Content
  contents = spaced text

  abbrev m : ℕ
  m = end_of_entry old n

  abbrev kids : List ℕ
  kids = children_at old e.container

  there : e.container < length old
  there = (entry_there old tree n e).1

  at_end : EndsAt old e.container m
  at_end = ends_at old tree n e

  -- where the comment comes behind l
  module _ (l : ℕ) (f : Follows old e.container m l) (ends : (back : OrderedTree) → Shows old f.rest back → (loose last : Bool) → (e.container ≡ 0 → IsTrue last) → IsTrue (is_line_comment (comment text)) → IsTrue (ends_loosely loose last back)) where
    abbrev place : ℕ
    place = place_at old l + 1

    closes : ClosesNone (content_at old l)
    closes = subst (λ k. ClosesNone (content_at old k)) (sym f.last) (last_holds old (λ k. ClosesNone (content_at old k)) m f.blanks at_end.closes (λ x h. blank_closes (content_at old x) h) f.all)

    inside : IsTrue (is_array_or_object (content_at old e.container)) → (0 < place) × (place < length kids)
    inside holds = (omega arith, before_last o old tree sound e.container (container_over old tree n e) there holds l f.child closes)

    module _ (cut : Cut old kids place) where
      parts : (a : OrderedTree) × (b : OrderedTree) × (cut.front ≡ followed_by a b) × Shows old (take (place_at old m) kids) a × Shows old (m ∷ f.blanks) b
      parts = Shows-part old (take (place_at old m) kids) (m ∷ f.blanks) cut.front (subst (λ (k : List ℕ). Shows old k cut.front) f.ahead cut.ahead)

      one : (below : OrderedTree) × (after : OrderedTree) × (parts.1 ≡ more (content_at old m) below after) × Shows old (children_at old m) below × Shows old f.blanks after
      one = first_of old m f.blanks parts.1 parts.4

      front_is : cut.front ≡ followed_by parts.0 (more (content_at old m) one.0 one.1)
      front_is = parts.2 ∙ ap (followed_by parts.0) one.2

      lines : (loose last : Bool) → (e.container ≡ 0 → IsTrue last) → LinesEndLoosely loose last (followed_by cut.front cut.back) → LinesEndLoosely loose last (followed_by cut.front (leaves_then contents cut.back))
      lines loose last h =
          subst (λ (t : OrderedTree). LinesEndLoosely loose last (followed_by t cut.back) → LinesEndLoosely loose last (followed_by t (leaves_then contents cut.back))) (sym front_is)
          (lines_past loose last parts.0 (content_at old m) one.0 one.1 cut.back (leaves_then contents cut.back) at_end.solid (blanks_shown old tree f.blanks one.1 f.all one.4)
          (space_line_ends loose last text cut.back (ends cut.back (subst (λ (k : List ℕ). Shows old k cut.back) f.behind cut.behind) loose last h)))

    comes : LeavesCome old new e.container place contents → Arrival o contents (ordered_tree old 0) (ordered_tree new 0)
    comes r =
        let cut : Cut old kids place = cut_at old tree e.container there place in
        arrival o old new tree sound n e contents place r (refl, (refl, tt)) (space_trivia o, ((allowed, whole), tt)) cut inside (lines cut) (λ front behind bare k. space_before o (comment text ∷ []) (front ++ leaves cut.front) (leaves cut.back ++ behind) k)

  -- a line ends behind the whitespace
  newline_there : (k : ℕ) (rest : List ℕ) (back : OrderedTree) → Shows old (k ∷ rest) back → is_newline_at old k ≡ true → (loose last : Bool) → IsTrue (ends_loosely loose last back)
  newline_there k rest back shown h loose last =
      let t = first_of old k rest back shown in
      subst (λ b. IsTrue (ends_loosely loose last b)) (sym t.2) (a_newline (content_at old k) h t.0 t.1)
    where
      a_newline : (w : Content) → is_newline w ≡ true → (below after : OrderedTree) → IsTrue (ends_loosely loose last (more w below after))
      a_newline (Content.newline kind) g below after = refl
      a_newline w g below after = cc

  none_there : (back : OrderedTree) → Shows old [] back → (loose last : Bool) → IsTrue last → IsTrue (ends_loosely loose last back)
  none_there _ shows_none loose last h = h

  line_ends : (rest : List ℕ) → IsTrue (ends_line_at old (Some e.container) (first rest)) → (back : OrderedTree) → Shows old rest back → (loose last : Bool) → (e.container ≡ 0 → IsTrue last) → IsTrue (ends_loosely loose last back)
  line_ends [] h back shown loose last f = none_there back shown loose last (f (test_eq e.container 0 h))
  line_ends (k ∷ rest) h back shown loose last f = newline_there k rest back shown h loose last

  blank : Follows old e.container m (last_blank old m)
  blank = follows_blanks old tree e.container m at_end.child

  may_end : IsTrue (may_end_line old n) → IsTrue (ends_line_at old (Some e.container) (first blank.rest))
  may_end h =
      subst (λ (k : List ℕ). IsTrue (ends_line_at old (Some e.container) (first k))) (ap (λ p. drop (place_at old (last_blank old m) + 1) (with_parent p (children_at old))) blank.child ∙ blank.behind)
      (subst (λ p. IsTrue (ends_line_at old p (first (siblings_after old (last_blank old m))))) e.parent h)

  abbrev pub Goal : Bool → Type 0
  Goal b = LeavesCome old new e.container (place_at old (cond b (last_blank old m) m) + 1) contents → Arrival o contents (ordered_tree old 0) (ordered_tree new 0)

  by_line : (IsTrue (is_line_comment (comment text)) → IsTrue (may_end_line old n)) → (b : Bool) → is_line_comment (comment text) ≡ b → Goal b
  by_line h true is = comes (last_blank old m) blank (λ back shown loose last f line. line_ends blank.rest (may_end (h line)) back shown loose last f)
  by_line h false is = comes m (follows_itself old tree e.container m at_end.child) (λ back shown loose last f line. absurd (let wrong : false ≡ true = sym is ∙ line in cc))

  pub comes_behind : (IsTrue (is_line_comment (comment text)) → IsTrue (may_end_line old n)) → ComesBehind old new n text → Arrival o contents (ordered_tree old 0) (ordered_tree new 0)
  comes_behind h r = by_line h (is_line_comment (comment text)) refl (r e.container e.parent)

-- Trivia leaves a row directly behind a leaf that parts it from what is before: a newline, a bracket, a comma or a colon.
use Rattle.std.proofs.Common.{◌≡◌, ◌≢◌, ℕ, Bool, true, false, ◌&&◌, List, [], ◌∷◌, ◌++◌, Option, Some, None, IsTrue, if◌then◌else◌, refl, sym, ap, subst, ◌∙◌}
use Rattle.std.proofs.lemmas.List.{append_assoc}
use Rattle.jsonc_text.specs.Options.{Options}
use Rattle.jsonc_text.specs.Plain.{Plain}
use Rattle.jsonc_text.specs.Text.{starts}
use Rattle.jsonc_tree.specs.Content.{Content, root}
use Rattle.jsonc_tree.specs.OrderedTree as ordered
use Rattle.jsonc_tree.specs.OrderedTree.{OrderedTree, none, more, own_leaf, leaves, followed_by, Replaced}
use Rattle.jsonc_tree.specs.Values.{DocumentValueOf}
use Rattle.jsonc_tree.proofs.OrderedTrees.{leaves-followed_by}
use Rattle.jsonc_layout.specs.nodes.Kinds.{is_newline, is_token}
use Rattle.jsonc_sound.specs.Adjacent.{first_char, follower, last_printed, or_else, EndsBefore, LastEnds, MayEndBefore}
use Rattle.jsonc_sound.specs.ChangeLaws.{DiffersIn}
use Rattle.jsonc_sound.specs.Lines.{is_line_comment, is_loose, ends_loosely, LinesEndLoosely, DocumentLinesEndLoosely}
use Rattle.jsonc_sound.specs.SoundTrees.{SoundTree}
use Rattle.jsonc_sound.specs.TriviaChanges as changes
use Rattle.jsonc_sound.specs.TriviaChanges.{AreTrivia, leaves_then, LeavesChanged, StretchChanged}
use Rattle.jsonc_sound.proofs.LinesLeft.{lines_past}
use Rattle.jsonc_sound.proofs.RowsWithin.{both_within, leaves_within}
use Rattle.jsonc_sound.proofs.Spaces.{last_append}
use Rattle.jsonc_sound.proofs.Trivia.{shaped_with_trivia}
use Rattle.jsonc_sound.proofs.TriviaLeaves.{front_leaves}
use Rattle.jsonc_sound.proofs.TriviaValues.{document_kept}
use Rattle.jsonc_edit.proofs.Printing.{unkept_prints}

-- it prints something, is no line comment, may end before anything, and serves a line comment before it by itself or not at all
pub record Parts (o : Options) (x : Content) : Type 0 where
  pub prints : starts (λ c. true) (first_char x) ≡ true
  pub own : own_leaf x ≡ x ∷ []
  pub apart : IsTrue (is_line_comment x) → ⊥
  pub ends : (n : Option ℕ) → EndsBefore o x n
  pub line : (loose at_end : Bool) (r s : OrderedTree) → ends_loosely loose at_end (more x none r) ≡ ends_loosely loose at_end (more x none s)

pub newline_parts : (o : Options) (x : Content) → is_newline x ≡ true → Parts o x
newline_parts o (Content.newline k) h = record { prints = unkept_prints (Content.newline k) refl; own = refl; apart = λ e. cc; ends = λ n. tt; line = λ loose at_end r s. refl }
newline_parts o x h = cc

pub token_parts : (o : Options) (x : Content) → is_token x ≡ true → Parts o x
token_parts o (Content.token c) h = record { prints = unkept_prints (Content.token c) refl; own = refl; apart = λ e. cc; ends = λ n. tt; line = λ loose at_end r s. refl }
token_parts o x h = cc

-- line comments of the new row end, and one before the row that ended with the old one ends with the new one
abbrev pub Kept : Bool → Bool → OrderedTree → OrderedTree → Type 0
Kept loose at_end row new = LinesEndLoosely loose at_end new × (IsTrue (ends_loosely loose at_end row) → IsTrue (ends_loosely loose at_end new))

pub both : (a b c : Bool) → (IsTrue b → IsTrue c) → IsTrue (a && b) → IsTrue (a && c)
both true b c f g = f g
both false b c f g = g

over_end : (loose at_end : Bool) (content : Content) (below x y : OrderedTree) → (IsTrue (ends_loosely loose at_end x) → IsTrue (ends_loosely loose at_end y)) → IsTrue (ends_loosely loose at_end (more content below x)) → IsTrue (ends_loosely loose at_end (more content below y))
over_end loose at_end (Content.newline k) below x y f h = refl
over_end loose at_end (Content.whitespace k) below x y f h = both loose (ends_loosely loose at_end x) (ends_loosely loose at_end y) f h
over_end loose at_end content below x y f h = cc

pub below_same : (loose at_end : Bool) (content : Content) (below other after : OrderedTree) → ends_loosely loose at_end (more content below after) ≡ ends_loosely loose at_end (more content other after)
below_same loose at_end (Content.newline k) below other after = refl
below_same loose at_end (Content.whitespace k) below other after = refl
below_same loose at_end content below other after = refl

pub over_lines : (loose at_end : Bool) (content : Content) (below x y : OrderedTree) → LinesEndLoosely loose at_end (more content below x) → Kept loose at_end x y → Kept loose at_end (more content below x) (more content below y)
over_lines loose at_end content below x y l k = ((λ h. k.1 (l.0 h), l.1, k.0), over_end loose at_end content below x y k.1)

pub no_replaced : {was now y : OrderedTree} → Replaced was now none y → ⊥
no_replaced r = elim r [ ]

pub around : (f a y z b : List Content) → f ++ ((a ++ (y ++ z)) ++ b) ≡ (f ++ a) ++ (y ++ (z ++ b))
around f a y z b = ap (λ l. f ++ l) (append_assoc a (y ++ z) b ∙ ap (λ l. a ++ l) (append_assoc y z b)) ∙ sym (append_assoc f a (y ++ (z ++ b)))

module _ (o : Options) (x : Content) (p : Parts o x) (was : List Content) (old : AreTrivia was) (back : OrderedTree) where
  abbrev pub row_was : OrderedTree → OrderedTree
  row_was f = followed_by f (more x none (leaves_then was back))

  abbrev pub row_now : OrderedTree → OrderedTree
  row_now f = followed_by f (more x none back)

  row_kept : (f : OrderedTree) (loose at_end : Bool) → LinesEndLoosely loose at_end (row_was f) → Kept loose at_end (row_was f) (row_now f)
  row_kept none loose at_end l = ((λ h. absurd (p.apart h), l.1, lines_past loose at_end was back l.2), λ e. subst IsTrue (p.line loose at_end (leaves_then was back) back) e)
  row_kept (more content below f) loose at_end l = over_lines loose at_end content below (row_was f) (row_now f) l (row_kept f loose at_end l.2)

  stretch_leaves : (f : OrderedTree) → was ≢ [] → LeavesChanged was [] (row_was f) (row_now f)
  stretch_leaves none ne = changes.later (changes.given_way back ne)
  stretch_leaves (more content below f) ne = changes.later (stretch_leaves f ne)

  module _ (f : OrderedTree) where
    lifted : {t u : OrderedTree} → Replaced (row_was f) (row_now f) t u → (loose at_end : Bool) → LinesEndLoosely loose at_end t → Kept loose at_end t u
    lifted (ordered.here {content = content} {after = after}) loose at_end l = ((l.0, (row_kept f (is_loose content) false l.1).0, l.2), λ e. subst IsTrue (below_same loose at_end content (row_was f) (row_now f) after) e)
    lifted (ordered.deeper {content = content} {x = s} {y = t} {after = after} r) loose at_end l = ((l.0, (lifted r (is_loose content) false l.1).0, l.2), λ e. subst IsTrue (below_same loose at_end content s t after) e)
    lifted (ordered.later {content = content} {below = below} {x = s} {y = t} r) loose at_end l = over_lines loose at_end content below s t l (lifted r loose at_end l.2)

    root_lines : {u : OrderedTree} (row : OrderedTree) → LinesEndLoosely false true row → Replaced (row_was f) (row_now f) (more root row none) u → DocumentLinesEndLoosely u
    root_lines row l ordered.here = (row_now f, refl, (row_kept f false true l).0)
    root_lines row l (ordered.deeper {y = y} r) = (y, refl, (lifted r false true l).0)
    root_lines row l (ordered.later r) = absurd (no_replaced r)

    below_changed : {s t : OrderedTree} → was ≢ [] → Replaced (row_was f) (row_now f) s t → LeavesChanged was [] s t
    below_changed ne ordered.here = changes.deeper (stretch_leaves f ne)
    below_changed ne (ordered.deeper r) = changes.deeper (below_changed ne r)
    below_changed ne (ordered.later r) = changes.later (below_changed ne r)

    root_changed : {u : OrderedTree} (row : OrderedTree) → was ≢ [] → Replaced (row_was f) (row_now f) (more root row none) u → StretchChanged was [] (more root row none) u
    root_changed row ne ordered.here = changes.inside (stretch_leaves f ne)
    root_changed row ne (ordered.deeper r) = changes.inside (below_changed ne r)
    root_changed row ne (ordered.later r) = absurd (no_replaced r)

    list_was : leaves (row_was f) ≡ (leaves f ++ x ∷ []) ++ (was ++ leaves back)
    list_was =
        leaves-followed_by f (more x none (leaves_then was back)) ∙ ap (λ l. leaves f ++ (l ++ leaves (leaves_then was back))) p.own ∙ sym (append_assoc (leaves f) (x ∷ []) (leaves (leaves_then was back)))
        ∙ ap (λ l. (leaves f ++ x ∷ []) ++ l) (front_leaves was back old)

    list_now : leaves (row_now f) ≡ (leaves f ++ x ∷ []) ++ ([] ++ leaves back)
    list_now = leaves-followed_by f (more x none back) ∙ ap (λ l. leaves f ++ (l ++ leaves back)) p.own ∙ sym (append_assoc (leaves f) (x ∷ []) (leaves back))

    last_own : last_printed (x ∷ []) ≡ Some x
    last_own = ap (λ b. if b then Some x else None) p.prints

    last_is : (front : List Content) → last_printed (front ++ (leaves f ++ x ∷ [])) ≡ Some x
    last_is front =
        last_append front (leaves f ++ x ∷ []) ∙ ap (λ y. or_else y (last_printed front)) (last_append (leaves f) (x ∷ []) ∙ ap (λ y. or_else y (last_printed (leaves f))) last_own)

    -- the leaves of a document with such a row
    pub trivia_gone : {t u : OrderedTree} → Replaced (row_was f) (row_now f) t u → DiffersIn was [] (leaves t) (leaves u)
    trivia_gone r =
        let w = both_within r in
        record {
          front = w.front ++ (leaves f ++ x ∷ []);
          back = leaves back ++ w.back;
          before = leaves_within w.old ∙ ap (λ l. w.front ++ (l ++ w.back)) list_was ∙ around w.front (leaves f ++ x ∷ []) was (leaves back) w.back;
          after = leaves_within w.new ∙ ap (λ l. w.front ++ (l ++ w.back)) list_now ∙ around w.front (leaves f ++ x ∷ []) [] (leaves back) w.back;
        }

    module _ {t u : OrderedTree} (ne : was ≢ []) (r : Replaced (row_was f) (row_now f) t u) (s : SoundTree o t) where
      stretch : StretchChanged was [] t u
      stretch = let d = s.lines in subst (λ k. StretchChanged was [] k u) (sym d.1) (root_changed d.0 ne (subst (λ k. Replaced (row_was f) (row_now f) k u) d.1 r))

      serves : LastEnds o (trivia_gone r).front (follower ([] ++ (trivia_gone r).back) None)
      unfolding trivia_gone
      serves = subst (λ y. MayEndBefore o y (follower (leaves back ++ (both_within r).back) None)) (sym (last_is (both_within r).front)) (p.ends (follower (leaves back ++ (both_within r).back) None))

      -- it stays sound, and has the value that it had
      pub sound_still : SoundTree o u
      sound_still = record {
        shaped = shaped_with_trivia o t s.shaped was [] u stretch old tt (trivia_gone r) serves;
        lines = let d = s.lines in root_lines d.0 d.2 (subst (λ k. Replaced (row_was f) (row_now f) k u) d.1 r);
      }

      pub value_still : (w : Option Plain) → DocumentValueOf o t w → DocumentValueOf o u w
      value_still w h = document_kept o was [] old tt w stretch h

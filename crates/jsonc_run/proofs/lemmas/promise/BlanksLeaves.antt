-- A text lacks a character where each of its leaves does.
use Rattle.std.proofs.Common.{ℕ, inl, inr, sym, subst, Bool, true, false, List, [], ◌∷◌, ◌++◌, IsTrue, chars}
use Rattle.std.proofs.lemmas.List.{append_assoc}
use Rattle.std.proofs.lemmas.Str.{chars-nil}
use Rattle.jsonc_text.specs.Options.{Options}
use Rattle.jsonc_tree.specs.Content.{Content, newline, text_of}
use Rattle.jsonc_tree.specs.declared.node.CstNewlineKind.{CstNewlineKind}
use Rattle.jsonc_tree.specs.OrderedTree.{OrderedTree, more, own_leaf, leaves, Top}
use Rattle.jsonc_sound.specs.Shape.{printed_text}
use Rattle.jsonc_sound.specs.SoundTrees.{SoundTree}
use Rattle.jsonc_sound.specs.TreeChanges.{leaves_of}
use Rattle.jsonc_sound.specs.TriviaChanges.{AreTrivia, leaves_then}
use Rattle.jsonc_sound.proofs.Texts.{AllUtf8}
use Rattle.jsonc_sound.proofs.TriviaLeaves.{front_leaves}
use Rattle.jsonc_edit.proofs.LayoutTold.{Each, each_both, each_first, each_second}
use Rattle.jsonc_edit.specs.set.RootSet.{line_end_if}
use Rattle.jsonc_run.specs.Written.{PrintsNoBlank}
use Rattle.jsonc_run.specs.promise.PlaceLaws.{text_of_leaves}
use Rattle.jsonc_run.specs.texts.Edits.{Operation, is_odd_blank, marks_written, text_of_marks}
use Rattle.jsonc_run.proofs.lemmas.promise.BlanksCome.{Lacks, lacks_both, lacks_first, lacks_second, not_there, stands_or_not}
use Rattle.jsonc_run.proofs.lemmas.promise.Leaves.{document_utf8, utf8_first, utf8_second}
use Rattle.jsonc_run.proofs.lemmas.promise.Trivia.{first_text}

module _ (c : ℕ) where
  -- a leaf's text lacks the character
  abbrev pub TextLacks : Content → Type 0
  TextLacks content = Lacks c (chars (text_of content))

  pub texts_lack : (ls : List Content) → AllUtf8 ls → Lacks c (text_of_leaves ls) → Each TextLacks ls
  texts_lack [] u h = tt
  texts_lack (content ∷ ls) u h =
      let both : Lacks c (chars (text_of content) ++ text_of_leaves ls) = subst (Lacks c) (first_text content ls u.0) h in
      (lacks_first c (chars (text_of content)) (text_of_leaves ls) both, texts_lack ls u.1 (lacks_second c (chars (text_of content)) (text_of_leaves ls) both))

  pub all_lack : (ls : List Content) → AllUtf8 ls → Each TextLacks ls → Lacks c (text_of_leaves ls)
  all_lack [] u h = subst (Lacks c) (sym chars-nil) tt
  all_lack (content ∷ ls) u h = subst (Lacks c) (sym (first_text content ls u.0)) (lacks_both c (chars (text_of content)) (text_of_leaves ls) h.0 (all_lack ls u.1 h.1))

module _ (Q : Content → Type 0) where
  -- so it is of a row's leaves
  pub each_then : (ls : List Content) (row : OrderedTree) → AreTrivia ls → Each Q ls → Each Q (leaves row) → Each Q (leaves (leaves_then ls row))
  each_then ls row t h k = subst (Each Q) (sym (front_leaves ls row t)) (each_both Q ls (leaves row) h k)

  pub each_led : (ls : List Content) (row : OrderedTree) → AreTrivia ls → Each Q (leaves (leaves_then ls row)) → Each Q ls × Each Q (leaves row)
  each_led ls row t h =
      let both : Each Q (ls ++ leaves row) = subst (Each Q) (front_leaves ls row t) h in
      (each_first Q ls (leaves row) both, each_second Q ls (leaves row) both)

  pub each_more : (top : Top) (row : OrderedTree) → Each Q (leaves_of top) → Each Q (leaves row) → Each Q (leaves (more top.content top.below row))
  each_more top row h k =
      each_both Q (own_leaf top.content) (leaves top.below ++ leaves row) (each_first Q (own_leaf top.content) (leaves top.below) h)
      (each_both Q (leaves top.below) (leaves row) (each_second Q (own_leaf top.content) (leaves top.below) h) k)

  pub line_ends_so : (b : Bool) (k : CstNewlineKind) → Q (newline k) → Each Q (line_end_if b k)
  line_ends_so true k h = (h, tt)
  line_ends_so false k h = tt

pub more_utf8 : (top : Top) (row : OrderedTree) → AllUtf8 (leaves (more top.content top.below row)) → AllUtf8 (leaves_of top) × AllUtf8 (leaves row)
more_utf8 top row u =
    let both : AllUtf8 (leaves_of top ++ leaves row) = subst AllUtf8 (sym (append_assoc (own_leaf top.content) (leaves top.below) (leaves row))) u in
    (utf8_first (leaves_of top) (leaves row) both, utf8_second (leaves_of top) (leaves row) both)

-- so it is said of an operation on sound documents
pub prints_no_blank : (o : Options) (t u : OrderedTree) (op : Operation) → SoundTree o t → SoundTree o u
    → ((c : ℕ) → IsTrue (is_odd_blank c) → Lacks c (printed_text t) → Each (TextLacks c) (leaves t) → Lacks c (text_of_marks (marks_written op)) → Each (TextLacks c) (leaves u)) → PrintsNoBlank op t u
prints_no_blank o t u op s r f c odd has =
    elim (stands_or_not c (printed_text t)) [
      | inl h ↦ inl h
      | inr h ↦
          elim (stands_or_not c (text_of_marks (marks_written op))) [
            | inl k ↦ inr k
            | inr k ↦ absurd (not_there c (printed_text u) (all_lack c (leaves u) (document_utf8 o r.shaped) (f c odd h (texts_lack c (leaves t) (document_utf8 o s.shaped) h) k)) has)
          ]
    ]

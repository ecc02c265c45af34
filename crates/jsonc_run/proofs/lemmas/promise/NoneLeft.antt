-- Where no trailing comma is left in a tree, its text is in the grammar that allows none.
use Rattle.std.proofs.Common.{◌≡◌, ℕ, subst, refl, Bool, true, false, List, [], ◌∷◌, ◌++◌, Option, None}
use Rattle.jsonc_text.specs.Options.{Options, AllowsMore, without_trailing}
use Rattle.jsonc_text.specs.Text.{next}
use Rattle.jsonc_text.specs.Plain.{Plain}
use Rattle.jsonc_text.specs.Grammar.{IsDocument, IsValue}
use Rattle.jsonc_run.specs.texts.Paths.{Value}
use Rattle.jsonc_run.specs.texts.Edits.{HasNoTrailing}
use Rattle.jsonc_text.proofs.SameOptions.{lexeme_same}
use Rattle.jsonc_text.proofs.UniqueValues.{document_unique}
use Rattle.jsonc_text.proofs.WiderOptions.{document_wider}
use Rattle.jsonc_tree.specs.Content.{root}
use Rattle.jsonc_tree.specs.OrderedTree.{OrderedTree, Top, none, more, own_leaf, leaves}
use Rattle.jsonc_sound.specs.Shape.{ValueShaped, printed_text}
use Rattle.jsonc_sound.specs.Alone as alone
use Rattle.jsonc_sound.specs.Alone.{RootAlone, ValueAlone}
use Rattle.jsonc_sound.specs.Documents.{document_of}
use Rattle.jsonc_sound.specs.SoundTrees.{SoundTree}
use Rattle.jsonc_sound.specs.TreeChanges.{leaves_of, ElementChanged, this_element, passed, later_element, DocumentChanged, in_root, itself}
use Rattle.jsonc_sound.proofs.Changed.{alone_element}
use Rattle.jsonc_sound.proofs.FirstNodes.{no_element, trivia_over}
use Rattle.jsonc_sound.proofs.NodesAlone.{document_alone, document_leaves, document_shaped, value_leaves, value_shaped}
use Rattle.jsonc_edit.proofs.lemmas.commas.NoneLeft.{leaves_end_same}
use Rattle.jsonc_edit.proofs.lemmas.commas.NoTrailing.{same_lexemes, trivia_leaf_same}
use Rattle.jsonc_run.specs.Written.{IsChangedAt}
use Rattle.jsonc_run.specs.promise.PlaceLaws.{text_of_leaves}
use Rattle.jsonc_run.proofs.lemmas.promise.Leaves.{back_of}
use Rattle.jsonc_sound.proofs.ShapeValues.{document_printed, value_stands, Carries}
use Rattle.jsonc_run.proofs.lemmas.promise.Reversed.{flip}
use Rattle.jsonc_run.proofs.lemmas.promise.Values.{at_the_place, node_leaves}

-- no trailing comma is left in the whole tree, or in the value at the path
pub data NoneLeft (o : Options) (path : List ℕ) (t u : OrderedTree) : Type 0 where
  anywhere : path ≡ [] → SoundTree (without_trailing o) u → NoneLeft o path t u
  at_path : (at : IsChangedAt path t u) → ValueAlone (without_trailing o) at.1.content at.1.below → NoneLeft o path t u

module _ (o : Options) where
  abbrev p : Options
  p = without_trailing o

  allows_more : AllowsMore p o
  allows_more = record {
    lexemes = record { single_quoted_strings = refl; hexadecimal_numbers = refl; unary_plus_numbers = refl; bare_decimal_points = refl; non_finite_numbers = refl; extended_escapes = refl };
    comments = λ h. h;
    loose_names = λ h. h;
    trailing_commas = λ h. cc;
    missing_commas = λ h. h;
  }

  -- a value is shaped so before what follows it
  carries_same : (r z : List ℕ) → Carries o r z → Carries p r z
  carries_same r z f k s h = lexeme_same (same_lexemes o) k (s ++ z) z (f k s (lexeme_same allows_more.lexemes k (s ++ r) r h))

  shaped_bare : (x : Top) (r : List ℕ) → ValueShaped o x.content x.below r → ValueAlone p x.content x.below → ValueShaped p x.content x.below r
  shaped_bare x r s a = value_shaped p r a (leaves_end_same o (own_leaf x.content ++ leaves x.below) (next r) (value_leaves o s))

  value_bare : {was now : Top} {path : List ℕ} {t u : OrderedTree} → SoundTree o u → DocumentChanged was now path t u → ValueAlone p now.content now.below → (v : Plain) × (a r : List ℕ) × Value path o (printed_text u) a r × IsValue p a v r
  value_bare {now = now} sound d a =
      let m = at_the_place o sound (flip d) in
      let back : List ℕ = text_of_leaves (back_of (flip d)) in
      let one = value_stands p back (carries_same m.2.r back m.2.carries) (shaped_bare now m.2.r m.2.shaped a) m.2.lines in
      (one.0, text_of_leaves (leaves_of now) ++ back, back, m.1, subst (λ w. IsValue p (w ++ back) one.0 back) (node_leaves o now) one.1)

  -- behind a value there is trivia alone
  rest_bare : {stood : Bool} {row : OrderedTree} → stood ≡ true → RootAlone o stood row → RootAlone p stood row
  rest_bare e alone.root_ends = alone.root_ends
  rest_bare e (alone.root_trivia {content = content} t g) = alone.root_trivia (trivia_leaf_same o content t) (rest_bare e g)
  rest_bare e (alone.root_value v g) = cc

  root_bare : {was now : Top} {row new : OrderedTree} {i : ℕ} → i ≡ 0 → ElementChanged was now i row new → RootAlone o false new → ValueAlone p now.content now.below → RootAlone p false new
  root_bare {now = now} z (this_element e f) (alone.root_trivia t g) a = absurd (no_element now.content f (trivia_over o now.content t))
  root_bare z (this_element e f) (alone.root_value v g) a = alone.root_value a (rest_bare refl g)
  root_bare z (passed {content = content} h e) (alone.root_trivia t g) a = alone.root_trivia (trivia_leaf_same o content t) (root_bare z e g a)
  root_bare z (passed {content = content} h e) (alone.root_value v g) a = absurd (no_element content (alone_element o v) h)
  root_bare z (later_element h e) g a = cc

  whole_bare : {was now : Top} {t u : OrderedTree} → SoundTree o u → DocumentChanged was now [] t u → ValueAlone p now.content now.below → SoundTree p u
  whole_bare sound (in_root {new = new} e itself) a =
      let (row, same, g) = document_alone o sound.shaped in
      let is : row ≡ new = cc in
      let now : RootAlone p false new = root_bare refl e (subst (RootAlone o false) is g) a in
      record { shaped = document_shaped p (new, refl, now) (leaves_end_same o (leaves (more root new none)) None (document_leaves o sound.shaped)); lines = sound.lines }

  text_bare : {u : OrderedTree} (x : Option Plain) → IsDocument o (printed_text u) x → SoundTree p u → IsDocument p (printed_text u) x
  text_bare {u} x text bare =
      let is = document_printed p u bare.shaped bare.lines in
      subst (IsDocument p (printed_text u)) (document_unique o (printed_text u) is.0 x (document_wider (printed_text u) is.0 allows_more is.1) text) is.1

  pub none_left : (path : List ℕ) {t u : OrderedTree} → SoundTree o u → (x : Option Plain) → IsDocument o (printed_text u) x → NoneLeft o path t u → HasNoTrailing path (document_of o u x)
  none_left [] sound x text (anywhere e bare) = text_bare x text bare
  none_left [] sound x text (at_path at a) = text_bare x text (whole_bare sound at.2 a)
  none_left (i ∷ path) sound x text (anywhere e bare) = cc
  none_left (i ∷ path) sound x text (at_path at a) = value_bare sound at.2 a

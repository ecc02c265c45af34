-- Two edits as stretches.
use Rattle.std.proofs.Common.{ℕ, ◌≡◌, sym, subst, refl, true, false, List, [], ◌++◌, None, IsTrue, append-nil}
use Rattle.jsonc_text.specs.Options.{Options}
use Rattle.jsonc_tree.specs.OrderedTree.{OrderedTree, none, own_leaf, leaves, followed_by, Top}
use Rattle.jsonc_sound.specs.Lines.{LinesEndLoosely}
use Rattle.jsonc_sound.specs.Rows as rows
use Rattle.jsonc_sound.specs.Rows.{RowKind, container_of, last_behind}
use Rattle.jsonc_sound.specs.Sound.{IsValueBefore}
use Rattle.jsonc_sound.specs.TreeChanges.{DocumentChanged}
use Rattle.jsonc_sound.specs.Adjacent.{LeavesEnd}
use Rattle.jsonc_sound.specs.Alone as alone
use Rattle.jsonc_sound.specs.Alone.{may_come, StretchAlone}
use Rattle.jsonc_sound.specs.SoundTrees.{SoundTree}
use Rattle.jsonc_sound.specs.Spaces.{spaced}
use Rattle.jsonc_sound.specs.WorkedEdits.{appended}
use Rattle.jsonc_sound.proofs.NodesAlone.{value_alone, value_leaves}
use Rattle.jsonc_sound.proofs.Spaced.{space_trivia}
use Rattle.jsonc_sound.proofs.SoundTrees.{kept_by_stretches}

module _ (o : Options) where
  pub kept_by_appending : (t : OrderedTree) → SoundTree o t → (front back : OrderedTree) (top : Top) (path : List ℕ) (u : OrderedTree)
      → DocumentChanged (container_of rows.of_values (followed_by front back)) (container_of rows.of_values (followed_by front (followed_by (spaced (leaves front) (appended top) (leaves back)) back))) path t u
      → last_behind rows.nothing_yet front ≡ rows.an_element → IsTrue (may_come o rows.an_element back) → IsValueBefore o top []
      → LinesEndLoosely true false (followed_by front (followed_by (appended top) back)) → SoundTree o u
  kept_by_appending t s front back top path u c last h v l =
      let stretch = subst (λ a. StretchAlone o rows.of_values a (appended top) rows.an_element) (sym last) (alone.past_comma (alone.past_trivia (space_trivia o) (alone.past_element refl (alone.a_value (value_alone o v)) alone.stays))) in
      let ends = subst (λ x. LeavesEnd o (own_leaf top.content ++ x) None) (sym (append-nil (leaves top.below))) (value_leaves o v) in
      kept_by_stretches o t s rows.of_values front none (appended top) back path u c rows.an_element stretch h l (tt, (tt, ends))

  pub kept_by_taking_out : (t : OrderedTree) → SoundTree o t → (kind : RowKind) (front was back : OrderedTree) (path : List ℕ) (u : OrderedTree)
      → DocumentChanged (container_of kind (followed_by front (followed_by was back))) (container_of kind (followed_by front (followed_by (spaced (leaves front) none (leaves back)) back))) path t u
      → IsTrue (may_come o (last_behind rows.nothing_yet front) back) → LinesEndLoosely true false (followed_by front back) → SoundTree o u
  kept_by_taking_out t s kind front was back path u c h l = kept_by_stretches o t s kind front was none back path u c (last_behind rows.nothing_yet front) alone.stays h l tt

-- A document in which a stretch of a container's row is replaced by another.
use Rattle.std.proofs.Common.{ℕ, ◌≡◌, ◌∙◌, sym, ap, subst, refl, false, List, ◌∷◌, ◌++◌, Option, None, IsTrue}
use Rattle.jsonc_text.specs.Options.{Options}
use Rattle.jsonc_tree.specs.Content.{Content, token}
use Rattle.jsonc_tree.specs.OrderedTree.{OrderedTree, leaves, followed_by}
use Rattle.jsonc_tree.proofs.OrderedTrees.{leaves-followed_by}
use Rattle.jsonc_sound.specs.Lines.{LinesEnd}
use Rattle.jsonc_sound.specs.Shape.{DocumentShaped, token_then}
use Rattle.jsonc_sound.specs.Rows as rows
use Rattle.jsonc_sound.specs.Rows.{RowKind, opening, holder, Last, container_of, last_behind}
use Rattle.jsonc_sound.specs.Sound.{Sound}
use Rattle.jsonc_sound.specs.TreeChanges.{leaves_of, DocumentChanged}
use Rattle.jsonc_sound.proofs.HeldValues.{document_held}
use Rattle.jsonc_sound.proofs.LeavesAround.{document_differs}
use Rattle.jsonc_sound.proofs.Lines.{document_lines}
use Rattle.jsonc_sound.specs.Adjacent.{or_else, follower, LeavesEnd, LastEnds}
use Rattle.jsonc_sound.specs.Alone as alone
use Rattle.jsonc_sound.specs.Alone.{may_come, ValueAlone, RowAlone, StretchAlone}
use Rattle.jsonc_sound.proofs.NodesAlone.{value_alone, document_alone, document_leaves, document_shaped}
use Rattle.jsonc_sound.proofs.Changed.{document_changed}
use Rattle.jsonc_sound.proofs.Leaves.{follower_append, joined_leaves, parted_leaves, last_serves}
use Rattle.jsonc_sound.proofs.SeamStretches.{gives_way}
use Rattle.jsonc_sound.proofs.Texts.{opening_first, row_hides}

pub container_leaves : (kind : RowKind) (row : OrderedTree) → leaves_of (container_of kind row) ≡ token (opening kind) ∷ leaves row
container_leaves rows.of_values row = refl
container_leaves rows.of_properties row = refl

pub parted_lists : (front mid back : OrderedTree) → leaves (followed_by front (followed_by mid back)) ≡ leaves front ++ (leaves mid ++ leaves back)
parted_lists front mid back = leaves-followed_by front (followed_by mid back) ∙ ap (λ l. leaves front ++ l) (leaves-followed_by mid back)

module _ (o : Options) where
  array_row : {row below : OrderedTree} → below ≡ token_then 0x5B row → ValueAlone o Content.array below → RowAlone o rows.of_values rows.nothing_yet row
  array_row e (alone.literal h) = absurd h
  array_row {row} e (alone.an_array {row = r} g) = let same : r ≡ row = cc in subst (RowAlone o rows.of_values rows.nothing_yet) same g

  object_row : {row below : OrderedTree} → below ≡ token_then 0x7B row → ValueAlone o Content.object below → RowAlone o rows.of_properties rows.nothing_yet row
  object_row e (alone.literal h) = absurd h
  object_row {row} e (alone.an_object {row = r} g) = let same : r ≡ row = cc in subst (RowAlone o rows.of_properties rows.nothing_yet) same g

  pub row_of : (kind : RowKind) (row : OrderedTree) → ValueAlone o (holder kind) (token_then (opening kind) row) → RowAlone o kind rows.nothing_yet row
  row_of rows.of_values row v = array_row refl v
  row_of rows.of_properties row v = object_row refl v

  container_with : (kind : RowKind) (row : OrderedTree) → RowAlone o kind rows.nothing_yet row → ValueAlone o (holder kind) (token_then (opening kind) row)
  container_with rows.of_values row g = alone.an_array g
  container_with rows.of_properties row g = alone.an_object g

  -- what stands before a bracket ends before it
  before_bracket : (kind : RowKind) (x y : List Content) (n m : Option ℕ) → follower (token (opening kind) ∷ x) n ≡ follower (token (opening kind) ∷ y) m
  before_bracket kind x y n m = ap (λ c. or_else c (follower x n)) (opening_first kind) ∙ sym (ap (λ c. or_else c (follower y m)) (opening_first kind))

  -- the leaves of the new row
  new_leaves : {kind : RowKind} {behind : Last} (front was now back : OrderedTree) (n : Option ℕ) → RowAlone o kind behind back
      → LastEnds o (leaves front) (follower (leaves now ++ leaves back) None) → LeavesEnd o (leaves now) (follower (leaves back) None)
      → LeavesEnd o (leaves (followed_by front (followed_by was back))) n → LeavesEnd o (leaves (followed_by front (followed_by now back))) n
  new_leaves front was now back n g before new e =
      let old = parted_leaves o (leaves front) (leaves was ++ leaves back) n (subst (λ l. LeavesEnd o l n) (parted_lists front was back) e) in
      let rest = (parted_leaves o (leaves was) (leaves back) n old.1).1 in
      let hidden = row_hides o g None n in
      let follows = follower_append (leaves now) (leaves back) None ∙ ap (follower (leaves now)) hidden ∙ sym (follower_append (leaves now) (leaves back) n) in
      let first = last_serves o (leaves front) (follower (leaves was ++ leaves back) n) (follower (leaves now ++ leaves back) n) old.0 (subst (LastEnds o (leaves front)) follows before) in
      subst (λ l. LeavesEnd o l n) (sym (parted_lists front now back))
      (joined_leaves o (leaves front) (leaves now ++ leaves back) n first (joined_leaves o (leaves now) (leaves back) n (subst (LeavesEnd o (leaves now)) hidden new) rest))

  -- the leaves of a document in which a container gets another row
  container_leaves_end : (kind : RowKind) (old new : OrderedTree) (x y : List Content) (n : Option ℕ) → ((m : Option ℕ) → LeavesEnd o (leaves old) m → LeavesEnd o (leaves new) m)
      → LeavesEnd o (x ++ ((token (opening kind) ∷ leaves old) ++ y)) n → LeavesEnd o (x ++ ((token (opening kind) ∷ leaves new) ++ y)) n
  container_leaves_end kind old new x y n f e =
      let all = parted_leaves o x ((token (opening kind) ∷ leaves old) ++ y) n e in
      let row = parted_leaves o (token (opening kind) ∷ leaves old) y n all.1 in
      joined_leaves o x ((token (opening kind) ∷ leaves new) ++ y) n (subst (LeavesEnd o x) (before_bracket kind (leaves old ++ y) (leaves new ++ y) n n) all.0)
      (joined_leaves o (token (opening kind) ∷ leaves new) y n (tt, f (follower y n) row.0.1) row.1)

  pub shaped_with_stretch : (t : OrderedTree) → DocumentShaped o t → (kind : RowKind) (front was now back : OrderedTree) (path : List ℕ) (u : OrderedTree)
      → DocumentChanged (container_of kind (followed_by front (followed_by was back))) (container_of kind (followed_by front (followed_by now back))) path t u
      → (to : Last) → StretchAlone o kind (last_behind rows.nothing_yet front) now to → IsTrue (may_come o to back)
      → LastEnds o (leaves front) (follower (leaves now ++ leaves back) None) → LeavesEnd o (leaves now) (follower (leaves back) None)
      → DocumentShaped o u
  shaped_with_stretch t s kind front was now back path u c to k h before new =
      let old : OrderedTree = followed_by front (followed_by was back) in
      let given : OrderedTree = followed_by front (followed_by now back) in
      let held = row_of kind old (value_alone o (document_held o c s).1) in
      let way = gives_way o kind front was now back held to k h in
      let d = document_differs c in
      let was_leaves = subst (λ a. LeavesEnd o (d.front ++ (a ++ d.back)) None) (container_leaves kind old) (subst (λ a. LeavesEnd o a None) d.before (document_leaves o s)) in
      let now_leaves = container_leaves_end kind old given d.front d.back None (λ m. new_leaves front was now back m way.rest before new) was_leaves in
      let all = subst (λ a. LeavesEnd o a None) (sym d.after) (subst (λ a. LeavesEnd o (d.front ++ (a ++ d.back)) None) (sym (container_leaves kind given)) now_leaves) in
      document_shaped o (document_changed o (λ x. container_with kind given way.new) c (document_alone o s)) all

  pub sound_with_stretch : (t : OrderedTree) → Sound o t → (kind : RowKind) (front was now back : OrderedTree) (path : List ℕ) (u : OrderedTree)
      → DocumentChanged (container_of kind (followed_by front (followed_by was back))) (container_of kind (followed_by front (followed_by now back))) path t u
      → (to : Last) → StretchAlone o kind (last_behind rows.nothing_yet front) now to → IsTrue (may_come o to back)
      → LinesEnd false (followed_by front (followed_by now back))
      → LastEnds o (leaves front) (follower (leaves now ++ leaves back) None) → LeavesEnd o (leaves now) (follower (leaves back) None)
      → Sound o u
  sound_with_stretch t s kind front was now back path u c to k h l before new =
      record { shaped = shaped_with_stretch t s.shaped kind front was now back path u c to k h before new; lines = document_lines (λ x. cc, tt, l) c s.lines }

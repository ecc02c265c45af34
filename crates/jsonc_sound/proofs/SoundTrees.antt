-- Changes that keep soundness.
use Rattle.std.proofs.Common.{ℕ, ◌≡◌, ◌∙◌, sym, subst, Bool, true, false, List, [], ◌++◌, None, IsTrue, if◌then◌else◌}
use Rattle.jsonc_text.specs.Options.{Options}
use Rattle.jsonc_tree.specs.OrderedTree.{OrderedTree, none, leaves, followed_by, Top}
use Rattle.jsonc_sound.specs.Lines.{is_loose, ends_loosely, LinesEndLoosely}
use Rattle.jsonc_sound.specs.Shape.{token_then}
use Rattle.jsonc_sound.specs.ChangeLaws.{DiffersIn}
use Rattle.jsonc_sound.specs.Rows as rows
use Rattle.jsonc_sound.specs.Rows.{RowKind, opening, holder, Last, container_of, last_behind}
use Rattle.jsonc_sound.specs.Sound.{IsValueBefore}
use Rattle.jsonc_sound.specs.TreeChanges.{leaves_of, DocumentChanged}
use Rattle.jsonc_sound.specs.Adjacent.{LeavesEnd}
use Rattle.jsonc_sound.specs.Alone.{StretchAlone, may_come}
use Rattle.jsonc_sound.specs.SoundTrees.{SoundTree}
use Rattle.jsonc_sound.specs.Spaces.{meet, space_then, spaced_before, spaced}
use Rattle.jsonc_sound.proofs.LeafByLeaf.{shaped_value_where_none_meet}
use Rattle.jsonc_sound.proofs.LooseChanges.{ends_joined, joined_loosely, parted_loosely, document_loose}
use Rattle.jsonc_sound.proofs.Spaced.{shaped_with_space}
use Rattle.jsonc_sound.proofs.Spaces.{shaped_where_none_meet}
use Rattle.jsonc_sound.proofs.SeamStretches.{followed_joined}

-- behind its first bracket a container's row ends its lines as the row does
bracket_lines : (kind : RowKind) (row : OrderedTree) → LinesEndLoosely true false row → LinesEndLoosely (is_loose (holder kind)) false (token_then (opening kind) row)
bracket_lines rows.of_values row l = (λ h. cc, tt, l)
bracket_lines rows.of_properties row l = (λ h. cc, tt, l)

-- in a loose row a space changes nothing
space_before : (b : Bool) (front now back : OrderedTree) → LinesEndLoosely true false (followed_by front (followed_by now back)) → LinesEndLoosely true false (followed_by front (followed_by (if b then space_then now else now) back))
space_before false front now back l = l
space_before true front now back l =
    let parts = parted_loosely true false front (followed_by now back) l in
    joined_loosely true false front (space_then (followed_by now back)) parts.0 (λ h. cc, tt, parts.1)

space_behind : (b : Bool) (front now back : OrderedTree) → LinesEndLoosely true false (followed_by front (followed_by now back)) → LinesEndLoosely true false (followed_by front (followed_by (if b then followed_by now (space_then none) else now) back))
space_behind false front now back l = l
space_behind true front now back l =
    let parts = parted_loosely true false front (followed_by now back) l in
    let inner = parted_loosely true false now back parts.1 in
    let inside = joined_loosely true false now (space_then back) inner.0 (λ h. cc, tt, inner.1) in
    let same : ends_loosely true false (followed_by now back) ≡ ends_loosely true false (followed_by now (space_then back)) = ends_joined true false now back ∙ sym (ends_joined true false now (space_then back)) in
    subst (λ r. LinesEndLoosely true false (followed_by front r)) (followed_joined now (space_then none) back) (joined_loosely true false front (followed_by now (space_then back)) (subst (λ e. LinesEndLoosely true e front) same parts.0) inside)

spaced_lines : (front now back : OrderedTree) → LinesEndLoosely true false (followed_by front (followed_by now back)) → LinesEndLoosely true false (followed_by front (followed_by (spaced (leaves front) now (leaves back)) back))
spaced_lines front now back l =
    let first = spaced_before (leaves front) now (leaves back) in
    space_behind (meet (leaves first) (leaves back)) front first back (space_before (meet (leaves front) (leaves now ++ leaves back)) front now back l)

module _ (o : Options) where
  pub kept_by_stretches : (t : OrderedTree) → SoundTree o t → (kind : RowKind) (front was now back : OrderedTree) (path : List ℕ) (u : OrderedTree)
      → DocumentChanged (container_of kind (followed_by front (followed_by was back))) (container_of kind (followed_by front (followed_by (spaced (leaves front) now (leaves back)) back))) path t u
      → (to : Last) → StretchAlone o kind (last_behind rows.nothing_yet front) now to → IsTrue (may_come o to back)
      → LinesEndLoosely true false (followed_by front (followed_by now back)) → LeavesEnd o (leaves now) None
      → SoundTree o u
  kept_by_stretches t s kind front was now back path u c to k h l e =
      record { shaped = shaped_with_space o kind t s.shaped front was now back path u c to k h e; lines = document_loose (bracket_lines kind (followed_by front (followed_by (spaced (leaves front) now (leaves back)) back)) (spaced_lines front now back l)) c s.lines }

  pub kept_where_none_meet : (t : OrderedTree) → SoundTree o t → (kind : RowKind) (front was now back : OrderedTree) (path : List ℕ) (u : OrderedTree)
      → DocumentChanged (container_of kind (followed_by front (followed_by was back))) (container_of kind (followed_by front (followed_by now back))) path t u
      → (to : Last) → StretchAlone o kind (last_behind rows.nothing_yet front) now to → IsTrue (may_come o to back)
      → LinesEndLoosely true false (followed_by front (followed_by now back))
      → LeavesEnd o (leaves now) None → meet (leaves front) (leaves (followed_by now back)) ≡ false → meet (leaves now) (leaves back) ≡ false
      → SoundTree o u
  kept_where_none_meet t s kind front was now back path u c to k h l e before behind =
      record { shaped = shaped_where_none_meet o t s.shaped kind front was now back path u c to k h e before behind; lines = document_loose (bracket_lines kind (followed_by front (followed_by now back)) l) c s.lines }

  pub kept_by_values : (t : OrderedTree) → SoundTree o t → (was now : Top) (path : List ℕ) (u : OrderedTree) → DocumentChanged was now path t u → IsValueBefore o now [] → LinesEndLoosely (is_loose now.content) false now.below
      → (d : DiffersIn (leaves_of was) (leaves_of now) (leaves t) (leaves u)) → meet d.front (leaves_of now ++ d.back) ≡ false → meet (leaves_of now) d.back ≡ false
      → SoundTree o u
  kept_by_values t s was now path u c v l d before behind =
      record { shaped = shaped_value_where_none_meet o t s.shaped was now path u c v d before behind; lines = document_loose l c s.lines }

-- Where a node at a path has been replaced, spaces have come at the seams alone.
use Rattle.std.proofs.Common.{◌≡◌, ℕ, ◌<◌, ◌++◌, ◌&&◌, true, List, length, sym, ap, subst, ◌∙◌}
use Rattle.jsonc_text.specs.Options.{Options}
use Rattle.jsonc_tree.specs.Content.{Content}
use Rattle.jsonc_tree.specs.OrderedTree.{OrderedTree, ordered_tree, Top}
use Rattle.jsonc_tree.specs.Tree.{Node, IsTree}
use Rattle.jsonc_tree.proofs.Order.{parent_there}
use Rattle.jsonc_sound.specs.TreeChanges.{IsElement}
use Rattle.jsonc_sound.specs.Adjacent.{last_printed}
use Rattle.jsonc_sound.specs.SoundTrees.{SoundTree}
use Rattle.jsonc_sound.specs.Spaces.{first_printed, is_bare, is_bare_leaf}
use Rattle.jsonc_edit.specs.Changes.{top_at}
use Rattle.jsonc_edit.specs.Due.{begins_bare, ends_bare, seen_before, seen_behind}
use Rattle.jsonc_edit.specs.Paths.{IsAt}
use Rattle.jsonc_edit.specs.Replacing.{ReplacedBy}
use Rattle.jsonc_edit.proofs.ReplacedChildren.{InPlace, in_place}
use Rattle.jsonc_edit.proofs.ValuePlaces.{held_at}
use Rattle.jsonc_edit.proofs.NodesKept.{at_kept, top_stays, tree_stays}
use Rattle.jsonc_edit.proofs.NewPaths.{at_now}
use Rattle.jsonc_edit.proofs.ReplacedValues.{at_child, spaced, spaced_at}
use Rattle.jsonc_edit.specs.SeamPlaces.{DocumentHolds, ReplacedWithSeams}
use Rattle.jsonc_edit.specs.Seams.{space_if, SeamsAround}
use Rattle.jsonc_edit.specs.SeamLaws.{HasSeams}
use Rattle.jsonc_edit.proofs.LeavesAroundNodes.{spaces_stand_around}
use Rattle.jsonc_edit.proofs.SeamsParting.{tells_what_is_printed}
use Rattle.jsonc_edit.proofs.PathPlaces.{AtBetween, at_between, holds_between, takes_between}
use Rattle.jsonc_edit.proofs.Lists.{both_true}

module _ (old new : List Node) (n m : ℕ) (now : Top) (tree : IsTree old) (g : ReplacedBy old new n m now) (path : List ℕ) (at : IsAt old path n) where
  at_ready : IsAt g.ready path n
  at_ready = at_kept old g.ready tree g.prepared.keeps path n at

  place : AtBetween g.ready g.prepared.tree path n
  place = at_between g.ready g.prepared.tree path n at_ready

  seams : SeamsAround g.spaced n (is_bare now.content && ends_bare g.ready (seen_before g.ready n)) (is_bare now.content && begins_bare g.ready (seen_behind g.ready n)) place.first place.last
  seams = spaces_stand_around g.ready g.spaced n now.content g.prepared.tree g.spaces place.first place.last place.stands

  n_there : n < length old
  n_there = let said = (at_child old tree n (held_at old path n at)).0 in (parent_there old tree n said.0 said.1).0

  put : InPlace g.spaced new n m now
  put = in_place g.spaced new n m now g.place

  element : IsElement now.content
  element = subst (λ (t : Top). IsElement t.content) g.place.is g.place.replaces.element

  at_new : IsAt new path m
  at_new = at_now g.spaced new (spaced old new n m now tree g path at).tree n m now put element path (spaced_at old new n m now tree g path at)

  abbrev front_now : List Content
  front_now = place.first ++ space_if (is_bare now.content && ends_bare g.ready (seen_before g.ready n))

  abbrev back_now : List Content
  back_now = seams.quiet ++ (space_if (is_bare now.content && begins_bare g.ready (seen_behind g.ready n)) ++ seams.rest)

  stands_now : DocumentHolds now path (ordered_tree new 0) front_now back_now
  stands_now =
      let stands = holds_between new g.place.replaces.after path m front_now back_now at_new (takes_between g.spaced new n m g.place.replaces front_now back_now seams.now) in
      subst (λ (t : Top). DocumentHolds t path (ordered_tree new 0) front_now back_now) put.put stands

  -- in a sound document these spaces part literals without quotes
  printed_around : (o : Options) → SoundTree o (ordered_tree old 0)
      → (ends_bare g.ready (seen_before g.ready n) ≡ true → is_bare_leaf (last_printed place.first) ≡ true) × (begins_bare g.ready (seen_behind g.ready n) ≡ true → is_bare_leaf (first_printed place.last) ≡ true)
  printed_around o sound =
      let sound_ready : SoundTree o (ordered_tree g.ready 0) = subst (SoundTree o) (sym (tree_stays old g.ready tree g.prepared.keeps g.prepared.tree)) sound in
      tells_what_is_printed o g.ready n g.prepared.tree sound_ready place.first place.last place.stands

  pub gives_way_with_seams : ReplacedWithSeams path (top_at old n) now (ordered_tree old 0) (ordered_tree new 0)
  gives_way_with_seams =
      let keeps = g.prepared.keeps in
      let after = g.prepared.tree in
      let stood = subst (λ l. DocumentHolds (top_at g.ready n) path (ordered_tree g.ready 0) place.first l) seams.parts place.holds in
      let stood_top = subst (λ (t : Top). DocumentHolds t path (ordered_tree g.ready 0) place.first (seams.quiet ++ seams.rest)) (top_stays old g.ready tree keeps after n n_there) stood in
      record {
        front = place.first;
        quiet = seams.quiet;
        rest = seams.rest;
        before = is_bare now.content && ends_bare g.ready (seen_before g.ready n);
        behind = is_bare now.content && begins_bare g.ready (seen_behind g.ready n);
        silent = seams.silent;
        stood = subst (λ (t : OrderedTree). DocumentHolds (top_at old n) path t place.first (seams.quiet ++ seams.rest)) (tree_stays old g.ready tree keeps after) stood_top;
        stands = stands_now;
        parts_before = λ o sound e. let h = both_true (is_bare now.content) (ends_bare g.ready (seen_before g.ready n)) e in (h.0, (printed_around o sound).0 h.1);
        parts_behind = λ o sound e.
            let h = both_true (is_bare now.content) (begins_bare g.ready (seen_behind g.ready n)) e in
            (h.0, ap (λ l. is_bare_leaf (first_printed l)) (sym seams.parts) ∙ (printed_around o sound).1 h.1);
      }

pub has_seams : (old new : List Node) (n m : ℕ) (now : Top) → HasSeams old new n m now
has_seams old new n m now tree g path at = gives_way_with_seams old new n m now tree g path at

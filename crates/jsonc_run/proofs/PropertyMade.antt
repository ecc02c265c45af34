-- What becomes of a document where the property at a path is replaced by another.
use Rattle.std.proofs.Common.{◌≡◌, ℕ, ◌<◌, Bool, true, false, cond, List, [], ◌∷◌, ◌++◌, length, filter, slice_get, slice_index, Option, Some, None, refl, sym, ap, subst, ◌∙◌}
use Rattle.jsonc_text.specs.Options.{Options}
use Rattle.jsonc_text.specs.Plain.{Plain}
use Rattle.jsonc_tree.specs.Content.{Content, object, property}
use Rattle.jsonc_tree.specs.OrderedTree.{OrderedTree, Top, leaves, ordered_tree}
use Rattle.jsonc_tree.specs.Tree.{Node, content_at, children_at, parent_at, IsTree, IsOver}
use Rattle.jsonc_tree.proofs.Order.{over_step, parent_there}
use Rattle.jsonc_run.proofs.lemmas.promise.BlanksTold.{layout_told}
use Rattle.jsonc_layout.specs.nodes.Kinds.{is_element, is_element_at}
use Rattle.jsonc_layout.specs.from_input.Layout.{Layout}
use Rattle.jsonc_layout.specs.from_input.Texts.{IsCharacters}
use Rattle.jsonc_sound.specs.ChangeLaws.{DiffersIn}
use Rattle.jsonc_sound.specs.TreeChanges.{leaves_of, property_of}
use Rattle.jsonc_sound.specs.SoundTrees.{SoundTree}
use Rattle.jsonc_sound.specs.Spaces.{first_printed, is_bare_leaf}
use Rattle.jsonc_sound.specs.Properties.{PropertyChanged}
use Rattle.jsonc_edit.specs.Changes.{row_below, top_at}
use Rattle.jsonc_edit.specs.Due.{begins_bare, listed, seen_behind}
use Rattle.jsonc_edit.specs.Paths.{IsAt, IsElementOf}
use Rattle.jsonc_edit.specs.Put.{a_space, AreSpaced}
use Rattle.jsonc_edit.specs.Reading.{layout_for}
use Rattle.jsonc_edit.specs.Writing.{IsWritable}
use Rattle.jsonc_edit.proofs.ReplacedChildren.{in_place}
use Rattle.jsonc_edit.proofs.NodesKept.{at_kept, filter_same, top_stays, tree_stays}
use Rattle.jsonc_edit.proofs.Uniqueness.{element_parent, over_at}
use Rattle.jsonc_edit.specs.SeamEntries.{PropertyHolds, PropertyReplacedWithSeam}
use Rattle.jsonc_edit.specs.Seams.{PrintNothing, space_if, StandsBetween}
use Rattle.jsonc_edit.proofs.LeavesAroundNodes.{space_behind}
use Rattle.jsonc_edit.proofs.SeamsParting.{tells_what_is_printed}
use Rattle.jsonc_edit.proofs.SeamsOfEntries.{property_front, property_back, property_stands, property_holds}
use Rattle.jsonc_edit.proofs.PathPlaces.{takes_between}
use Rattle.jsonc_edit.specs.set.Giving.{due_after, is_bare_value, property_top, IsPropertyReplaced, PropertyReplacedBy}
use Rattle.jsonc_edit.proofs.lemmas.set.PropertyPlace.{takes_propertys_place}
use Rattle.jsonc_edit.proofs.lemmas.set.WrittenProperty.{writes_property}
use Rattle.jsonc_edit.proofs.SeamsOfComments.{contents_spaced}
use Rattle.jsonc_insert.specs.named.Places.{IsPropertyAt, a_property}
use Rattle.jsonc_run.specs.Written.{ReplacesProperty, property_given}

-- the new property is laid out as the document tells
given_top : (old new : List Node) (n m : ℕ) (name : List ℕ) (v : Plain) (r : IsPropertyReplaced old new n name v m) → top_at new m ≡ property_top (layout_for old r.0 n) name v
given_top old new n m name v r = (in_place r.2.spaced new n m (property_top (layout_for old r.0 n) name v) r.2.place).put

-- where the space that is due behind a property has come
record SpaceComes (ready spaced : List Node) (n : ℕ) (v : Plain) (front back : List Content) : Type 0 where
  behind : Bool
  quiet : List Content
  rest : List Content
  parts : back ≡ quiet ++ rest
  bare : behind ≡ true → is_bare_value v ≡ true
  due : behind ≡ true → begins_bare ready (seen_behind ready n) ≡ true
  silent : PrintNothing quiet
  now : StandsBetween spaced n front (quiet ++ (space_if behind ++ rest))

space_comes : (ready spaced : List Node) (n : ℕ) (v : Plain) → IsTree ready → AreSpaced ready (listed (due_after ready n v)) spaced → (front back : List Content) → StandsBetween ready n front back → SpaceComes ready spaced n v front back
space_comes ready spaced n v tree put front back s = by (is_bare_value v) (begins_bare ready (seen_behind ready n)) (seen_behind ready n) refl refl refl put
  where
    none_comes : spaced ≡ ready → SpaceComes ready spaced n v front back
    none_comes same = record { behind = false; quiet = []; rest = back; parts = refl; bare = λ e. let wrong : false ≡ true = e in cc; due = λ e. let wrong : false ≡ true = e in cc; silent = tt; now = subst (λ ns. StandsBetween ns n front back) (sym same) s }

    by : (bare b : Bool) (o : Option ℕ) → is_bare_value v ≡ bare → begins_bare ready (seen_behind ready n) ≡ b → seen_behind ready n ≡ o → AreSpaced ready (listed (cond bare (cond b o None) None)) spaced → SpaceComes ready spaced n v front back
    by false b o is due seen same = none_comes same
    by true false o is due seen same = none_comes same
    by true true None is due seen same = none_comes same
    by true true (Some x) is due seen (now, space, r, same) =
        let m = space_behind ready now x space tree r n seen front back s in
        record { behind = true; quiet = m.quiet; rest = m.rest; parts = m.parts; bare = λ e. is; due = λ e. due; silent = m.silent; now = subst (λ ns. StandsBetween ns n front (m.quiet ++ (a_space ∷ m.rest))) (sym same) m.now }

module _ (old new : List Node) (path : List ℕ) (c i n m : ℕ) (name : List ℕ) (v : Plain) (tree : IsTree old) (at : IsAt old path c) (is : content_at old c ≡ object) (element : IsElementOf old c i n) (named : content_at old n ≡ property) (r : IsPropertyReplaced old new n name v m) where
  g : PropertyReplacedBy old new n m (layout_for old r.0 n) name v
  g = r.2

  there : (n < length old) × (c < length old)
  there = let t = parent_there old tree n c (element_parent old tree c i n element) in (t.0, t.1)

  at_ready : IsAt g.ready path c
  at_ready = at_kept old g.ready tree g.prepared.keeps path c at

  element_ready : IsElementOf g.ready c i n
  element_ready =
      ap (λ l. slice_get l i)
      (ap (filter (is_element_at g.ready)) (g.prepared.keeps.children c there.1)
      ∙ filter_same (is_element_at g.ready) (is_element_at old) (children_at old c) (λ k h. ap is_element (g.prepared.keeps.content (slice_index (children_at old c) k) (tree.in_tree c k h))))
      ∙ element

  abbrev front : List Content
  front = property_front g.ready g.prepared.tree path c i n at_ready element_ready

  abbrev back : List Content
  back = property_back g.ready g.prepared.tree path c i n at_ready element_ready

  stands_ready : StandsBetween g.ready n front back
  stands_ready = property_stands g.ready g.prepared.tree path c i n at_ready element_ready

  space : SpaceComes g.ready g.spaced n v front back
  space = space_comes g.ready g.spaced n v g.prepared.tree g.spaces front back stands_ready

  stood : PropertyHolds (row_below old n) path i (ordered_tree old 0) front (space.quiet ++ space.rest)
  stood =
      let keeps = g.prepared.keeps in
      let held = property_holds g.ready g.prepared.tree path c i n at_ready element_ready (keeps.content c there.1 ∙ is) (keeps.content n there.0 ∙ named) front back (property_stands g.ready g.prepared.tree path c i n at_ready element_ready) in
      let below : row_below g.ready n ≡ row_below old n = ap (λ (t : Top). t.below) (top_stays old g.ready tree keeps g.prepared.tree n there.0) in
      subst (λ (t : OrderedTree). PropertyHolds (row_below old n) path i t front (space.quiet ++ space.rest)) (tree_stays old g.ready tree keeps g.prepared.tree)
      (subst (λ l. PropertyHolds (row_below old n) path i (ordered_tree g.ready 0) front l) space.parts
      (subst (λ (t : OrderedTree). PropertyHolds t path i (ordered_tree g.ready 0) front back) below held))

  stands : PropertyHolds (property_top (layout_for old r.0 n) name v).below path i (ordered_tree new 0) front (space.quiet ++ (space_if space.behind ++ space.rest))
  stands =
      let place = takes_propertys_place old new path c i n m name v tree at element r in
      let top : top_at new m ≡ property_top (layout_for old r.0 n) name v = given_top old new n m name v r in
      let is_new : content_at new c ≡ object = g.place.replaces.spliced.content c ∙ contents_spaced (listed (due_after g.ready n v)) g.ready g.spaced g.spaces c ∙ g.prepared.keeps.content c there.1 ∙ is in
      let later = takes_between g.spaced new n m g.place.replaces front (space.quiet ++ (space_if space.behind ++ space.rest)) space.now in
      let held = property_holds new g.place.replaces.after path c i m place.0 place.1 is_new (ap (λ (t : Top). t.content) top) front (space.quiet ++ (space_if space.behind ++ space.rest)) later in
      subst (λ (t : OrderedTree). PropertyHolds t path i (ordered_tree new 0) front (space.quiet ++ (space_if space.behind ++ space.rest))) (ap (λ (t : Top). t.below) top) held

  pub property_seam : PropertyReplacedWithSeam path i (row_below old n) (property_top (layout_for old r.0 n) name v).below (ordered_tree old 0) (ordered_tree new 0)
  property_seam = record {
    front = front;
    quiet = space.quiet;
    rest = space.rest;
    behind = space.behind;
    silent = space.silent;
    stood = stood;
    stands = stands;
    parts_behind = λ o sound e.
        let sound_ready : SoundTree o (ordered_tree g.ready 0) = subst (SoundTree o) (sym (tree_stays old g.ready tree g.prepared.keeps g.prepared.tree)) sound in
        ap (λ l. is_bare_leaf (first_printed l)) (sym space.parts) ∙ (tells_what_is_printed o g.ready n g.prepared.tree sound_ready front back stands_ready).1 (space.due e);
  }

  pub bare_there : property_seam.behind ≡ true → is_bare_value v ≡ true
  unfolding property_seam
  bare_there e = space.bare e

pub property_gives_way : (o : Options) (old new : List Node) (path : List ℕ) (n m : ℕ) (name : List ℕ) (v : Plain) → IsTree old → SoundTree o (ordered_tree old 0) → IsPropertyAt old path n → IsCharacters name → IsWritable o v
    → IsPropertyReplaced old new n name v m → ReplacesProperty name v (ordered_tree old 0) (ordered_tree new 0) path
property_gives_way o old new _ n m name v tree s (a_property front c i at inside) texts may r =
    let w = writes_property o old new front c i n m name v tree s at inside.of_object inside.element texts may r in
    let layout : Layout = layout_for old r.0 n in
    let now : top_at new m ≡ property_top layout name v = given_top old new n m name v r in
    let was : top_at old n ≡ property_of (row_below old n) = ap (λ (k : Content). record { content = k; below = row_below old n }) inside.is in
    property_given front i layout w.spaced w.front (row_below old n) w.back w.spaces
    (subst (λ (t : Top). PropertyChanged w.front (row_below old n) t.below w.back front w.spaced (ordered_tree new 0)) now w.changed)
    (subst (λ (t : Top). DiffersIn (leaves_of t) (leaves_of (property_top layout name v)) (leaves w.spaced) (leaves (ordered_tree new 0))) was
    (subst (λ (t : Top). DiffersIn (leaves_of (top_at old n)) (leaves_of t) (leaves w.spaced) (leaves (ordered_tree new 0))) now w.around))
    (property_seam old new front c i n m name v tree at inside.of_object inside.element inside.is r) (bare_there old new front c i n m name v tree at inside.of_object inside.element inside.is r)
    (layout_told o old tree s r.0 n (over_step old tree 0 n r.0 (IsOver.above (element_parent old tree c i n inside.element) (over_at old tree front c at)) (λ e. let wrong : None ≡ Some r.0 = sym tree.root_alone ∙ subst (λ k. parent_at old k ≡ Some r.0) e r.1 in cc) r.1))

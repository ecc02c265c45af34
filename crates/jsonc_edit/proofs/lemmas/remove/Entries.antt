-- An element of an array or object of a sound document is taken out.
use Rattle.std.proofs.Common.{◌≡◌, ◌≢◌, ℕ, ◌+◌, ◌<◌, Bool, true, false, not, ◌&&◌, cond, List, [], ◌∷◌, ◌++◌, length, filter, reverse, slice_get, slice_index, Option, Some, None, IsTrue, if◌then◌else◌, inl, inr, refl, sym, ap, subst, ◌∙◌, arith}
use Rattle.std.proofs.lemmas.Bool.{cases_Bool}
use Rattle.std.proofs.lemmas.List.{append_assoc}
use Rattle.std.proofs.lemmas.List.Elements.{All-nil, All-cons, All-head, All-tail, All-append, All-from_get_or, All-weaker}
use Rattle.std.specs.List.{All}
use Rattle.std.specs.Option.{option_and_then}
use Rattle.jsonc_text.specs.Options.{Options}
use Rattle.jsonc_tree.specs.Changes.{Splices}
use Rattle.jsonc_tree.specs.Content.{Content, array, object}
use Rattle.jsonc_tree.specs.OrderedTree.{OrderedTree, Shows, ordered_tree}
use Rattle.jsonc_tree.specs.Tree.{Node, content_at, parent_at, children_at, place_at, IsTree, IsOver}
use Rattle.jsonc_tree.specs.Siblings.{siblings_after}
use Rattle.jsonc_tree.proofs.Order.{not_over_parent, parent_there}
use Rattle.jsonc_tree.proofs.OrderedTrees.{Shows-unique}
use Rattle.jsonc_layout.specs.nodes.Kinds.{is_element, is_element_at, is_property}
use Rattle.jsonc_layout.proofs.lemmas.nodes.InTree.{All-reverse}
use Rattle.jsonc_layout.specs.lines.Kinds.{is_array_or_object}
use Rattle.jsonc_sound.specs.Shape.{token_then}
use Rattle.jsonc_sound.specs.Rows.{holder, opening, container_of}
use Rattle.jsonc_tree.specs.OrderedTree.{Top}
use Rattle.jsonc_sound.specs.TreeChanges.{IsElement, DocumentChanged}
use Rattle.jsonc_sound.specs.SoundTrees.{SoundTree}
use Rattle.jsonc_sound.specs.Adjacent.{or_else}
use Rattle.jsonc_sound.specs.Leaving.{ElementRemoved}
use Rattle.jsonc_edit.specs.Due.{nearest, seen_before, seen_behind, behind_holder, behind_property, space_needed_between, listed, ends_bare, begins_bare, prints, prints_at, prints_within}
use Rattle.jsonc_edit.specs.Put.{AreSpaced}
use Rattle.jsonc_edit.proofs.InsertedSpaces.{children_kept}
use Rattle.jsonc_edit.proofs.WholeRows.{Whole, more_whole, whole_leaf, row_whole}
use Rattle.jsonc_edit.specs.Changes.{row_below, top_at}
use Rattle.jsonc_edit.specs.Paths.{IsAt, IsElementOf}
use Rattle.jsonc_edit.specs.Spaced.{SpacesPut}
use Rattle.jsonc_edit.proofs.SpacesNeededKept.{due_between_same}
use Rattle.jsonc_edit.proofs.Elements.{stands_at, Some_same}
use Rattle.jsonc_edit.proofs.NodesKept.{at_kept, filter_same, top_stays, tree_stays}
use Rattle.jsonc_edit.proofs.SpacedNodes.{Placed, between_placed, found_behind}
use Rattle.jsonc_edit.proofs.Spacing.{Spaced, all_spaced, parent_stays, spaces_sound, elements_spaced}
use Rattle.jsonc_edit.proofs.Uniqueness.{element_parent, over_at}
use Rattle.jsonc_edit.proofs.ChangesUpward.{ChangedIn, Shows-row_below, apart_kept, changed_over}
use Rattle.jsonc_edit.specs.remove.Laws.{EntryTaken}
use Rattle.jsonc_edit.specs.remove.Leaving.{comma_gone, first_gone, last_gone}
use Rattle.jsonc_edit.specs.remove.Removed.{comma_in, space_needed_at_comma, space_needed_at_stretch, is_next, is_hollow, hollow_from, hollow_to, IsClosedUp, IsTakenFrom, LosesChild, TakesElement}
use Rattle.jsonc_edit.proofs.lemmas.remove.Containers.{held_at, Brackets, brackets}
use Rattle.jsonc_edit.proofs.lemmas.remove.RemovedStretches.{is_end, Edges, Going, with_behind, with_before, with_none, going}
use Rattle.jsonc_edit.proofs.lemmas.remove.Outcomes.{Outcome, outcome}
use Rattle.jsonc_edit.specs.SeamRemovals.{EntryRemovedWithSeams, RemovedWithSeams}
use Rattle.jsonc_edit.specs.SeamPlaces.{DocumentHolds}
use Rattle.jsonc_edit.specs.Seams.{StandsBetween}
use Rattle.jsonc_edit.proofs.PathsKept.{at_still}
use Rattle.jsonc_edit.proofs.LeavesAroundNodes.{between_above}
use Rattle.jsonc_edit.proofs.PathPlaces.{AtBetween, at_between, holds_between}
use Rattle.jsonc_edit.proofs.lemmas.remove.Places.{before_in, parent_in}
use Rattle.jsonc_edit.proofs.lemmas.remove.PrintedStretches.{elements_print}
use Rattle.jsonc_edit.proofs.lemmas.remove.SpacedRow.{DueWith, IsSettled, is_settled}
use Rattle.jsonc_edit.proofs.lemmas.remove.Spaces.{AreSame, going_same, nearest_same, no_holder, or_none, front_same}
use Rattle.jsonc_edit.proofs.lemmas.remove.NoSpace.{opens_end, closes_end}
use Rattle.jsonc_edit.proofs.lemmas.commas.Holders.{Held}

-- where what leaves stands in the row
record Stands (ns : List Node) (c : ℕ) (x : ℕ) : Type 0 where
  front : List ℕ
  back : List ℕ
  row : children_at ns c ≡ front ++ x ∷ back

abbrev StandsIf : List Node → ℕ → Option ℕ → Type 0
StandsIf ns c None = Unit {0}
StandsIf ns c (Some k) = Stands ns c k

from_edges : (ns : List Node) (c from to : ℕ) (front stretch back : List ℕ) → children_at ns c ≡ front ++ (stretch ++ back) → Edges stretch from to → Stands ns c from × Stands ns c to
from_edges ns c from to front stretch back row e = (
  record { front = front; back = e.tail ++ back; row = row ∙ ap (λ (l : List ℕ). front ++ (l ++ back)) e.first_is },
  record {
    front = front ++ e.init;
    back = back;
    row = row ∙ ap (λ (l : List ℕ). front ++ (l ++ back)) e.last_is ∙ ap (λ (l : List ℕ). front ++ l) (append_assoc e.init (to ∷ []) back) ∙ sym (append_assoc front e.init (to ∷ back));
  },
)

stand : (ns : List Node) (c n open_with last from to : ℕ) (o : Option ℕ) → Going ns c n open_with last from to o → Stands ns c from × Stands ns c to × StandsIf ns c o
stand ns c n open_with last from to _ (with_behind away near between line rest k row e b a m l) =
    let two = from_edges ns c from to (open_with ∷ away) (near ++ n ∷ (between ++ k ∷ line)) (rest ++ last ∷ []) row e in (two.0, two.1, tt)
stand ns c n open_with last from to _ (with_before away mid near line rest {k = k} row e b a m t l f) =
    let two = from_edges ns c from to ((open_with ∷ away) ++ k ∷ mid) (near ++ n ∷ line) (rest ++ last ∷ []) row e in
    (two.0, two.1, record { front = open_with ∷ away; back = mid ++ ((near ++ n ∷ line) ++ (rest ++ last ∷ [])); row = row ∙ append_assoc (open_with ∷ away) (k ∷ mid) ((near ++ n ∷ line) ++ (rest ++ last ∷ [])) })
stand ns c n open_with last from to _ (with_none away near line rest row e b a m l f) = let two = from_edges ns c from to (open_with ∷ away) (near ++ n ∷ line) (rest ++ last ∷ []) row e in (two.0, two.1, tt)

-- nodes that are what they were but for one container's children
record Unmoved (old new : List Node) (c : ℕ) : Type 0 where
  len : length new ≡ length old
  content : (n : ℕ) → content_at new n ≡ content_at old n
  children : (n : ℕ) → n ≢ c → children_at new n ≡ children_at old n

unmoved_by : (old new : List Node) (c i j : ℕ) → Splices old new c i j [] → Unmoved old new c
unmoved_by old new c i j s = record { len = s.len; content = s.content; children = λ n ne. (s.others n ne) }

unmoved_same : (old new : List Node) (c : ℕ) → new ≡ old → Unmoved old new c
unmoved_same old new c e = subst (λ ns. Unmoved old ns c) (sym e) (record { len = refl; content = λ n. refl; children = λ n ne. refl })

unmoved_next : (old mid new : List Node) (c : ℕ) → Unmoved old mid c → Unmoved mid new c → Unmoved old new c
unmoved_next old mid new c r s = record { len = s.len ∙ r.len; content = λ n. s.content n ∙ r.content n; children = λ n ne. s.children n ne ∙ r.children n ne }

unmoved_child : (old new : List Node) (c : ℕ) (o : Option ℕ) → LosesChild old new c o → Unmoved old new c
unmoved_child old new c None e = unmoved_same old new c e
unmoved_child old new c (Some k) s = unmoved_by old new c (place_at old k) (place_at old k + 1) s

unmoved_closed : (old new : List Node) (c : ℕ) → IsClosedUp old new c → Unmoved old new c
unmoved_closed old new c e =
    elim (cases_Bool (is_hollow old c)) [
      | inl hollow ↦ unmoved_by old new c (hollow_from old c) (hollow_to old c) (e.0 hollow)
      | inr other ↦ unmoved_same old new c (e.1 (ap not other))
    ]

unmoved : {old new : List Node} {n c : ℕ} (f : IsTakenFrom old new n c) → Unmoved f.spaced new c
unmoved {old} {new} {n} {c} f =
    unmoved_next f.spaced f.parted new c (unmoved_by f.spaced f.parted c (place_at f.spaced (first_gone old n)) (place_at f.spaced (last_gone old n) + 1) f.stretch)
    (unmoved_next f.parted f.joined new c (unmoved_child f.parted f.joined c (comma_in old c n) f.comma) (unmoved_closed f.joined new c f.closed))

no_property : (content : Content) → IsTrue (is_array_or_object content) → is_property content ≡ false
no_property array h = refl
no_property object h = refl
no_property content h = cc

-- the spaces that are due stand before children of c
module _ (ns : List Node) (tree : IsTree ns) (c n : ℕ) (said : parent_at ns n ≡ Some c) (over : IsOver ns 0 c) (holds : IsTrue (is_array_or_object (content_at ns c))) where
  due_kid : (q : Bool) (b x : ℕ) → parent_at ns b ≡ Some c → seen_behind ns b ≡ Some x → parent_at ns x ≡ Some c
  due_kid q b x told e =
      let holder : behind_holder ns b ≡ None = ap (option_and_then (λ p. behind_property ns (content_at ns p) p)) told ∙ no_holder ns tree c holds (content_at ns c) holds in
      (found_behind ns tree b c told x (sym (ap (or_else (nearest ns (siblings_after ns b))) holder ∙ or_none ns tree c holds (nearest ns (siblings_after ns b))) ∙ e)).0

  one_kid : (q : Bool) (b : ℕ) (o : Option ℕ) → parent_at ns b ≡ Some c → seen_behind ns b ≡ o → All (λ x. parent_at ns x ≡ Some c) (listed (cond q o None))
  one_kid false b o told e = All-nil (λ x. parent_at ns x ≡ Some c)
  one_kid true b None told e = All-nil (λ x. parent_at ns x ≡ Some c)
  one_kid true b (Some x) told e = All-cons (λ y. parent_at ns y ≡ Some c) x [] (due_kid true b x told e) (All-nil (λ y. parent_at ns y ≡ Some c))

  retarget : (b x : ℕ) → Placed ns b x → parent_at ns x ≡ Some c → Placed ns n x
  retarget b x p at = record { container = c; parent = at; over = p.over; element = p.element; place = p.place; apart = not_over_parent ns tree n c said }

  due_placed : (a b : ℕ) → parent_at ns b ≡ Some c → All (Placed ns n) (listed (space_needed_between ns a b))
  due_placed a b told =
      let kids : All (λ x. parent_at ns x ≡ Some c) (listed (space_needed_between ns a b)) = one_kid (prints_within ns a b && (ends_bare ns (seen_before ns a) && begins_bare ns (seen_behind ns b))) b (seen_behind ns b) told refl in
      let placed : All (Placed ns b) (listed (space_needed_between ns a b)) = between_placed ns tree b c told (IsOver.above told over) a in
      λ k d l. retarget b _ (placed k d l) (kids k d l)

  abbrev pub dues : ℕ → ℕ → Option ℕ → Bool → List ℕ
  dues from to None next = listed (space_needed_between ns from to)
  dues from to (Some k) next = listed (if next then None else space_needed_between ns k k) ++ listed (if next then space_needed_between ns k to else space_needed_between ns from to)

  all_placed : (from to : ℕ) (o : Option ℕ) (next : Bool) → parent_at ns to ≡ Some c → StandsIf ns c o → All (Placed ns n) (dues from to o next)
  all_placed from to None next told k = due_placed from to told
  all_placed from to (Some k) true told s = due_placed k to told
  all_placed from to (Some k) false told s =
      All-append (Placed ns n) (listed (space_needed_between ns k k)) (listed (space_needed_between ns from to)) (due_placed k k (parent_in ns tree c s.front s.back k s.row)) (due_placed from to told)

  kids_due : (a b : ℕ) → parent_at ns b ≡ Some c → All (λ x. parent_at ns x ≡ Some c) (listed (space_needed_between ns a b))
  kids_due a b told = one_kid (prints_within ns a b && (ends_bare ns (seen_before ns a) && begins_bare ns (seen_behind ns b))) b (seen_behind ns b) told refl

  all_kids_due : (from to : ℕ) (o : Option ℕ) (next : Bool) → parent_at ns to ≡ Some c → StandsIf ns c o → All (λ x. parent_at ns x ≡ Some c) (dues from to o next)
  all_kids_due from to None next told k = kids_due from to told
  all_kids_due from to (Some k) true told s = kids_due k to told
  all_kids_due from to (Some k) false told s =
      All-append (λ x. parent_at ns x ≡ Some c) (listed (space_needed_between ns k k)) (listed (space_needed_between ns from to)) (kids_due k k (parent_in ns tree c s.front s.back k s.row)) (kids_due from to told)

-- spaces before children of c come into the row of c alone
rows_spaced : (c : ℕ) (xs : List ℕ) (old new : List Node) → IsTree old → AreSpaced old xs new → All (λ x. parent_at old x ≡ Some c) xs → (k : ℕ) → k ≢ c → children_at new k ≡ children_at old k
rows_spaced c [] old new tree e h k ne = ap (λ ns. children_at ns k) e
rows_spaced c (x ∷ xs) old new tree (now, leaf, s, rest) h k ne =
    let said : parent_at old x ≡ Some c = All-head (λ y. parent_at old y ≡ Some c) x xs h in
    let others : All (λ y. parent_at now y ≡ Some c) xs = All-weaker (λ y. parent_at old y ≡ Some c) (λ y. parent_at now y ≡ Some c) (λ y told. parent_stays old now x leaf tree s y c told) xs (All-tail (λ y. parent_at old y ≡ Some c) x xs h) in
    let is : s.container ≡ c = Some_same s.container c (sym s.parent ∙ said) in
    rows_spaced c xs now new s.tree rest others k ne ∙ children_kept old now x leaf tree s k (λ e. ne (e ∙ is))

next_of : List Node → ℕ → Option ℕ → Bool
next_of ns from None = false
next_of ns from (Some k) = is_next (seen_before ns from) (Some k)

module _ (o : Options) (old new : List Node) (path : List ℕ) (c i n : ℕ) (tree : IsTree old) (after : IsTree new) (sound : SoundTree o (ordered_tree old 0)) (at : IsAt old path c) (holds : IsTrue (is_array_or_object (content_at old c)))
    (element : IsElementOf old c i n) (takes : TakesElement old new n) where
  said : parent_at old n ≡ Some c
  said = element_parent old tree c i n element

  f : IsTakenFrom old new n c
  f = (takes c said).1

  n_there : n < length old
  n_there = (parent_there old tree n c said).0

  c_there : c < length old
  c_there = (parent_there old tree n c said).1

  abbrev ready : List Node
  ready = f.ready

  abbrev spaced : List Node
  spaced = f.spaced

  kind_of : IsTrue (is_element_at old n)
  kind_of = (stands_at (is_element_at old) (children_at old c) i n element).3

  was_held : Held o (content_at old c) (row_below old c)
  was_held = held_at o old tree sound path c at holds

  b : Brackets o old c was_held.kind was_held.row
  b = brackets o old tree c c_there was_held

  from : ℕ
  from = first_gone old n

  to : ℕ
  to = last_gone old n

  going_old : Going old c n b.open_with b.last from to (comma_gone old n)
  unfolding from to
  going_old = going old tree c n b.open_with b.last b.inner b.children said kind_of (ap is_end b.opens ∙ opens_end was_held.kind) (ap is_end b.closes ∙ closes_end was_held.kind)

  stands : Stands old c from × Stands old c to × StandsIf old c (comma_gone old n)
  stands = stand old c n b.open_with b.last from to (comma_gone old n) going_old

  all_same : AreSame old ready (children_at old c)
  all_same = All-from_get_or (λ m. content_at ready m ≡ content_at old m) (children_at old c) 0 (λ k l. f.prepared.keeps.content (slice_index (children_at old c) k) (tree.in_tree c k l))

  row_ready : children_at ready c ≡ children_at old c
  row_ready = f.prepared.keeps.children c c_there

  going_ready : Going ready c n b.open_with b.last from to (comma_gone old n)
  going_ready = going_same old ready c n b.open_with b.last from to (comma_gone old n) row_ready all_same going_old

  holds_ready : IsTrue (is_array_or_object (content_at ready c))
  holds_ready = subst (λ w. IsTrue (is_array_or_object w)) (sym (f.prepared.keeps.content c c_there)) holds

  comma_is_gone : comma_in old c n ≡ comma_gone old n
  comma_is_gone = ap (λ b. if b then comma_gone old n else None) holds

  there_of : {x : ℕ} → Stands old c x → x < length old
  there_of {x} s = (parent_there old tree x c (parent_in old tree c s.front s.back x s.row)).0

  same_due : (x y : ℕ) → x < length old → y < length old → space_needed_between old x y ≡ space_needed_between ready x y
  same_due x y p q = sym (due_between_same old ready tree f.prepared.keeps x y p q)

  same_seen : seen_before old from ≡ seen_before ready from
  same_seen =
      let s = stands.0 in
      ap (nearest old) (before_in old tree c s.front s.back from s.row) ∙ sym (nearest_same old ready (reverse s.front) (All-reverse (λ m. content_at ready m ≡ content_at old m) s.front (front_same old ready s.front (from ∷ s.back) (subst (AreSame old ready) s.row all_same))))
      ∙ sym (ap (nearest ready) (before_in ready f.prepared.tree c s.front s.back from (row_ready ∙ s.row)))

  due_with : (g : Option ℕ) → StandsIf old c g → AreSpaced ready (listed (space_needed_at_comma old from g) ++ listed (space_needed_at_stretch old from to g)) spaced → DueWith ready from to g (next_of old from g) spaced
  unfolding next_of
  due_with None s put = subst (λ w. AreSpaced ready (listed w) spaced) (same_due from to (there_of stands.0) (there_of stands.1)) put
  due_with (Some k) s put = (
    ap (λ w. is_next w (Some k)) same_seen,
    subst (λ w. AreSpaced ready (listed (if is_next (seen_before old from) (Some k) then None else space_needed_between ready k k) ++ listed (if is_next (seen_before old from) (Some k) then space_needed_between ready k to else w)) spaced) (same_due from to (there_of stands.0) (there_of stands.1))
        (subst (λ w. AreSpaced ready (listed (if is_next (seen_before old from) (Some k) then None else space_needed_between ready k k) ++ listed (if is_next (seen_before old from) (Some k) then w else space_needed_between old from to)) spaced) (same_due k to (there_of s) (there_of stands.1))
        (subst (λ w. AreSpaced ready (listed (if is_next (seen_before old from) (Some k) then None else w) ++ listed (if is_next (seen_before old from) (Some k) then space_needed_between old k to else space_needed_between old from to)) spaced) (same_due k k (there_of s) (there_of s)) put)),
  )

  spaces_are : AreSpaced ready (listed (space_needed_at_comma old from (comma_gone old n)) ++ listed (space_needed_at_stretch old from to (comma_gone old n))) spaced
  unfolding from to
  spaces_are =
      subst (λ g. AreSpaced ready (listed (space_needed_at_comma old (first_gone old n) g) ++ listed (space_needed_at_stretch old (first_gone old n) (last_gone old n) g)) spaced) comma_is_gone
      (subst (λ b. AreSpaced ready (listed (space_needed_at_comma old (first_gone old n) (comma_in old c n)) ++ listed (if b then None else space_needed_at_stretch old (first_gone old n) (last_gone old n) (comma_in old c n))) spaced) (no_property (content_at old c) holds) f.spaces)

  due : DueWith ready from to (comma_gone old n) (next_of old from (comma_gone old n)) spaced
  due = due_with (comma_gone old n) stands.2 spaces_are

  -- the element prints something
  each_prints : All (λ x. IsTrue (is_element (content_at old x)) → prints_at old x ≡ true) (children_at old c)
  each_prints =
      subst (λ (l : List ℕ). All (λ x. IsTrue (is_element (content_at old x)) → prints_at old x ≡ true) l) (sym b.children)
      (All-cons (λ x. IsTrue (is_element (content_at old x)) → prints_at old x ≡ true) b.open_with (b.inner ++ b.last ∷ [])
      (λ h. let wrong : false ≡ true = sym (ap is_element b.opens) ∙ h in cc) (elements_print o old b.shown was_held.alone))

  shown_ready : prints_at ready n ≡ true
  shown_ready =
      ap prints (f.prepared.keeps.content n n_there)
      ∙ subst (λ x. IsTrue (is_element (content_at old x)) → prints_at old x ≡ true) (tree.found n c said) (each_prints (place_at old n) 0 (tree.within n c said)) kind_of

  settled : IsSettled ready spaced c n b.open_with b.last from to (comma_gone old n)
  settled =
      is_settled ready f.prepared.tree c n b.open_with b.last from to holds_ready shown_ready spaced (next_of old from (comma_gone old n)) (comma_gone old n) going_ready due

  said_ready : parent_at ready n ≡ Some c
  said_ready = f.prepared.keeps.parent n n_there ∙ said

  at_ready : IsAt ready path c
  at_ready = at_kept old ready tree f.prepared.keeps path c at

  put_of : (g : Option ℕ) (next : Bool) → DueWith ready from to g next spaced → AreSpaced ready (dues ready f.prepared.tree c n said_ready (over_at ready f.prepared.tree path c at_ready) holds_ready from to g next) spaced
  put_of None next h = h
  put_of (Some k) next h = h.1

  kept_stands : (g : Option ℕ) → StandsIf old c g → StandsIf ready c g
  kept_stands None s = tt
  kept_stands (Some k) s = record { front = s.front; back = s.back; row = row_ready ∙ s.row }

  s : Spaced ready spaced n
  s =
      let to_ready : parent_at ready to ≡ Some c = parent_in ready f.prepared.tree c stands.1.front stands.1.back to (row_ready ∙ stands.1.row) in
      let over : IsOver ready 0 c = over_at ready f.prepared.tree path c at_ready in
      all_spaced n (dues ready f.prepared.tree c n said_ready over holds_ready from to (comma_gone old n) (next_of old from (comma_gone old n))) ready spaced f.prepared.tree
      (all_placed ready f.prepared.tree c n said_ready over holds_ready from to (comma_gone old n) (next_of old from (comma_gone old n)) to_ready (kept_stands (comma_gone old n) stands.2))
      (put_of (comma_gone old n) (next_of old from (comma_gone old n)) due)

  same_tree : ordered_tree ready 0 ≡ ordered_tree old 0
  same_tree = tree_stays old ready tree f.prepared.keeps f.prepared.tree

  spaces : SpacesPut (ordered_tree old 0) (ordered_tree spaced 0)
  spaces = subst (λ t. SpacesPut t (ordered_tree spaced 0)) same_tree s.put

  content_spaced : (k : ℕ) → k < length old → content_at spaced k ≡ content_at old k
  content_spaced k l = s.content k ∙ f.prepared.keeps.content k l

  holds_spaced : IsTrue (is_array_or_object (content_at spaced c))
  holds_spaced = subst (λ w. IsTrue (is_array_or_object w)) (sym (content_spaced c c_there)) holds

  at_spaced : IsAt spaced path c
  at_spaced = s.at path c at_ready

  now_held : Held o (content_at spaced c) (row_below spaced c)
  now_held = held_at o spaced s.tree (spaces_sound o spaces sound) path c at_spaced holds_spaced

  whole : Whole o (row_below spaced c)
  whole = subst (Whole o) (sym now_held.under) (more_whole (whole_leaf refl) (row_whole o now_held.alone))

  element_spaced : IsElementOf spaced c i n
  element_spaced =
      ap (λ l. slice_get l i)
      (elements_spaced (dues ready f.prepared.tree c n said_ready (over_at ready f.prepared.tree path c at_ready) holds_ready from to (comma_gone old n) (next_of old from (comma_gone old n))) ready spaced f.prepared.tree (put_of (comma_gone old n) (next_of old from (comma_gone old n)) due) c
      ∙ ap (filter (is_element_at ready)) row_ready ∙ filter_same (is_element_at ready) (is_element_at old) (children_at old c) (λ k h. ap is_element (f.prepared.keeps.content (slice_index (children_at old c) k) (tree.in_tree c k h))))
      ∙ element

  longer : length old < length spaced + 1
  longer = omega (arith, f.prepared.keeps.len, s.len)

  inner_there : {x : ℕ} → parent_at old x ≡ Some c → x < length old
  inner_there {x} e = (parent_there old tree x c e).0

  out : Outcome spaced new c n i was_held.kind (children_at ready c)
  unfolding from to
  out =
      outcome o spaced new s.tree after c n i b.open_with b.last (first_gone old n) (last_gone old n) was_held.kind (omega (arith, c_there, longer)) (omega (arith, n_there, longer))
      (content_spaced b.open_with (inner_there (parent_in old tree c [] (b.inner ++ b.last ∷ []) b.open_with b.children)) ∙ b.opens)
      (content_spaced b.last (inner_there (parent_in old tree c (b.open_with ∷ b.inner) [] b.last b.children)) ∙ b.closes)
      holds_spaced whole element_spaced f.parted f.joined f.stretch f.closed (comma_gone old n) (children_at ready c) settled.settled (subst (LosesChild f.parted f.joined c) comma_is_gone f.comma)

  moved : Unmoved spaced new c
  moved = unmoved f

  changed : DocumentChanged (top_at spaced c) (top_at new c) path (ordered_tree spaced 0) (ordered_tree new 0)
  changed =
      changed_over spaced new c (record { tree = s.tree; content = λ k ne. moved.content k; children = moved.children }) after moved.len c IsOver.itself
      (λ e. subst IsElement (sym (moved.content c)) e) path at_spaced

  holder_spaced : content_at spaced c ≡ holder was_held.kind
  holder_spaced = content_spaced c c_there ∙ was_held.is

  was_top : top_at spaced c ≡ container_of was_held.kind out.row
  was_top = ap (λ (w : Content). record { content = w; below = row_below spaced c }) holder_spaced ∙ ap (λ (t : OrderedTree). record { content = holder was_held.kind; below = t }) out.was

  now_top : top_at new c ≡ container_of was_held.kind out.now
  now_top = ap (λ (w : Content). record { content = w; below = row_below new c }) (moved.content c ∙ holder_spaced) ∙ ap (λ (t : OrderedTree). record { content = holder was_held.kind; below = t }) out.is

  same_top : top_at spaced n ≡ top_at old n
  same_top = s.top (omega (arith, n_there, f.prepared.keeps.len)) ∙ top_stays old ready tree f.prepared.keeps f.prepared.tree n n_there

  -- spaces have come into the row of c alone
  in_row : ChangedIn ready spaced c
  in_row =
      let to_ready : parent_at ready to ≡ Some c = parent_in ready f.prepared.tree c stands.1.front stands.1.back to (row_ready ∙ stands.1.row) in
      let over : IsOver ready 0 c = over_at ready f.prepared.tree path c at_ready in
      let next : Bool = next_of old from (comma_gone old n) in
      record {
        tree = f.prepared.tree;
        content = λ k ne. s.content k;
        children = rows_spaced c (dues ready f.prepared.tree c n said_ready over holds_ready from to (comma_gone old n) next) ready spaced f.prepared.tree (put_of (comma_gone old n) next due)
            (all_kids_due ready f.prepared.tree c n said_ready over holds_ready from to (comma_gone old n) next to_ready (kept_stands (comma_gone old n) stands.2));
      }

  then_moved : ChangedIn spaced new c
  then_moved = record { tree = s.tree; content = λ k ne. moved.content k; children = moved.children }

  -- the row without them
  ready_below : row_below ready c ≡ token_then (opening was_held.kind) out.ready_row
  ready_below =
      let kids : List ℕ = children_at ready c in
      let there : c < length ready = omega (arith, c_there, f.prepared.keeps.len) in
      let shown : Shows spaced kids (row_below ready c) = apart_kept ready spaced c in_row kids (row_below ready c) (λ k h. not_over_parent ready f.prepared.tree (slice_index kids k) c (f.prepared.tree.named c k h)) (Shows-row_below ready f.prepared.tree c there) in
      Shows-unique spaced kids (row_below ready c) (token_then (opening was_held.kind) out.ready_row) shown out.shows_ready

  ready_top : top_at ready c ≡ container_of was_held.kind out.ready_row
  ready_top = ap (λ (w : Content). record { content = w; below = row_below ready c }) (f.prepared.keeps.content c c_there ∙ was_held.is) ∙ ap (λ (t : OrderedTree). record { content = holder was_held.kind; below = t }) ready_below

  place : AtBetween ready f.prepared.tree path c
  place = at_between ready f.prepared.tree path c at_ready

  at_new : IsAt new path c
  at_new = at_still spaced new c s.tree (λ k there. moved.content k) (λ k there ne. moved.children k ne) path at_spaced

  stands_new : StandsBetween new c place.first place.last
  stands_new = between_above spaced new c then_moved after c place.first place.last (between_above ready spaced c in_row s.tree c place.first place.last place.stands IsOver.itself) IsOver.itself

  entry_with_seams : EntryRemovedWithSeams path i (top_at old n) (ordered_tree old 0) (ordered_tree new 0)
  entry_with_seams = record {
    kind = was_held.kind;
    row = out.ready_row;
    left = out.left;
    new = out.now;
    front = place.first;
    back = place.last;
    element = kind_of;
    held = subst (λ (t : OrderedTree). DocumentHolds (container_of was_held.kind out.ready_row) path t place.first place.last) same_tree (subst (λ (w : Top). DocumentHolds w path (ordered_tree ready 0) place.first place.last) ready_top place.holds);
    holds = subst (λ (w : Top). DocumentHolds w path (ordered_tree new 0) place.first place.last) now_top (holds_between new after path c place.first place.last at_new stands_new);
    leaving = subst (λ (w : Top). RemovedWithSeams w i out.ready_row out.left) same_top out.seams;
    closes = out.closes;
  }

  pub entry_taken : EntryTaken path i (top_at old n) (ordered_tree old 0) (ordered_tree new 0)
  entry_taken = record {
    spaced = ordered_tree spaced 0;
    kind = was_held.kind;
    row = out.row;
    left = out.left;
    new = out.now;
    element = kind_of;
    spaces = spaces;
    changed = subst (λ (w : Top). DocumentChanged w (container_of was_held.kind out.now) path (ordered_tree spaced 0) (ordered_tree new 0)) was_top (subst (λ (w : Top). DocumentChanged (top_at spaced c) w path (ordered_tree spaced 0) (ordered_tree new 0)) now_top changed);
    leaves = subst (λ (w : Top). ElementRemoved w i out.row out.left) same_top out.leaves;
    closes = out.closes;
    seams = entry_with_seams;
  }

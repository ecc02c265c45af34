-- A child of a tree is replaced by a node that was built apart.
use Rattle.std.proofs.Common.{◌≡◌, ◌≢◌, ℕ, ◌+◌, ◌<◌, ◌≤◌, ◌||◌, true, false, cond, List, [], ◌∷◌, ◌++◌, length, get_or, slice_range, Option, Some, None, Result, Ok, Err, OnErr, inl, inr, if◌then◌else◌, refl, sym, ap, subst, ◌∙◌, arith, eq-eqb}
use Rattle.std.proofs.lemmas.Bool.{cases_Bool, ne_eqb}
use Rattle.std.proofs.lemmas.List.Edits.{get_or-between, length-between}
use Rattle.std.proofs.lemmas.List.Elements.{All-weaker}
use Rattle.std.specs.List.{splice, All}
use Rattle.jsonc_text.specs.Plain.{Plain, null, boolean, number, string, array, object}
use Rattle.jsonc_tree.specs.Content.{Content}
use Rattle.jsonc_tree.specs.Tree.{Node, content_at, IsOver, parent_at, children_at, place_at, is_container_at, is_in, IsTree}
use Rattle.jsonc_tree.specs.Changes.{CanJoin, Splices}
use Rattle.jsonc_tree.specs.Building.{Builds, Keeps}
use Rattle.jsonc_tree.proofs.Order.{parent_there}
use Rattle.jsonc_tree.proofs.Splicing.{in_at, out_from}
use Rattle.jsonc_tree.proofs.Appending.{CanJoin-one}
use Rattle.jsonc_sound.specs.TreeChanges.{IsElement, DocumentChanged}
use Rattle.jsonc_layout.specs.from_input.Layout.{Layout}
use Rattle.jsonc_layout.specs.from_input.Laid.{laid}
use Rattle.jsonc_tree.specs.OrderedTree.{OrderedTree, ordered_tree, Top}
use Rattle.jsonc_sound.specs.Spaces.{is_bare}
use Rattle.jsonc_edit.specs.Due.{spaces_needed_around, space_needed_before, space_needed_after, listed}
use Rattle.jsonc_edit.specs.Put.{AreAtHand, AreChildren, AreSpaced, Extends, nodes_of}
use Rattle.jsonc_edit.specs.declared.put.Spaces.{Spaces}
use Rattle.jsonc_edit.specs.Changes.{top_at, ChangesAt, Replaces}
use Rattle.jsonc_edit.specs.Replacing.{TakesPlace, ReplacedBy, ReplacedByRaw}
use Rattle.jsonc_edit.proofs.Elements.{Some_same, none_some}
use Rattle.jsonc_edit.proofs.Splices.{joined_top, replaced_at_path}
use Rattle.jsonc_edit.proofs.SpacesNeededKept.{due_before_same, due_behind_same}
use Rattle.jsonc_edit.proofs.NodesKept.{top_stays, over_no_old, built_top}
use Rattle.jsonc_edit.proofs.SpacedNodes.{IsChild, around_children}
use Rattle.jsonc_edit.proofs.Spacing.{Aside, AnySpaced, any_spaced}

-- a value is laid out as an element
pub laid_element : (l : Layout) (v : Plain) → IsElement (laid l v).content
laid_element l null = refl
laid_element l (boolean b) = refl
laid_element l (number s) = refl
laid_element l (string s) = refl
laid_element l (array vs) = refl
laid_element l (object ms) = refl

module _ (ns : List Node) (tree : IsTree ns) (n c : ℕ) (said : parent_at ns n ≡ Some c) where
  pub place_within : place_at ns n + 1 ≤ length (children_at ns c)
  place_within = omega (arith, tree.within n c said)

  pub parent_holds : is_container_at ns c ≡ true
  parent_holds =
      elim (cases_Bool (is_container_at ns c)) [
        | inl holds ↦ holds
        | inr leaf ↦ absurd (omega (arith, tree.within n c said, ap length (tree.leaf c leaf)))
      ]

  abbrev gone : List ℕ
  gone = slice_range (children_at ns c) (place_at ns n) (place_at ns n + 1)

  gone_one : length gone ≡ 1
  gone_one = omega (arith, length-between (children_at ns c) (place_at ns n) (place_at ns n + 1) place_within)

  gone_is : get_or gone 0 0 ≡ n
  gone_is =
      get_or-between (children_at ns c) (place_at ns n) (place_at ns n + 1) 0 0 (omega arith)
      ∙ ap (λ k. get_or (children_at ns c) k 0) (let e : place_at ns n + 0 ≡ place_at ns n = omega arith in e)
      ∙ tree.found n c said

  in_gone : is_in n gone ≡ true
  in_gone = subst (λ k. is_in k gone ≡ true) gone_is (in_at gone 0 (omega (arith, gone_one)))

  out_of_gone : (k : ℕ) → k ≢ n → is_in k gone ≡ false
  out_of_gone k ne = out_from k gone (λ m h e.
      let zeroth : m ≡ 0 = omega (arith, h, gone_one) in
      ne (sym e ∙ ap (λ z. get_or gone z 0) zeroth ∙ gone_is))

  module _ (new : List Node) (m : ℕ) (s : Splices ns new c (place_at ns n) (place_at ns n + 1) (m ∷ [])) where
    pub put_parent : parent_at new m ≡ Some c
    put_parent = s.parents m ∙ ap (λ b. cond (b || false) (Some c) (cond (is_in m gone) None (parent_at ns m))) (eq-eqb m m refl)

    pub gone_parent : n ≢ m → parent_at new n ≡ None
    gone_parent ne =
        s.parents n ∙ ap (λ b. cond (b || false) (Some c) (cond (is_in n gone) None (parent_at ns n))) (ne_eqb n m ne)
        ∙ ap (λ b. cond b None (parent_at ns n)) in_gone

    pub other_parent : (k : ℕ) → k ≢ m → k ≢ n → parent_at new k ≡ parent_at ns k
    other_parent k ne apart =
        s.parents k ∙ ap (λ b. cond (b || false) (Some c) (cond (is_in k gone) None (parent_at ns k))) (ne_eqb k m ne)
        ∙ ap (λ b. cond b None (parent_at ns k)) (out_of_gone k apart)

-- n is a child of c, and m is detached, and not over c
module _ (b d : List Node) (tree : IsTree b) (n c m : ℕ) (said : parent_at b n ≡ Some c) (there : m < length b) (later : 0 < m) (alone : parent_at b m ≡ None) (apart : IsOver b m c → ⊥) where
  pub may_join : CanJoin b c (place_at b n) (place_at b n + 1) (m ∷ [])
  may_join = CanJoin-one b m c (place_at b n) (place_at b n + 1) there (λ e. omega (arith, e, later)) alone apart

  no_child : n ≢ m
  no_child e = none_some (sym alone ∙ ap (parent_at b) (sym e) ∙ said)

  module _ (after : IsTree d) (element : IsElement (content_at b m)) (s : Splices b d c (place_at b n) (place_at b n + 1) (m ∷ [])) where
    pub replaces : Replaces b d n m
    replaces = record { container = c; tree = tree; after = after; parent = said; element = element; join = may_join; spliced = s }

    pub takes_place : TakesPlace b d n m (top_at b m)
    takes_place = record { replaces = replaces; alone = alone; is = refl }

-- what stands where, once m has taken the place of n
pub record InPlace (old new : List Node) (n m : ℕ) (now : Top) : Type 0 where
  pub changed : ChangesAt old new n now
  pub put : top_at new m ≡ now
  pub contents : (k : ℕ) → content_at new k ≡ content_at old k
  pub children : (k : ℕ) → parent_at old n ≢ Some k → children_at new k ≡ children_at old k
  pub row : (k : ℕ) → parent_at old n ≡ Some k → children_at new k ≡ splice (children_at old k) (place_at old n) (place_at old n + 1) (m ∷ [])

pub in_place : (old new : List Node) (n m : ℕ) (now : Top) → TakesPlace old new n m now → InPlace old new n m now
in_place old new n m now t =
    let r = t.replaces in
    record {
      changed = λ path at. subst (λ (w : Top). DocumentChanged (top_at old n) w path (ordered_tree old 0) (ordered_tree new 0)) t.is (replaced_at_path old new n m r path at);
      put = joined_top old new n m r ∙ t.is;
      contents = λ k. r.spliced.content k;
      children = λ k ne. (r.spliced.others k (λ e. ne (r.parent ∙ ap Some (sym e))));
      row = λ k e.
          let same : k ≡ r.container = Some_same k r.container (sym e ∙ r.parent) in
          ap (children_at new) same ∙ r.spliced.children ∙ ap (λ z. splice (children_at old z) (place_at old n) (place_at old n + 1) (m ∷ [])) (sym same);
    }

-- Of the nodes `old`, n is a child of c; m was built apart among the nodes `made`, and spaces were made; then these came in.
module _ (old made ready spaced : List Node) (tree : IsTree old) (n c m : ℕ) (now : Content) (below : OrderedTree) (said : parent_at old n ≡ Some c) (built : Builds old made m now below) (element : IsElement now)
    (prepared : Extends made ready) where
  low : (n < length old) × (c < length old)
  low = parent_there old tree n c said

  kept : Keeps (length old) old ready
  kept = record {
    len = omega (arith, built.keeps.len, prepared.keeps.len);
    content = λ k h. prepared.keeps.content k (omega (arith, h, built.keeps.len)) ∙ built.keeps.content k h;
    parent = λ k h. prepared.keeps.parent k (omega (arith, h, built.keeps.len)) ∙ built.keeps.parent k h;
    children = λ k h. prepared.keeps.children k (omega (arith, h, built.keeps.len)) ∙ built.keeps.children k h;
  }

  pub ready_from_old : Extends old ready
  ready_from_old = record { keeps = kept; tree = prepared.tree }

  child_ready : parent_at ready n ≡ Some c
  child_ready = kept.parent n low.0 ∙ said

  m_ready : m < length ready
  m_ready = omega (arith, built.in_tree, prepared.keeps.len)

  m_element : IsElement (content_at ready m)
  m_element = subst IsElement (sym (prepared.keeps.content m built.in_tree ∙ built.is)) element

  m_alone : parent_at ready m ≡ None
  m_alone = prepared.keeps.parent m built.in_tree ∙ built.alone

  m_top : top_at ready m ≡ record { content = now; below = below }
  m_top = top_stays made ready built.tree prepared.keeps prepared.tree m built.in_tree ∙ built_top built

  child_aside : (x : ℕ) → IsChild old x → Aside ready m x
  child_aside x (p, told) =
      let there = parent_there old tree x p told in
      (p, kept.parent x there.0 ∙ told, over_no_old old ready tree kept m p built.later there.1)

  all_aside : (xs : List ℕ) → All (IsChild old) xs → All (Aside ready m) xs
  all_aside xs f = All-weaker (IsChild old) (Aside ready m) child_aside xs f

  pub children_ready : (xs : List ℕ) → All (IsChild old) xs → All (IsChild ready) xs
  children_ready xs f = All-weaker (IsChild old) (IsChild ready) (λ x (p, told). (p, kept.parent x (parent_there old tree x p told).0 ∙ told)) xs f

  pub due_same : spaces_needed_around ready n now ≡ spaces_needed_around old n now
  due_same = ap (λ o. cond (is_bare now) (listed o ++ listed (space_needed_after ready n)) []) (due_before_same old ready tree kept n low.0) ∙ ap (λ o. cond (is_bare now) (listed (space_needed_before old n) ++ listed o) []) (due_behind_same old ready tree kept n low.0)

  module _ (spaces : AreSpaced ready (spaces_needed_around old n now) spaced) where
    after : AnySpaced ready spaced m
    after = any_spaced m (spaces_needed_around old n now) ready spaced prepared.tree (all_aside (spaces_needed_around old n now) (around_children old tree n c said now)) spaces

    pub still_child : parent_at spaced n ≡ Some c
    still_child = after.parent n c child_ready

    pub still_there : m < length spaced
    still_there = omega (arith, m_ready, after.len)

    pub not_first_node : 0 < m
    not_first_node = omega (arith, built.later, low.0)

    pub still_alone : parent_at spaced m ≡ None
    still_alone = after.alone m_element m_alone

    pub still_apart : IsOver spaced m c → ⊥
    still_apart over = over_no_old old ready tree kept m c built.later low.1 (after.over m n c child_ready over)

    still_element : IsElement (content_at spaced m)
    still_element = subst IsElement (sym (after.content m)) m_element

    pub can_join : CanJoin spaced c (place_at spaced n) (place_at spaced n + 1) (m ∷ [])
    can_join = may_join spaced spaced after.tree n c m still_child still_there not_first_node still_alone still_apart

    pub gives_way : (new : List Node) → IsTree new → Splices spaced new c (place_at spaced n) (place_at spaced n + 1) (m ∷ []) → ReplacedBy old new n m (record { content = now; below = below })
    gives_way new last s = record {
      ready = ready;
      spaced = spaced;
      fresh = built.later;
      prepared = ready_from_old;
      spaces = subst (λ xs. AreSpaced ready xs spaced) (sym due_same) spaces;
      place = subst (TakesPlace spaced new n m) (after.top m_ready ∙ m_top) (takes_place spaced new after.tree n c m still_child still_there not_first_node still_alone still_apart last still_element s);
    }

-- so it is with the node that a value is laid out as, and the spaces that were made for it
module _ (old made ready : List Node) (tree : IsTree old) (n c m : ℕ) (l : Layout) (v : Plain) (said : parent_at old n ≡ Some c) (built : Builds old made m (laid l v).content (laid l v).below) (prepared : Extends made ready)
    (before behind : Option ℕ) (e : before ≡ space_needed_before old n) (f : behind ≡ space_needed_after old n) (spaces : Spaces) (hand : AreAtHand ready (if is_bare (content_at made m) then listed before ++ listed behind else []) spaces) where
  due_nodes : nodes_of spaces ≡ spaces_needed_around old n (laid l v).content
  due_nodes =
      hand.are ∙ ap (λ w. if is_bare w then listed before ++ listed behind else []) built.is ∙ ap (λ o. if is_bare (laid l v).content then listed o ++ listed behind else []) e
      ∙ ap (λ o. if is_bare (laid l v).content then listed (space_needed_before old n) ++ listed o else []) f

  pub value_children : AreChildren ready (nodes_of spaces)
  value_children =
      subst (AreChildren ready) (sym due_nodes)
      (children_ready old made ready ready tree n c m (laid l v).content (laid l v).below said built (laid_element l v) prepared (spaces_needed_around old n (laid l v).content) (around_children old tree n c said (laid l v).content))

  module _ (spaced : List Node) (put : AreSpaced ready (nodes_of spaces) spaced) where
    due_put : AreSpaced ready (spaces_needed_around old n (laid l v).content) spaced
    due_put = subst (λ xs. AreSpaced ready xs spaced) due_nodes put

    pub value_child : parent_at spaced n ≡ Some c
    value_child = still_child old made ready spaced tree n c m (laid l v).content (laid l v).below said built (laid_element l v) prepared due_put

    pub value_join : CanJoin spaced c (place_at spaced n) (place_at spaced n + 1) (m ∷ [])
    value_join = can_join old made ready spaced tree n c m (laid l v).content (laid l v).below said built (laid_element l v) prepared due_put

    pub value_gives_way : (new : List Node) → IsTree new → Splices spaced new c (place_at spaced n) (place_at spaced n + 1) (m ∷ []) → ReplacedBy old new n m (laid l v)
    value_gives_way = gives_way old made ready spaced tree n c m (laid l v).content (laid l v).below said built (laid_element l v) prepared due_put

-- and where no space comes
module _ (old made : List Node) (tree : IsTree old) (n c m : ℕ) (l : Layout) (v : Plain) (said : parent_at old n ≡ Some c) (built : Builds old made m (laid l v).content (laid l v).below) where
  there_raw : (n < length old) × (c < length old)
  there_raw = parent_there old tree n c said

  pub child_raw : parent_at made n ≡ Some c
  child_raw = built.keeps.parent n there_raw.0 ∙ said

  later_raw : 0 < m
  later_raw = omega (arith, built.later, there_raw.0)

  apart_raw : IsOver made m c → ⊥
  apart_raw over = over_no_old old made tree built.keeps m c built.later there_raw.1 over

  pub join_raw : CanJoin made c (place_at made n) (place_at made n + 1) (m ∷ [])
  join_raw = may_join made made built.tree n c m child_raw built.in_tree later_raw built.alone apart_raw

  pub gives_way_raw : (new : List Node) → IsTree new → Splices made new c (place_at made n) (place_at made n + 1) (m ∷ []) → ReplacedByRaw old new n m (laid l v)
  gives_way_raw new after s = record {
    ready = made;
    fresh = built.later;
    prepared = record { keeps = built.keeps; tree = built.tree };
    place = subst (TakesPlace made new n m) (built_top built) (takes_place made new built.tree n c m child_raw built.in_tree later_raw built.alone apart_raw after (subst IsElement (sym built.is) (laid_element l v)) s);
  }

-- what holds anyway holds of an error
pub where_refused : {T E P : Type 0} (r : Result T E) → P → OnErr r P
where_refused (Ok x) p = tt
where_refused (Err e) p = p

-- A space that comes directly before a node: what stays as it was, and what the document is then.
use Rattle.std.proofs.Common.{◌≡◌, ◌≢◌, ℕ, ◌+◌, ◌-◌, ◌<◌, ◌≤◌, ◌||◌, false, cond, List, [], ◌∷◌, ◌++◌, length, get_or, filter, take, drop, slice_index, slice_range, Some, None, inl, inr, refl, sym, ap, subst, ◌∙◌, arith, eq-eqb}
use Rattle.std.proofs.lemmas.Bool.{cases_eq, ne_eqb}
use Rattle.std.proofs.lemmas.List.{take-append-drop, take_more, drop_more}
use Rattle.std.proofs.lemmas.List.Edits.{between_none, get_or-insert_below, get_or-insert_at, get_or-insert_above, length-insert}
use Rattle.std.proofs.lemmas.List.Elements.{filter-append}
use Rattle.jsonc_tree.specs.Content.{Content, root, is_container}
use Rattle.jsonc_tree.specs.Tree.{Node, content_at, parent_at, children_at, place_at, place_among, place_under, is_in, IsTree, IsOver}
use Rattle.jsonc_tree.specs.Changes.{CanJoin}
use Rattle.jsonc_tree.specs.OrderedTree.{OrderedTree, none, more, followed_by, Shows, shows_none, shows_more, grown, ordered_tree, Replaced, here, deeper, later}
use Rattle.jsonc_tree.proofs.Appending.{CanJoin-one, not_over_bare}
use Rattle.jsonc_tree.proofs.SplicedTrees.{Shows-spliced, Replaced-splice}
use Rattle.jsonc_tree.proofs.Order.{over_step, parent_there}
use Rattle.jsonc_tree.proofs.Over.{over_up}
use Rattle.jsonc_tree.proofs.OrderedTrees.{Shows-ordered_tree}
use Rattle.jsonc_tree.proofs.Rows.{Shows-append, Shows-part, followed_by-assoc}
use Rattle.jsonc_layout.specs.nodes.Kinds.{is_element, is_element_at}
use Rattle.jsonc_layout.specs.nodes.Siblings.{elements_at}
use Rattle.jsonc_sound.specs.TreeChanges.{IsElement}
use Rattle.jsonc_sound.specs.InRows as rows
use Rattle.jsonc_sound.specs.InRows.{SpaceCome, before_element, SpacePut}
use Rattle.jsonc_sound.specs.Spaces.{space_then}
use Rattle.jsonc_edit.specs.Put.{StandsBefore}
use Rattle.jsonc_edit.proofs.Lists.{filter_same}
use Rattle.jsonc_edit.proofs.Elements.{none_some}
use Rattle.jsonc_edit.proofs.ValuePlaces.{no_row}
use Rattle.jsonc_edit.proofs.LeafKinds.{no_root}
use Rattle.jsonc_edit.proofs.ChangesUpward.{apart_kept}

-- the document is its root over a row
pub document_is : (ns : List Node) → IsTree ns → more root (grown (length ns) ns 0) none ≡ ordered_tree ns 0
unfolding ordered_tree
document_is ns tree = ap (λ c. more c (grown (length ns) ns 0) none) (sym tree.root_first)

-- what a node's children stand for
pub row_shown : (ns : List Node) (n : ℕ) (t : OrderedTree) → Shows ns (n ∷ []) t → (below : OrderedTree) × Shows ns (children_at ns n) below
row_shown ns n _ (shows_more {below = b} p q) = (b, p)

pub first_of : (ns : List Node) (n : ℕ) (rest : List ℕ) (t : OrderedTree) → Shows ns (n ∷ rest) t
    → (below : OrderedTree) × (after : OrderedTree) × (t ≡ more (content_at ns n) below after) × Shows ns (children_at ns n) below × Shows ns rest after
first_of ns n rest _ (shows_more {below = b} {after = a} p q) = (b, a, refl, p, q)

-- a space that has come into a row has come into that row behind another
pub come_behind : (front : OrderedTree) {x y : OrderedTree} → SpaceCome x y → SpaceCome (followed_by front x) (followed_by front y)
come_behind none k = k
come_behind (more content below after) k = rows.later (come_behind after k)

-- and into a row above it
pub come_above : {was now x y : OrderedTree} → SpaceCome was now → Replaced was now x y → SpaceCome x y
come_above k here = rows.deeper k
come_above k (deeper r) = rows.deeper (come_above k r)
come_above k (later r) = rows.later (come_above k r)

-- and into the document
pub come_in_root : {was now x y : OrderedTree} → SpaceCome was now → Replaced was now (more root x none) (more root y none) → SpacePut (more root x none) (more root y none)
come_in_root k here = rows.in_root k
come_in_root k (deeper r) = rows.in_root (come_above k r)
come_in_root k (later r) = absurd (no_row r)

module _ (old new : List Node) (n space : ℕ) (tree : IsTree old) (r : StandsBefore old new n space) where
  abbrev c : ℕ
  c = r.container

  abbrev row : List ℕ
  row = children_at old c

  abbrev place : ℕ
  place = place_at old n

  pub place_within : place < length row
  place_within = tree.within n c r.parent

  -- the space has no children, and is neither the root nor the container
  pub space_bare : children_at old space ≡ []
  space_bare = tree.leaf space (ap is_container r.was.is)

  pub space_no_root : space ≢ 0
  space_no_root e = no_root (content_at old space) r.was.is (ap (content_at old) e ∙ tree.root_first)

  pub space_no_container : space ≢ c
  space_no_container e = omega (arith, place_within, ap length (sym (ap (children_at old) e) ∙ space_bare))

  pub space_may_join : CanJoin old c place place (space ∷ [])
  space_may_join = CanJoin-one old space c place place r.was.in_tree space_no_root r.was.alone (not_over_bare old tree space c (ap length space_bare) space_no_container)

  -- what each node is stays
  pub contents_kept : (k : ℕ) → content_at new k ≡ content_at old k
  contents_kept = r.put.content

  -- and its parent, but the space's, which is the container now
  nothing_gone : slice_range row place place ≡ []
  nothing_gone = between_none row place

  pub parent_kept : (k : ℕ) → k ≢ space → parent_at new k ≡ parent_at old k
  parent_kept k ne =
      r.put.parents k
      ∙ ap (λ b. cond (b || false) (Some c) (cond (is_in k (slice_range row place place)) None (parent_at old k))) (ne_eqb k space ne)
      ∙ ap (λ l. cond (is_in k l) None (parent_at old k)) nothing_gone

  pub space_parent : parent_at new space ≡ Some c
  space_parent = r.put.parents space ∙ ap (λ b. cond (b || false) (Some c) (cond (is_in space (slice_range row place place)) None (parent_at old space))) (eq-eqb space space refl)

  -- and its children, but the container's, among which the space stands before n
  pub children_kept : (k : ℕ) → k ≢ c → children_at new k ≡ children_at old k
  children_kept k ne = (r.put.others k ne)

  pub container_row : children_at new c ≡ take place row ++ space ∷ drop place row
  container_row = r.put.children

  -- the row below a node that isn't over the container stays
  pub rows_kept : (xs : List ℕ) (t : OrderedTree) → ((k : ℕ) → k < length xs → IsOver old (slice_index xs k) c → ⊥) → Shows old xs t → Shows new xs t
  rows_kept xs t apart shows = apart_kept old new c (record { tree = tree; content = λ m ne. contents_kept m; children = children_kept }) xs t apart shows

  pub row_kept : (k : ℕ) (t : OrderedTree) → (IsOver old k c → ⊥) → Shows old (children_at old k) t → Shows new (children_at new k) t
  row_kept k t apart shows =
      subst (λ (l : List ℕ). Shows new l t) (sym (children_kept k (λ e. apart (subst (λ m. IsOver old m c) (sym e) IsOver.itself))))
      (rows_kept (children_at old k) t (λ m h over. apart (over_up old (slice_index (children_at old k) m) k c (tree.named k m h) over)) shows)

  -- the container is there, and in the document if n is
  pub container_there : c < length old
  container_there = (parent_there old tree n c r.parent).1

  pub container_over : (m : ℕ) → m ≢ n → IsOver old m n → IsOver old m c
  container_over m ne over = over_step old tree m n c over (λ e. ne (sym e)) r.parent

  n_no_root : 0 ≢ n
  n_no_root e = none_some (sym tree.root_alone ∙ ap (parent_at old) e ∙ r.parent)

  -- and which nodes it is below, but of the space
  pub no_parent_space : (k p : ℕ) → parent_at old k ≡ Some p → p ≢ space
  no_parent_space k p said e = omega (arith, tree.within k p said, ap length (ap (children_at old) e ∙ space_bare))

  pub over_kept : (m k : ℕ) → k ≢ space → IsOver old m k → IsOver new m k
  over_kept m _ ne IsOver.itself = IsOver.itself
  over_kept m k ne (IsOver.above {c = p} said over) = IsOver.above (parent_kept k ne ∙ said) (over_kept m p (no_parent_space k p said) over)

  pub over_before : (m k : ℕ) → k ≢ space → IsOver new m k → IsOver old m k
  over_before m _ ne IsOver.itself = IsOver.itself
  over_before m k ne (IsOver.above {c = p} said over) =
      let was : parent_at old k ≡ Some p = sym (parent_kept k ne) ∙ said in
      IsOver.above was (over_before m p (no_parent_space k p was) over)

  -- where the children of the new container are, n and those behind it one place on
  at_space : slice_index (children_at new c) place ≡ space
  at_space = ap (λ l. get_or l place 0) container_row ∙ get_or-insert_at row place space 0 (omega (arith, place_within))

  longer : length (children_at new c) ≡ length row + 1
  longer = ap length container_row ∙ length-insert row place space (omega (arith, place_within))

  pub space_placed : place_at new space ≡ place
  space_placed = ap (place_at new) (sym at_space) ∙ r.tree.placed c place (omega (arith, longer, place_within))

  pub placed_ahead : (k : ℕ) → k < place → place_at new (slice_index row k) ≡ k
  placed_ahead k low =
      ap (place_at new) (sym (ap (λ l. get_or l k 0) container_row ∙ get_or-insert_below row place space 0 k low (omega (arith, place_within))))
      ∙ r.tree.placed c k (omega (arith, longer, place_within, low))

  pub placed_behind : (k : ℕ) → place ≤ k → k < length row → place_at new (slice_index row k) ≡ k + 1
  placed_behind k high inn =
      ap (place_at new) (sym (ap (λ l. get_or l (k + 1) 0) container_row ∙ get_or-insert_above row place space 0 k high (omega (arith, place_within))))
      ∙ r.tree.placed c (k + 1) (omega (arith, longer, inn))

  -- a child of another has its place
  pub placed_elsewhere : (k p : ℕ) → parent_at old k ≡ Some p → p ≢ c → place_at new k ≡ place_at old k
  placed_elsewhere k p said ne =
      let apart : k ≢ space = λ e. none_some (sym r.was.alone ∙ ap (parent_at old) (sym e) ∙ said) in
      ap (place_under new k) (parent_kept k apart ∙ said)
      ∙ ap (λ l. place_among k l) (children_kept p ne)
      ∙ ap (place_under old k) (sym said)

  -- each node has the elements that it had
  pub elements_kept : (k : ℕ) → elements_at new k ≡ elements_at old k
  elements_kept k =
      filter_same (is_element_at new) (is_element_at old) (λ m. ap is_element (contents_kept m)) (children_at new k)
      ∙ elim (cases_eq k c) [
        | inr ne ↦ ap (filter (is_element_at old)) (children_kept k ne)
        | inl e ↦
            ap (λ m. filter (is_element_at old) (children_at new m)) e ∙ ap (filter (is_element_at old)) container_row
            ∙ filter-append (is_element_at old) (take place row) (space ∷ drop place row)
            ∙ ap (λ b. filter (is_element_at old) (take place row) ++ cond b (space ∷ filter (is_element_at old) (drop place row)) (filter (is_element_at old) (drop place row))) (ap is_element r.was.is)
            ∙ sym (filter-append (is_element_at old) (take place row) (drop place row))
            ∙ ap (filter (is_element_at old)) (take-append-drop place row) ∙ ap (elements_at old) (sym e)
      ]

  -- where n is an element behind another child, the space has come before it
  module _ (element : IsElement (content_at old n)) (behind : 0 < place) where
    abbrev rest : List ℕ
    rest = drop (place + 1) row

    abbrev ahead_place : ℕ
    ahead_place = place - 1

    abbrev ahead : ℕ
    ahead = get_or row ahead_place 0

    n_next : ahead_place + 1 ≡ place
    n_next = omega (arith, behind)

    from_n : drop place row ≡ n ∷ rest
    from_n = drop_more row place 0 place_within ∙ ap (λ m. m ∷ rest) (tree.found n c r.parent)

    up_to_n : take place row ≡ take ahead_place row ++ ahead ∷ []
    up_to_n = ap (λ k. take k row) (sym n_next) ∙ take_more row ahead_place 0 (omega (arith, n_next, place_within))

    from_ahead : drop ahead_place row ≡ ahead ∷ n ∷ rest
    from_ahead = drop_more row ahead_place 0 (omega (arith, n_next, place_within)) ∙ ap (λ k. ahead ∷ drop k row) n_next ∙ ap (λ (l : List ℕ). ahead ∷ l) from_n

    in_two : row ≡ take ahead_place row ++ (ahead ∷ n ∷ rest)
    in_two = sym (take-append-drop ahead_place row) ∙ ap (λ (l : List ℕ). take ahead_place row ++ l) from_ahead

    over_container : IsOver old 0 n → IsOver old 0 c
    over_container = container_over 0 n_no_root

    -- the container's row, by its parts
    module _ (front under_ahead under_n after : OrderedTree) (before : Shows old (take ahead_place row) front) (ahead_shows : Shows old (children_at old ahead) under_ahead) (n_shows : Shows old (children_at old n) under_n) (rest_is : Shows old rest after) where
      abbrev n_then : OrderedTree
      n_then = more (content_at old n) under_n after

      abbrev was : OrderedTree
      was = followed_by front (more (content_at old ahead) under_ahead n_then)

      abbrev now : OrderedTree
      now = followed_by front (more (content_at old ahead) under_ahead (space_then n_then))

      row_was : Shows old row was
      row_was =
          subst (λ (l : List ℕ). Shows old l was) (sym in_two)
          (Shows-append old (take ahead_place row) (ahead ∷ n ∷ rest) front (more (content_at old ahead) under_ahead n_then) before (shows_more ahead_shows (shows_more n_shows rest_is)))

      row_ahead : Shows old (take place row) (followed_by front (more (content_at old ahead) under_ahead none))
      row_ahead =
          subst (λ (l : List ℕ). Shows old l (followed_by front (more (content_at old ahead) under_ahead none))) (sym up_to_n)
          (Shows-append old (take ahead_place row) (ahead ∷ []) front (more (content_at old ahead) under_ahead none) before (shows_more ahead_shows shows_none))

      row_space : Shows old (space ∷ []) (space_then none)
      row_space =
          subst (λ (w : Content). Shows old (space ∷ []) (more w none none)) r.was.is
          (shows_more (subst (λ (l : List ℕ). Shows old l none) (sym space_bare) shows_none) shows_none)

      row_back : Shows old (drop place row) n_then
      row_back = subst (λ (l : List ℕ). Shows old l n_then) (sym from_n) (shows_more n_shows rest_is)

      row_is : Shows new (children_at new c) now
      row_is =
          subst (λ (t : OrderedTree). Shows new (children_at new c) t) (followed_by-assoc front (more (content_at old ahead) under_ahead none) (space_then n_then))
          (Shows-spliced old new tree r.tree c place place (space ∷ []) r.put space_may_join (followed_by front (more (content_at old ahead) under_ahead none)) (space_then none) n_then row_ahead row_space row_back)

      replaced : IsOver old 0 n → Replaced was now (ordered_tree old 0) (ordered_tree new 0)
      replaced over = Replaced-splice old new tree r.tree c place place (space ∷ []) r.put was now row_was row_is 0 tree.first (over_container over)

      roots : IsOver old 0 n → Replaced was now (more root (grown (length old) old 0) none) (more root (grown (length new) new 0) none)
      roots over =
          subst (λ (t : OrderedTree). Replaced was now t (more root (grown (length new) new 0) none)) (sym (document_is old tree))
          (subst (λ (t : OrderedTree). Replaced was now (ordered_tree old 0) t) (sym (document_is new r.tree)) (replaced over))

      space_come : SpaceCome was now
      space_come = come_behind front (before_element element)

      document_put : IsOver old 0 n → SpacePut (ordered_tree old 0) (ordered_tree new 0)
      document_put over =
          subst (λ (t : OrderedTree). SpacePut t (ordered_tree new 0)) (document_is old tree)
          (subst (λ (t : OrderedTree). SpacePut (more root (grown (length old) old 0) none) t) (document_is new r.tree) (come_in_root space_come (roots over)))

    pub puts_space : IsOver old 0 n → SpacePut (ordered_tree old 0) (ordered_tree new 0)
    puts_space over =
        let whole = row_shown old c (ordered_tree old c) (Shows-ordered_tree old tree c container_there) in
        let two = Shows-part old (take ahead_place row) (ahead ∷ n ∷ rest) whole.0 (subst (λ (l : List ℕ). Shows old l whole.0) in_two whole.1) in
        let one = first_of old ahead (n ∷ rest) two.1 two.4 in
        let last = first_of old n rest one.1 one.4 in
        document_put two.0 one.0 last.0 last.1 two.3 one.3 last.3 last.4 over

-- From the change of one row up to the document: on the way to the root each row changes in one element.
use Rattle.std.proofs.Common.{◌≡◌, ◌≢◌, ℕ, ◌+◌, ◌<◌, false, List, [], ◌∷◌, ◌++◌, length, slice_index, take, drop, filter, Some, refl, sym, ap, subst, ◌∙◌, arith, add-zero, length-take, length-drop, get_or-take, get_or-drop}
use Rattle.std.proofs.lemmas.List.{take-append-drop, drop_more}
use Rattle.jsonc_text.specs.Options.{Options}
use Rattle.jsonc_tree.specs.Content.{Content, root, array, object, property}
use Rattle.jsonc_tree.specs.Tree.{Node, content_at, parent_at, children_at, place_at, IsTree, IsOver}
use Rattle.jsonc_tree.specs.OrderedTree.{OrderedTree, none, more, followed_by, Shows, shows_more, ordered_tree, Top}
use Rattle.jsonc_tree.proofs.Order.{not_over_parent, parent_there}
use Rattle.jsonc_tree.proofs.Over.{over_up, sibling_not_over}
use Rattle.jsonc_tree.proofs.OrderedTrees.{Shows-ordered_tree, Shows-unique}
use Rattle.jsonc_tree.proofs.Rows.{Shows-append, Shows-part, Shows-kept}
use Rattle.jsonc_layout.specs.nodes.Kinds.{is_element_at}
use Rattle.jsonc_sound.specs.TreeChanges.{IsElement, ElementChanged, this_element, ValueChanged, DocumentChanged, in_root}
use Rattle.jsonc_sound.specs.Shape.{DocumentShaped}
use Rattle.jsonc_sound.specs.Alone.{RootAlone}
use Rattle.jsonc_sound.specs.SoundTrees.{SoundTree}
use Rattle.jsonc_sound.proofs.NodesAlone.{document_alone}
use Rattle.jsonc_edit.specs.Paths.{IsElementOf, StepsTo, LeadsTo, itself, step, IsAt}
use Rattle.jsonc_edit.specs.Changes.{row_below, top_at, ChangesAt}
use Rattle.jsonc_edit.proofs.Elements.{StandsAt, stands_at, changed_behind}
use Rattle.jsonc_edit.proofs.Uniqueness.{element_parent, element_there, leads_over}

below_same : (c d : Content) (x y a b : OrderedTree) → more c x a ≡ more d y b → x ≡ y
below_same c d x y a b e = cc

below_shown : (ns : List Node) (n : ℕ) (t y b : OrderedTree) (d : Content) → Shows ns (n ∷ []) t → t ≡ more d y b → Shows ns (children_at ns n) y
below_shown ns n _ y b d (shows_more {below = x} {after = a} p q) e =
    subst (λ z. Shows ns (children_at ns n) z) (below_same (content_at ns n) d x y a b e) p

-- a node's children stand for the row below it
pub Shows-row_below : (ns : List Node) → IsTree ns → (n : ℕ) → n < length ns → Shows ns (children_at ns n) (row_below ns n)
unfolding ordered_tree
Shows-row_below ns tree n h =
    below_shown ns n (ordered_tree ns n) (row_below ns n) none (content_at ns n) (Shows-ordered_tree ns tree n h) refl

-- the document is its root over a row that the root's children stand for
pub document_is : (ns : List Node) → IsTree ns → (row : OrderedTree) → Shows ns (children_at ns 0) row → more root row none ≡ ordered_tree ns 0
unfolding ordered_tree
document_is ns tree row shows =
    ap (λ t. more root t none) (Shows-unique ns (children_at ns 0) row (row_below ns 0) shows (Shows-row_below ns tree 0 tree.first))
    ∙ ap (λ c. more c (row_below ns 0) none) (sym tree.root_first)

-- in a sound document the root's row is one alone
pub root_row : (o : Options) (ns : List Node) → IsTree ns → SoundTree o (ordered_tree ns 0) → RootAlone o false (row_below ns 0)
root_row o ns tree sound = by (document_alone o (subst (DocumentShaped o) (sym (document_is ns tree (row_below ns 0) (Shows-row_below ns tree 0 tree.first))) sound.shaped))
  where
    by : (row : OrderedTree) × (more root (row_below ns 0) none ≡ more root row none) × RootAlone o false row → RootAlone o false (row_below ns 0)
    by (row, e, g) = let same : row ≡ row_below ns 0 = cc in subst (RootAlone o false) same g

first_shown : (ns : List Node) (n : ℕ) (rest : List ℕ) (t : OrderedTree) → Shows ns (n ∷ rest) t → (after : OrderedTree) × Shows ns rest after
first_shown ns n rest _ (shows_more {after = a} p q) = (a, q)

-- all but one node are what they were over the children that they had; that one may have changed
pub record ChangedIn (old new : List Node) (c : ℕ) : Type 0 where
  pub tree : IsTree old
  pub content : (n : ℕ) → n ≢ c → content_at new n ≡ content_at old n
  pub children : (n : ℕ) → n ≢ c → children_at new n ≡ children_at old n

-- the children of p differ in the element at this place
abbrev pub RowChanged : List Node → List Node → ℕ → ℕ → Top → Top → Type 0
RowChanged old new p i was now =
    (row : OrderedTree) × (next : OrderedTree) × Shows old (children_at old p) row × Shows new (children_at new p) next × ElementChanged was now i row next

module _ (old new : List Node) (c : ℕ) (changed : ChangedIn old new c) where
  -- nodes that aren't over the one that changed stand for the same trees
  pub apart_kept : (xs : List ℕ) (t : OrderedTree) → ((k : ℕ) → k < length xs → IsOver old (slice_index xs k) c → ⊥) → Shows old xs t → Shows new xs t
  apart_kept xs t apart shows =
      let is : (m : ℕ) → (IsOver old m c → ⊥) → m ≢ c = λ m out e. out (subst (λ k. IsOver old k c) (sym e) IsOver.itself) in
      Shows-kept old new (λ m. IsOver old m c → ⊥)
      (λ m k out h over. out (over_up old (slice_index (children_at old m) k) m c (changed.tree.named m k h) over))
      (λ m out. changed.content m (is m out))
      (λ m out. changed.children m (is m out)) xs t apart shows

  -- so they and the rows below them are what they were
  pub top_kept : IsTree new → length new ≡ length old → (n : ℕ) → n < length old → (IsOver old n c → ⊥) → top_at new n ≡ top_at old n
  top_kept after long n there apart =
      let ne : n ≢ c = λ e. apart (subst (λ l. IsOver old n l) e IsOver.itself) in
      let cs : List ℕ = children_at old n in
      let row : Shows new cs (row_below old n) = apart_kept cs (row_below old n) (λ k h over. apart (over_up old (slice_index cs k) n c (changed.tree.named n k h) over)) (Shows-row_below old changed.tree n there) in
      let shown : Shows new (children_at new n) (row_below old n) = subst (λ (l : List ℕ). Shows new l (row_below old n)) (sym (changed.children n ne)) row in
      let same : row_below new n ≡ row_below old n = Shows-unique new (children_at new n) (row_below new n) (row_below old n) (Shows-row_below new after n (omega (arith, there, long))) shown in
      let first : top_at new n ≡ record { content = content_at old n; below = row_below new n } = ap (λ (w : Content). record { content = w; below = row_below new n }) (changed.content n ne) in
      first ∙ ap (λ (t : OrderedTree). record { content = content_at old n; below = t }) same

  -- where no other child of p is over the node that changed, and m stands in the place of q, the rows differ there
  pub row_changed : (p i q m : ℕ) (x y : OrderedTree) (at : StandsAt (is_element_at old) (children_at old p) i q) → p < length old
      → ((e : ℕ) → e < length (children_at old p) → e ≢ at.0 → IsOver old (slice_index (children_at old p) e) c → ⊥)
      → children_at new p ≡ take at.0 (children_at old p) ++ m ∷ drop (at.0 + 1) (children_at old p)
      → IsElement (content_at new m) → Shows old (children_at old q) x → Shows new (children_at new m) y
      → RowChanged old new p i (record { content = content_at old q; below = x }) (record { content = content_at new m; below = y })
  row_changed p i q m x y at there apart kids element before now =
      let cs : List ℕ = children_at old p in
      let k : ℕ = at.0 in
      let h : k < length cs = at.1 in
      let was : Top = record { content = content_at old q; below = x } in
      let is : Top = record { content = content_at new m; below = y } in
      let parts : cs ≡ take k cs ++ q ∷ drop (k + 1) cs = sym (take-append-drop k cs) ∙ ap (λ l. take k cs ++ l) (drop_more cs k 0 h) ∙ ap (λ n. take k cs ++ n ∷ drop (k + 1) cs) at.2 in
      let whole : Shows old cs (row_below old p) = Shows-row_below old changed.tree p there in
      let two = Shows-part old (take k cs) (q ∷ drop (k + 1) cs) (row_below old p) (subst (λ (l : List ℕ). Shows old l (row_below old p)) parts whole) in
      let one = first_shown old q (drop (k + 1) cs) two.1 two.4 in
      let front : Shows new (take k cs) two.0 = apart_kept (take k cs) two.0 (λ e l over.
      let low : e < k = omega (arith, l, length-take k cs) in
      apart e (omega arith) (λ z. omega arith) (subst (λ n. IsOver old n c) (get_or-take k cs e 0 low) over)) two.3 in
      let back : Shows new (drop (k + 1) cs) one.0 = apart_kept (drop (k + 1) cs) one.0 (λ e l over.
      apart (k + 1 + e) (omega (arith, l, length-drop (k + 1) cs)) (λ z. omega arith) (subst (λ n. IsOver old n c) (get_or-drop (k + 1) cs e 0) over)) one.1 in
      let t : OrderedTree = followed_by two.0 (more (content_at old q) x one.0) in
      let u : OrderedTree = followed_by two.0 (more (content_at new m) y one.0) in
      let count : length (filter (is_element_at old) (take k cs)) + 0 ≡ i = add-zero (length (filter (is_element_at old) (take k cs))) ∙ at.4 in
      let here : ElementChanged was is 0 (more (content_at old q) x one.0) (more (content_at new m) y one.0) = this_element {after = one.0} at.3 element in (
        t,
        u,
        subst (λ (l : List ℕ). Shows old l t) (sym parts) (Shows-append old (take k cs) (q ∷ drop (k + 1) cs) two.0 (more (content_at old q) x one.0) two.3 (shows_more {after = one.0} before one.1)),
        subst (λ (l : List ℕ). Shows new l u) (sym kids) (Shows-append new (take k cs) (m ∷ drop (k + 1) cs) two.0 (more (content_at new m) y one.0) front (shows_more {after = one.0} now back)),
        subst (λ j. ElementChanged was is j t u) count (changed_behind old was is (take k cs) two.0 0 (more (content_at old q) x one.0) (more (content_at new m) y one.0) two.3 here),
      )

  -- of a container over the node that changed, the row differs in the element that is over it
  pub row_above : (p i q : ℕ) (x y : OrderedTree) → IsElementOf old p i q → IsOver old q c → IsElement (content_at new q) → Shows old (children_at old q) x → Shows new (children_at new q) y
      → RowChanged old new p i (record { content = content_at old q; below = x }) (record { content = content_at new q; below = y })
  row_above p i q x y element over is before now =
      let cs : List ℕ = children_at old p in
      let at : StandsAt (is_element_at old) cs i q = stands_at (is_element_at old) cs i q element in
      let said : parent_at old q ≡ Some p = element_parent old changed.tree p i q element in
      let place : place_at old q ≡ at.0 = ap (place_at old) (sym at.2) ∙ changed.tree.placed p at.0 at.1 in
      let ne : p ≢ c = λ e. not_over_parent old changed.tree q p said (subst (IsOver old q) (sym e) over) in
      let parts : cs ≡ take at.0 cs ++ q ∷ drop (at.0 + 1) cs = sym (take-append-drop at.0 cs) ∙ ap (λ l. take at.0 cs ++ l) (drop_more cs at.0 0 at.1) ∙ ap (λ n. take at.0 cs ++ n ∷ drop (at.0 + 1) cs) at.2 in
      row_changed p i q q x y at (parent_there old changed.tree q p said).1
      (λ e h apart also. sibling_not_over old changed.tree q p e c said over h (λ z. apart (z ∙ place)) also)
      (changed.children p ne ∙ parts) is before now

  -- the same, where the element is what it was
  row_over : (p i q : ℕ) (what : Content) (x y : OrderedTree) → IsElementOf old p i q → IsOver old q c → content_at old q ≡ what → content_at new q ≡ what → Shows old (children_at old q) x → Shows new (children_at new q) y
      → RowChanged old new p i (record { content = what; below = x }) (record { content = what; below = y })
  row_over p i q what x y element over was is before now =
      let at : StandsAt (is_element_at old) (children_at old p) i q = stands_at (is_element_at old) (children_at old p) i q element in
      let kind : IsElement (content_at new q) = subst IsElement (was ∙ sym is) at.3 in
      let row = row_above p i q x y element over kind before now in
      subst (λ (w : Content). RowChanged old new p i (record { content = w; below = x }) (record { content = what; below = y })) was
      (subst (λ (w : Content). RowChanged old new p i (record { content = content_at old q; below = x }) (record { content = w; below = y })) is row)

  -- The node n stands where `was` was replaced by `now`, and what is above it is over the node that changed.
  module _ (n : ℕ) (was now : Top) (base : (p i : ℕ) → IsElementOf old p i n → RowChanged old new p i was now) (above : (p q : ℕ) → parent_at old q ≡ Some p → IsOver old q n → (IsOver old p c) × (content_at new p ≡ content_at old p)) where
    -- above a value on the way, a row differs in it, which differs at the rest of the path
    abbrev Walked : ℕ → ℕ → List ℕ → Type 0
    Walked p i path = (x : Top) × (y : Top) × RowChanged old new p i x y × ValueChanged was now path x y

    walked_step : (p i v j q : ℕ) (path : List ℕ) → IsElementOf old p i v → StepsTo old v j q → IsOver old q n → ((r k : ℕ) → IsElementOf old r k q → Walked r k path) → Walked p i (j ∷ path)
    walked_step p i v j q path at (StepsTo.in_array a e) over rest =
        let up = above v q (element_parent old changed.tree v j q e) over in
        let inner = rest v j e in
        let row = inner.2 in
        let whole = row_over p i v array row.0 row.1 at up.0 a (up.1 ∙ a) row.2 row.3 in
        (record { content = array; below = row.0 }, record { content = array; below = row.1 }, whole, ValueChanged.in_array row.4 inner.3)
    walked_step p i v j q path at (StepsTo.in_object {r = r} o e h) over rest =
        let near = element_parent old changed.tree r 1 q h.1 in
        let far = element_parent old changed.tree v j r e in
        let held = above r q near over in
        let up = above v r far (over_up old q r n near over) in
        let inner = rest r 1 h.1 in
        let row = inner.2 in
        let outer = row_over v j r property row.0 row.1 e held.0 h.0 (held.1 ∙ h.0) row.2 row.3 in
        let whole = row_over p i v object outer.0 outer.1 at up.0 o (up.1 ∙ o) outer.2 outer.3 in
        (record { content = object; below = outer.0 }, record { content = object; below = outer.1 }, whole, ValueChanged.in_object outer.4 row.4 inner.3)

    walked : (v : ℕ) (path : List ℕ) → LeadsTo old n v path → (p i : ℕ) → IsElementOf old p i v → Walked p i path
    walked _ _ itself p i at = (was, now, base p i at, ValueChanged.itself)
    walked v _ (step {i = j} {q = q} {path = path} s rest) p i at =
        walked_step p i v j q path at s (leads_over old changed.tree n q path rest) (walked q path rest)

    -- so the document has changed at the path
    pub document_changed : (path : List ℕ) → IsTree new → IsAt old path n → DocumentChanged was now path (ordered_tree old 0) (ordered_tree new 0)
    document_changed path after (v, e, leads) =
        let inner = walked v path leads 0 0 e in
        let row = inner.2 in
        let whole : DocumentChanged was now path (more root row.0 none) (more root row.1 none) = in_root row.4 inner.3 in
        subst (λ t. DocumentChanged was now path t (ordered_tree new 0)) (document_is old changed.tree row.0 row.2)
        (subst (λ t. DocumentChanged was now path (more root row.0 none) t) (document_is new after row.1 row.3) whole)

-- what is over a node over another is over that
pub over_through : (ns : List Node) (x y z : ℕ) → IsOver ns x y → IsOver ns y z → IsOver ns x z
over_through ns x y _ first IsOver.itself = first
over_through ns x y z first (IsOver.above {c = p} said rest) = IsOver.above said (over_through ns x y p first rest)

-- each node over the one that changed, if it stays an element, has changed where it stands
pub changed_over : (old new : List Node) (c : ℕ) → ChangedIn old new c → IsTree new → length new ≡ length old → (n : ℕ) → IsOver old n c → (IsElement (content_at old n) → IsElement (content_at new n)) → ChangesAt old new n (top_at new n)
changed_over old new c changed after long n over kind path at =
    document_changed old new c changed n (top_at old n) (top_at new n)
    (λ p i element.
    let standing : StandsAt (is_element_at old) (children_at old p) i n = stands_at (is_element_at old) (children_at old p) i n element in
    let there = element_there old changed.tree p i n element in
    let still : IsElement (content_at new n) = kind standing.3 in
    row_above old new c changed p i n (row_below old n) (row_below new n) element over still (Shows-row_below old changed.tree n there) (Shows-row_below new after n (omega (arith, there, long))))
    (λ p q said above.
    let up = over_up old q p c said (over_through old q n c above over) in
    (up, changed.content p (λ e. not_over_parent old changed.tree q p said (subst (λ m. IsOver old q m) (sym e) (over_through old q n c above over)))))
    path after at

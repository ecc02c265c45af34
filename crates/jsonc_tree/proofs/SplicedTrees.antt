-- A splice of the nodes is a splice of the ordered tree: one row of trees is replaced by another, and nothing changes around it.
use Rattle.std.proofs.Common.{◌≡◌, ◌≢◌, ℕ, ◌+◌, ◌<◌, List, [], ◌∷◌, ◌++◌, length, get_or, take, drop, slice_index, Some, sym, ap, subst, ◌∙◌, arith, length-take, length-drop, get_or-take, get_or-drop}
use Rattle.std.proofs.lemmas.List.{append_assoc, take-append-drop, drop_more}
use Rattle.jsonc_tree.specs.Content.{Content, text_of}
use Rattle.jsonc_tree.specs.Tree.{Node, content_at, children_at, parent_at, place_at, IsTree, IsOver, itself, above}
use Rattle.jsonc_tree.specs.Changes.{Splices, CanJoin}
use Rattle.jsonc_tree.specs.OrderedTree.{OrderedTree, none, more, followed_by, Shows, shows_none, shows_more, printed, ordered_tree, Replaced, here, deeper, later}
use Rattle.jsonc_tree.proofs.Order.{not_over_parent, parent_there}
use Rattle.jsonc_tree.proofs.Over.{over_up, sibling_not_over}
use Rattle.jsonc_tree.proofs.OrderedTrees.{Shows-ordered_tree, Shows-unique, printed-more}
use Rattle.jsonc_tree.proofs.Rows.{Shows-append, Shows-part, Shows-kept}

regroup : (t f w b a : List ℕ) → t ++ ((f ++ (w ++ b)) ++ a) ≡ (t ++ f) ++ (w ++ (b ++ a))
regroup t f w b a = simp append_assoc

regroup_front : (t b f rest : List ℕ) → t ++ (b ++ (f ++ rest)) ≡ (t ++ (b ++ f)) ++ rest
regroup_front t b f rest = simp append_assoc

no_row : (was now : OrderedTree) → Replaced was now none none → ⊥
no_row was now r = elim r [ ]

-- what a row is replaced by prints in the place of what it printed
pub Replaced-printed : (was now t u : OrderedTree) → Replaced was now t u → (front : List ℕ) × (back : List ℕ) × (printed t ≡ front ++ (printed was ++ back)) × (printed u ≡ front ++ (printed now ++ back))
Replaced-printed was now _ _ (here {content = c} {after = a}) = (text_of c, printed a, printed-more c was a, printed-more c now a)
Replaced-printed was now _ _ (deeper {content = c} {x = x} {y = y} {after = a} r) =
    let inner = Replaced-printed was now x y r in (
      text_of c ++ inner.0,
      inner.1 ++ printed a,
      printed-more c x a ∙ ap (λ l. text_of c ++ (l ++ printed a)) inner.2 ∙ regroup (text_of c) inner.0 (printed was) inner.1 (printed a),
      printed-more c y a ∙ ap (λ l. text_of c ++ (l ++ printed a)) inner.3 ∙ regroup (text_of c) inner.0 (printed now) inner.1 (printed a),
    )
Replaced-printed was now _ _ (later {content = c} {below = b} {x = x} {y = y} r) =
    let rest = Replaced-printed was now x y r in (
      text_of c ++ (printed b ++ rest.0),
      rest.1,
      printed-more c b x ∙ ap (λ l. text_of c ++ (printed b ++ l)) rest.2 ∙ regroup_front (text_of c) (printed b) rest.0 (printed was ++ rest.1),
      printed-more c b y ∙ ap (λ l. text_of c ++ (printed b ++ l)) rest.3 ∙ regroup_front (text_of c) (printed b) rest.0 (printed now ++ rest.1),
    )

-- more trees after, or before
Replaced-more : (was now : OrderedTree) (c d : Content) (x y after : OrderedTree) → Replaced was now (more c x none) (more d y none) → Replaced was now (more c x after) (more d y after)
Replaced-more was now c _ _ _ after here = here
Replaced-more was now c _ x y after (deeper r) = deeper r
Replaced-more was now c _ x _ after (later r) = absurd (no_row was now r)

Replaced-before : (was now front t u : OrderedTree) → Replaced was now t u → Replaced was now (followed_by front t) (followed_by front u)
Replaced-before was now none t u r = r
Replaced-before was now (more c b a) t u r = later (Replaced-before was now a t u r)

first_of_row : (ns : List Node) (n : ℕ) (rest : List ℕ) (t : OrderedTree) → Shows ns (n ∷ rest) t → (x : OrderedTree) × (a : OrderedTree) × Shows ns (children_at ns n) x × Shows ns rest a
first_of_row ns n rest _ (shows_more {below = b} {after = a} p r) = (b, a, p, r)

module _ (old new : List Node) (tree : IsTree old) (after : IsTree new) (c i j : ℕ) (xs : List ℕ) (spliced : Splices old new c i j xs) where
  apart_kept : (ys : List ℕ) (t : OrderedTree) → ((k : ℕ) → k < length ys → IsOver old (get_or ys k 0) c → ⊥) → Shows old ys t → Shows new ys t
  apart_kept ys t apart shows =
      Shows-kept old new (λ m. IsOver old m c → ⊥) (λ m k out h over. out (over_up old (get_or (children_at old m) k 0) m c (tree.named m k h) over)) (λ m out. spliced.content m) (λ m out. spliced.others m (λ e. out (subst (λ k. IsOver old k c) (sym e) itself))) ys t apart shows

  -- the ordered tree of a node that isn't over the container stays
  pub ordered_tree-kept : (n : ℕ) → n < length old → (IsOver old n c → ⊥) → ordered_tree new n ≡ ordered_tree old n
  ordered_tree-kept n h apart =
      Shows-unique new (n ∷ []) (ordered_tree new n) (ordered_tree old n) (Shows-ordered_tree new after n (omega (arith, h, spliced.len)))
      (apart_kept (n ∷ []) (ordered_tree old n) (λ k l over. let zeroth : k ≡ 0 = omega arith in apart (subst (λ m. IsOver old (get_or (n ∷ []) m 0) c) zeroth over)) (Shows-ordered_tree old tree n h))

  child_apart : (k : ℕ) → k < length (children_at old c) → IsOver old (get_or (children_at old c) k 0) c → ⊥
  child_apart k h = not_over_parent old tree (get_or (children_at old c) k 0) c (tree.named c k h)

  -- the trees below the container: those before the stretch, those put in, and those after it
  pub Shows-spliced : CanJoin old c i j xs → (front inner back : OrderedTree) → Shows old (take i (children_at old c)) front → Shows old xs inner → Shows old (drop j (children_at old c)) back → Shows new (children_at new c) (followed_by front (followed_by inner back))
  Shows-spliced join front inner back p q r =
      let cs : List ℕ = children_at old c in
      let first : Shows new (take i cs) front = apart_kept (take i cs) front (λ k h over.
      let low : k < i = omega (arith, h, length-take i cs) in
      child_apart k (omega (arith, h, length-take i cs)) (subst (λ m. IsOver old m c) (get_or-take i cs k 0 low) over)) p in
      let last : Shows new (drop j cs) back = apart_kept (drop j cs) back (λ k h over.
      child_apart (j + k) (omega (arith, h, length-drop j cs)) (subst (λ m. IsOver old m c) (get_or-drop j cs k 0) over)) r in
      let middle : Shows new xs inner = apart_kept xs inner join.not_over q in
      subst (λ (l : List ℕ). Shows new l (followed_by front (followed_by inner back))) (sym spliced.children)
      (Shows-append new (take i cs) (xs ++ drop j cs) front (followed_by inner back) first (Shows-append new xs (drop j cs) inner back middle last))

  -- the rows below a node before and after, which differ at one place
  abbrev RowsOf : OrderedTree → OrderedTree → ℕ → Type 0
  RowsOf was now n = (x : OrderedTree) × (y : OrderedTree) × Shows old (children_at old n) x × Shows new (children_at new n) y × Replaced was now (more (content_at old n) x none) (more (content_at old n) y none)

  rows_up : (was now : OrderedTree) (q p : ℕ) → parent_at old q ≡ Some p → IsOver old q c → RowsOf was now q → RowsOf was now p
  rows_up was now q p said over rows =
      let ne : p ≢ c = λ e. not_over_parent old tree q p said (subst (IsOver old q) (sym e) over) in
      let there = parent_there old tree q p said in
      let cs : List ℕ = children_at old p in
      let k : ℕ = place_at old q in
      let inn : k < length cs = tree.within q p said in
      let is : slice_index cs k ≡ q = tree.found q p said in
      let parts : cs ≡ take k cs ++ q ∷ drop (k + 1) cs = sym (take-append-drop k cs) ∙ ap (λ l. take k cs ++ l) (drop_more cs k 0 inn) ∙ ap (λ m. take k cs ++ m ∷ drop (k + 1) cs) is in
      let row = first_of_row old p [] (ordered_tree old p) (Shows-ordered_tree old tree p there.1) in
      let two = Shows-part old (take k cs) (q ∷ drop (k + 1) cs) row.0 (subst (λ (l : List ℕ). Shows old l row.0) parts row.2) in
      let one = first_of_row old q (drop (k + 1) cs) two.1 two.4 in
      let front : Shows new (take k cs) two.0 = apart_kept (take k cs) two.0 (λ e l also.
      let low : e < k = omega (arith, l, length-take k cs) in
      sibling_not_over old tree q p e c said over (omega arith) (λ z. omega arith) (subst (λ m. IsOver old m c) (get_or-take k cs e 0 low) also)) two.3 in
      let back : Shows new (drop (k + 1) cs) one.1 = apart_kept (drop (k + 1) cs) one.1 (λ e l also.
      sibling_not_over old tree q p (k + 1 + e) c said over (omega (arith, l, length-drop (k + 1) cs)) (λ z. omega arith) (subst (λ m. IsOver old m c) (get_or-drop (k + 1) cs e 0) also)) one.3 in
      let w : Content = content_at old q in
      let middle : Shows new (q ∷ drop (k + 1) cs) (more w rows.1 one.1) = subst (λ (v : Content). Shows new (q ∷ drop (k + 1) cs) (more v rows.1 one.1)) (spliced.content q) (shows_more rows.3 back) in (
        followed_by two.0 (more w rows.0 one.1),
        followed_by two.0 (more w rows.1 one.1),
        subst (λ (l : List ℕ). Shows old l (followed_by two.0 (more w rows.0 one.1))) (sym parts) (Shows-append old (take k cs) (q ∷ drop (k + 1) cs) two.0 (more w rows.0 one.1) two.3 (shows_more rows.2 one.3)),
        subst (λ (l : List ℕ). Shows new l (followed_by two.0 (more w rows.1 one.1))) (sym (spliced.others p ne ∙ parts)) (Shows-append new (take k cs) (q ∷ drop (k + 1) cs) two.0 (more w rows.1 one.1) front middle),
        deeper (Replaced-before was now two.0 (more w rows.0 one.1) (more w rows.1 one.1) (Replaced-more was now w w rows.0 rows.1 one.1 rows.4)),
      )

  rows_above : (was now : OrderedTree) (n q : ℕ) → IsOver old n q → IsOver old q c → RowsOf was now q → RowsOf was now n
  rows_above was now n _ itself over rows = rows
  rows_above was now n q (above {c = p} said r) over rows = rows_above was now n p r (over_up old q p c said over) (rows_up was now q p said over rows)

  -- in the ordered tree of a node over the container, or of itself, the row below the container is replaced by the new one
  pub Replaced-splice : (was now : OrderedTree) → Shows old (children_at old c) was → Shows new (children_at new c) now → (n : ℕ) → n < length old → IsOver old n c → Replaced was now (ordered_tree old n) (ordered_tree new n)
  Replaced-splice was now p q n h over =
      let rows = rows_above was now n c over itself (was, now, p, q, here) in
      let first : ordered_tree old n ≡ more (content_at old n) rows.0 none = Shows-unique old (n ∷ []) (ordered_tree old n) (more (content_at old n) rows.0 none) (Shows-ordered_tree old tree n h) (shows_more rows.2 shows_none) in
      let last : ordered_tree new n ≡ more (content_at old n) rows.1 none = Shows-unique new (n ∷ []) (ordered_tree new n) (more (content_at new n) rows.1 none) (Shows-ordered_tree new after n (omega (arith, h, spliced.len))) (shows_more rows.3 shows_none) ∙ ap (λ v. more v rows.1 none) (spliced.content n) in
      subst (λ t. Replaced was now t (ordered_tree new n)) (sym first) (subst (λ t. Replaced was now (more (content_at old n) rows.0 none) t) (sym last) rows.4)

-- How a builder knows the ordered tree that it has built.
use Rattle.std.proofs.Common.{true, ◌≡◌, ◌≢◌, ℕ, ◌<◌, ◌≤◌, List, [], ◌∷◌, length, get_or, None, Some, refl, sym, ap, subst, ◌∙◌, arith}
use Rattle.jsonc_tree.specs.Content.{Content, root, is_container}
use Rattle.jsonc_tree.specs.Tree.{Node, content_at, children_at, parent_at, IsTree, IsOver, itself}
use Rattle.jsonc_tree.specs.Changes.{Appends, CanAppend, Adds, Pushes}
use Rattle.jsonc_tree.specs.OrderedTree.{OrderedTree, none, more, followed_by, Shows, shows_none, shows_more, ordered_tree}
use Rattle.jsonc_tree.specs.Building.{Keeps, Builds}
use Rattle.jsonc_tree.proofs.Order.{not_over_parent}
use Rattle.jsonc_tree.proofs.Over.{over_up}
use Rattle.jsonc_tree.proofs.OrderedTrees.{Shows-ordered_tree, Shows-unique}
use Rattle.jsonc_tree.proofs.Rows.{Shows-append, Shows-kept}
use Rattle.jsonc_tree.proofs.Appending.{not_over_alone}

pub Keeps-same : (count : ℕ) (ns : List Node) → Keeps count ns ns
Keeps-same count ns = record {
  len = omega arith;
  content = λ n h. refl;
  parent = λ n h. refl;
  children = λ n h. refl;
}

pub Keeps-then : (count : ℕ) (a b c : List Node) → Keeps count a b → Keeps count b c → Keeps count a c
Keeps-then count a b c p q = record {
  len = omega (arith, p.len, q.len);
  content = λ n h. q.content n h ∙ p.content n h;
  parent = λ n h. q.parent n h ∙ p.parent n h;
  children = λ n h. q.children n h ∙ p.children n h;
}

pub Keeps-fewer : (less count : ℕ) (a b : List Node) → less ≤ count → Keeps count a b → Keeps less a b
Keeps-fewer less count a b le p = record {
  len = p.len;
  content = λ n h. p.content n (omega arith);
  parent = λ n h. p.parent n (omega arith);
  children = λ n h. p.children n (omega arith);
}

pub Keeps-adds : (a b : List Node) (content : Content) → Adds a b content → Keeps (length a) a b
Keeps-adds a b content adds = record {
  len = omega (arith, adds.len);
  content = λ n h. ap (λ (m : Node). m.content) (adds.rest n h);
  parent = λ n h. ap (λ (m : Node). m.parent) (adds.rest n h);
  children = λ n h. ap (λ (m : Node). m.children) (adds.rest n h);
}

pub Keeps-appends : (count : ℕ) (a b : List Node) (c n : ℕ) → count ≤ c → count ≤ n → Appends a b c n → Keeps count a b
Keeps-appends count a b c n above later appends = record {
  len = omega (arith, appends.len);
  content = λ m h. appends.content m;
  parent = λ m h. appends.parents m (λ e. omega arith);
  children = λ m h. appends.others m (λ e. omega arith);
}

pub Keeps-pushes : (count : ℕ) (a b : List Node) (c : ℕ) (content : Content) → count ≤ c → count ≤ length a → Pushes a b c content → Keeps count a b
Keeps-pushes count a b c content above le pushes = record {
  len = omega (arith, pushes.len);
  content = λ m h. pushes.contents m (omega arith);
  parent = λ m h. pushes.parents m (omega arith);
  children = λ m h. pushes.others m (omega arith) (λ e. omega arith);
}

-- nodes that are there stand for the same trees after a change that keeps every old node
pub Shows-keeps : (a b : List Node) → IsTree a → Keeps (length a) a b → (xs : List ℕ) (t : OrderedTree) → ((k : ℕ) → k < length xs → get_or xs k 0 < length a) → Shows a xs t → Shows b xs t
Shows-keeps a b tree keeps xs t there shows = Shows-kept a b (λ n. n < length a) (λ n k at h. tree.in_tree n k h) keeps.content keeps.children xs t there shows

-- and so do nodes that aren't over the container of an append
pub Shows-appends : (a b : List Node) (c n : ℕ) → IsTree a → Appends a b c n → (xs : List ℕ) (t : OrderedTree) → ((k : ℕ) → k < length xs → IsOver a (get_or xs k 0) c → ⊥) → Shows a xs t → Shows b xs t
Shows-appends a b c n tree appends xs t apart shows =
    Shows-kept a b (λ m. IsOver a m c → ⊥) (λ m k out h over. out (over_up a (get_or (children_at a m) k 0) m c (tree.named m k h) over)) (λ m out. appends.content m) (λ m out. appends.others m (λ e. out (subst (λ k. IsOver a k c) (sym e) itself))) xs t apart shows

-- the container's children stand for one more tree, that of the new child
pub Shows-appended : (a b : List Node) (c n : ℕ) (t u : OrderedTree) → IsTree a → Appends a b c n → (IsOver a n c → ⊥) → Shows a (children_at a c) t → Shows a (n ∷ []) u → Shows b (children_at b c) (followed_by t u)
Shows-appended a b c n t u tree appends apart old new =
    let first : Shows b (children_at a c) t = Shows-appends a b c n tree appends (children_at a c) t (λ k h. not_over_parent a tree (get_or (children_at a c) k 0) c (tree.named c k h)) old in
    let last : Shows b (n ∷ []) u = Shows-appends a b c n tree appends (n ∷ []) u (λ k h over. let zeroth : k ≡ 0 = omega arith in apart (subst (λ m. IsOver a (get_or (n ∷ []) m 0) c) zeroth over)) new in
    subst (λ (l : List ℕ). Shows b l (followed_by t u)) (sym appends.children) (Shows-append b (children_at a c) (n ∷ []) t u first last)

-- a node with this content over this row of trees
Shows-one : (ns : List Node) (n : ℕ) (content : Content) (below : OrderedTree) → content_at ns n ≡ content → Shows ns (children_at ns n) below → Shows ns (n ∷ []) (more content below none)
Shows-one ns n content below is shows = subst (λ (c : Content). Shows ns (n ∷ []) (more c below none)) is (shows_more shows shows_none)

Shows-bare : (ns : List Node) (n : ℕ) → children_at ns n ≡ [] → Shows ns (children_at ns n) none
Shows-bare ns n bare = subst (λ (l : List ℕ). Shows ns l none) (sym bare) shows_none

-- a builder begins with the bare root of a new document
pub Builds-root : (ns : List Node) → IsTree ns → children_at ns 0 ≡ [] → Builds [] ns 0 root none
Builds-root ns tree bare = record {
  tree = tree;
  keeps = record {
    len = omega arith;
    content = λ n h. absurd (omega arith);
    parent = λ n h. absurd (omega arith);
    children = λ n h. absurd (omega arith);
  };
  later = omega arith;
  in_tree = tree.first;
  alone = tree.root_alone;
  is = tree.root_first;
  shows = Shows-bare ns 0 bare;
}

-- or with a node that it adds
pub Builds-adds : (a b : List Node) (content : Content) → IsTree b → Adds a b content → Builds a b (length a) content none
Builds-adds a b content tree adds = record {
  tree = tree;
  keeps = Keeps-adds a b content adds;
  later = omega arith;
  in_tree = omega (arith, adds.len);
  alone = adds.bare.0;
  is = adds.last;
  shows = Shows-bare b (length a) adds.bare.1;
}

-- it appends what it has built apart
pub Builds-appends : (a b c d : List Node) (n m : ℕ) (content other : Content) (below inner : OrderedTree) → Builds a b n content below → Builds b c m other inner → Appends c d n m → IsTree d → Builds a d n content (followed_by below (more other inner none))
Builds-appends a b c d n m content other below inner built part appends tree =
    let ne : n ≢ m = λ e. omega (arith, built.in_tree, part.later) in
    let back : m ≢ n = λ e. ne (sym e) in
    let alone : parent_at c n ≡ None = part.keeps.parent n built.in_tree ∙ built.alone in
    let old : Shows c (children_at c n) below = subst (λ (l : List ℕ). Shows c l below) (sym (part.keeps.children n built.in_tree)) (Shows-keeps b c built.tree part.keeps (children_at b n) below (λ k h. built.tree.in_tree n k h) built.shows) in
    record {
      tree = tree;
      keeps = Keeps-then (length a) a b d built.keeps
          (Keeps-then (length a) b c d (Keeps-fewer (length a) (length b) b c built.keeps.len part.keeps)
          (Keeps-appends (length a) c d n m built.later (omega (arith, built.keeps.len, part.later)) appends));
      later = built.later;
      in_tree = omega (arith, built.in_tree, part.keeps.len, appends.len);
      alone = appends.parents n ne ∙ alone;
      is = appends.content n ∙ part.keeps.content n built.in_tree ∙ built.is;
      shows = Shows-appended c d n m below (more other inner none) part.tree appends (not_over_alone c m n alone back) old (Shows-one c m other inner part.is part.shows);
    }

-- or a node with nothing below it
pub Builds-pushes : (a b c : List Node) (n : ℕ) (content other : Content) (below : OrderedTree) → Builds a b n content below → Pushes b c n other → IsTree c → Builds a c n content (followed_by below (more other none none))
Builds-pushes a b c n content other below built pushes tree =
    let not_child : (m k : ℕ) → k < length (children_at b m) → get_or (children_at b m) k 0 ≢ n = λ m k h e.
    let wrong : None ≡ Some m = sym built.alone ∙ ap (parent_at b) (sym e) ∙ built.tree.named m k h in cc in
    let old : Shows c (children_at b n) below = Shows-kept b c (λ m. (m < length b) × (m ≢ n)) (λ m k at h. (built.tree.in_tree m k h, not_child m k h)) (λ m at. pushes.contents m at.0) (λ m at. pushes.others m at.0 at.1) (children_at b n) below (λ k h. (built.tree.in_tree n k h, not_child n k h)) built.shows in
    let new : Shows c (length b ∷ []) (more other none none) = Shows-one c (length b) other none pushes.last (Shows-bare c (length b) pushes.bare) in
    record {
      tree = tree;
      keeps = Keeps-then (length a) a b c built.keeps (Keeps-pushes (length a) b c n other built.later built.keeps.len pushes);
      later = built.later;
      in_tree = omega (arith, built.in_tree, pushes.len);
      alone = pushes.parents n built.in_tree ∙ built.alone;
      is = pushes.contents n built.in_tree ∙ built.is;
      shows = subst (λ (l : List ℕ). Shows c l (followed_by below (more other none none))) (sym pushes.children) (Shows-append c (children_at b n) (length b ∷ []) below (more other none none) old new);
    }

-- in the end the node stands for the tree that was built
pub Builds-ordered_tree : (a b : List Node) (n : ℕ) (content : Content) (below : OrderedTree) → Builds a b n content below → ordered_tree b n ≡ more content below none
Builds-ordered_tree a b n content below built =
    Shows-unique b (n ∷ []) (ordered_tree b n) (more content below none) (Shows-ordered_tree b built.tree n built.in_tree) (Shows-one b n content below built.is built.shows)

-- what was built apart can be appended
pub CanAppend-built : (a b c : List Node) (n m : ℕ) (content other : Content) (below inner : OrderedTree) → is_container content ≡ true → Builds a b n content below → Builds b c m other inner → CanAppend c n m
CanAppend-built a b c n m content other below inner holds built part = record {
  container = omega (arith, built.in_tree, part.keeps.len);
  holds = ap is_container (part.keeps.content n built.in_tree ∙ built.is) ∙ holds;
  node = part.in_tree;
  not_root = λ e. omega (arith, e, part.later, built.tree.first);
  alone = part.alone;
  not_over = not_over_alone c m n (part.keeps.parent n built.in_tree ∙ built.alone) (λ e. omega (arith, e, built.in_tree, part.later));
}

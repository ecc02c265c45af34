-- Adding to a container, step by step.
use Rattle.std.proofs.Common.{ℕ, ◌<◌, ◌≤◌, ◌≡◌, inl, inr, ◌∙◌, sym, ap, subst, refl, List, [], ◌∷◌, ◌++◌, length, arith, IsTrue}
use Rattle.std.proofs.lemmas.Bool.{cases_lt, cases_eq}
use Rattle.std.proofs.lemmas.List.{append_assoc, append-nil}
use Rattle.jsonc_tree.specs.Content.{Content, is_container, root}
use Rattle.jsonc_tree.specs.Tree.{Node, children_at, content_at, is_container_at, IsTree}
use Rattle.jsonc_tree.specs.OrderedTree as ordered
use Rattle.jsonc_tree.specs.OrderedTree.{OrderedTree, followed_by, ordered_tree, Shows, shows_none, shows_more}
use Rattle.jsonc_tree.proofs.OrderedTrees.{Shows-ordered_tree, Shows-unique}
use Rattle.jsonc_tree.specs.Changes.{Pushes}
use Rattle.jsonc_sound.specs.Leaves.{LeafAt}
use Rattle.jsonc_build.specs.Growth.{AddsLeaf, AreFrom, none_from, one_from, Grows}

from_append : {first end : ℕ} {xs ys : List ℕ} → AreFrom first end xs → AreFrom first end ys → AreFrom first end (xs ++ ys)
from_append none_from h = h
from_append (one_from a b g) h = one_from a b (from_append g h)

wider : {first end more less : ℕ} {xs : List ℕ} → less ≤ first → end ≤ more → AreFrom first end xs → AreFrom less more xs
wider l m none_from = none_from
wider l m (one_from a b g) = one_from (omega arith) (omega arith) (wider l m g)

shows_append : {ns : List Node} {xs ys : List ℕ} {t u : OrderedTree} → Shows ns xs t → Shows ns ys u → Shows ns (xs ++ ys) (followed_by t u)
shows_append shows_none h = h
shows_append (shows_more b a) h = shows_more b (shows_append a h)

module _ (old new : List Node) (first : ℕ)
    (closed : (n : ℕ) → first ≤ n → n < length old → AreFrom first (length old) (children_at old n))
    (kids : (n : ℕ) → first ≤ n → n < length old → children_at new n ≡ children_at old n)
    (contents : (n : ℕ) → first ≤ n → n < length old → content_at new n ≡ content_at old n) where
  -- nodes that stay as they are stand for the same row
  shows_kept : {xs : List ℕ} {t : OrderedTree} → Shows old xs t → AreFrom first (length old) xs → Shows new xs t
  shows_kept shows_none none_from = shows_none
  shows_kept (shows_more {n = n} {rest = xs} {below = b} {after = a} below after) (one_from l h g) =
      subst (λ c. Shows new (n ∷ xs) (ordered.more c b a)) (contents n l h)
      (shows_more (subst (λ ks. Shows new ks b) (sym (kids n l h)) (shows_kept below (closed n l h))) (shows_kept after g))

pub grows_none : (ns : List Node) (c : ℕ) → Grows ns ns c ordered.none
grows_none ns c = record {
  len = omega arith;
  kids = [];
  children = sym (append-nil (children_at ns c));
  shows = shows_none;
  new_kids = none_from;
  closed = λ n l h. absurd (omega arith);
  others = λ n l h. refl;
  contents = λ n l. refl;
}

-- one row after another
pub grows_append : {a b d : List Node} {c : ℕ} {t u : OrderedTree} → c < length a → Grows a b c t → Grows b d c u → Grows a d c (followed_by t u)
grows_append {a} {b} {d} {c} {t} {u} there one two =
    let keep : (n : ℕ) → length a ≤ n → n < length b → children_at d n ≡ children_at b n = λ n l h. two.others n h (λ e. omega arith) in
    record {
      len = omega (arith, one.len, two.len);
      kids = one.kids ++ two.kids;
      children = two.children ∙ ap (λ l. l ++ two.kids) one.children ∙ append_assoc (children_at a c) one.kids two.kids;
      shows = shows_append (shows_kept b d (length a) one.closed keep (λ n l h. two.contents n h) one.shows one.new_kids) two.shows;
      new_kids = from_append (wider (omega arith) (two.len) one.new_kids) (wider one.len (omega arith) two.new_kids);
      closed = λ n l h. elim (cases_lt n (length b)) [
        | inl below ↦ subst (AreFrom (length a) (length d)) (sym (keep n l below)) (wider (omega arith) two.len (one.closed n l below))
        | inr above ↦ wider one.len (omega arith) (two.closed n above h)
      ];
      others = λ n l ne. two.others n (omega (arith, one.len)) ne ∙ one.others n l ne;
      contents = λ n l. two.contents n (omega (arith, one.len)) ∙ one.contents n l;
    }

-- a new node, and the row that it has grown below it
pub grows_below : {a b d : List Node} {c : ℕ} {content : Content} {row : OrderedTree} → c < length a → Pushes a b c content → Grows b d (length a) row → Grows a d c (ordered.more content row ordered.none)
grows_below {a} {b} {d} {c} {content} {row} there push grown =
    let n : ℕ = length a in
    let kids : children_at d n ≡ grown.kids = grown.children ∙ ap (λ l. l ++ grown.kids) push.bare in
    let own : content_at d n ≡ content = grown.contents n (omega (arith, push.len)) ∙ push.last in
    record {
      len = omega (arith, push.len, grown.len);
      kids = n ∷ [];
      children = grown.others c (omega (arith, push.len)) (λ e. omega arith) ∙ push.children;
      shows = subst (λ k. Shows d (n ∷ []) (ordered.more k row ordered.none)) own (shows_more (subst (λ ks. Shows d ks row) (sym kids) grown.shows) shows_none);
      new_kids = one_from (omega arith) (omega (arith, push.len, grown.len)) none_from;
      closed = λ m l h. elim (cases_eq m n) [
        | inl is ↦ subst (AreFrom n (length d)) (sym (ap (children_at d) is ∙ kids)) (wider (omega (arith, push.len)) (omega arith) grown.new_kids)
        | inr ne ↦ wider (omega (arith, push.len)) (omega arith) (grown.closed m (omega (arith, push.len, ne)) h)
      ];
      others = λ m l ne. grown.others m (omega (arith, push.len)) (λ e. omega arith) ∙ push.others m l ne;
      contents = λ m l. grown.contents m (omega (arith, push.len)) ∙ push.contents m l;
    }

-- a new leaf
pub grows_leaf : {a b : List Node} {c : ℕ} {content : Content} → c < length a → Pushes a b c content → Grows a b c (ordered.more content ordered.none ordered.none)
grows_leaf {a} {b} there push = grows_below there push (grows_none b (length a))

-- a leaf of the same content
pub pushes_same : {a b : List Node} {c : ℕ} {x y : Content} → x ≡ y → Pushes a b c x → Pushes a b c y
pushes_same {a} {b} {c} same push = subst (λ x. Pushes a b c x) same push

-- the container stays one
pub container_kept : {a b : List Node} {c : ℕ} {row : OrderedTree} → c < length a → IsTrue (is_container_at a c) → Grows a b c row → IsTrue (is_container_at b c)
container_kept {a} {b} {c} there h grown = ap is_container (grown.contents c there) ∙ h

-- what a root without children has grown is its ordered tree
pub grown_root : (old new : List Node) (row : OrderedTree) → length old ≡ 1 → children_at old 0 ≡ [] → IsTree new → Grows old new 0 row → ordered_tree new 0 ≡ ordered.more root row ordered.none
grown_root old new row one bare tree grown =
    let there : 0 < length new = omega (arith, one, grown.len) in
    let kids : children_at new 0 ≡ grown.kids = grown.children ∙ ap (λ l. l ++ grown.kids) bare in
    let shown : Shows new (0 ∷ []) (ordered.more (content_at new 0) row ordered.none) = shows_more (subst (λ ks. Shows new ks row) (sym kids) grown.shows) shows_none in
    Shows-unique new (0 ∷ []) (ordered_tree new 0) (ordered.more (content_at new 0) row ordered.none) (Shows-ordered_tree new tree 0 there) shown
    ∙ ap (λ c. ordered.more c row ordered.none) tree.root_first

-- a node that is added where there was made room before
pub pushes_from : {old mid new : List Node} {c d : ℕ} {content : Content} → mid ≡ old → d ≡ c → Pushes mid new d content → Pushes old new c content
pushes_from {mid = mid} {new = new} {c = c} {content = content} nodes same push = subst (λ ns. Pushes ns new c content) nodes (subst (λ k. Pushes mid new k content) same push)

-- a leaf of a text that is added where there was made room before
pub leaf_added_to : {old mid new : List Node} {c d : ℕ} {text : List ℕ} {content : Content} {i j : ℕ} → mid ≡ old → d ≡ c → Pushes mid new d content → LeafAt text content i j → AddsLeaf old new c text i j
leaf_added_to {content = content} nodes same push leaf = record { content = content; leaf = leaf; pushes = pushes_from nodes same push }

-- Rows of nodes and the ordered trees that they stand for: joined, parted, and kept by a change elsewhere.
use Rattle.std.proofs.Common.{◌≡◌, ℕ, suc, ◌<◌, List, [], ◌∷◌, ◌++◌, length, get_or, refl, sym, ap, subst, arith}
use Rattle.jsonc_tree.specs.Content.{Content}
use Rattle.jsonc_tree.specs.Tree.{Node, children_at, content_at}
use Rattle.jsonc_tree.specs.OrderedTree.{OrderedTree, none, more, followed_by, Shows, shows_none, shows_more}

-- one row and then another
pub Shows-append : (ns : List Node) (xs ys : List ℕ) (t u : OrderedTree) → Shows ns xs t → Shows ns ys u → Shows ns (xs ++ ys) (followed_by t u)
Shows-append ns _ ys _ u shows_none q = q
Shows-append ns _ ys _ u (shows_more {n = n} {rest = rest} {below = b} {after = a} p r) q = shows_more p (Shows-append ns rest ys a u r q)

-- a row of two parts stands for two rows
pub Shows-part : (ns : List Node) (xs ys : List ℕ) (t : OrderedTree) → Shows ns (xs ++ ys) t → (a : OrderedTree) × (b : OrderedTree) × (t ≡ followed_by a b) × Shows ns xs a × Shows ns ys b
Shows-part ns [] ys t p = (none, t, refl, shows_none, p)
Shows-part ns (x ∷ xs) ys _ (shows_more {below = b} {after = a} p r) =
    let rest = Shows-part ns xs ys a r in
    (more (content_at ns x) b rest.0, rest.1, ap (more (content_at ns x) b) rest.2, shows_more p rest.3, rest.4)

-- no row follows another without a change
pub followed_by-none : (t : OrderedTree) → followed_by t none ≡ t
followed_by-none none = refl
followed_by-none (more c b a) = ap (more c b) (followed_by-none a)

pub followed_by-assoc : (t u v : OrderedTree) → followed_by (followed_by t u) v ≡ followed_by t (followed_by u v)
followed_by-assoc none u v = refl
followed_by-assoc (more c b a) u v = ap (more c b) (followed_by-assoc a u v)

-- a change that keeps what the nodes of a row and those below them are, and their children, keeps the row's ordered tree
module _ (old new : List Node) (stays : ℕ → Type 0) (down : (n k : ℕ) → stays n → k < length (children_at old n) → stays (get_or (children_at old n) k 0)) (contents : (n : ℕ) → stays n → content_at new n ≡ content_at old n) (kids : (n : ℕ) → stays n → children_at new n ≡ children_at old n) where
  pub Shows-kept : (xs : List ℕ) (t : OrderedTree) → ((k : ℕ) → k < length xs → stays (get_or xs k 0)) → Shows old xs t → Shows new xs t
  Shows-kept _ _ all shows_none = shows_none
  Shows-kept _ _ all (shows_more {n = n} {rest = rest} {below = b} {after = a} p q) =
      let first : stays n = all 0 (omega arith) in
      let inner : Shows new (children_at old n) b = Shows-kept (children_at old n) b (λ k h. down n k first h) p in
      let last : Shows new rest a = Shows-kept rest a (λ k h. all (suc k) (omega arith)) q in
      subst (λ (c : Content). Shows new (n ∷ rest) (more c b a)) (contents n first) (shows_more (subst (λ (l : List ℕ). Shows new l b) (sym (kids n first)) inner) last)

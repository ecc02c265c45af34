-- A node that stands alone is built on, step by step.
use Rattle.std.proofs.Common.{ℕ, ◌≡◌, List, length, Result, Ok, Err, OnOk, IsTrue, sym, ap, subst, ◌∙◌, arith}
use Rattle.jsonc_tree.specs.Content.{Content, is_container}
use Rattle.jsonc_tree.specs.Tree.{Node, IsTree}
use Rattle.jsonc_tree.specs.Changes.{Appends, CanAppend, Pushes}
use Rattle.jsonc_tree.specs.OrderedTree.{OrderedTree, none, more, followed_by}
use Rattle.jsonc_tree.specs.Building.{Keeps, Builds}
use Rattle.jsonc_tree.proofs.Rows.{followed_by-none, followed_by-assoc}
use Rattle.jsonc_tree.proofs.Appending.{not_over_alone}
use Rattle.jsonc_tree.proofs.Builder.{Builds-pushes, Builds-appends, Keeps-then, Keeps-fewer, Keeps-pushes, Keeps-appends}
use Rattle.jsonc_layout.specs.from_input.Extending.{IsUnfinished, Extends}

pub on_ok : {T E P Q : Type 0} (r : Result T E) → (P → Q) → OnOk r P → OnOk r Q
on_ok (Ok x) f h = f h
on_ok (Err e) f h = tt

-- a container that was built can be built on
pub unfinished_built : {a b : List Node} {n : ℕ} {content : Content} {below : OrderedTree} → Builds a b n content below → IsTrue (is_container content) → IsUnfinished b n
unfinished_built built h = record { tree = built.tree; in_tree = built.in_tree; holds = ap is_container built.is ∙ h; alone = built.alone }

-- by a leaf
pub extends_pushes : {a b : List Node} {c : ℕ} {other : Content} → IsUnfinished a c → Pushes a b c other → IsTree b → Extends a b c (more other none none)
extends_pushes {a} {b} {c} {other} u pushes tree = record {
  unfinished = record {
    tree = tree;
    in_tree = omega (arith, u.in_tree, pushes.len);
    holds = ap is_container (pushes.contents c u.in_tree) ∙ u.holds;
    alone = pushes.parents c u.in_tree ∙ u.alone;
  };
  builds = λ first content below built. Builds-pushes first a b c content other below built pushes tree;
}

-- by a node that was built apart
pub extends_appends : {a b d : List Node} {c m : ℕ} {other : Content} {inner : OrderedTree} → IsUnfinished a c → Builds a b m other inner → Appends b d c m → IsTree d → Extends a d c (more other inner none)
extends_appends {a} {b} {d} {c} {m} {other} {inner} u part appends tree = record {
  unfinished = record {
    tree = tree;
    in_tree = omega (arith, u.in_tree, part.keeps.len, appends.len);
    holds = ap is_container (appends.content c ∙ part.keeps.content c u.in_tree) ∙ u.holds;
    alone = appends.parents c (λ e. omega (arith, u.in_tree, part.later, e)) ∙ part.keeps.parent c u.in_tree ∙ u.alone;
  };
  builds = λ first content below built. Builds-appends first a b d c m content other below inner built part appends tree;
}

pub can_append : {a b : List Node} {c m : ℕ} {other : Content} {inner : OrderedTree} → IsUnfinished a c → Builds a b m other inner → CanAppend b c m
can_append {a} {b} {c} {m} u part = record {
  container = omega (arith, u.in_tree, part.keeps.len);
  holds = ap is_container (part.keeps.content c u.in_tree) ∙ u.holds;
  node = part.in_tree;
  not_root = λ e. omega (arith, e, part.later, u.in_tree);
  alone = part.alone;
  not_over = not_over_alone b m c (part.keeps.parent c u.in_tree ∙ u.alone) (λ e. omega (arith, e, u.in_tree, part.later));
}

-- by nothing
pub extends_none : {a : List Node} {c : ℕ} → IsUnfinished a c → Extends a a c none
extends_none {a} {c} u = record {
  unfinished = u;
  builds = λ first content below built. subst (λ row. Builds first a c content row) (sym (followed_by-none below)) built;
}

-- by one row and then another
pub extends_then : {a b d : List Node} {c : ℕ} {t u : OrderedTree} → Extends a b c t → Extends b d c u → Extends a d c (followed_by t u)
extends_then {a} {b} {d} {c} {t} {u} p q = record {
  unfinished = q.unfinished;
  builds = λ first content below built. subst (λ row. Builds first d c content row) (followed_by-assoc below t u) (q.builds first content (followed_by below t) (p.builds first content below built));
}

-- the nodes before the container stay
pub keeps_pushes : {a b : List Node} {c : ℕ} {other : Content} → IsUnfinished a c → Pushes a b c other → Keeps c a b
keeps_pushes {a} {b} {c} {other} u pushes = Keeps-pushes c a b c other (omega arith) (omega (arith, u.in_tree)) pushes

pub keeps_apart : {a b : List Node} {c : ℕ} → IsUnfinished a c → Keeps (length a) a b → Keeps c a b
keeps_apart {a} {b} {c} u keeps = Keeps-fewer c (length a) a b (omega (arith, u.in_tree)) keeps

pub keeps_appends : {a b d : List Node} {c m : ℕ} {other : Content} {inner : OrderedTree} → IsUnfinished a c → Builds a b m other inner → Appends b d c m → Keeps c a d
keeps_appends {a} {b} {d} {c} {m} u part appends =
    Keeps-then c a b d (keeps_apart u part.keeps) (Keeps-appends c b d c m (omega arith) (omega (arith, u.in_tree, part.later)) appends)

pub keeps_both : {a b d : List Node} {c : ℕ} → Keeps c a b → Keeps c b d → Keeps c a d
keeps_both {a} {b} {d} {c} p q = Keeps-then c a b d p q

-- and all that were there before a new container
pub keeps_old : {a b d : List Node} {n : ℕ} {content : Content} {below : OrderedTree} → Builds a b n content below → Keeps n b d → Keeps (length a) a d
keeps_old {a} {b} {d} {n} built keeps = Keeps-then (length a) a b d built.keeps (Keeps-fewer (length a) n b d built.later keeps)

-- a container that was begun with a leaf, then a row, then a last leaf
pub built_on : {a b d : List Node} {n : ℕ} {content : Content} {below row : OrderedTree} → Builds a b n content below → Extends b d n row → Builds a d n content (followed_by below row)
built_on {a} {content = content} {below = below} built extends = extends.builds a content below built

-- what a row has more, or a node begins with, is a leaf of the same content
pub extends_same : {a b : List Node} {c : ℕ} {x y : Content} → x ≡ y → Extends a b c (more x none none) → Extends a b c (more y none none)
extends_same {a} {b} {c} same extends = subst (λ x. Extends a b c (more x none none)) same extends

pub begun_same : {a b : List Node} {n : ℕ} {content x y : Content} → x ≡ y → Builds a b n content (more x none none) → Builds a b n content (more y none none)
begun_same {a} {b} {n} {content} same built = subst (λ x. Builds a b n content (more x none none)) same built

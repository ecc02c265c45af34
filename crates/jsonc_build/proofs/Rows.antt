-- Rows of ordered trees, one after another.
use Rattle.std.proofs.Common.{◌≡◌, ap, refl}
use Rattle.jsonc_tree.specs.OrderedTree.{OrderedTree, none, more, followed_by}

pub followed_assoc : (t u v : OrderedTree) → followed_by (followed_by t u) v ≡ followed_by t (followed_by u v)
followed_assoc none u v = refl
followed_assoc (more c b a) u v = ap (more c b) (followed_assoc a u v)

pub followed_none : (t : OrderedTree) → followed_by t none ≡ t
followed_none none = refl
followed_none (more c b a) = ap (more c b) (followed_none a)

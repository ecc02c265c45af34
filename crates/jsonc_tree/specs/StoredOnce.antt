-- That links are those of a tree has one proof at most.
use Rattle.std.specs.Prelude.{◌≡◌, ℕ, List, Option}
use Rattle.std.specs.Coded.{Coded-set, coded_option, coded_ℕ, le_prop}
use Rattle.jsonc_tree.specs.Tree as tree
use Rattle.jsonc_tree.specs.Codes.{IsTree-prop}
use Rattle.jsonc_tree.specs.Stored.{LinkedNode, IsLinked, IsStored, nodes_of}

link_once : {x y : Option ℕ} → IsProp (x ≡ y)
link_once {x} {y} = Coded-set (coded_option coded_ℕ) x y

count_once : {x y : ℕ} → IsProp (x ≡ y)
count_once {x} {y} = Coded-set coded_ℕ x y

pub IsLinked-prop : (ls : List LinkedNode) (ns : List tree.Node) → IsProp (IsLinked ls ns)
IsLinked-prop ls ns s t = λ i. record {
  ahead = λ c k h. link_once (s.ahead c k h) (t.ahead c k h) i;
  back = λ c k h. link_once (s.back c k h) (t.back c k h) i;
  alone = λ n h. (link_once (s.alone n h).0 (t.alone n h).0 i, link_once (s.alone n h).1 (t.alone n h).1 i);
}

pub IsStored-prop : (ls : List LinkedNode) → IsProp (IsStored ls)
IsStored-prop ls s t = λ i. record {
  tree = IsTree-prop (nodes_of ls) s.tree t.tree i;
  linked = IsLinked-prop ls (nodes_of ls) s.linked t.linked i;
  lines = λ c. count_once (s.lines c) (t.lines c) i;
  few = le_prop s.few t.few i;
}

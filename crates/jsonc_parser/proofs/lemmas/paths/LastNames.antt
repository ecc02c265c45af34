-- The last property of a name among children, found by a walk over them.
use Rattle.std.proofs.Common.{ℕ, ◌≡◌, ◌∙◌, ◌++◌, sym, ap, subst, refl, List, [], ◌∷◌, Option, Some, None, IfSome}
use Rattle.jsonc_tree.specs.Content.{property}
use Rattle.jsonc_tree.specs.Tree.{Node, content_at, children_at}
use Rattle.jsonc_layout.specs.nodes.Names as names
use Rattle.jsonc_layout.specs.nodes.Names.{FirstNamed, IsNamed}
use Rattle.jsonc_cst.specs.declared.cst.CstRootNode.{CstRootNode}
use Rattle.jsonc_cst.specs.declared.cst.node.CstNode.{CstNode}
use Rattle.jsonc_cst.specs.declared.cst.node.CstObject.{CstObject}
use Rattle.jsonc_cst.specs.declared.cst.node.CstObjectProp.{CstObjectProp}
use Rattle.jsonc_cst.specs.Document.{nodes_of}
use Rattle.jsonc_cst.specs.Nodes.{object_prop_node, typed, typed_at, IsAs, IsNodeOf}
use Rattle.jsonc_parser.specs.paths.Which.{IsChosenNamed, LastNamed, none_named, last_named}
use Rattle.jsonc_parser.specs.declared.paths.which.Which.TheVariants.{Last}
use Rattle.jsonc_parser.proofs.lemmas.paths.ChosenNodes.{last_has}

module _ (ns : List Node) (v : List ℕ) where
  -- the last of the name among the nodes still ahead; or what was found, where none of these has the name
  pub data LastFrom (found : Option ℕ) (rest : List ℕ) : Option ℕ → Type 0 where
    no_later : FirstNamed ns v rest None → LastFrom found rest found
    later : {last : ℕ} → LastNamed ns v rest (Some last) → LastFrom found rest (Some last)

  -- after one more node
  one_more : (n : ℕ) (rest : List ℕ) (last : Option ℕ) (m : ℕ) → last ≡ Some m → LastNamed ns v rest last → LastNamed ns v (n ∷ rest) (Some m)
  one_more n rest _ m e (none_named alone) = let wrong : None ≡ Some m = e in cc
  one_more n _ _ m e (last_named front {n = k} {rest = rest} named alone) =
      let same : k ≡ m = cc in
      subst (λ l. LastNamed ns v (n ∷ (front ++ k ∷ rest)) (Some l)) same (last_named (n ∷ front) named alone)

  -- at the front of all
  pub last_of_all : (row : List ℕ) (last : Option ℕ) → LastFrom None row last → LastNamed ns v row last
  last_of_all row _ (no_later alone) = none_named alone
  last_of_all row _ (later l) = l

  -- no more nodes are ahead
  pub none_to_come : (found : Option ℕ) (row : List ℕ) → row ≡ [] → LastFrom found row found
  none_to_come found row e = no_later (subst (λ l. FirstNamed ns v l None) (sym e) names.none)

  module _ (row : List ℕ) (n : ℕ) (rest : List ℕ) (e : row ≡ n ∷ rest) where
    -- past a node without the name
    pub past_another : (IsNamed ns v n → ⊥) → (found last : Option ℕ) → LastFrom found rest last → LastFrom found row last
    past_another other found _ (no_later alone) = no_later (subst (λ l. FirstNamed ns v l None) (sym e) (names.later other alone))
    past_another other found _ (later {last = m} l) = subst (λ r. LastFrom found r (Some m)) (sym e) (later (one_more n rest (Some m) m refl l))

    -- past one with it, which is found then
    pub past_named : IsNamed ns v n → (found last : Option ℕ) → LastFrom (Some n) rest last → LastFrom found row last
    past_named named found _ (no_later alone) = subst (λ r. LastFrom found r (Some n)) (sym e) (later (last_named [] named alone))
    past_named named found _ (later {last = m} l) = subst (λ r. LastFrom found r (Some m)) (sym e) (later (one_more n rest (Some m) m refl l))

-- a node that has a name is a property
pub property_node : (ns : List Node) (n : ℕ) → content_at ns n ≡ property → typed_at ns n ≡ object_prop_node (record { number = n })
property_node ns n e = ap (λ c. typed c n) e

-- a property that a node is, is there where the node is
pub property_there : (ns : List Node) (node : CstNode) (p : Option CstObjectProp) → IsNodeOf ns node → IsAs object_prop_node node p → IfSome p (λ q. IsNodeOf ns (object_prop_node q))
property_there ns node None there kind_of = tt
property_there ns node (Some q) there kind_of = subst (IsNodeOf ns) ((kind_of q).0 refl) there

-- the property that was found, as a node of its kind
module _ {A : Type 0} (doc : CstRootNode A) (x : CstObject) (name : List ℕ) where
  pub found_typed : (n : ℕ) (node : CstNode) (p : Option CstObjectProp) → LastNamed (nodes_of doc) name (children_at (nodes_of doc) x.number) (Some n) → node ≡ typed_at (nodes_of doc) n → IsAs object_prop_node node p
      → IsChosenNamed Last doc x name p
  found_typed n node p last is kind_of =
      let kind : node ≡ object_prop_node (record { number = n }) = is ∙ property_node (nodes_of doc) n (last_has (nodes_of doc) name (children_at (nodes_of doc) x.number) (Some n) n refl last).0 in
      let there : p ≡ Some (record { number = n }) = (kind_of (record { number = n })).1 kind in
      subst (λ (q : Option CstObjectProp). IsChosenNamed Last doc x name q) (sym there) last

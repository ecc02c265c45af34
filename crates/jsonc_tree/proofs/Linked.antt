-- What the parents and places that a splice gives leave at each node.
use Rattle.std.proofs.Common.{◌≡◌, ℕ, [], ◌∷◌, inl, inr, length-set, ◌+◌, List, length, set, Option, refl, ap, ◌∙◌}
use Rattle.std.proofs.lemmas.List.{get_or-set_same, get_or-set_other, set_past}
use Rattle.std.proofs.lemmas.Bool.{cases_lt, cases_eq}
use Rattle.jsonc_tree.specs.Tree as tree
use Rattle.jsonc_tree.specs.Tree.{node_at, nowhere, children_at, parent_at}

-- these nodes get this parent
abbrev pub linked : List tree.Node → Option ℕ → List ℕ → List tree.Node
linked ns parent [] = ns
linked ns parent (x ∷ xs) = linked (set ns x (record (node_at ns x) { parent = parent })) parent xs

-- these nodes get the places from `first` on
abbrev pub placed : List ℕ → ℕ → List ℕ → List ℕ
placed ps first [] = ps
placed ps first (x ∷ xs) = placed (set ps x first) (first + 1) xs

-- these nodes get place 0
abbrev pub unplaced : List ℕ → List ℕ → List ℕ
unplaced ps [] = ps
unplaced ps (x ∷ xs) = unplaced (set ps x 0) xs

-- no link changes the children, what a node is or how many nodes there are
pub length-linked : (ns : List tree.Node) (p : Option ℕ) (xs : List ℕ) → length (linked ns p xs) ≡ length ns
length-linked ns p [] = refl
length-linked ns p (x ∷ xs) = length-linked _ p xs ∙ length-set ns x _

same_but_parent : (ns : List tree.Node) (p : Option ℕ) (n k : ℕ) → (q : Option ℕ) × (node_at (set ns n (record (node_at ns n) { parent = p })) k ≡ record (node_at ns k) { parent = q })
same_but_parent ns p n k =
    elim (cases_eq k n) [
      | inl e ↦ elim (cases_lt n (length ns)) [
        | inl h ↦ (p, rw e (get_or-set_same ns n (record (node_at ns n) { parent = p }) nowhere h))
        | inr h ↦ (parent_at ns k, ap (λ l. node_at l k) (set_past ns n (record (node_at ns n) { parent = p }) h))
      ]
      | inr ne ↦ (parent_at ns k, get_or-set_other ns n k (record (node_at ns n) { parent = p }) nowhere ne)
    ]

pub linked-keeps : (ns : List tree.Node) (p : Option ℕ) (xs : List ℕ) (k : ℕ) → (q : Option ℕ) × (node_at (linked ns p xs) k ≡ record (node_at ns k) { parent = q })
linked-keeps ns p [] k = (parent_at ns k, refl)
linked-keeps ns p (x ∷ xs) k =
    let first = same_but_parent ns p x k in
    let rest = linked-keeps (set ns x (record (node_at ns x) { parent = p })) p xs k in
    (rest.0, rest.1 ∙ ap (λ (m : tree.Node). record m { parent = rest.0 }) first.1)

pub children_at-linked : (ns : List tree.Node) (p : Option ℕ) (xs : List ℕ) (k : ℕ) → children_at (linked ns p xs) k ≡ children_at ns k
children_at-linked ns p xs k = ap (λ (m : tree.Node). m.children) (linked-keeps ns p xs k).1

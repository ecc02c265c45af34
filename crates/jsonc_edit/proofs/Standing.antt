-- Nodes as a row of trees: each with what is below it.
use Rattle.std.proofs.Common.{◌≡◌, ◌∙◌, ℕ, zero, suc, ◌<◌, List, [], ◌∷◌, ◌++◌, length, refl, ap}
use Rattle.std.proofs.lemmas.List.Elements.{All-head, All-tail}
use Rattle.std.specs.List.{All}
use Rattle.jsonc_tree.specs.Content.{Content, is_container, token}
use Rattle.jsonc_tree.specs.OrderedTree.{OrderedTree, Top, none, more, followed_by, grown, plant, Shows, shows_none, shows_more}
use Rattle.jsonc_tree.specs.Tree.{Node, content_at, children_at, IsTree}
use Rattle.jsonc_tree.proofs.OrderedTrees.{Shows-unique}
use Rattle.jsonc_layout.proofs.lemmas.nodes.InTree.{children_there}
use Rattle.jsonc_sound.specs.Shape.{token_then}
use Rattle.jsonc_edit.specs.Changes.{row_below}
use Rattle.jsonc_edit.proofs.ChangesUpward.{Shows-row_below}

abbrev pub standing : List Node → List ℕ → OrderedTree
standing ns [] = none
standing ns (n ∷ rest) = more (content_at ns n) (row_below ns n) (standing ns rest)

pub standing_then : (ns : List Node) (xs ys : List ℕ) → standing ns (xs ++ ys) ≡ followed_by (standing ns xs) (standing ns ys)
standing_then ns [] ys = refl
standing_then ns (n ∷ xs) ys = ap (more (content_at ns n) (row_below ns n)) (standing_then ns xs ys)

-- nodes stand for their row
pub shows_standing : (ns : List Node) → IsTree ns → (xs : List ℕ) → All (λ n. n < length ns) xs → Shows ns xs (standing ns xs)
shows_standing ns tree [] all = shows_none
shows_standing ns tree (n ∷ xs) all = shows_more (Shows-row_below ns tree n (All-head (λ m. m < length ns) n xs all)) (shows_standing ns tree xs (All-tail (λ m. m < length ns) n xs all))

-- what is below a node is what its children stand for: nothing, where it has none
pub row_stands : (ns : List Node) → IsTree ns → (n : ℕ) → n < length ns → row_below ns n ≡ standing ns (children_at ns n)
row_stands ns tree n there =
    Shows-unique ns (children_at ns n) (row_below ns n) (standing ns (children_at ns n)) (Shows-row_below ns tree n there) (shows_standing ns tree (children_at ns n) (children_there ns tree n))

pub bare_below : (ns : List Node) (n : ℕ) → children_at ns n ≡ [] → row_below ns n ≡ none
bare_below ns n e = by (length ns)
  where
    by : (depth : ℕ) → grown depth ns n ≡ none
    by zero = refl
    by (suc depth) = ap (plant (content_at ns) (grown depth ns)) e

-- a token stands for a leaf
pub token_first : (ns : List Node) → IsTree ns → (x k : ℕ) (row : OrderedTree) → content_at ns x ≡ token k → more (content_at ns x) (row_below ns x) row ≡ token_then k row
token_first ns tree x k row e = ap (λ w. more w (row_below ns x) row) e ∙ ap (λ b. more (token k) b row) (bare_below ns x (tree.leaf x (ap is_container e)))

pub brackets_stand : (ns : List Node) → IsTree ns → (x y j k : ℕ) (inner : List ℕ) → content_at ns x ≡ token j → content_at ns y ≡ token k → standing ns (x ∷ (inner ++ y ∷ [])) ≡ token_then j (followed_by (standing ns inner) (token_then k none))
brackets_stand ns tree x y j k inner e f =
    token_first ns tree x j (standing ns (inner ++ y ∷ [])) e ∙ ap (token_then j) (standing_then ns inner (y ∷ []) ∙ ap (followed_by (standing ns inner)) (token_first ns tree y k none f))

abbrev top_of : Content → OrderedTree → Top
top_of content below = record { content = content; below = below }

pub same_top : (a b : Content) (x y : OrderedTree) → a ≡ b → x ≡ y → top_of a x ≡ top_of b y
same_top a b x y e f = ap (λ w. top_of w x) e ∙ ap (top_of b) f

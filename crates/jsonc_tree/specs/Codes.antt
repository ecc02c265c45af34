-- A tree is data: its nodes have codes, and that they are a tree has one proof at most.
use Rattle.std.specs.Prelude.{◌≡◌, ℕ, ◌==◌, true, false, List, [], ◌∷◌, Option, Some, None, refl, if◌then◌else◌}
use Rattle.std.specs.Coded.{Coded, Coded-set, code_by, coded×, coded_list, coded_option, coded_ℕ, le_prop}
use mathlib.Core.Path.{sym, ap, ◌∙◌, path_j}
use mathlib.Core.HLevel.{is_prop→PathP}
use base.Stored.{coded_via}
use Rattle.jsonc_tree.specs.declared.node.CstNewlineKind.TheVariants.{LineFeed, CarriageReturnLineFeed, CarriageReturn}
use Rattle.jsonc_tree.specs.Content.{Content, root, object, array, property, string, word, number, boolean, null, token, whitespace, newline, comment}
use Rattle.jsonc_tree.specs.Tree.{Node, Tree, parent_at, Rooted, top, under, IsTree, IsTreeBy, place_at}

-- a content as a number for its kind and a list for its text
abbrev kind_and_text : Content → ℕ × List ℕ
kind_and_text root = (0, [])
kind_and_text object = (1, [])
kind_and_text array = (2, [])
kind_and_text property = (3, [])
kind_and_text (string s) = (4, s)
kind_and_text (word s) = (5, s)
kind_and_text (number s) = (6, s)
kind_and_text (boolean true) = (7, [])
kind_and_text (boolean false) = (8, [])
kind_and_text null = (9, [])
kind_and_text (token c) = (10, c ∷ [])
kind_and_text (whitespace s) = (11, s)
kind_and_text (newline LineFeed) = (12, [])
kind_and_text (newline CarriageReturnLineFeed) = (13, [])
kind_and_text (newline CarriageReturn) = (14, [])
kind_and_text (comment s) = (15, s)

abbrev token_of : List ℕ → Content
token_of [] = null
token_of (c ∷ cs) = token c

abbrev content_by : ℕ × List ℕ → Content
content_by p =
    if p.0 == 0 then root else
    if p.0 == 1 then object else
    if p.0 == 2 then array else
    if p.0 == 3 then property else
    if p.0 == 4 then string p.1 else
    if p.0 == 5 then word p.1 else
    if p.0 == 6 then number p.1 else
    if p.0 == 7 then boolean true else
    if p.0 == 8 then boolean false else
    if p.0 == 9 then null else
    if p.0 == 10 then token_of p.1 else
    if p.0 == 11 then whitespace p.1 else
    if p.0 == 12 then newline LineFeed else
    if p.0 == 13 then newline CarriageReturnLineFeed else
    if p.0 == 14 then newline CarriageReturn else
    comment p.1

pub content_back : (content : Content) → content_by (kind_and_text content) ≡ content
content_back root = refl
content_back object = refl
content_back array = refl
content_back property = refl
content_back (string s) = refl
content_back (word s) = refl
content_back (number s) = refl
content_back (boolean true) = refl
content_back (boolean false) = refl
content_back null = refl
content_back (token c) = refl
content_back (whitespace s) = refl
content_back (newline LineFeed) = refl
content_back (newline CarriageReturnLineFeed) = refl
content_back (newline CarriageReturn) = refl
content_back (comment s) = refl

abbrev pub content_code : Coded Content
content_code = code_by (ℕ × List ℕ) (coded× coded_ℕ (coded_list coded_ℕ)) kind_and_text content_by content_back

abbrev pub node_code : Coded Node
node_code =
    code_by (Content × (Option ℕ × List ℕ))
    (coded× content_code (coded× (coded_option coded_ℕ) (coded_list coded_ℕ)))
    (λ n. (n.content, (n.parent, n.children)))
    (λ p. record { content = p.0; parent = p.1.0; children = p.1.1 })
    (λ _. refl)

-- two facts of one equation are one
link_once : {x y : Option ℕ} → IsProp (x ≡ y)
link_once {x} {y} = Coded-set (coded_option coded_ℕ) x y

row_once : {x y : List ℕ} → IsProp (x ≡ y)
row_once {x} {y} = Coded-set (coded_list coded_ℕ) x y

number_once : {x y : ℕ} → IsProp (x ≡ y)
number_once {x} {y} = Coded-set coded_ℕ x y

not_both : {X : Type 0} (o : Option ℕ) (p : ℕ) → o ≡ None → o ≡ Some p → X
not_both o p e f = absurd (let wrong : None ≡ Some p = sym e ∙ f in cc)

same_some : (c d : ℕ) → Some c ≡ Some d → c ≡ d
same_some c d e = cc

-- the way up from a node is one
pub Rooted-prop : (ns : List Node) (n : ℕ) → IsProp (Rooted ns n)
Rooted-prop ns n (top e) (top f) = ap top (link_once e f)
Rooted-prop ns n (top e) (under {c = d} g s) = not_both (parent_at ns n) d e g
Rooted-prop ns n (under {c = c} f r) (top e) = not_both (parent_at ns n) c e f
Rooted-prop ns n (under {c = c} f r) (under {c = d} g s) =
    path_j (λ d _. (g : parent_at ns n ≡ Some d) (s : Rooted ns d) → under f r ≡ under g s)
    (λ g s i. under (link_once f g i) (Rooted-prop ns c r s i))
    (same_some c d (sym f ∙ g)) g s

pub IsTreeBy-prop : (ns : List Node) (place : ℕ → ℕ) → IsProp (IsTreeBy ns place)
IsTreeBy-prop ns place s t = λ i. record {
  first = le_prop s.first t.first i;
  root_first = Coded-set content_code _ _ s.root_first t.root_first i;
  root_alone = link_once s.root_alone t.root_alone i;
  leaf = λ n h. row_once (s.leaf n h) (t.leaf n h) i;
  in_tree = λ c k h. le_prop (s.in_tree c k h) (t.in_tree c k h) i;
  named = λ c k h. link_once (s.named c k h) (t.named c k h) i;
  placed = λ c k h. number_once (s.placed c k h) (t.placed c k h) i;
  within = λ n c h. le_prop (s.within n c h) (t.within n c h) i;
  found = λ n c h. number_once (s.found n c h) (t.found n c h) i;
  alone = λ n h. number_once (s.alone n h) (t.alone n h) i;
  rooted = λ n. Rooted-prop ns n (s.rooted n) (t.rooted n) i;
}

pub IsTree-prop : (ns : List Node) → IsProp (IsTree ns)
IsTree-prop ns = IsTreeBy-prop ns (place_at ns)

-- trees of the same nodes are the same
pub tree_same : (s t : Tree) → s.nodes ≡ t.nodes → s ≡ t
tree_same s t e = λ i. record {
  nodes = e i;
  tree = is_prop→PathP (λ j. IsTree (e j)) (λ j. IsTree-prop (e j)) s.tree t.tree i;
}

abbrev pub tree_code : Coded Tree
tree_code =
    coded_via (coded_list node_code) (λ t. t.nodes) tree_same

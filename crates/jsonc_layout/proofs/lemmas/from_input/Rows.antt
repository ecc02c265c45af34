-- Rows of laid nodes, node by node.
use Rattle.std.proofs.Common.{◌≡◌, ℕ, ◌+◌, ◌-◌, ◌<◌, ◌≤◌, Bool, true, false, ◌||◌, nat_lt, List, [], ◌∷◌, length, drop, get_or, if◌then◌else◌, ap, refl, sym, subst, ◌∙◌, arith}
use Rattle.std.proofs.lemmas.List.{drop_more, drop_all, length-drop}
use Rattle.std.proofs.lemmas.Bool.{lt-ltb, le-ltb}
use Rattle.std.specs.declared.string.String.{String}
use Rattle.jsonc_text.specs.Plain.{Items, no_items, item, Members}
use Rattle.jsonc_tree.specs.Tree.{Node}
use Rattle.jsonc_tree.specs.OrderedTree.{OrderedTree, none, followed_by, Top}
use Rattle.jsonc_tree.specs.Building.{Keeps}
use Rattle.jsonc_tree.proofs.Rows.{followed_by-none, followed_by-assoc}
use Rattle.jsonc_layout.specs.input.Views.{plain, items_plain, members_plain, chars_of}
use Rattle.jsonc_layout.specs.declared.input.value.CstInputValue.{CstInputValue}
use Rattle.jsonc_layout.specs.from_input.Layout.{Layout, deeper}
use Rattle.jsonc_layout.specs.from_input.Extending.{Extends, IsUnfinished}
use Rattle.jsonc_layout.specs.from_input.Laid.{node_then, comma_if, gap_if, line_then, is_some_node, on_lines, on_one_line, laid, laid_items, laid_members, laid_property, spread, elements_row, properties_row, holds_filled}
use Rattle.jsonc_layout.proofs.lemmas.from_input.Extending.{extends_none, extends_then, keeps_both}
use Rattle.jsonc_tree.proofs.Builder.{Keeps-same}

-- where none is wanted
pub no_comma : {a : List Node} {c : ℕ} (b : Bool) → b ≡ false → IsUnfinished a c → Extends a a c (comma_if b none)
no_comma true h u = let never : ⊥ = cc in absurd never
no_comma false h u = extends_none u

pub no_gap : {a : List Node} {c : ℕ} (b : Bool) → b ≡ false → IsUnfinished a c → Extends a a c (gap_if b none)
no_gap true h u = let never : ⊥ = cc in absurd never
no_gap false h u = extends_none u

-- one node and those after it
comma_followed : (b : Bool) (next : OrderedTree) → comma_if b next ≡ followed_by (comma_if b none) next
comma_followed true next = refl
comma_followed false next = refl

gap_followed : (b : Bool) (next : OrderedTree) → gap_if b next ≡ followed_by (gap_if b none) next
gap_followed true next = refl
gap_followed false next = refl

-- a node on a line of its own, or on one line with others, and what is between it and the next one
abbrev pub entry_on_line : Layout → Top → Bool → OrderedTree
entry_on_line layout node b = line_then layout (node_then node (comma_if b none))

abbrev pub entry_among : Top → Bool → OrderedTree
entry_among node b = node_then node (gap_if b none)

lines_more : (layout : Layout) (node : Top) (nodes : List Top) → on_lines layout (node ∷ nodes) none ≡ followed_by (entry_on_line layout node (layout.trailing_commas || is_some_node nodes)) (on_lines layout nodes none)
lines_more layout node nodes = ap (λ row. line_then layout (node_then node row)) (comma_followed (layout.trailing_commas || is_some_node nodes) (on_lines layout nodes none))

line_more : (node : Top) (nodes : List Top) → on_one_line (node ∷ nodes) none ≡ followed_by (entry_among node (is_some_node nodes)) (on_one_line nodes none)
line_more node nodes = ap (node_then node) (gap_followed (is_some_node nodes) (on_one_line nodes none))

-- a row that comes after
lines_then : (layout : Layout) (nodes : List Top) (past row : OrderedTree) → followed_by (on_lines layout nodes past) row ≡ on_lines layout nodes (followed_by past row)
lines_then layout [] past row = refl
lines_then layout (node ∷ nodes) past row =
    let b : Bool = layout.trailing_commas || is_some_node nodes in
    ap (λ t. line_then layout (node_then node (followed_by t row))) (comma_followed b (on_lines layout nodes past))
    ∙ ap (λ t. line_then layout (node_then node t)) (followed_by-assoc (comma_if b none) (on_lines layout nodes past) row ∙ ap (followed_by (comma_if b none)) (lines_then layout nodes past row) ∙ sym (comma_followed b (on_lines layout nodes (followed_by past row))))

line_then_row : (nodes : List Top) (row : OrderedTree) → followed_by (on_one_line nodes none) row ≡ on_one_line nodes row
line_then_row [] row = refl
line_then_row (node ∷ nodes) row =
    let b : Bool = is_some_node nodes in
    ap (λ t. node_then node (followed_by t row)) (gap_followed b (on_one_line nodes none))
    ∙ ap (node_then node) (followed_by-assoc (gap_if b none) (on_one_line nodes none) row ∙ ap (followed_by (gap_if b none)) (line_then_row nodes row) ∙ sym (gap_followed b (on_one_line nodes row)))

spread_then : (layout : Layout) (nodes : List Top) (row : OrderedTree) → followed_by (spread layout nodes none) row ≡ spread layout nodes row
spread_then layout [] row = refl
spread_then layout (node ∷ nodes) row = lines_then (deeper layout) (node ∷ nodes) (line_then layout none) row

choice_then : (b : Bool) (t u x y row : OrderedTree) → followed_by t row ≡ x → followed_by u row ≡ y → followed_by (if b then t else u) row ≡ (if b then x else y)
choice_then true t u x y row e f = e
choice_then false t u x y row e f = f

pub elements_then : (layout : Layout) (vs : Items) (row : OrderedTree) → followed_by (elements_row layout vs none) row ≡ elements_row layout vs row
elements_then layout vs row = choice_then (holds_filled vs) _ _ _ _ row (spread_then layout (laid_items (deeper layout) vs) row) (line_then_row (laid_items layout vs) row)

pub properties_then : (layout : Layout) (ms : Members) (row : OrderedTree) → followed_by (properties_row layout ms none) row ≡ properties_row layout ms row
properties_then layout ms row = spread_then layout (laid_members (deeper layout) ms) row

-- several lines and the beginning of the next one
pub elements_spread : (layout : Layout) (vs : Items) → holds_filled vs ≡ true
    → followed_by (on_lines (deeper layout) (laid_items (deeper layout) vs) none) (line_then layout none) ≡ elements_row layout vs none
elements_spread layout no_items h = let never : ⊥ = cc in absurd never
elements_spread layout (item v vs) h =
    lines_then (deeper layout) (laid_items (deeper layout) (item v vs)) none (line_then layout none)
    ∙ sym (ap (λ b. if b then spread layout (laid_items (deeper layout) (item v vs)) none else on_one_line (laid_items layout (item v vs)) none) h)

pub elements_flat : (layout : Layout) (vs : Items) → holds_filled vs ≡ false → on_one_line (laid_items layout vs) none ≡ elements_row layout vs none
elements_flat layout vs h = sym (ap (λ b. if b then spread layout (laid_items (deeper layout) vs) none else on_one_line (laid_items layout vs) none) h)

pub properties_spread : {A : Type 0} (layout : Layout) (ps : List (String A × CstInputValue A)) → 0 < length ps
    → followed_by (on_lines (deeper layout) (laid_members (deeper layout) (members_plain ps)) none) (line_then layout none) ≡ properties_row layout (members_plain ps) none
properties_spread layout [] h = absurd (omega arith)
properties_spread layout (p ∷ ps) h = lines_then (deeper layout) (laid_members (deeper layout) (members_plain (p ∷ ps))) none (line_then layout none)

pub properties_none : {A : Type 0} (layout : Layout) (ps : List (String A × CstInputValue A)) → length ps ≡ 0 → none ≡ properties_row layout (members_plain ps) none
properties_none layout [] h = refl
properties_none layout (p ∷ ps) h = absurd (omega (arith, h))

-- the row so far, and how what is left makes it whole
pub record Written (old now : List Node) (c : ℕ) (whole left : OrderedTree) : Type 0 where
  pub kept : Keeps c old now
  pub row : OrderedTree
  pub extends : Extends old now c row
  pub rest : followed_by row left ≡ whole

pub written_start : {a : List Node} {c : ℕ} (whole : OrderedTree) → IsUnfinished a c → Written a a c whole whole
written_start {a} {c} whole u = record { kept = Keeps-same c a; row = none; extends = extends_none u; rest = refl }

pub written_more : {a b d : List Node} {c : ℕ} {whole left after : OrderedTree} (t : OrderedTree) → Written a b c whole left → Keeps c b d → Extends b d c t → left ≡ followed_by t after → Written a d c whole after
written_more {left = left} {after = after} t w keeps extends e = record {
  kept = keeps_both w.kept keeps;
  row = followed_by w.row t;
  extends = extends_then w.extends extends;
  rest = followed_by-assoc w.row t after ∙ ap (followed_by w.row) (sym e) ∙ w.rest;
}

pub written_end : {a b : List Node} {c : ℕ} {whole left : OrderedTree} → Written a b c whole left → left ≡ none → Extends a b c whole
written_end {a} {b} {c} {whole} w e = subst (Extends a b c) (sym (followed_by-none w.row) ∙ ap (followed_by w.row) (sym e) ∙ w.rest) w.extends

others_left : {X : Type 0} (xs : List X) (i n : ℕ) → n ≡ length xs - i - 1 → n ≡ length (drop (i + 1) xs)
others_left xs i n e = omega (arith, e, length-drop (i + 1) xs)

-- what is left from a place on
module _ {A : Type 0} where
  abbrev pub lines_from : Layout → List (CstInputValue A) → ℕ → OrderedTree
  lines_from layout xs i = on_lines layout (laid_items layout (items_plain (drop i xs))) none

  abbrev pub line_from : Layout → List (CstInputValue A) → ℕ → OrderedTree
  line_from layout xs i = on_one_line (laid_items layout (items_plain (drop i xs))) none

  abbrev pub properties_from : Layout → List (String A × CstInputValue A) → ℕ → OrderedTree
  properties_from layout ps i = on_lines layout (laid_members layout (members_plain (drop i ps))) none

  pub lines_none : (layout : Layout) (xs : List (CstInputValue A)) (i : ℕ) → length xs ≤ i → lines_from layout xs i ≡ none
  lines_none layout xs i h = ap (λ l. on_lines layout (laid_items layout (items_plain l)) none) (drop_all i xs h)

  pub line_none : (layout : Layout) (xs : List (CstInputValue A)) (i : ℕ) → length xs ≤ i → line_from layout xs i ≡ none
  line_none layout xs i h = ap (λ l. on_one_line (laid_items layout (items_plain l)) none) (drop_all i xs h)

  pub properties_past : (layout : Layout) (ps : List (String A × CstInputValue A)) (i : ℕ) → length ps ≤ i → properties_from layout ps i ≡ none
  properties_past layout ps i h = ap (λ l. on_lines layout (laid_members layout (members_plain l)) none) (drop_all i ps h)

  some_items : (layout : Layout) (xs : List (CstInputValue A)) (n : ℕ) → n ≡ length xs → is_some_node (laid_items layout (items_plain xs)) ≡ nat_lt 0 n
  some_items layout [] n e = sym (le-ltb 0 n (omega (arith, e)))
  some_items layout (x ∷ xs) n e = sym (lt-ltb 0 n (omega (arith, e)))

  some_members : (layout : Layout) (ps : List (String A × CstInputValue A)) (n : ℕ) → n ≡ length ps → is_some_node (laid_members layout (members_plain ps)) ≡ nat_lt 0 n
  some_members layout [] n e = sym (le-ltb 0 n (omega (arith, e)))
  some_members layout (p ∷ ps) n e = sym (lt-ltb 0 n (omega (arith, e)))

  pub lines_at : (layout : Layout) (xs : List (CstInputValue A)) (i n : ℕ) (x : CstInputValue A) (b : Bool) → i < length xs → x ≡ get_or xs i x → n ≡ length xs - i - 1 → b ≡ (layout.trailing_commas || nat_lt 0 n)
      → lines_from layout xs i ≡ followed_by (entry_on_line layout (laid layout (plain x)) b) (lines_from layout xs (i + 1))
  lines_at layout xs i n x b h e k is =
      ap (λ l. on_lines layout (laid_items layout (items_plain l)) none) (drop_more xs i x h)
      ∙ ap (λ y. on_lines layout (laid layout (plain y) ∷ laid_items layout (items_plain (drop (i + 1) xs))) none) (sym e)
      ∙ lines_more layout (laid layout (plain x)) (laid_items layout (items_plain (drop (i + 1) xs)))
      ∙ ap (λ c. followed_by (entry_on_line layout (laid layout (plain x)) (layout.trailing_commas || c)) (lines_from layout xs (i + 1))) (some_items layout (drop (i + 1) xs) n (others_left xs i n k))
      ∙ ap (λ c. followed_by (entry_on_line layout (laid layout (plain x)) c) (lines_from layout xs (i + 1))) (sym is)

  pub line_at : (layout : Layout) (xs : List (CstInputValue A)) (i n : ℕ) (x : CstInputValue A) → i < length xs → x ≡ get_or xs i x → n ≡ length xs - i - 1
      → line_from layout xs i ≡ followed_by (entry_among (laid layout (plain x)) (nat_lt 0 n)) (line_from layout xs (i + 1))
  line_at layout xs i n x h e k =
      ap (λ l. on_one_line (laid_items layout (items_plain l)) none) (drop_more xs i x h)
      ∙ ap (λ y. on_one_line (laid layout (plain y) ∷ laid_items layout (items_plain (drop (i + 1) xs))) none) (sym e)
      ∙ line_more (laid layout (plain x)) (laid_items layout (items_plain (drop (i + 1) xs)))
      ∙ ap (λ c. followed_by (entry_among (laid layout (plain x)) c) (line_from layout xs (i + 1))) (some_items layout (drop (i + 1) xs) n (others_left xs i n k))

  -- the node of a property with its name and its value
  abbrev pub pair_laid : Layout → String A × CstInputValue A → Top
  pair_laid layout p = laid_property layout (chars_of p.0) (plain p.1)

  pub properties_at : (layout : Layout) (ps : List (String A × CstInputValue A)) (i n : ℕ) (p : String A × CstInputValue A) (b : Bool) → i < length ps → p ≡ get_or ps i p → n ≡ length ps - i - 1 → b ≡ (layout.trailing_commas || nat_lt 0 n)
      → properties_from layout ps i ≡ followed_by (entry_on_line layout (pair_laid layout p) b) (properties_from layout ps (i + 1))
  properties_at layout ps i n p b h e k is =
      ap (λ l. on_lines layout (laid_members layout (members_plain l)) none) (drop_more ps i p h)
      ∙ ap (λ q. on_lines layout (pair_laid layout q ∷ laid_members layout (members_plain (drop (i + 1) ps))) none) (sym e)
      ∙ lines_more layout (pair_laid layout p) (laid_members layout (members_plain (drop (i + 1) ps)))
      ∙ ap (λ c. followed_by (entry_on_line layout (pair_laid layout p) (layout.trailing_commas || c)) (properties_from layout ps (i + 1))) (some_members layout (drop (i + 1) ps) n (others_left ps i n k))
      ∙ ap (λ c. followed_by (entry_on_line layout (pair_laid layout p) c) (properties_from layout ps (i + 1))) (sym is)

-- one node more, on a line of its own or on the one line
pub line_written : {old now b d e : List Node} {c : ℕ} {whole left after : OrderedTree} (layout : Layout) (node : Top) (comma : Bool) → Written old now c whole left → left ≡ followed_by (entry_on_line layout node comma) after
    → Keeps c now b → Extends now b c (line_then layout none) → Keeps c b d → Extends b d c (node_then node none) → Keeps c d e → Extends d e c (comma_if comma none) → Written old e c whole after
line_written layout node comma w is k1 e1 k2 e2 k3 e3 = written_more (entry_on_line layout node comma) w (keeps_both (keeps_both k1 k2) k3) (extends_then (extends_then e1 e2) e3) is

pub among_written : {old now b d : List Node} {c : ℕ} {whole left after : OrderedTree} (node : Top) (gap : Bool) → Written old now c whole left → left ≡ followed_by (entry_among node gap) after
    → Keeps c now b → Extends now b c (node_then node none) → Keeps c b d → Extends b d c (gap_if gap none) → Written old d c whole after
among_written node gap w is k1 e1 k2 e2 = written_more (entry_among node gap) w (keeps_both k1 k2) (extends_then e1 e2) is

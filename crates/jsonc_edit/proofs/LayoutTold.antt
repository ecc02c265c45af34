-- What the layout that is read from a document has of its leaves: the end of a line that one of them is, or LF, and blanks of them, or spaces.
use Rattle.std.proofs.Common.{IfSome, ◌≡◌, ℕ, Bool, List, [], ◌∷◌, ◌++◌, All, length, Option, Some, None, refl, sym, subst, IsTrue}
use Rattle.std.proofs.lemmas.Bool.{cond_both}
use Rattle.std.proofs.lemmas.List.Elements.{All-nil, All-cons}
use Rattle.jsonc_text.specs.Text.{Many}
use Rattle.jsonc_tree.specs.Content.{Content, newline, whitespace}
use Rattle.jsonc_tree.specs.declared.node.CstNewlineKind.TheVariants.{LineFeed}
use Rattle.jsonc_tree.specs.Tree.{Node, content_at, IsTree, IsOver}
use Rattle.jsonc_tree.specs.OrderedTree.{OrderedTree, none, more, own_leaf, leaves, ordered_tree}
use Rattle.jsonc_sound.specs.Shape.{IsText}
use Rattle.jsonc_layout.specs.lines.Breadth.{is_in_document, levels, line_end_at, line_end_of, newline_kind_at, newline_kind_of}
use Rattle.jsonc_layout.specs.lines.Indents.{indents_at}
use Rattle.jsonc_edit.specs.Changes.{row_below, top_at}
use Rattle.jsonc_layout.specs.lines.Lines.{indent_at}
use Rattle.jsonc_sound.specs.ChangeLaws.{DiffersIn}
use Rattle.jsonc_sound.specs.TreeChanges.{leaves_of}
use Rattle.jsonc_edit.proofs.ChangesUpward.{Shows-row_below, document_is}
use Rattle.jsonc_edit.proofs.FittingCommas.{levels_over}
use Rattle.jsonc_edit.proofs.FittingFinds.{found_one}
use Rattle.jsonc_edit.proofs.FittingNodes.{Everywhere, ended, and_after, holds_from_root}
use Rattle.jsonc_edit.proofs.IndentsTold as told

module _ (Q : Content → Type 0) where
  -- so it is of each of these leaves
  abbrev pub Each : List Content → Type 0
  Each [] = Unit {0}
  Each (x ∷ ls) = Q x × Each ls

  pub each_first : (a b : List Content) → Each (a ++ b) → Each a
  each_first [] b h = tt
  each_first (x ∷ a) b h = (h.0, each_first a b h.1)

  pub each_second : (a b : List Content) → Each (a ++ b) → Each b
  each_second [] b h = h
  each_second (x ∷ a) b h = each_second a b h.1

  pub each_both : (a b : List Content) → Each a → Each b → Each (a ++ b)
  each_both [] b h k = k
  each_both (x ∷ a) b h k = (h.0, each_both a b h.1 k)

  -- so it is of leaves in which a stretch is another
  pub each_around : {was now x y : List Content} → DiffersIn was now x y → Each x → (Each was → Each now) → Each y
  each_around {was} {now} d h f =
      let h0 = subst Each d.before h in
      let h1 = each_second d.front (was ++ d.back) h0 in
      subst Each (sym d.after) (each_both d.front (now ++ d.back) (each_first d.front (was ++ d.back) h0) (each_both now d.back (f (each_first was d.back h1)) (each_second was d.back h1)))

  abbrev OwnLeaf : Content → OrderedTree → Type 0
  OwnLeaf content below = Each (own_leaf content)

  everywhere : (row : OrderedTree) → Each (leaves row) → Everywhere OwnLeaf row
  everywhere none h = ended
  everywhere (more content below after) h =
      let rest = each_second (own_leaf content) (leaves below ++ leaves after) h in
      and_after (each_first (own_leaf content) (leaves below ++ leaves after) h) (everywhere below (each_first (leaves below) (leaves after) rest)) (everywhere after (each_second (leaves below) (leaves after) rest))

  all_of : {row : OrderedTree} → Everywhere OwnLeaf row → Each (leaves row)
  all_of ended = tt
  all_of (and_after {content = content} {below = below} {after = after} here b a) = each_both (own_leaf content) (leaves below ++ leaves after) here (each_both (leaves below) (leaves after) (all_of b) (all_of a))

  module _ (ns : List Node) (tree : IsTree ns) (all : Each (leaves (ordered_tree ns 0))) where
    abbrev row : OrderedTree
    row = row_below ns 0

    in_row : Each (leaves row)
    in_row =
        let whole : Each (leaves row ++ []) = subst (λ t. Each (leaves t)) (sym (document_is ns tree row (Shows-row_below ns tree 0 tree.first))) all in
        each_first (leaves row) [] whole

    -- a node of the document that is a leaf is one of its leaves
    pub of_node : (n : ℕ) (w : Content) → IsOver ns 0 n → content_at ns n ≡ w → Each (own_leaf w)
    of_node n w over e =
        let first : Each (own_leaf (content_at ns 0)) = subst (λ (x : Content). Each (own_leaf x)) (sym tree.root_first) tt in
        subst (λ (x : Content). Each (own_leaf x)) e (holds_from_root OwnLeaf ns tree first (everywhere row in_row) n over).0

    -- and so are all leaves of it
    pub top_told : (n : ℕ) → IsOver ns 0 n → Each (leaves_of (top_at ns n))
    top_told n over =
        let first : Each (own_leaf (content_at ns 0)) = subst (λ (x : Content). Each (own_leaf x)) (sym tree.root_first) tt in
        let k = holds_from_root OwnLeaf ns tree first (everywhere row in_row) n over in
        each_both (own_leaf (content_at ns n)) (leaves (row_below ns n)) k.0 (all_of k.1)

    -- how lines end
    by_content : (w : Content) (n : ℕ) → IsOver ns 0 n → content_at ns n ≡ w → Q (newline LineFeed) → Q (newline (line_end_of w))
    by_content (newline k) n over e h = (of_node n (newline k) over e).0
    by_content _ n over e h = h

    by_found : (r : Option ℕ) → ((m : ℕ) → r ≡ Some m → IsOver ns 0 m) → Q (newline LineFeed) → Q (newline (line_end_at ns r))
    by_found None over h = h
    by_found (Some n) over h = by_content (content_at ns n) n (over n refl) refl h

    pub newline_of_told : Q (newline LineFeed) → Q (newline (newline_kind_of ns))
    newline_of_told h =
        let over : All (IsOver ns 0) (levels (length ns) ns (0 ∷ [])) = levels_over ns tree (length ns) (0 ∷ []) (All-cons (IsOver ns 0) 0 [] IsOver.itself (All-nil (IsOver ns 0))) in
        by_found _ (λ m f. (found_one _ (IsOver ns 0) (levels (length ns) ns (0 ∷ [])) m over f).0) h

    pub newline_told : Q (newline LineFeed) → (c : ℕ) → Q (newline (newline_kind_at ns c))
    newline_told h c = cond_both (is_in_document ns c) (newline_kind_of ns) LineFeed (λ k. Q (newline k)) (λ e. newline_of_told h) (λ e. h)

    -- the indent of a node's line
    pub line_indent_told : (p : ℕ → Bool) → IsTrue (p 0x20) → ((s : List ℕ) → Q (whitespace s) → IsText (Many p) s) → (n : ℕ) → IsOver ns 0 n → IfSome (indent_at ns n) (IsText (Many p))
    line_indent_told p space texts n over = told.line_indent p space ns tree (λ m s o e. texts s (of_node m (whitespace s) o e).0) n over

    -- and the indents at a node
    pub indents_told : (p : ℕ → Bool) → IsTrue (p 0x20) → ((s : List ℕ) → Q (whitespace s) → IsText (Many p) s) → (n : ℕ) → IsOver ns 0 n → IsText (Many p) (indents_at ns n).current × IsText (Many p) (indents_at ns n).single
    indents_told p space texts n over = told.indents_fit p space ns tree (λ m s o e. texts s (of_node m (whitespace s) o e).0) n over

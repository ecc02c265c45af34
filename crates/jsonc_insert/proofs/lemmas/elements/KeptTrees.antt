-- What a document tells of what comes into a container, once it has the row that this comes into, fits its options.
use Rattle.std.proofs.Common.{Bool, IsTrue, ◌≡◌, ◌≢◌, ◌∙◌, ◌<◌, ◌≤◌, ◌⊎◌, inl, inr, ℕ, false, List, [], ◌∷◌, length, get_or, slice_get, slice_index, Option, Some, None, IfSome, refl, sym, ap, subst, arith, rules}
use Rattle.std.proofs.lemmas.List.Elements.{All-filter}
use Rattle.std.proofs.lemmas.Option.{slice_get_cases}
use Rattle.std.proofs.lemmas.Str.{IsUtf8-from_ascii, chars-IsAscii}
use Rattle.jsonc_tree.specs.Content.{Content, newline, whitespace}
use Rattle.jsonc_tree.specs.declared.node.CstNewlineKind.TheVariants.{LineFeed}
use Rattle.jsonc_layout.specs.lines.Breadth.{newline_kind_at}
use Rattle.jsonc_edit.proofs.IndentsTold as joined
use Rattle.jsonc_edit.proofs.LayoutTold.{Each, indents_told, newline_told}
use Rattle.jsonc_insert.proofs.lemmas.elements.Told.{row_told}
use Rattle.jsonc_text.specs.Options.{Options}
use Rattle.jsonc_text.specs.Text.{Many, stop, step}
use Rattle.jsonc_tree.specs.Changes.{CanJoin, Splices}
use Rattle.jsonc_tree.specs.OrderedTree.{OrderedTree, none, followed_by, leaves, ordered_tree}
use Rattle.jsonc_tree.specs.Tree.{Node, children_at, content_at, is_in, parent_at, IsTree, IsOver}
use Rattle.jsonc_tree.proofs.RowSteps.{RowBecomes}
use Rattle.jsonc_tree.proofs.Splicing.{out_from}
use Rattle.jsonc_layout.specs.nodes.Kinds.{is_element_at}
use Rattle.jsonc_layout.specs.lines.Indents.{IndentTexts, indents_at}
use Rattle.jsonc_sound.specs.Leaves.{is_inner_blank}
use Rattle.jsonc_sound.specs.Rows.{RowKind, closing, holder, opening}
use Rattle.jsonc_sound.specs.Shape.{token_then, DocumentShaped, IsText}
use Rattle.jsonc_sound.specs.SoundTrees.{SoundTree}
use Rattle.jsonc_sound.specs.TreeChanges.{DocumentChanged}
use Rattle.jsonc_edit.specs.Paths.{IsAt}
use Rattle.jsonc_edit.specs.Writing.{FitsLayout, IsIndent}
use Rattle.jsonc_edit.specs.multiline.Laws.{bracketed}
use Rattle.jsonc_edit.proofs.FittingCommas.{commas_fit}
use Rattle.jsonc_edit.proofs.FittingIndents.{indents_fit, indent_joined}
use Rattle.jsonc_edit.proofs.FittingNodes.{children_over}
use Rattle.jsonc_edit.proofs.Uniqueness.{over_at}
use Rattle.jsonc_edit.proofs.Standing.{standing}
use Rattle.jsonc_edit.proofs.lemmas.multiline.BracketedRows.{row_given, BracketedRow}
use Rattle.jsonc_edit.proofs.PathsKept.{at_still}
use Rattle.jsonc_insert.specs.Inserted.{BecomesRow}
use Rattle.jsonc_insert.specs.Laws.{KeepsNodesBut}
use Rattle.jsonc_insert.specs.Planned.{elements}
use Rattle.jsonc_insert.specs.Settings.{indents_by, indents_inside, layout_inside, outer_indent}
use Rattle.jsonc_insert.specs.members.Opened.{IsOfRow}
use Rattle.jsonc_insert.proofs.Additions.{parent_out, whole_row}
use Rattle.jsonc_insert.proofs.RowReplaced.{may_join, IsRowFor}
use Rattle.jsonc_insert.proofs.lemmas.elements.Containers as containers
use Rattle.jsonc_edit.proofs.lemmas.multiline.SoundRows.{sound_with_row, IsRow}

-- two spaces are an indent, and so is one indent after another
pub two_spaces : IsIndent (0x20 ∷ 0x20 ∷ [])
two_spaces =
    (IsUtf8-from_ascii (0x20 ∷ 0x20 ∷ []) (search rules), subst (λ t. Many is_inner_blank t []) (sym (chars-IsAscii (0x20 ∷ 0x20 ∷ []) (search rules))) (step refl (step refl stop)))

abbrev AreIndents : IndentTexts → Type 0
AreIndents texts = IsIndent texts.current × IsIndent texts.single

-- in a document
module _ (ns : List Node) (tree : IsTree ns) (c : ℕ) (over : IsOver ns 0 c) where
  abbrev row : List ℕ
  row = children_at ns c

  first_over : IfSome (slice_get (elements ns row) 0) (IsOver ns 0)
  first_over = by (slice_get_cases (elements ns row) 0).1
    where
      by : ((m : ℕ) × (0 < length (elements ns row)) × (slice_get (elements ns row) 0 ≡ Some m) × (get_or (elements ns row) 0 m ≡ m)) ⊎ ((length (elements ns row) ≤ 0) × (slice_get (elements ns row) 0 ≡ None)) → IfSome (slice_get (elements ns row) 0) (IsOver ns 0)
      by (inl (m, lt, f, g)) = subst (λ w. IfSome w (IsOver ns 0)) (sym f) (subst (IsOver ns 0) g (All-filter (is_element_at ns) (IsOver ns 0) row (children_over ns tree c over) 0 m lt))
      by (inr (ge, f)) = subst (λ w. IfSome w (IsOver ns 0)) (sym f) tt

  -- whose leaves are so
  module _ (Q : Content → Type 0) (all : Each Q (leaves (ordered_tree ns 0))) (p : ℕ → Bool) (space : IsTrue (p 0x20)) (texts : (s : List ℕ) → Q (whitespace s) → IsText (Many p) s) where
    inside_so : IsText (Many p) (indents_inside ns c).current × IsText (Many p) (indents_inside ns c).single
    inside_so = by (slice_get (elements ns row) 0) first_over
      where
        by : (w : Option ℕ) → IfSome w (IsOver ns 0) → IsText (Many p) (indents_by ns c w).current × IsText (Many p) (indents_by ns c w).single
        by None h = let i = indents_told Q ns tree all p space texts c over in (joined.indent_joined p space (indents_at ns c).current (indents_at ns c).single i.0 i.1, i.1)
        by (Some n) h = indents_told Q ns tree all p space texts n h

-- in a sound document
module _ (o : Options) (ns : List Node) (tree : IsTree ns) (shaped : DocumentShaped o (ordered_tree ns 0)) (c : ℕ) (over : IsOver ns 0 c) where
  inside_fit : AreIndents (indents_inside ns c)
  inside_fit = by (slice_get (elements ns (children_at ns c)) 0) (first_over ns tree c over)
    where
      by : (w : Option ℕ) → IfSome w (IsOver ns 0) → AreIndents (indents_by ns c w)
      by None h = let i = indents_fit ns tree o shaped c over in (indent_joined (indents_at ns c).current (indents_at ns c).single i.0 i.1, i.1)
      by (Some n) h = indents_fit ns tree o shaped n h

  pub layout_told : FitsLayout o (layout_inside ns c)
  layout_told = record { current = inside_fit.0; single = inside_fit.1; commas = commas_fit ns tree o shaped c over }

  pub outer_told : IsIndent (outer_indent ns c)
  outer_told = (indents_fit ns tree o shaped c over).0

-- the nodes in which c has the row that something comes into
module _ (o : Options) (kind : RowKind) (old : List Node) (path : List ℕ) (c : ℕ) (tree : IsTree old) (sound : SoundTree o (ordered_tree old 0)) (at : IsAt old path c) (is : content_at old c ≡ holder kind) (lined : List Node) (was : List ℕ) (b : IsRowFor old lined c was) (kept : List Node) (has : BecomesRow lined kept c was)
    (row : OrderedTree) (stands : standing lined was ≡ token_then (opening kind) (followed_by row (token_then (closing kind) none))) (fits : IsRow o kind row) where
  there : c < length old
  there = containers.there o kind old path c tree sound at is

  a : BracketedRow old c kind
  a = containers.container_row o kind old path c tree sound at is

  same : children_at lined c ≡ children_at old c
  same = b.prepared.keeps.children c there

  joins : CanJoin lined c 0 (length (children_at old c)) was
  joins = may_join old lined tree b.prepared c there was b.once b.from

  changed : DocumentChanged (bracketed kind (standing old a.inner)) (bracketed kind row) path (ordered_tree old 0) (ordered_tree kept 0)
  changed =
      let put : Splices lined kept c 0 (length (children_at old c)) was = subst (λ k. Splices lined kept c 0 k was) (ap length same) has.put in
      row_given old tree c there a kept (record { ready = lined; from = 0; to = length (children_at old c); put = was; tree = tree; there = there; prepared = b.prepared; join = joins; spliced = put; after = has.tree }) refl refl row stands path at

  pub sound_kept : SoundTree o (ordered_tree kept 0)
  sound_kept = sound_with_row o kind (standing old a.inner) row path (ordered_tree old 0) (ordered_tree kept 0) changed sound fits

  row_kept : children_at kept c ≡ was
  row_kept = has.put.children ∙ whole_row (children_at lined c) was

  becomes : RowBecomes lined kept c
  becomes = subst (Splices lined kept c 0 (length (children_at lined c))) (sym row_kept) has.put

  not_in : (n : ℕ) → n < length old → parent_at old n ≢ Some c → is_in n was ≡ false
  not_in n h ne = out_from n was (λ k l f. by k f (b.from k 0 l))
    where
      by : (k : ℕ) → slice_index was k ≡ n → IsOfRow old lined c (slice_index was k) → ⊥
      by k f (inl said) = ne (sym (ap (parent_at old) f) ∙ said)
      by k f (inr fresh) = omega (arith, fresh.later, h, f)

  not_was : (n : ℕ) → parent_at old n ≢ Some c → is_in n (children_at lined c) ≡ false
  not_was n ne = ap (is_in n) same ∙ out_from n (children_at old c) (λ k l f. ne (sym (ap (parent_at old) f) ∙ tree.named c k l))

  keeps_but : KeepsNodesBut old kept c
  keeps_but = record {
    len = omega (arith, b.prepared.keeps.len, has.put.len);
    content = λ n h. has.put.content n ∙ b.prepared.keeps.content n h;
    children = λ n h ne. has.put.others n ne ∙ b.prepared.keeps.children n h;
    parent = λ n h ne. parent_out lined kept c becomes n (ap (is_in n) row_kept ∙ not_in n h ne) (not_was n ne) ∙ b.prepared.keeps.parent n h;
  }

  over_kept : IsOver kept 0 c
  over_kept = over_at kept has.tree path c (at_still old kept c tree keeps_but.content keeps_but.children path at)

  pub layout_fits : FitsLayout o (layout_inside kept c)
  layout_fits = layout_told o kept has.tree sound_kept.shaped c over_kept

  pub outer_fits : IsIndent (outer_indent kept c)
  outer_fits = outer_told o kept has.tree sound_kept.shaped c over_kept

  -- what holds of all leaves holds of those of that document
  pub kept_told : (Q : Content → Type 0) → Each Q (leaves (ordered_tree old 0)) → Each Q (leaves (standing lined was)) → Each Q (leaves (ordered_tree kept 0))
  kept_told Q all told = row_told Q kind (standing old a.inner) row path (ordered_tree old 0) (ordered_tree kept 0) changed (standing lined was) stands told all

  -- and so of what it tells
  module _ (Q : Content → Type 0) (all_kept : Each Q (leaves (ordered_tree kept 0))) where
    pub newline_so : Q (newline LineFeed) → Q (newline (newline_kind_at kept c))
    newline_so feed = newline_told Q kept has.tree all_kept feed c

    pub layout_so : (p : ℕ → Bool) → IsTrue (p 0x20) → ((s : List ℕ) → Q (whitespace s) → IsText (Many p) s) → IsText (Many p) (layout_inside kept c).current × IsText (Many p) (layout_inside kept c).single × IsText (Many p) (outer_indent kept c)
    layout_so p space texts = let i = inside_so kept has.tree c over_kept Q all_kept p space texts in (i.0, i.1, (indents_told Q kept has.tree all_kept p space texts c over_kept).0)

-- An array or object at a path of a sound document is put on several lines.
use Rattle.std.proofs.Common.{◌≡◌, ◌∙◌, ℕ, ◌<◌, Bool, true, false, ◌||◌, inl, inr, List, [], ◌∷◌, ◌++◌, All, length, map, not, IsTrue, refl, sym, ap, subst}
use Rattle.std.specs.List.{flat_map, list_any}
use Rattle.std.proofs.lemmas.Bool.{cases_Bool}
use Rattle.std.proofs.lemmas.List.Folds.{list_any-append}
use Rattle.jsonc_text.specs.Options.{Options}
use Rattle.jsonc_tree.specs.Content.{Content, newline, token, whitespace}
use Rattle.jsonc_tree.specs.OrderedTree.{leaves, ordered_tree, own_leaf}
use Rattle.jsonc_tree.specs.Tree.{Node, content_at, children_at, IsTree, IsOver}
use Rattle.jsonc_layout.specs.nodes.Kinds.{is_newline, is_newline_at}
use Rattle.jsonc_layout.specs.lines.Indents.{indents_at}
use Rattle.jsonc_layout.specs.lines.Kinds.{is_array_or_object}
use Rattle.jsonc_sound.specs.Rows.{RowKind, opening, closing}
use Rattle.jsonc_sound.specs.SoundTrees.{SoundTree}
use Rattle.jsonc_edit.specs.Paths.{IsAt}
use Rattle.jsonc_edit.specs.Writing.{IsIndent}
use Rattle.jsonc_edit.specs.multiline.Laws.{SpreadAt}
use Rattle.jsonc_edit.specs.multiline.Lines.{Lines, between, indent_if_any, lines_for, on_line, on_lines, parts, without_back, without_front}
use Rattle.jsonc_edit.specs.multiline.Multiline.{has_line_end, TakesRow, MadeMultiline}
use Rattle.jsonc_edit.specs.multiline.Reflows.{has_newline, Reflows, SpreadsOut, reflows}
use Rattle.jsonc_edit.specs.multiline.Slots.{Slot, comes, row_in}
use Rattle.jsonc_edit.proofs.FittingIndents.{indents_fit, indent_joined}
use Rattle.jsonc_edit.proofs.FittingNodes.{children_over, over_there}
use Rattle.jsonc_edit.proofs.LayoutTold.{Each, top_told}
use Rattle.jsonc_edit.specs.Changes.{top_at}
use Rattle.jsonc_sound.specs.TreeChanges.{leaves_of}
use Rattle.jsonc_edit.proofs.lemmas.multiline.RowsTold.{row_told}
use Rattle.jsonc_edit.proofs.Standing.{standing}
use Rattle.jsonc_edit.proofs.Uniqueness.{over_at}
use Rattle.jsonc_edit.proofs.lemmas.multiline.BracketedRows.{bracketed_row, in_row, inner_all, inner_there, row_stays, row_taken, BracketedRow}
use Rattle.jsonc_edit.proofs.lemmas.multiline.FilledRows.{AllFit, AllHold}
use Rattle.jsonc_edit.proofs.lemmas.multiline.OnLines.{on_lines_fit, on_lines_hold, row_newline, row_on_lines, row_reflows, standing_newline}

pub or_nothing : (a b : Bool) → b ≡ false → (a || (b || false)) ≡ a
or_nothing true b e = refl
or_nothing false b e = ap (λ c. c || false) e

-- no bracket is the end of a line
pub inner_ends : (ns : List Node) (x y j k : ℕ) (inner : List ℕ) → content_at ns x ≡ token j → content_at ns y ≡ token k → list_any (is_newline_at ns) (x ∷ (inner ++ y ∷ [])) ≡ list_any (is_newline_at ns) inner
inner_ends ns x y j k inner e f =
    let p : ℕ → Bool = is_newline_at ns in
    ap (λ b. b || list_any p (inner ++ y ∷ [])) (ap is_newline e) ∙ list_any-append p inner (y ∷ []) ∙ or_nothing (list_any p inner) (p y) (ap is_newline f)

module _ (o : Options) (old new : List Node) (path : List ℕ) (c : ℕ) (tree : IsTree old) (sound : SoundTree o (ordered_tree old 0)) (at : IsAt old path c) (holds : IsTrue (is_array_or_object (content_at old c))) where
  over : IsOver old 0 c
  over = over_at old tree path c at

  there : c < length old
  there = over_there old tree c over

  abbrev kind : RowKind
  kind = (bracketed_row o old path c tree sound at holds).0

  b : BracketedRow old c kind
  b = (bracketed_row o old path c tree sound at holds).1

  abbrev kids : List ℕ
  kids = children_at old c

  line_ends : has_newline (standing old b.inner) ≡ has_line_end old c
  line_ends = standing_newline old b.inner ∙ sym (ap (list_any (is_newline_at old)) b.children ∙ inner_ends old b.open_with b.last (opening kind) (closing kind) b.inner b.opens b.closes)

  abbrev lines : Lines
  lines = lines_for old c

  fits : IsIndent (indents_at old c).current × IsIndent (indents_at old c).single
  fits = indents_fit old tree o sound.shaped c over

  abbrev joined : IsIndent lines.inner
  joined = indent_joined (indents_at old c).current (indents_at old c).single fits.0 fits.1

  abbrev slots : List Slot
  slots = on_lines lines old (between kids)

  slots_fit : AllFit old slots
  slots_fit = on_lines_fit lines old (between kids) (subst (All (λ n. n < length old)) (sym (in_row old tree c there b)) (inner_there old tree c there b))

  row_now : Reflows (standing old b.inner) (row_in old slots)
  row_now = subst (λ (l : List ℕ). Reflows (standing old l) (row_in old slots)) (in_row old tree c there b) (row_reflows old tree lines joined fits.0 (between kids))

  -- where a line ended already, all stays
  unchanged : IsTrue (has_line_end old c) → SpreadAt path (ordered_tree old 0) (ordered_tree old 0)
  unchanged h = record {
    kind = kind;
    row = standing old b.inner;
    new = standing old b.inner;
    spreads = SpreadsOut.stays (line_ends ∙ h);
    lines = λ e. let ends : has_newline (standing old b.inner) ≡ true = line_ends ∙ h in cc;
    changed = row_stays old tree c there b path at;
  }

  spread_out : has_line_end old c ≡ false → TakesRow old new c slots → SpreadAt path (ordered_tree old 0) (ordered_tree new 0)
  spread_out h r = record {
    kind = kind;
    row = standing old b.inner;
    new = row_in old slots;
    spreads = reflows (line_ends ∙ h) (row_newline old lines.newline (map comes (indent_if_any lines.outer)) (flat_map (λ part. on_line lines (without_front old part)) (parts old (without_back old (between kids))))) row_now;
    lines = λ e. row_on_lines old tree lines joined fits.0 (between kids) (ap (list_any (is_newline_at old)) (in_row old tree c there b) ∙ sym (standing_newline old b.inner) ∙ e);
    changed = row_taken old tree c there b new r slots_fit path at;
  }

  pub spread_at : MadeMultiline old new c → SpreadAt path (ordered_tree old 0) (ordered_tree new 0)
  spread_at made =
      elim (cases_Bool (has_line_end old c)) [
        | inl had ↦ subst (λ ns. SpreadAt path (ordered_tree old 0) (ordered_tree ns 0)) (sym (made.was had)) (unchanged had)
        | inr lacked ↦ spread_out lacked (made.is (ap not lacked))
      ]

  -- and what holds of all leaves holds then, if it holds of the ends of lines and indents that come
  pub spread_told : (Q : Content → Type 0) → Each Q (leaves (ordered_tree old 0)) → Q (newline lines.newline) → Q (whitespace lines.inner) → Q (whitespace lines.outer) → MadeMultiline old new c → Each Q (leaves (ordered_tree new 0))
  spread_told Q all line inner outer made =
      let P : ℕ → Type 0 = λ n. Each Q (leaves_of (top_at old n)) in
      let kids_told : All P (children_at old c) = λ k d h. top_told Q old tree all _ (children_over old tree c over k d h) in
      let hold : AllHold P (λ content. Each Q (own_leaf content)) slots = on_lines_hold lines old P (λ content. Each Q (own_leaf content)) (line, tt) (inner, tt) (outer, tt) (between kids) (subst (All P) (sym (in_row old tree c there b)) (inner_all old tree c there b P kids_told)) in
      elim (cases_Bool (has_line_end old c)) [
        | inl had ↦ subst (λ (ns : List Node). Each Q (leaves (ordered_tree ns 0))) (sym (made.was had)) all
        | inr lacked ↦ row_told Q old tree c there b new path at (made.is (ap not lacked)) slots_fit hold all
      ]

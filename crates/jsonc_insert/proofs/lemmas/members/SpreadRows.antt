-- A property that has come into an object, which was put on several lines before.
use Rattle.std.proofs.Common.{◌≡◌, ◌<◌, ◌≤◌, ◌-◌, ◌+◌, false, ℕ, true, List, [], ◌∷◌, ◌++◌, length, slice_get, slice_index, None, Some, refl, sym, ap, subst, ◌∙◌, arith}
use Rattle.std.specs.List.{splice}
use Rattle.std.proofs.lemmas.List.{drop_all, drop_more}
use Rattle.jsonc_text.specs.Plain.{Plain}
use Rattle.jsonc_tree.specs.Building.{Keeps}
use Rattle.jsonc_tree.specs.Changes.{CanJoin, Splices}
use Rattle.jsonc_tree.specs.Content.{is_container}
use Rattle.jsonc_tree.specs.Tree.{Node, children_at, is_container_at, IsTree}
use Rattle.jsonc_tree.specs.Siblings.{CanFill, Fills, IsGap}
use Rattle.jsonc_tree.proofs.RowSteps.{RowBecomes-splice}
use Rattle.jsonc_tree.proofs.Stretches.{CanJoin-gone, Splices-more}
use Rattle.jsonc_edit.specs.Put.{Extends}
use Rattle.jsonc_edit.specs.multiline.Lines.{lines_for, spread_row}
use Rattle.jsonc_edit.specs.multiline.Multiline.{has_line_end}
use Rattle.jsonc_edit.specs.multiline.Plans.{PlannedRow}
use Rattle.jsonc_layout.proofs.lemmas.Building.{still_kept}
use Rattle.jsonc_insert.specs.Inserted.{EntryPut}
use Rattle.jsonc_insert.specs.Planned.{has_brackets}
use Rattle.jsonc_insert.specs.Trimmed.{trimmed}
use Rattle.jsonc_insert.specs.members.Inserted.{PropertyPut}
use Rattle.jsonc_insert.specs.members.Opened.{IsBefore, IsSpread, WasSpread}
use Rattle.jsonc_insert.proofs.Additions.{back_joins, keeps_back}
use Rattle.jsonc_insert.proofs.EntriesPut.{property_put}
use Rattle.jsonc_insert.proofs.RowReplaced.{may_join}
use Rattle.jsonc_insert.proofs.SamePlans.{trimmed_alike}
use Rattle.jsonc_insert.proofs.TrimmedRows.{has_two}
use Rattle.jsonc_insert.proofs.lemmas.members.Opening.{opens_lines, stays_open}
use Rattle.jsonc_insert.proofs.lemmas.members.RowReplaced.{row_before}

-- the row between the brackets is replaced
row_between : (xs ys : List ℕ) → 2 ≤ length xs → splice xs 1 (length xs - 1) ys ≡ slice_index xs 0 ∷ (ys ++ slice_index xs (length xs - 1) ∷ [])
row_between [] ys h = absurd (omega (arith, h))
row_between (x ∷ xs) ys h =
    let n : ℕ = length (x ∷ xs) - 1 in
    ap (λ l. x ∷ (ys ++ l)) (drop_more (x ∷ xs) n 0 (omega arith) ∙ ap (λ l. slice_index (x ∷ xs) n ∷ l) (drop_all (n + 1) (x ∷ xs) (omega arith)))

pub is_spread : (old lined new : List Node) (c : ℕ) (row : List ℕ) → IsTree old → c < length old → has_brackets old (children_at old c) ≡ true → has_line_end old c ≡ false → PlannedRow old lined c (spread_row (lines_for old c) old c) row → Extends old lined → IsTree new → (count : ℕ) → count ≡ length (children_at old c) → Splices lined new c 1 (count - 1) row → IsSpread old new c
is_spread old lined new c row tree there brackets none planned p done count all put =
    let same : children_at lined c ≡ children_at old c = p.keeps.children c there in
    let two = has_two old (children_at old c) brackets in
    let step : Splices lined new c 1 (length (children_at lined c) - 1) row = subst (λ k. Splices lined new c 1 (k - 1) row) (all ∙ ap length (sym same)) put in
    let is : children_at new c ≡ slice_index (children_at old c) 0 ∷ (row ++ slice_index (children_at old c) (length (children_at old c) - 1) ∷ []) =
    step.children ∙ row_between (children_at lined c) row (omega (arith, two, ap length same)) ∙ ap (λ (l : List ℕ). slice_index l 0 ∷ (row ++ slice_index l (length l - 1) ∷ [])) same in
    record {
      lined = lined;
      opens = opens_lines old tree c lined (spread_row (lines_for old c) old c) row brackets planned refl none p (children_at new c) is;
      put = record { put = RowBecomes-splice lined new p.tree done c 1 (length (children_at lined c) - 1) row step; tree = done };
    }

module _ (old now : List Node) (tree : IsTree old) (c : ℕ) (there : c < length old) (s : IsSpread old now c) where
  at : c < length s.lined
  at = omega (arith, there, s.opens.prepared.keeps.len)

  same : children_at s.lined c ≡ children_at old c
  same = s.opens.prepared.keeps.children c there

  join : CanJoin s.lined c 0 (length (children_at s.lined c)) (children_at now c)
  join = subst (λ k. CanJoin s.lined c 0 k (children_at now c)) (ap length (sym same)) (may_join old s.lined tree s.opens.prepared c there (children_at now c) s.opens.once s.opens.from)

  pub spread_there : c < length now
  spread_there = omega (arith, at, s.put.put.len)

  pub spread_holds : is_container_at old c ≡ true → is_container_at now c ≡ true
  spread_holds holds = ap is_container (s.put.put.content c ∙ s.opens.prepared.keeps.content c there) ∙ holds

  holds_now : is_container_at old c ≡ true → is_container_at s.lined c ≡ true
  holds_now holds = ap is_container (s.opens.prepared.keeps.content c there) ∙ holds

  pub put_spread : is_container_at old c ≡ true → (new : List Node) (i : ℕ) (name : List ℕ) (v : Plain) (m : ℕ) → EntryPut now new c (trimmed now (children_at now c)) i (Some name) v m → PropertyPut old new c i name v m
  put_spread holds new i name v m e =
      let lines : List ℕ = children_at now c in
      let was : List ℕ = trimmed s.lined lines in
      let before : IsBefore old s.lined c was = record { lines = lines; opens = s.opens; is = refl } in
      property_put old s.lined tree c there was before (row_before old s.lined c was before) (holds_now holds) now new s.put.tree s.put.put join i name v m
      (subst (λ r. EntryPut now new c r i (Some name) v m) (trimmed_alike s.lined now (λ n. s.put.put.content n) lines) e)

  -- where memory is refused
  module _ (mid : List Node) (tm : IsTree mid) (keeps : Keeps (length now) now mid) (holds : is_container_at old c ≡ true) where
    pub row_joins : (count : ℕ) (row : List ℕ) → count ≡ length (children_at mid c) → row ≡ children_at old c → CanJoin mid c 0 count row
    row_joins count row all had =
        subst (λ k. CanJoin mid c 0 k row) (sym all)
        (subst (CanJoin mid c 0 (length (children_at mid c))) (same ∙ sym had) (back_joins s.lined now mid s.opens.prepared.tree s.put.tree tm c at (holds_now holds) s.put.put join keeps))

    pub row_again : (count : ℕ) (row : List ℕ) → count ≡ length (children_at mid c) → row ≡ children_at old c → (new : List Node) → IsTree new → Splices mid new c 0 count row → Keeps (length old) old new
    row_again count row all had new tn put =
        still_kept old s.lined new s.opens.prepared.keeps
        (keeps_back s.lined now mid s.opens.prepared.tree s.put.tree tm c at (holds_now holds) s.put.put join keeps new
        (subst (Splices mid new c 0 (length (children_at mid c))) (had ∙ sym same) (subst (λ k. Splices mid new c 0 k row) all put)) tn)

-- an object that had the end of a line
pub put_kept : (old new : List Node) → IsTree old → (c i : ℕ) (name : List ℕ) (v : Plain) (m : ℕ) → has_brackets old (children_at old c) ≡ true → has_line_end old c ≡ true → EntryPut old new c (trimmed old (children_at old c)) i (Some name) v m → PropertyPut old new c i name v m
put_kept old new tree c i name v m brackets ended e = record {
  lined = old;
  was = trimmed old (children_at old c);
  before = record { lines = children_at old c; opens = stays_open old tree c (children_at old c) refl brackets ended; is = refl };
  ready = e.ready;
  row = e.row;
  prepared = e.prepared;
  made = e.made;
  join = e.join;
  put = e.put;
  tree = e.tree;
}

-- the object is one still
pub mid_holds : (old mid : List Node) (c : ℕ) (row : List ℕ) (w : WasSpread old mid c row) → is_container_at mid c ≡ true
mid_holds old mid c row w =
    ap is_container (w.later.content c (spread_there old w.spread w.tree c w.there w.is)) ∙ spread_holds old w.spread w.tree c w.there w.is w.holds

-- the row of an object that was put on several lines leaves, and the row that it had comes
module _ (old mid : List Node) (c : ℕ) (row : List ℕ) (tm : IsTree mid) (w : WasSpread old mid c row) where
  pub mid_there : c < length mid
  mid_there = omega (arith, spread_there old w.spread w.tree c w.there w.is, w.later.len)

  module _ (bare : List Node) (gone : Splices mid bare c 0 (length (children_at mid c)) []) where
    pub bare_there : c < length bare
    bare_there = omega (arith, mid_there, gone.len)

    bare_row : children_at bare c ≡ []
    bare_row = gone.children ∙ drop_all (length (children_at mid c)) (children_at mid c) (omega arith)

    pub bare_gap : IsGap bare c 0 None None
    bare_gap = record { inside = omega arith; front = refl; back = sym (ap (λ l. slice_get l 0) bare_row) }

    pub comes_back : CanFill bare c None None row
    comes_back = (0, bare_gap, CanJoin-gone mid bare c 0 (length (children_at mid c)) row gone (row_joins old w.spread w.tree c w.there w.is mid tm w.later w.holds (length (children_at mid c)) row refl w.had))

    pub came_back : (new : List Node) → IsTree new → Fills bare new c None None row → Keeps (length old) old new
    came_back new tn fills =
        row_again old w.spread w.tree c w.there w.is mid tm w.later w.holds (length (children_at mid c)) row refl w.had new tn
        (Splices-more mid bare new c 0 (length (children_at mid c)) 0 [] row (omega arith) (omega arith) (omega arith) gone (fills 0 bare_gap))

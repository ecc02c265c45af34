-- The nodes of an object on several lines, before they take their places, stand for its row on several lines.
use Rattle.std.proofs.Common.{◌≡◌, ◌∙◌, ◌<◌, ◌+◌, ◌-◌, ℕ, suc, Bool, true, false, cond, List, [], ◌∷◌, ◌++◌, All, length, map, slice_index, refl, sym, ap, subst, arith, length-append}
use Rattle.std.specs.List.{flat_map, list_any}
use Rattle.std.proofs.lemmas.List.{get_or-append-add, map-append}
use Rattle.std.proofs.lemmas.List.Elements.{All-head, All-tail}
use Rattle.jsonc_tree.specs.Content.{Content, newline, whitespace}
use Rattle.jsonc_edit.proofs.Lists.{all_rest}
use Rattle.jsonc_text.specs.Options.{Options}
use Rattle.jsonc_tree.specs.OrderedTree.{OrderedTree, more, ordered_tree}
use Rattle.jsonc_tree.specs.Tree.{Node, children_at, content_at, IsTree, IsOver}
use Rattle.jsonc_layout.specs.nodes.Kinds.{is_element, is_newline_at}
use Rattle.jsonc_layout.specs.lines.Indents.{indents_at}
use Rattle.jsonc_sound.specs.Shape.{DocumentShaped}
use Rattle.jsonc_sound.specs.Leaving.{element_count}
use Rattle.jsonc_sound.specs.Rows.{RowKind}
use Rattle.jsonc_edit.specs.Changes.{row_below}
use Rattle.jsonc_edit.proofs.FittingIndents.{indents_fit, indent_joined}
use Rattle.jsonc_edit.specs.multiline.Lines.{Lines, between, indent_if_any, lines_for, on_line, parts, spread_row, without_back, without_front}
use Rattle.jsonc_edit.specs.multiline.Multiline.{has_line_end}
use Rattle.jsonc_edit.specs.multiline.Reflows.{has_newline, Reflows, ended, kept, gone, line, line_end, SpreadsOut, reflows}
use Rattle.jsonc_edit.specs.multiline.Slots.{Slot, stays, comes, AreFilled, no_more, stayed, came, row_in}
use Rattle.jsonc_edit.proofs.FittingNodes.{over_there}
use Rattle.jsonc_edit.proofs.lemmas.multiline.BracketedRows.{in_row, inner_all, inner_there, last_there, open_there, BracketedRow}
use Rattle.jsonc_edit.proofs.lemmas.multiline.FilledRows.{fit_then, hold_then, AllFit, AllHold}
use Rattle.jsonc_edit.proofs.lemmas.multiline.OnLines.{on_lines_fit, on_lines_hold, row_newline, row_reflows, standing_newline}
use Rattle.jsonc_edit.proofs.lemmas.multiline.Documents.{inner_ends}
use Rattle.jsonc_edit.proofs.Standing.{standing}
use Rattle.jsonc_insert.specs.members.Opened.{enclosed, opened}

-- children that stay
pub stays_row : (ns : List Node) (xs : List ℕ) → row_in ns (map stays xs) ≡ standing ns xs
stays_row ns [] = refl
stays_row ns (n ∷ xs) = ap (more (content_at ns n) (row_below ns n)) (stays_row ns xs)

pub stays_hold : (P : ℕ → Type 0) (C : Content → Type 0) (xs : List ℕ) → All P xs → AllHold P C (map stays xs)
stays_hold P C [] all = tt
stays_hold P C (n ∷ xs) all = (All-head P n xs all, stays_hold P C xs (All-tail P n xs all))

pub stays_fit : (ns : List Node) (xs : List ℕ) → All (λ n. n < length ns) xs → AllFit ns (map stays xs)
stays_fit ns [] all = tt
stays_fit ns (n ∷ xs) all = (All-head (λ m. m < length ns) n xs all, stays_fit ns xs (All-tail (λ m. m < length ns) n xs all))

-- nodes that fill places
pub record Parted (old ready : List Node) (first second : List Slot) (row : List ℕ) : Type 0 where
  pub front : List ℕ
  pub back : List ℕ
  pub is : row ≡ front ++ back
  pub fills : AreFilled old ready first front
  pub fills_rest : AreFilled old ready second back

module _ (old ready : List Node) where
  parted_filled : (first second : List Slot) {row : List ℕ} → AreFilled old ready (first ++ second) row → Parted old ready first second row
  parted_filled [] second {row = row} f = record { front = []; back = row; is = refl; fills = no_more; fills_rest = f }
  parted_filled (stays m ∷ first) second (stayed {n = n} f) =
      let d = parted_filled first second f in
      record { front = n ∷ d.front; back = d.back; is = ap (λ (l : List ℕ). n ∷ l) d.is; fills = stayed d.fills; fills_rest = d.fills_rest }
  parted_filled (comes w ∷ first) second (came {n = n} later there is alone f) =
      let d = parted_filled first second f in
      record { front = n ∷ d.front; back = d.back; is = ap (λ (l : List ℕ). n ∷ l) d.is; fills = came later there is alone d.fills; fills_rest = d.fills_rest }

  one_filled : (n : ℕ) {row : List ℕ} → AreFilled old ready (stays n ∷ []) row → row ≡ n ∷ []
  one_filled n (stayed no_more) = refl

-- a row has the elements that it had where it reflows
reflow_count : {x y : OrderedTree} → Reflows x y → element_count y ≡ element_count x
reflow_count ended = refl
reflow_count (kept {content = content} r) = ap (λ n. cond (is_element content) (suc n) n) (reflow_count r)
reflow_count (gone h r) = reflow_count r
reflow_count (line t r) = reflow_count r
reflow_count (line_end r) = reflow_count r

pub spread_count : {x y : OrderedTree} → SpreadsOut x y → element_count y ≡ element_count x
spread_count (SpreadsOut.stays h) = refl
spread_count (reflows h k r) = reflow_count r

module _ (o : Options) (kind : RowKind) (old : List Node) (c : ℕ) (tree : IsTree old) (shaped : DocumentShaped o (ordered_tree old 0)) (over : IsOver old 0 c) (a : BracketedRow old c kind) where
  there : c < length old
  there = over_there old tree c over

  abbrev kids : List ℕ
  kids = children_at old c

  row_between : between kids ≡ a.inner
  row_between = in_row old tree c there a

  abbrev x : ℕ
  x = a.open_with

  abbrev y : ℕ
  y = a.last

  abbrev spread : List Slot
  spread = spread_row (lines_for old c) old c

  -- what stands between the brackets
  pub inside_by : Bool → List Slot
  inside_by true = map stays a.inner
  inside_by false = spread

  pub inside : List Slot
  inside = inside_by (has_line_end old c)

  first_is : slice_index kids 0 ≡ x
  first_is = ap (λ l. slice_index l 0) a.children

  last_is : slice_index kids (length kids - 1) ≡ y
  last_is =
      ap (λ l. slice_index l (length l - 1)) a.children
      ∙ ap (slice_index (x ∷ (a.inner ++ y ∷ []))) (let z : length (x ∷ (a.inner ++ y ∷ [])) - 1 ≡ suc (length a.inner + 0) = omega (arith, length-append a.inner (y ∷ [])) in z)
      ∙ get_or-append-add a.inner (y ∷ []) 0 0

  pub opened_is : opened old c ≡ stays x ∷ (inside ++ stays y ∷ [])
  unfolding inside inside_by
  opened_is = by (has_line_end old c)
    where
      by : (b : Bool) → cond b (map stays kids) (enclosed kids spread) ≡ stays x ∷ (inside_by b ++ stays y ∷ [])
      by true = ap (map stays) a.children ∙ ap (λ l. stays x ∷ l) (map-append stays a.inner (y ∷ []))
      by false = ap (λ n. stays n ∷ (spread ++ stays (slice_index kids (length kids - 1)) ∷ [])) first_is ∙ ap (λ n. stays x ∷ (spread ++ stays n ∷ [])) last_is

  pub inside_fit : AllFit old inside
  unfolding inside inside_by
  inside_fit = by (has_line_end old c)
    where
      by : (b : Bool) → AllFit old (inside_by b)
      by true = stays_fit old a.inner (inner_there old tree c there a)
      by false = on_lines_fit (lines_for old c) old (between kids) (subst (All (λ n. n < length old)) (sym row_between) (inner_there old tree c there a))

  pub opened_fit : AllFit old (stays x ∷ (inside ++ stays y ∷ []))
  opened_fit = (open_there old tree c there a, fit_then old inside (stays y ∷ []) inside_fit (last_there old tree c there a, tt))

  -- such children, and such leaves that come
  module _ (P : ℕ → Type 0) (C : Content → Type 0) (begins : C (newline (lines_for old c).newline)) (deep : C (whitespace (lines_for old c).inner)) (outer : C (whitespace (lines_for old c).outer)) (all : All P kids) where
    inside_hold : AllHold P C inside
    unfolding inside inside_by
    inside_hold = by (has_line_end old c)
      where
        by : (b : Bool) → AllHold P C (inside_by b)
        by true = stays_hold P C a.inner (inner_all old tree c there a P all)
        by false = on_lines_hold (lines_for old c) old P C begins deep outer (between kids) (subst (All P) (sym row_between) (inner_all old tree c there a P all))

    pub opened_hold : AllHold P C (stays x ∷ (inside ++ stays y ∷ []))
    opened_hold =
        let whole : All P (x ∷ (a.inner ++ y ∷ [])) = subst (All P) a.children all in
        (All-head P x (a.inner ++ y ∷ []) whole, hold_then P C inside (stays y ∷ []) inside_hold (All-head P y [] (all_rest P a.inner (y ∷ []) (All-tail P x (a.inner ++ y ∷ []) whole)), tt))

  line_ends : has_newline (standing old a.inner) ≡ has_line_end old c
  line_ends = standing_newline old a.inner ∙ sym (ap (list_any (is_newline_at old)) a.children ∙ inner_ends old x y _ _ a.inner a.opens a.closes)

  pub spreads : SpreadsOut (standing old a.inner) (row_in old inside)
  unfolding inside inside_by
  spreads = by (has_line_end old c) refl
    where
      by : (b : Bool) → has_line_end old c ≡ b → SpreadsOut (standing old a.inner) (row_in old (inside_by b))
      by true e = subst (SpreadsOut (standing old a.inner)) (sym (stays_row old a.inner)) (SpreadsOut.stays (line_ends ∙ e))
      by false e =
          let lines : Lines = lines_for old c in
          let fit = indents_fit old tree o shaped c over in
          let row : Reflows (standing old a.inner) (row_in old spread) =
          subst (λ (l : List ℕ). Reflows (standing old l) (row_in old spread)) row_between (row_reflows old tree lines (indent_joined (indents_at old c).current (indents_at old c).single fit.0 fit.1) fit.0 (between kids)) in
          reflows (line_ends ∙ e) (row_newline old lines.newline (map comes (indent_if_any lines.outer)) (flat_map (λ part. on_line lines (without_front old part)) (parts old (without_back old (between kids))))) row

  -- nodes that fill the places of the row on several lines have the brackets around what is in them
  module _ (lined : List Node) (lines : List ℕ) (filled : AreFilled old lined (opened old c) lines) where
    pub first_part : Parted old lined (stays x ∷ []) (inside ++ stays y ∷ []) lines
    first_part = parted_filled old lined (stays x ∷ []) (inside ++ stays y ∷ []) (subst (λ s. AreFilled old lined s lines) opened_is filled)

    pub last_part : Parted old lined inside (stays y ∷ []) first_part.back
    last_part = parted_filled old lined inside (stays y ∷ []) first_part.fills_rest

    abbrev pub lined_inner : List ℕ
    lined_inner = last_part.front

    pub inner_fills : AreFilled old lined inside lined_inner
    inner_fills = last_part.fills

    pub lines_are : lines ≡ x ∷ (lined_inner ++ y ∷ [])
    lines_are =
        first_part.is ∙ ap (λ (l : List ℕ). l ++ first_part.back) (one_filled old lined x first_part.fills)
        ∙ ap (λ (l : List ℕ). x ∷ l) (last_part.is ∙ ap (λ (l : List ℕ). lined_inner ++ l) (one_filled old lined y last_part.fills_rest))

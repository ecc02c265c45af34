-- The elements of an array or object at a path of a sound document come in another order.
use Rattle.std.proofs.Common.{◌≡◌, ◌∙◌, ℕ, ◌<◌, Bool, true, false, not, ◌&&◌, inl, inr, List, [], ◌∷◌, ◌++◌, All, length, map, IsTrue, refl, sym, ap, subst}
use Rattle.std.specs.Prelude.{if◌then◌else◌, zip, IsPermutation}
use Rattle.std.specs.List.{range_with_len}
use Rattle.std.proofs.lemmas.Bool.{cases_Bool}
use Rattle.jsonc_text.specs.Options.{Options}
use Rattle.jsonc_tree.specs.Content.{Content, newline, token}
use Rattle.jsonc_tree.specs.OrderedTree.{OrderedTree, Top, none, more, followed_by, leaves, ordered_tree, own_leaf}
use Rattle.jsonc_tree.specs.Tree.{Node, content_at, children_at, IsTree, IsOver}
use Rattle.jsonc_tree.specs.declared.node.CstNewlineKind.{CstNewlineKind}
use Rattle.jsonc_layout.specs.lines.Breadth.{newline_kind_at}
use Rattle.jsonc_layout.specs.lines.Kinds.{is_array_or_object}
use Rattle.jsonc_sound.specs.Lines.{is_line_comment}
use Rattle.jsonc_sound.specs.Shape.{token_then}
use Rattle.jsonc_sound.specs.Rows.{RowKind, closing, container_of}
use Rattle.jsonc_sound.specs.SoundTrees.{SoundTree}
use Rattle.jsonc_sound.specs.TreeChanges.{DocumentChanged, leaves_of}
use Rattle.jsonc_edit.specs.Changes.{row_below, top_at}
use Rattle.jsonc_edit.specs.Paths.{IsAt}
use Rattle.jsonc_edit.proofs.FittingNodes.{children_over, over_there}
use Rattle.jsonc_edit.specs.remove.Removed.{has_brackets}
use Rattle.jsonc_edit.specs.multiline.Laws.{bracketed}
use Rattle.jsonc_edit.specs.multiline.Lines.{between}
use Rattle.jsonc_edit.specs.multiline.Multiline.{TakesRow}
use Rattle.jsonc_edit.specs.multiline.Slots as multiline
use Rattle.jsonc_edit.proofs.Standing.{standing}
use Rattle.jsonc_edit.proofs.lemmas.multiline.BracketedRows.{bracketed_row, in_row, inner_all, inner_there, row_stays, row_taken, BracketedRow}
use Rattle.jsonc_edit.proofs.LayoutTold as leaves_told
use Rattle.jsonc_edit.proofs.lemmas.multiline.RowsTold.{row_told}
use Rattle.jsonc_edit.proofs.lemmas.multiline.FilledRows.{AllFit, AllHold, IsLeaf}
use Rattle.jsonc_edit.proofs.lemmas.multiline.LineEnds.{has_its_brackets}
use Rattle.jsonc_edit.proofs.Uniqueness.{over_at}
use Rattle.jsonc_sort.specs.Slots.{Slot, stays, comes, all_stay, row_in, row_then}
use Rattle.jsonc_sort.specs.Parts.{has_comma}
use Rattle.jsonc_sort.specs.Sorting.{Entry, Headers, ends_with_comma, entries, entry_at, goes_on, is_unchanged, lines_ended, placed, placed_one, rearranged, row_end, slot_content, sorted, tail_with, travelling, without_comma}
use Rattle.jsonc_sort.specs.Laws.{IsOrderOf, Sort, container_after, container_before, slots_of}
use Rattle.jsonc_sort.specs.Above.{PinUnderBlankLines, PinsUnderBlankLines, leads}
use Rattle.jsonc_sort.specs.Paths.{PinsIn, SortedAt, SortsAt}
use Rattle.jsonc_sort.specs.Rearranged.{IsOrderIn, Rearranged, row_sorted}
use Rattle.jsonc_sort.proofs.Choices.{Each, all_each, choose, each_joined}
use Rattle.jsonc_sort.proofs.Documents.{row_joined}
use Rattle.jsonc_sort.proofs.Lines as lines
use Rattle.jsonc_sort.proofs.Lines.{rearranged_held}
use Rattle.jsonc_sort.proofs.SortedRow.{elements_between, lines_held}
use Rattle.jsonc_sort.proofs.Weights.{entry_count}

-- of what comes this holds: commas, and ends of lines
module _ (C : Content → Type 0) where
  abbrev ComesSo : Slot → Type 0
  ComesSo (stays n) = Unit {0}
  ComesSo (comes content) = C content

  all_come_so : (row : List ℕ) → Each ComesSo (all_stay row)
  all_come_so [] = tt
  all_come_so (n ∷ row) = (tt, all_come_so row)

module _ (C : Content → Type 0) (comma : C (token 0x2C)) (at : ℕ → Content) where
  tail_leaves : (comma : Bool) (tail : List ℕ) → Each (ComesSo C) (tail_with at comma tail)
  tail_leaves true tail = choose (Each (ComesSo C)) (has_comma at tail) (all_stay tail) (comes (token 0x2C) ∷ all_stay tail) (all_come_so C tail) (comma, all_come_so C tail)
  tail_leaves false tail = choose (Each (ComesSo C)) (has_comma at tail) (all_stay (without_comma at tail)) (all_stay tail) (all_come_so C (without_comma at tail)) (all_come_so C tail)

  one_leaves : (first comma : Bool) (p : Entry × Entry) → Each (ComesSo C) (placed_one at first comma p)
  one_leaves first comma p =
      let front : List Slot = all_stay p.0.lead.front in
      let travels : List Slot = all_stay (travelling at first p.1.lead.travels) in
      let indent : List Slot = all_stay p.0.lead.indent in
      each_joined (ComesSo C) (front ++ travels ++ indent) (stays p.1.element ∷ tail_with at comma p.1.tail)
      (each_joined (ComesSo C) (front ++ travels) indent (each_joined (ComesSo C) front travels (all_come_so C p.0.lead.front) (all_come_so C (travelling at first p.1.lead.travels))) (all_come_so C p.0.lead.indent))
      (tt, tail_leaves comma p.1.tail)

  placed_leaves : (first commas : Bool) (ps : List (Entry × Entry)) → Each (ComesSo C) (placed at first commas ps)
  placed_leaves first commas [] = tt
  placed_leaves first commas (p ∷ []) = one_leaves first commas p
  placed_leaves first commas (p ∷ q ∷ rest) = each_joined (ComesSo C) (placed_one at first true p) (placed at false commas (q ∷ rest)) (one_leaves first true p) (placed_leaves false commas (q ∷ rest))

  lines_leaves : (k : CstNewlineKind) → C (newline k) → (slots : List Slot) → Each (ComesSo C) slots → Each (ComesSo C) (lines_ended at k slots)
  lines_leaves k line [] h = tt
  lines_leaves k line (s ∷ slots) h =
      choose (Each (ComesSo C)) (is_line_comment (slot_content at s) && goes_on at slots) (s ∷ comes (newline k) ∷ lines_ended at k slots) (s ∷ lines_ended at k slots)
      (h.0, (line, lines_leaves k line slots h.1)) (h.0, lines_leaves k line slots h.1)

  sorted_leaves : (k : CstNewlineKind) → C (newline k) → (h : Headers) (row order : List ℕ) → Each (ComesSo C) (sorted at k h row order)
  sorted_leaves k line h row order =
      let es : List Entry = entries at h row in
      choose (Each (ComesSo C)) (is_unchanged order) (all_stay row) (lines_ended at k (rearranged at es order ++ all_stay (row_end at row))) (all_come_so C row)
      (lines_leaves k line (rearranged at es order ++ all_stay (row_end at row)) (each_joined (ComesSo C) (rearranged at es order) (all_stay (row_end at row)) (placed_leaves true (ends_with_comma at es) (zip es (map (entry_at es) order))) (all_come_so C (row_end at row))))

module _ (at : ℕ → Content) where
  sorted_held : (P : ℕ → Type 0) (k : CstNewlineKind) (h : Headers) (row order : List ℕ) → Each P row → IsPermutation (range_with_len 0 (length (entries at h row))) order → Each (lines.Held at P) (sorted at k h row order)
  sorted_held P k h row order each p =
      choose (Each (lines.Held at P)) (is_unchanged order) (all_stay row) (lines_ended at k (rearranged at (entries at h row) order ++ all_stay (row_end at row))) (stay_held row each)
      (lines_held at P k (rearranged at (entries at h row) order ++ all_stay (row_end at row)) (rearranged_held at P h row order each p))
    where
      stay_held : (row : List ℕ) → Each P row → Each (lines.Held at P) (all_stay row)
      stay_held [] e = tt
      stay_held (n ∷ row) e = (e.0, stay_held row e.1)

all_hold : (P : ℕ → Type 0) (C : Content → Type 0) (at : ℕ → Content) (slots : List Slot) → Each (lines.Held at P) slots → Each (ComesSo C) slots → AllHold P C slots
all_hold P C at [] h k = tt
all_hold P C at (stays n ∷ slots) h k = (h.0, all_hold P C at slots h.1 k.1)
all_hold P C at (comes content ∷ slots) h k = (k.0, all_hold P C at slots h.1 k.1)

-- the row of trees in places, by numbers of nodes
rows_same : (old : List Node) (slots : List Slot) → multiline.row_in old slots ≡ row_in (top_at old) slots
rows_same old [] = refl
rows_same old (stays n ∷ slots) = ap (more (content_at old n) (row_below old n)) (rows_same old slots)
rows_same old (comes content ∷ slots) = ap (more content none) (rows_same old slots)

-- and the row of those that stay
all_stand : (ns : List Node) (xs : List ℕ) → row_in (top_at ns) (all_stay xs) ≡ standing ns xs
all_stand ns [] = refl
all_stand ns (n ∷ xs) = ap (more (content_at ns n) (row_below ns n)) (all_stand ns xs)

module _ (o : Options) (old new : List Node) (path : List ℕ) (c : ℕ) (h : Headers) (order : List ℕ) (tree : IsTree old) (after : IsTree new) (sound : SoundTree o (ordered_tree old 0)) (at : IsAt old path c) (holds : IsTrue (is_array_or_object (content_at old c))) (perm : IsOrderIn old c order) where
  over : IsOver old 0 c
  over = over_at old tree path c at

  there : c < length old
  there = over_there old tree c over

  abbrev kind : RowKind
  kind = (bracketed_row o old path c tree sound at holds).0

  b : BracketedRow old c kind
  b = (bracketed_row o old path c tree sound at holds).1

  whole : IsTrue (has_brackets old c)
  whole = has_its_brackets o old path c tree sound at holds

  abbrev top : ℕ → Top
  top = top_at old

  abbrev s : Sort
  s = record { newline = newline_kind_at old c; headers = h; row = between (children_at old c); order = order }

  abbrev close : OrderedTree
  close = token_then (closing kind) none

  -- with these places between its brackets
  was_is : container_of kind (followed_by (standing old b.inner) close) ≡ container_before kind top s
  was_is =
      ap (container_of kind) (ap (λ r. followed_by r close) (sym (all_stand old b.inner)) ∙ row_joined top (all_stay b.inner) close ∙ ap (λ l. row_then top (all_stay l) close) (sym (in_row old tree c there b)))

  order_is : IsOrderOf top s.row s.order
  order_is = subst (λ (l : List ℕ). IsPermutation (range_with_len 0 (length l)) order) (elements_between old c whole) perm

  entries_perm : IsPermutation (range_with_len 0 (length (entries (content_at old) h s.row))) order
  entries_perm = subst (λ n. IsPermutation (range_with_len 0 n) order) (sym (entry_count (content_at old) h s.row)) order_is

  -- comments are pinned as they were to be
  pins_there : PinsUnderBlankLines old c h → PinUnderBlankLines (content_at old) h.pinned (leads (content_at old) s.row)
  pins_there pins = subst (PinUnderBlankLines (content_at old) h.pinned) (ap (λ b. if b then leads (content_at old) s.row else []) (is_true (has_brackets old c) whole)) pins
    where
      is_true : (b : Bool) → IsTrue b → b ≡ true
      is_true true e = refl
      is_true false e = cc

  abbrev SortedTo : List Node → Type 0
  SortedTo ns = (a : SortedAt path order (ordered_tree old 0) (ordered_tree ns 0)) × (PinsUnderBlankLines old c h → PinsIn a)

  -- so it is where these take the place of those
  in_places : (new : List Node) {now : OrderedTree} → DocumentChanged (bracketed kind (standing old b.inner)) (bracketed kind now) path (ordered_tree old 0) (ordered_tree new 0) → now ≡ row_in top (slots_of top s) → SortedTo new
  in_places new {now} changed e =
      let now_is : bracketed kind now ≡ container_after kind top s = ap (container_of kind) (ap (λ r. followed_by r close) e ∙ row_joined top (slots_of top s) close) in (
        record {
          kind = kind;
          top = top;
          sort = s;
          by = refl;
          is_order = order_is;
          changed = subst (λ (w : Top). DocumentChanged (container_before kind top s) w path (ordered_tree old 0) (ordered_tree new 0)) now_is
              (subst (λ (w : Top). DocumentChanged w (bracketed kind now) path (ordered_tree old 0) (ordered_tree new 0)) was_is changed);
        },
        pins_there,
      )

  -- where the order is the old one, all stays
  unchanged : is_unchanged order ≡ true → SortedTo old
  unchanged e =
      let slots : all_stay s.row ≡ slots_of top s = sym (rw e refl) in
      in_places old (row_stays old tree c there b path at) (sym (all_stand old b.inner) ∙ ap (λ l. row_in top (all_stay l)) (sym (in_row old tree c there b)) ∙ ap (λ l. row_in top l) slots)

  abbrev slots : List Slot
  slots = row_sorted old c h order

  all_so : (P : ℕ → Type 0) (C : Content → Type 0) → C (token 0x2C) → C (newline (newline_kind_at old c)) → All P b.inner → AllHold P C slots
  all_so P C comma line inner =
      all_hold P C (content_at old) slots (sorted_held (content_at old) P s.newline h s.row order (subst (Each P) (sym (in_row old tree c there b)) (all_each P b.inner inner)) entries_perm)
      (sorted_leaves C comma (content_at old) s.newline line h s.row order)

  slots_fit : AllFit old slots
  slots_fit =
      all_so (λ n. n < length old) IsLeaf refl refl (inner_there old tree c there b)

  rearranged_at : TakesRow old new c slots → SortedTo new
  rearranged_at r = in_places new (row_taken old tree c there b new r slots_fit path at) (rows_same old slots)

  no_move : (a u : Bool) → a ≡ true → u ≡ true → (a && not u) ≡ false
  no_move a u e f = ap (λ x. x && not u) e ∙ ap not f

  all_move : (a u : Bool) → a ≡ true → u ≡ false → (a && not u) ≡ true
  all_move a u e f = ap (λ x. x && not u) e ∙ ap not f

  -- and what holds of all leaves holds then, if it holds of commas and of the ends of lines that come
  pub sort_told : (Q : Content → Type 0) → leaves_told.Each Q (leaves (ordered_tree old 0)) → Q (token 0x2C) → Q (newline (newline_kind_at old c)) → Rearranged old new c h order → leaves_told.Each Q (leaves (ordered_tree new 0))
  sort_told Q all comma line made =
      let P : ℕ → Type 0 = λ n. leaves_told.Each Q (leaves_of (top_at old n)) in
      let C : Content → Type 0 = λ content. leaves_told.Each Q (own_leaf content) in
      let kids_told : All P (children_at old c) = λ k d h. leaves_told.top_told Q old tree all _ (children_over old tree c over k d h) in
      let hold : AllHold P C slots = all_so P C (comma, tt) (line, tt) (inner_all old tree c there b P kids_told) in
      elim (cases_Bool (is_unchanged order)) [
        | inl e ↦ subst (λ (ns : List Node). leaves_told.Each Q (leaves (ordered_tree ns 0))) (sym (made.was (no_move (has_brackets old c) (is_unchanged order) whole e))) all
        | inr e ↦ row_told Q old tree c there b new path at (made.is (all_move (has_brackets old c) (is_unchanged order) whole e)) slots_fit hold all
      ]

  pub sorted_at : Rearranged old new c h order → SortedTo new
  sorted_at made =
      elim (cases_Bool (is_unchanged order)) [
        | inl e ↦ subst SortedTo (sym (made.was (no_move (has_brackets old c) (is_unchanged order) whole e))) (unchanged e)
        | inr e ↦ rearranged_at (made.is (all_move (has_brackets old c) (is_unchanged order) whole e))
      ]

pub sorts_at : (o : Options) (old new : List Node) (path : List ℕ) (c : ℕ) (h : Headers) (order : List ℕ) → SortsAt o old new path c h order
sorts_at o old new path c h order tree after sound at holds perm made = sorted_at o old new path c h order tree after sound at holds perm made

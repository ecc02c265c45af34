-- What a sort makes of a document.
use Rattle.std.proofs.Common.{◌≡◌, ℕ, true, false, List, [], ◌∷◌, ◌++◌, length, Option, Some, refl, sym, ap, subst}
use Rattle.std.specs.Prelude.{IsPermutation}
use Rattle.std.specs.List.{range_with_len}
use Rattle.jsonc_text.specs.Options.{Options}
use Rattle.jsonc_text.specs.Plain.{Plain, Items, Members, array, object}
use Rattle.jsonc_text.specs.Text.{next}
use Rattle.jsonc_tree.specs.Content.{Content}
use Rattle.jsonc_tree.specs.OrderedTree.{OrderedTree, Top, none, more, leaves, followed_by}
use Rattle.jsonc_tree.specs.Values as values
use Rattle.jsonc_tree.specs.Values.{DocumentValueOf, ItemsOf, MembersOf}
use Rattle.jsonc_sound.specs.Lines.{LinesEndLoosely}
use Rattle.jsonc_sound.specs.Shape.{token_then}
use Rattle.jsonc_sound.specs.Adjacent.{LeavesEnd}
use Rattle.jsonc_sound.specs.Alone as alone
use Rattle.jsonc_sound.specs.Alone.{RowAlone}
use Rattle.jsonc_sound.specs.Changes.{Changed}
use Rattle.jsonc_sound.specs.Rows as rows
use Rattle.jsonc_sound.specs.Rows.{RowKind, closing, container_of}
use Rattle.jsonc_sound.specs.Sound.{HasValue}
use Rattle.jsonc_sound.specs.SoundTrees.{SoundTree}
use Rattle.jsonc_sound.specs.TreeChanges.{DocumentChanged}
use Rattle.jsonc_sound.proofs.NodesAlone.{value_alone, value_leaves}
use Rattle.jsonc_sound.proofs.AtPath.{held_at_path}
use Rattle.jsonc_sound.proofs.HeldValues.{document_held}
use Rattle.jsonc_sound.proofs.LinesLeft.{row_lines}
use Rattle.jsonc_sound.proofs.LooseChanges.{parted_loosely}
use Rattle.jsonc_sound.proofs.SeamRows.{container_leaves, row_of}
use Rattle.jsonc_edit.proofs.lemmas.multiline.SoundRows.{sound_with_row}
use Rattle.jsonc_sort.specs.Slots.{Slot, all_stay, row_in, row_then, top_in}
use Rattle.jsonc_sort.specs.Sorting.{entries, is_unchanged, lines_ended, rearranged, row_end}
use Rattle.jsonc_sort.specs.Laws as laws
use Rattle.jsonc_sort.specs.Laws.{IsOrderOf, Sort, StaysSound, SortsValue, SortsEntries, closed, container_after, container_before, content_of, items_in, members_in, slots_of}
use Rattle.jsonc_sort.proofs.Choices.{choose_by}
use Rattle.jsonc_sort.proofs.Entries.{Rearranges, row_rearranges}
use Rattle.jsonc_sort.proofs.Lines.{lines_are_ended, rearranged_held, rows_end, slots_end, Ends}
use Rattle.jsonc_sort.proofs.OldRows.{row_is}
use Rattle.jsonc_sort.proofs.Runs.{runs_alone, runs_end, runs_then}
use Rattle.jsonc_sort.proofs.Same.{document_same}
use Rattle.jsonc_sort.proofs.Values.{items_sorted, members_sorted}
use Rattle.jsonc_sort.proofs.Weights.{entry_count}

-- a row, and then another
pub row_joined : (top : ℕ → Top) (slots : List Slot) (rest : OrderedTree) → followed_by (row_in top slots) rest ≡ row_then top slots rest
row_joined top [] rest = refl
row_joined top (slot ∷ slots) rest = ap (more (top_in top slot).content (top_in top slot).below) (row_joined top slots rest)

pub order_is : (top : ℕ → Top) (s : Sort) → IsOrderOf top s.row s.order → IsPermutation (range_with_len 0 (length (entries (content_of top) s.headers s.row))) s.order
order_is top s p = subst (λ n. IsPermutation (range_with_len 0 n) s.order) (sym (entry_count (content_of top) s.headers s.row)) p

module _ (kind : RowKind) (top : ℕ → Top) (s : Sort) (order : IsOrderOf top s.row s.order) where
  abbrev at : ℕ → Content
  at = content_of top

  abbrev before_lines : List Slot
  before_lines = rearranged at (entries at s.headers s.row) s.order ++ all_stay (row_end at s.row)

  abbrev moved : List Slot
  moved = lines_ended at s.newline before_lines

  moved_lines : LinesEndLoosely true false (closed kind top (all_stay s.row)) → LinesEndLoosely true false (closed kind top moved)
  moved_lines l =
      lines_are_ended kind top s.newline before_lines
      (slots_end kind top before_lines (rearranged_held at (λ n. Ends kind top (top n)) s.headers s.row s.order (rows_end kind top s.row l) (order_is top s order)))

  pub lines_kept : LinesEndLoosely true false (closed kind top (all_stay s.row)) → LinesEndLoosely true false (closed kind top (slots_of top s))
  lines_kept l = choose_by (λ x. LinesEndLoosely true false (closed kind top x)) (is_unchanged s.order) (all_stay s.row) moved (λ e. l) (λ e. moved_lines l)

module _ (o : Options) (kind : RowKind) (top : ℕ → Top) (s : Sort) (order : IsOrderOf top s.row s.order) where
  abbrev close : OrderedTree
  close = token_then (closing kind) none

  abbrev ended : List Slot
  ended = moved kind top s order

  rearranges : (n : Option ℕ) → RowAlone o kind rows.nothing_yet (closed kind top (all_stay s.row)) → LeavesEnd o (leaves (closed kind top (all_stay s.row))) n → Rearranges o kind top ended
  rearranges n g h = row_rearranges o kind top s.newline s.headers s.row s.order (row_is o kind top s.row n g h) (order_is top s order)

  -- the row
  pub row_kept : (n : Option ℕ) → RowAlone o kind rows.nothing_yet (closed kind top (all_stay s.row)) → LeavesEnd o (leaves (closed kind top (all_stay s.row))) n → RowAlone o kind rows.nothing_yet (closed kind top (slots_of top s))
  row_kept n g h =
      choose_by (λ l. RowAlone o kind rows.nothing_yet (closed kind top l)) (is_unchanged s.order) (all_stay s.row) ended (λ e. g)
      (λ e. let r = rearranges n g h in runs_then o kind top r.runs (alone.closes r.ends))

  -- the document
  moved_sound : (t : OrderedTree) → SoundTree o t → (path : List ℕ) (u : OrderedTree) → DocumentChanged (container_before kind top s) (container_of kind (closed kind top ended)) path t u → SoundTree o u
  moved_sound t sound path u c =
      let old : OrderedTree = closed kind top (all_stay s.row) in
      let v = document_held o c sound.shaped in
      let g = row_of o kind old (value_alone o v.1) in
      let h = (subst (λ a. LeavesEnd o a (next v.0)) (container_leaves kind old) (value_leaves o v.1)).1 in
      let r = rearranges (next v.0) g h in
      let lines : LinesEndLoosely true false (followed_by (row_in top ended) close) = subst (LinesEndLoosely true false) (sym (row_joined top ended close)) (moved_lines kind top s order (row_lines kind old c sound.lines)) in
      let first : DocumentChanged (container_of kind (followed_by (row_in top (all_stay s.row)) close)) (container_of kind (closed kind top ended)) path t u =
      subst (λ x. DocumentChanged (container_of kind x) (container_of kind (closed kind top ended)) path t u) (sym (row_joined top (all_stay s.row) close)) c in
      let both : DocumentChanged (container_of kind (followed_by (row_in top (all_stay s.row)) close)) (container_of kind (followed_by (row_in top ended) close)) path t u =
      subst (λ x. DocumentChanged (container_of kind (followed_by (row_in top (all_stay s.row)) close)) (container_of kind x) path t u) (sym (row_joined top ended close)) first in
      sound_with_row o kind (row_in top (all_stay s.row)) (row_in top ended) path t u both sound (record { to = r.to; stretch = runs_alone o kind top r.runs; may = r.ends; lines = (parted_loosely true false (row_in top ended) close lines).0; ends = runs_end o kind top r.runs })

pub stays_sound : (o : Options) (t : OrderedTree) → StaysSound o t
stays_sound o t sound kind top s path u c order =
    choose_by (λ l. DocumentChanged (container_before kind top s) (container_of kind (closed kind top l)) path t u → SoundTree o u) (is_unchanged s.order) (all_stay s.row) (moved kind top s order)
    (λ e d. subst (SoundTree o) (document_same refl d) sound)
    (λ e d. moved_sound o kind top s order t sound path u d) c

-- values past the last bracket
items_before : (o : Options) (top : ℕ → Top) (c : ℕ) (slots : List Slot) {vs : Items} → ItemsOf o (row_then top slots (token_then c none)) vs → ItemsOf o (row_in top slots) vs
items_before o top c [] (values.pass_to_items p h) = h
items_before o top c [] (values.one_item v h) = elim v [ ]
items_before o top c (slot ∷ slots) (values.pass_to_items p h) = values.pass_to_items p (items_before o top c slots h)
items_before o top c (slot ∷ slots) (values.one_item v h) = values.one_item v (items_before o top c slots h)

items_behind : (o : Options) (top : ℕ → Top) (c : ℕ) (slots : List Slot) {vs : Items} → ItemsOf o (row_in top slots) vs → ItemsOf o (row_then top slots (token_then c none)) vs
items_behind o top c [] h = values.pass_to_items refl h
items_behind o top c (slot ∷ slots) (values.pass_to_items p h) = values.pass_to_items p (items_behind o top c slots h)
items_behind o top c (slot ∷ slots) (values.one_item v h) = values.one_item v (items_behind o top c slots h)

members_before : (o : Options) (top : ℕ → Top) (c : ℕ) (slots : List Slot) {ms : Members} → MembersOf o (row_then top slots (token_then c none)) ms → MembersOf o (row_in top slots) ms
members_before o top c [] (values.pass_to_members p h) = h
members_before o top c (slot ∷ slots) h = by (top_in top slot).content (top_in top slot).below h (λ ms x. members_before o top c slots x)
  where
    by : (content : Content) (below : OrderedTree) {ms : Members} → MembersOf o (more content below (row_then top slots (token_then c none))) ms → ((ns : Members) → MembersOf o (row_then top slots (token_then c none)) ns → MembersOf o (row_in top slots) ns)
        → MembersOf o (more content below (row_in top slots)) ms
    by content below {ms} (values.pass_to_members p h) f = values.pass_to_members p (f ms h)
    by content below (values.one_member {ms = ns} v h) f = values.one_member v (f ns h)

members_behind : (o : Options) (top : ℕ → Top) (c : ℕ) (slots : List Slot) {ms : Members} → MembersOf o (row_in top slots) ms → MembersOf o (row_then top slots (token_then c none)) ms
members_behind o top c [] h = values.pass_to_members refl h
members_behind o top c (slot ∷ slots) h = by (top_in top slot).content (top_in top slot).below h (λ ms x. members_behind o top c slots x)
  where
    by : (content : Content) (below : OrderedTree) {ms : Members} → MembersOf o (more content below (row_in top slots)) ms → ((ns : Members) → MembersOf o (row_in top slots) ns → MembersOf o (row_then top slots (token_then c none)) ns)
        → MembersOf o (more content below (row_then top slots (token_then c none))) ms
    by content below {ms} (values.pass_to_members p h) f = values.pass_to_members p (f ms h)
    by content below (values.one_member {ms = ns} v h) f = values.one_member v (f ns h)

-- the value of an array or object, and of the sorted one
data Sorted (o : Options) (order : List ℕ) (after : Top) (old : Plain) : Type 0 where
  sorted_items : {vs : Items} → old ≡ array vs → HasValue o after (array (items_in order vs)) → Sorted o order after old
  sorted_members : {ms : Members} → old ≡ object ms → HasValue o after (object (members_in order ms)) → Sorted o order after old

container_sorted : (o : Options) (kind : RowKind) (top : ℕ → Top) (s : Sort) → IsOrderOf top s.row s.order → (old : Plain) → HasValue o (container_before kind top s) old → Sorted o s.order (container_after kind top s) old
container_sorted o rows.of_values top s order old (values.array {vs = vs} (values.pass_to_items p h)) =
    sorted_items refl (values.array (values.pass_to_items refl (items_behind o top 0x5D (slots_of top s) (items_sorted o top s.newline s.headers s.row s.order order vs (items_before o top 0x5D (all_stay s.row) h)))))
container_sorted o rows.of_values top s order old (values.array (values.one_item v h)) = elim v [ ]
container_sorted o rows.of_properties top s order old (values.object {ms = ms} (values.pass_to_members p h)) =
    sorted_members refl (values.object (values.pass_to_members refl (members_behind o top 0x7D (slots_of top s) (members_sorted o top s.newline s.headers s.row s.order order ms (members_before o top 0x7D (all_stay s.row) h)))))

pub sorts_value : (o : Options) (t : OrderedTree) (x : Plain) → SortsValue o t x
sorts_value o t x value kind top s path u c order =
    let held = held_at_path o x value c in
    by held.has (container_sorted o kind top s order held.old held.had)
  where
    by : {old : Plain} → ((v : Plain) → HasValue o (container_after kind top s) v → (y : Plain) × DocumentValueOf o u (Some y) × Changed old v path x y) → Sorted o s.order (container_after kind top s) old
        → (y : Plain) × DocumentValueOf o u (Some y) × SortsEntries path s.order x y
    by has (sorted_items {vs = vs} e h) = let m = has (array (items_in s.order vs)) h in (m.0, m.1, laws.sorts_items (subst (λ w. Changed w (array (items_in s.order vs)) path x m.0) e m.2))
    by has (sorted_members {ms = ms} e h) = let m = has (object (members_in s.order ms)) h in (m.0, m.1, laws.sorts_members (subst (λ w. Changed w (object (members_in s.order ms)) path x m.0) e m.2))

-- Where the entries of an array or object come in another order in a sound tree, they do so in the text.
use Rattle.std.proofs.Common.{◌≡◌, ◌≢◌, ◌⊎◌, ℕ, zero, suc, ◌+◌, ◌<◌, Bool, true, false, cond, List, [], ◌∷◌, ◌++◌, length, map, get_or, count_by, Option, Some, refl, sym, ap, subst, ◌∙◌, arith, inl, inr}
use Rattle.std.specs.Prelude.{IsPermutation}
use Rattle.std.specs.List.{fold, range_with_len}
use Rattle.std.proofs.lemmas.Bool.{cases_Bool}
use Rattle.std.proofs.lemmas.Bool.Decides.{not_from_Decides}
use Rattle.std.proofs.lemmas.List.{append_assoc}
use Rattle.std.proofs.lemmas.List.Sorted.{length_permutation}
use Rattle.std.proofs.lemmas.Slice.Eq.{bytes_eq-Decides}
use Rattle.jsonc_text.specs.Options.{Options}
use Rattle.jsonc_text.specs.Text.{next}
use Rattle.jsonc_text.specs.Plain as plain
use Rattle.jsonc_text.specs.Plain.{Plain, Items, no_items, item, Members, no_members, member, null}
use Rattle.jsonc_tree.specs.Content.{Content, token}
use Rattle.jsonc_tree.specs.OrderedTree.{OrderedTree, Top, none, leaves, own_leaf}
use Rattle.jsonc_tree.specs.Values as values
use Rattle.jsonc_tree.specs.Values.{DocumentValueOf, is_passed_over}
use Rattle.jsonc_sound.specs.Adjacent.{LeavesEnd}
use Rattle.jsonc_sound.specs.Shape.{printed_text, token_then}
use Rattle.jsonc_sound.specs.Sound.{HasValue}
use Rattle.jsonc_sound.specs.TreeChanges.{leaves_of, DocumentChanged}
use Rattle.jsonc_layout.specs.nodes.Kinds.{is_element}
use Rattle.jsonc_sound.specs.Changes as changes
use Rattle.jsonc_sound.specs.Marks as tree_marks
use Rattle.jsonc_sound.specs.Rows as rows
use Rattle.jsonc_sound.specs.Rows.{RowKind, closing, opening, container_of}
use Rattle.jsonc_sound.specs.SoundTrees.{SoundTree}
use Rattle.jsonc_sound.proofs.AtPath.{HeldAtPath, held_at_path}
use Rattle.jsonc_sound.proofs.HeldValues.{document_held}
use Rattle.jsonc_sound.proofs.NodesAlone.{value_alone, value_leaves}
use Rattle.jsonc_sound.proofs.SeamRows.{container_leaves, row_of}
use Rattle.jsonc_sound.proofs.Texts.{AllUtf8}
use Rattle.jsonc_edit.proofs.OneValue.{document_once}
use Rattle.jsonc_run.proofs.lemmas.promise.Reversed.{back_same, flip, front_same}
use Rattle.jsonc_insert.proofs.lemmas.named.PathValues.{value_once}
use Rattle.jsonc_run.specs.Written.{IsChanged, by_sorting}
use Rattle.jsonc_sort.specs.Slots.{Slot, stays, comes, all_stay, row_then, top_in}
use Rattle.jsonc_sort.specs.Parts.{parts}
use Rattle.jsonc_sort.specs.Sorting as sorts
use Rattle.jsonc_sort.specs.Sorting.{Entry, entries, entry_at, is_unchanged, lines_ended, row_end, slot_content}
use Rattle.jsonc_sort.specs.Laws.{Sort, SortsEntries, sorts_items, sorts_members, IsOrderOf, container_before, container_after, content_of, closed, slots_of, item_at, items_in, name_at, value_at, members_in}
use Rattle.jsonc_sort.specs.Paths.{PinsIn, SortedAt}
use Rattle.jsonc_sort.proofs.Choices.{Each, all_moved, each_moved}
use Rattle.jsonc_sort.proofs.Entries.{IsEntry, IsRow, entries_in, row_moves}
use Rattle.jsonc_sort.proofs.OldRows.{row_is}
use Rattle.jsonc_sort.proofs.Same.{document_same}
use Rattle.jsonc_sort.proofs.Weights.{entry_count}
use Rattle.jsonc_text.specs.Marks as text_marks
use Rattle.jsonc_run.specs.texts.Paths as places
use Rattle.jsonc_run.specs.texts.Paths.{an_array, an_object, Value, HasEntries}
use Rattle.jsonc_run.specs.texts.Entries.{Named, items, members, of, Changed}
use Rattle.jsonc_run.specs.texts.Edits as texts
use Rattle.jsonc_run.specs.texts.Sorting.{Held, Holds, LinesEnd, Moves, Placed, ends_with_comma, no_entry, row}
use Rattle.jsonc_run.specs.texts.Edits.{Does}
use Rattle.jsonc_run.specs.promise.PlaceLaws.{node_chars, text_of_leaves, texts_of}
use Rattle.jsonc_run.proofs.lemmas.promise.Entries.{element_text, has_entries, over_text}
use Rattle.jsonc_run.proofs.lemmas.promise.Joined.{close_text, open_text}
use Rattle.jsonc_run.proofs.lemmas.promise.Leaves.{back_of, document_parts, document_utf8, front_of, text_joined, utf8_first, utf8_second}
use Rattle.jsonc_run.proofs.lemmas.promise.LooseRows.{kind_of_row}
use Rattle.jsonc_run.proofs.lemmas.promise.SortedEntries.{are_entries, held_of, row_said}
use Rattle.jsonc_run.proofs.lemmas.promise.SortedParts.{said, said_joined, said_nodes, say}
use Rattle.jsonc_run.proofs.lemmas.promise.SortedTexts.{lines_said, placed_said}
use Rattle.jsonc_run.proofs.lemmas.promise.Values.{at_the_place, node_leaves}
use Rattle.jsonc_sound.specs.Documents.{all_marks, mark, document_of}
use Rattle.jsonc_run.proofs.lemmas.promise.Plains.{changed, list_of_items, same_items, list_of_members, same_members}
use Rattle.jsonc_run.proofs.lemmas.promise.Held.{items_held, members_held, right_so}
use Rattle.jsonc_sort.proofs.Values.{elements, row_elements, sorted_elements, none_is}

-- the texts of elements in places are those of what stands there
same_content : (top : ℕ → Top) (s : Slot) → slot_content (content_of top) s ≡ (top_in top s).content
same_content top (stays n) = refl
same_content top (comes c) = refl

abbrev slot_text : (ℕ → Top) → Slot → List ℕ
slot_text top s = node_chars (top_in top s)

taken : (top : ℕ → Top) (s : Slot) (slots : List Slot) → is_element (slot_content (content_of top) s) ≡ true → elements (content_of top) (s ∷ slots) ≡ s ∷ elements (content_of top) slots
taken top s slots e = rw e refl

passed : (top : ℕ → Top) (s : Slot) (slots : List Slot) → is_element (slot_content (content_of top) s) ≡ false → elements (content_of top) (s ∷ slots) ≡ elements (content_of top) slots
passed top s slots e = rw e refl

placed_texts : (top : ℕ → Top) (c : ℕ) (slots : List Slot) → texts_of (row_then top slots (token_then c none)) ≡ map (slot_text top) (elements (content_of top) slots)
placed_texts top c [] = refl
placed_texts top c (s ∷ slots) =
    let rest : OrderedTree = row_then top slots (token_then c none) in
    elim (cases_Bool (is_element (slot_content (content_of top) s))) [
      | inl e ↦ element_text (top_in top s).content (top_in top s).below rest (ap is_element (sym (same_content top s)) ∙ e) ∙ ap (λ l. slot_text top s ∷ l) (placed_texts top c slots) ∙ sym (ap (map (slot_text top)) (taken top s slots e))
      | inr e ↦ over_text (top_in top s).content (top_in top s).below rest (none_is (is_passed_over (top_in top s).content) (ap is_element (sym (same_content top s)) ∙ e)) ∙ placed_texts top c slots ∙ sym (ap (map (slot_text top)) (passed top s slots e))
    ]

-- the text of an entry
abbrev entry_text : (ℕ → Top) → Entry → List ℕ
entry_text top e = node_chars (top e.element)

mapped : (top : ℕ → Top) (es : List Entry) → map (slot_text top) (map (λ e. stays e.element) es) ≡ map (entry_text top) es
mapped top [] = refl
mapped top (e ∷ es) = ap (λ l. entry_text top e ∷ l) (mapped top es)

picked : (top : ℕ → Top) (es : List Entry) (i : ℕ) → i < length es → entry_text top (entry_at es i) ≡ get_or (map (entry_text top) es) i []
picked top [] i lt = absurd (omega arith)
picked top (e ∷ es) zero lt = refl
picked top (e ∷ es) (suc i) lt = picked top es i (omega arith)

all_picked : (top : ℕ → Top) (es : List Entry) (order : List ℕ) → Each (λ i. i < length es) order
    → map (slot_text top) (map (λ i. stays (entry_at es i).element) order) ≡ map (λ i. get_or (map (entry_text top) es) i []) order
all_picked top es [] h = refl
all_picked top es (i ∷ order) h = ap (λ l. entry_text top (entry_at es i) ∷ l) (all_picked top es order h.1) ∙ ap (λ l. l ∷ map (λ j. get_or (map (entry_text top) es) j []) order) (picked top es i h.0)

each_range : (n from m : ℕ) → from + n ≡ m → Each (λ i. i < m) (range_with_len from n)
each_range zero from m e = tt
each_range (suc n) from m e = (omega (arith, e), each_range n (from + 1) m (omega (arith, e)))

map_length : {A B : Type 0} (f : A → B) (xs : List A) → length (map f xs) ≡ length xs
map_length f [] = refl
map_length f (x ∷ xs) = ap suc (map_length f xs)

-- the texts of a row, and those of the sorted one
module _ (top : ℕ → Top) (kind : RowKind) (s : Sort) (is : IsOrderOf top s.row s.order) where
  abbrev es : List Entry
  es = entries (content_of top) s.headers s.row

  perm : IsPermutation (range_with_len 0 (length es)) s.order
  perm = subst (λ n. IsPermutation (range_with_len 0 n) s.order) (sym (entry_count (content_of top) s.headers s.row)) is

  before : texts_of (closed kind top (all_stay s.row)) ≡ map (entry_text top) es
  before = placed_texts top (closing kind) (all_stay s.row) ∙ ap (map (slot_text top)) (row_elements (content_of top) s.headers s.row) ∙ mapped top es

  after : texts_of (closed kind top (slots_of top s)) ≡ map (λ i. get_or (texts_of (closed kind top (all_stay s.row))) i []) s.order
  after =
      placed_texts top (closing kind) (slots_of top s)
      ∙ ap (map (slot_text top)) (sorted_elements (content_of top) s.newline s.headers s.row s.order perm)
      ∙ all_picked top es s.order (each_moved (λ i. i < length es) (range_with_len 0 (length es)) s.order perm (each_range (length es) 0 (length es) (omega arith)))
      ∙ ap (λ ts. map (λ i. get_or ts i []) s.order) (sym before)

  long : IsPermutation (range_with_len 0 (length (texts_of (closed kind top (all_stay s.row))))) s.order
  long = subst (λ n. IsPermutation (range_with_len 0 n) s.order) (sym (ap length before ∙ map_length (entry_text top) es)) perm

-- values in an order
abbrev nothing_there : Named
nothing_there = record { name = []; value = null }

item_picked : (vs : Items) (i : ℕ) → item_at i vs ≡ (get_or (list_of_items vs) i nothing_there).value
item_picked no_items i = refl
item_picked (item v vs) zero = refl
item_picked (item v vs) (suc i) = item_picked vs i

items_picked : (order : List ℕ) (vs : Items) → items_in order vs ≡ items (map (λ i. get_or (list_of_items vs) i nothing_there) order)
items_picked [] vs = refl
items_picked (i ∷ order) vs = ap (λ v. item v (items_in order vs)) (item_picked vs i) ∙ ap (item (get_or (list_of_items vs) i nothing_there).value) (items_picked order vs)

name_picked : (ms : Members) (i : ℕ) → name_at i ms ≡ (get_or (list_of_members ms) i nothing_there).name
name_picked no_members i = refl
name_picked (member n v ms) zero = refl
name_picked (member n v ms) (suc i) = name_picked ms i

value_picked : (ms : Members) (i : ℕ) → value_at i ms ≡ (get_or (list_of_members ms) i nothing_there).value
value_picked no_members i = refl
value_picked (member n v ms) zero = refl
value_picked (member n v ms) (suc i) = value_picked ms i

members_picked : (order : List ℕ) (ms : Members) → members_in order ms ≡ members (map (λ i. get_or (list_of_members ms) i nothing_there) order)
members_picked [] ms = refl
members_picked (i ∷ order) ms =
    let at : Named = get_or (list_of_members ms) i nothing_there in
    ap (λ n. member n (value_at i ms) (members_in order ms)) (name_picked ms i) ∙ ap (λ v. member at.name v (members_in order ms)) (value_picked ms i) ∙ ap (member at.name at.value) (members_picked order ms)

-- marks as often as before
marks_folded : (test : text_marks.Mark → Bool) (n : ℕ) (ms : List tree_marks.Mark) → fold (λ a x. a + cond (test x) 1 0) n (all_marks ms) ≡ fold (λ a m. a + cond (test (mark m)) 1 0) n ms
marks_folded test n [] = refl
marks_folded test n (m ∷ ms) = marks_folded test (n + cond (test (mark m)) 1 0) ms

marks_counted : (test : text_marks.Mark → Bool) (ms : List tree_marks.Mark) → count_by test (all_marks ms) ≡ count_by (λ m. test (mark m)) ms
marks_counted test ms = marks_folded test 0 ms

-- what goes with the entries, in an order
held_picked : (o : Options) (kind : RowKind) (top : ℕ → Top) (held : List Entry) (i : ℕ) → i < length held → held_of o kind top (entry_at held i) ≡ get_or (map (held_of o kind top) held) i no_entry
held_picked o kind top [] i lt = absurd (omega arith)
held_picked o kind top (e ∷ held) zero lt = refl
held_picked o kind top (e ∷ held) (suc i) lt = held_picked o kind top held i (omega arith)

all_held_picked : (o : Options) (kind : RowKind) (top : ℕ → Top) (held : List Entry) (order : List ℕ) → Each (λ i. i < length held) order
    → map (held_of o kind top) (map (entry_at held) order) ≡ map (λ i. get_or (map (held_of o kind top) held) i no_entry) order
all_held_picked o kind top held [] h = refl
all_held_picked o kind top held (i ∷ order) h =
    ap (λ l. held_of o kind top (entry_at held i) ∷ l) (all_held_picked o kind top held order h.1) ∙ ap (λ l. l ∷ map (λ j. get_or (map (held_of o kind top) held) j no_entry) order) (held_picked o kind top held i h.0)

own_texts : (o : Options) (kind : RowKind) (top : ℕ → Top) (held : List Entry) → map (entry_text top) held ≡ map (λ h. h.own) (map (held_of o kind top) held)
own_texts o kind top [] = refl
own_texts o kind top (e ∷ held) = ap (λ l. entry_text top e ∷ l) (own_texts o kind top held)

commas_so : (o : Options) (kind : RowKind) (top : ℕ → Top) (held : List Entry) → sorts.ends_with_comma (content_of top) held ≡ ends_with_comma (map (held_of o kind top) held)
commas_so o kind top [] = refl
commas_so o kind top (e ∷ []) = refl
commas_so o kind top (e ∷ g ∷ held) = commas_so o kind top (g ∷ held)

-- the kind of a container, by its value
array_row : {o : Options} {row : OrderedTree} {v : Plain} {vs : Items} (kind : RowKind) → HasValue o (container_of kind row) v → v ≡ plain.array vs → kind_of_row kind ≡ an_array
array_row rows.of_values h e = refl
array_row rows.of_properties (values.object h) e = cc

object_row : {o : Options} {row : OrderedTree} {v : Plain} {ms : Members} (kind : RowKind) → HasValue o (container_of kind row) v → v ≡ plain.object ms → kind_of_row kind ≡ an_object
object_row rows.of_values (values.array h) e = cc
object_row rows.of_properties h e = refl

-- what a container prints
module _ (o : Options) (kind : RowKind) (top : ℕ → Top) where
  abbrev k : places.Kind
  k = kind_of_row kind

  rows_text : (slots : List Slot) (rest : OrderedTree) → AllUtf8 (leaves (row_then top slots rest)) → text_of_leaves (leaves (row_then top slots rest)) ≡ said top slots ++ text_of_leaves (leaves rest)
  rows_text [] rest u = refl
  rows_text (s ∷ slots) rest u =
      let one : Top = top_in top s in
      let behind : List Content = leaves (row_then top slots rest) in
      let parts : own_leaf one.content ++ (leaves one.below ++ behind) ≡ leaves_of one ++ behind = sym (append_assoc (own_leaf one.content) (leaves one.below) behind) in
      let v : AllUtf8 (leaves_of one ++ behind) = subst AllUtf8 parts u in
      ap text_of_leaves parts ∙ text_joined (leaves_of one) behind (utf8_first (leaves_of one) behind v) ∙ ap (λ l. l ++ text_of_leaves behind) (sym (node_leaves o one))
      ∙ ap (λ l. node_chars one ++ l) (rows_text slots rest (utf8_second (leaves_of one) behind v)) ∙ sym (append_assoc (node_chars one) (said top slots) (text_of_leaves (leaves rest)))

  container_text : (slots : List Slot) (B : List ℕ) → AllUtf8 (leaves_of (container_of kind (closed kind top slots)))
      → text_of_leaves (leaves_of (container_of kind (closed kind top slots))) ++ B ≡ places.opening k ∷ (said top slots ++ places.closing k ∷ B)
  container_text slots B u =
      let row : OrderedTree = closed kind top slots in
      let v : AllUtf8 (token (opening kind) ∷ leaves row) = subst AllUtf8 (container_leaves kind row) u in
      ap (λ l. text_of_leaves l ++ B) (container_leaves kind row)
      ∙ ap (λ l. l ++ B) (text_joined (token (opening kind) ∷ []) (leaves row) (utf8_first (token (opening kind) ∷ []) (leaves row) v) ∙ ap (λ l. l ++ text_of_leaves (leaves row)) (open_text kind)
      ∙ ap (λ l. places.opening k ∷ l) (rows_text slots (token_then (closing kind) none) (utf8_second (token (opening kind) ∷ []) (leaves row) v) ∙ ap (λ l. said top slots ++ l) (close_text kind)))
      ∙ ap (λ l. places.opening k ∷ l) (append_assoc (said top slots) (places.closing k ∷ []) B)

  -- where it stands in a document, which prints this between its brackets
  holds_so : {path : List ℕ} {t u : OrderedTree} {now : Top} (slots : List Slot) → SoundTree o t → (d : DocumentChanged (container_of kind (closed kind top slots)) now path t u) → (w : Option Plain) (inside : List ℕ) → said top slots ≡ inside
      → Holds path k (texts_of (closed kind top slots)) (text_of_leaves (front_of d)) inside (text_of_leaves (back_of d)) (document_of o t w)
  holds_so {path} {t} slots s d w inside e =
      let own : List Content = leaves_of (container_of kind (closed kind top slots)) in
      let F : List ℕ = text_of_leaves (front_of d) in
      let B : List ℕ = text_of_leaves (back_of d) in
      let place = at_the_place o s d in
      let utf8 : AllUtf8 own = utf8_first own (back_of d) (utf8_second (front_of d) (own ++ back_of d) (subst AllUtf8 (document_parts d) (document_utf8 o s.shaped))) in
      let text : text_of_leaves own ++ B ≡ places.opening k ∷ (inside ++ places.closing k ∷ B) = container_text slots B utf8 ∙ ap (λ l. places.opening k ∷ (l ++ places.closing k ∷ B)) e in (
        place.0 ∙ ap (λ l. F ++ l) text,
        subst (λ l. Value path o (printed_text t) l B) text place.1,
        subst (λ l. HasEntries o l (texts_of (closed kind top slots)) B) text (has_entries o kind B place.2),
      )

module _ (o : Options) {t u : OrderedTree} {x y : Plain} (by_blank_lines : Bool) (path order : List ℕ) (s : SoundTree o t) (r : SoundTree o u) (h : DocumentValueOf o t (Some x)) (k : DocumentValueOf o u (Some y))
    (m : (test : tree_marks.Mark → Bool) → count_by test (tree_marks.marks u) ≡ count_by test (tree_marks.marks t)) (a : SortedAt path order t u) (pinned : by_blank_lines ≡ true → PinsIn a) where
  abbrev old_texts : List (List ℕ)
  old_texts = texts_of (closed a.kind a.top (all_stay a.sort.row))

  ordered : (n : ℕ) → length old_texts ≡ n → IsPermutation (range_with_len 0 n) order
  ordered n e = subst (λ k. IsPermutation (range_with_len 0 k) order) e (subst (λ l. IsPermutation (range_with_len 0 (length old_texts)) l) a.by (long a.top a.kind a.sort a.is_order))

  often : (test : text_marks.Mark → Bool) → count_by test (all_marks (tree_marks.marks u)) ≡ count_by test (all_marks (tree_marks.marks t))
  often test = marks_counted test (tree_marks.marks u) ∙ m (λ k. test (mark k)) ∙ sym (marks_counted test (tree_marks.marks t))

  held : HeldAtPath o (container_before a.kind a.top a.sort) (container_after a.kind a.top a.sort) path x u
  held = held_at_path o x h a.changed

  at_path : changes.Changed held.old held.old path x x
  at_path =
      let back = (held_at_path o y k (flip a.changed)).has held.old held.had in
      let both : Some back.0 ≡ Some x = document_once o t (Some back.0) (Some x) back.1 h in
      let same : back.0 ≡ x = cc in
      subst (λ z. changes.Changed held.old held.old path z z) same (right_so back.2)

  -- the row of the container
  row_parts : IsRow o a.kind a.top rows.nothing_yet (parts (content_of a.top) a.sort.row)
  row_parts =
      let old : OrderedTree = closed a.kind a.top (all_stay a.sort.row) in
      let v = document_held o a.changed s.shaped in
      let alone = row_of o a.kind old (value_alone o v.1) in
      let ends = (subst (λ l. LeavesEnd o l (next v.0)) (container_leaves a.kind old) (value_leaves o v.1)).1 in
      row_is o a.kind a.top a.sort.row (next v.0) alone ends

  -- the entries and what goes with each
  module _ (moved : is_unchanged a.sort.order ≡ false) where
    abbrev kind : RowKind
    kind = a.kind

    abbrev top : ℕ → Top
    top = a.top

    abbrev at : ℕ → Content
    at = content_of top

    abbrev entries_ : List Entry
    entries_ = entries at a.sort.headers a.sort.row

    abbrev chosen : List Entry
    chosen = map (entry_at entries_) a.sort.order

    abbrev holds : List Held
    holds = map (held_of o kind top) entries_

    abbrev end : List ℕ
    end = row_end at a.sort.row

    perm_ : IsPermutation (range_with_len 0 (length entries_)) a.sort.order
    perm_ = perm top kind a.sort a.is_order

    abbrev before_lines : List Slot
    before_lines = sorts.rearranged at entries_ a.sort.order ++ all_stay end

    below : Each (λ i. i < length entries_) a.sort.order
    below = each_moved (λ i. i < length entries_) (range_with_len 0 (length entries_)) a.sort.order perm_ (each_range (length entries_) 0 (length entries_) (omega arith))

    abbrev placed_text : List ℕ
    placed_text = said top (sorts.rearranged at entries_ a.sort.order)

    now_slots : slots_of top a.sort ≡ lines_ended at a.sort.newline before_lines
    now_slots = rw moved refl

    are : Each (IsEntry o kind top) chosen
    are = each_moved (IsEntry o kind top) entries_ chosen (all_moved sorts.no_entry entries_ a.sort.order perm_) (entries_in o kind top a.sort.headers a.sort.row row_parts).0

    long_ : length entries_ ≡ length chosen
    long_ = sym (length_permutation entries_ chosen (all_moved sorts.no_entry entries_ a.sort.order perm_))

    placed_so : Placed (ends_with_comma holds) true holds (map (λ i. get_or holds i no_entry) a.sort.order) placed_text
    placed_so =
        subst (λ b. Placed b true holds (map (λ i. get_or holds i no_entry) a.sort.order) placed_text) (commas_so o kind top entries_)
        (subst (λ l. Placed (sorts.ends_with_comma at entries_) true holds l placed_text) (all_held_picked o kind top entries_ a.sort.order below)
        (placed_said o kind top true (sorts.ends_with_comma at entries_) entries_ chosen are long_))

    lines_so : LinesEnd (placed_text ++ say top end) (said top (slots_of top a.sort))
    lines_so =
        subst (LinesEnd (placed_text ++ say top end)) (sym (ap (said top) now_slots))
        (subst (λ l. LinesEnd l (said top (lines_ended at a.sort.newline before_lines))) (said_joined top (sorts.rearranged at entries_ a.sort.order) (all_stay end) ∙ ap (λ l. placed_text ++ l) (said_nodes top end))
        (lines_said o kind top a.sort.newline (row_moves o kind top a.sort.headers a.sort.row a.sort.order row_parts perm_).runs))

    old_holds : Holds path (kind_of_row kind) (map (λ e. e.own) holds) (text_of_leaves (front_of a.changed)) (row holds (say top end)) (text_of_leaves (back_of a.changed)) (document_of o t (Some x))
    old_holds =
        subst (λ ts. Holds path (kind_of_row kind) ts (text_of_leaves (front_of a.changed)) (row holds (say top end)) (text_of_leaves (back_of a.changed)) (document_of o t (Some x))) (before top kind a.sort a.is_order ∙ own_texts o kind top entries_)
        (holds_so o kind top (all_stay a.sort.row) s a.changed (Some x) (row holds (say top end)) (said_nodes top a.sort.row ∙ row_said o kind top a.sort.headers a.sort.row))

    new_texts : texts_of (closed kind top (slots_of top a.sort)) ≡ map (λ i. get_or (map (λ e. e.own) holds) i []) a.sort.order
    new_texts = after top kind a.sort a.is_order ∙ ap (λ ts. map (λ i. get_or ts i []) a.sort.order) (before top kind a.sort a.is_order ∙ own_texts o kind top entries_)

    new_holds : Holds path (kind_of_row kind) (map (λ i. get_or (map (λ e. e.own) holds) i []) a.sort.order) (text_of_leaves (front_of a.changed)) (said top (slots_of top a.sort)) (text_of_leaves (back_of a.changed)) (document_of o u (Some y))
    new_holds =
        subst (λ l. Holds path (kind_of_row kind) (map (λ i. get_or (map (λ e. e.own) holds) i []) a.sort.order) (text_of_leaves l) (said top (slots_of top a.sort)) (text_of_leaves (back_of a.changed)) (document_of o u (Some y))) (front_same a.changed)
        (subst (λ l. Holds path (kind_of_row kind) (map (λ i. get_or (map (λ e. e.own) holds) i []) a.sort.order) (text_of_leaves (front_of (flip a.changed))) (said top (slots_of top a.sort)) (text_of_leaves l) (document_of o u (Some y))) (back_same a.changed)
        (subst (λ ts. Holds path (kind_of_row kind) ts (text_of_leaves (front_of (flip a.changed))) (said top (slots_of top a.sort)) (text_of_leaves (back_of (flip a.changed))) (document_of o u (Some y))) new_texts
        (holds_so o kind top (slots_of top a.sort) r (flip a.changed) (Some y) (said top (slots_of top a.sort)) refl)))

    moves : Moves by_blank_lines (kind_of_row kind) path a.sort.order (document_of o t (Some x)) (document_of o u (Some y))
    moves = (
      holds,
      text_of_leaves (front_of a.changed),
      say top end,
      placed_text,
      said top (slots_of top a.sort),
      text_of_leaves (back_of a.changed),
      are_entries o kind top by_blank_lines a.sort.headers a.sort.row pinned row_parts,
      old_holds,
      new_holds,
      placed_so,
      lines_so,
    )

  abbrev Outcome : places.Kind → List ℕ → Type 0
  Outcome kind order = ((order ≡ range_with_len 0 (length order)) × (printed_text u ≡ printed_text t)) ⊎ ((order ≢ range_with_len 0 (length order)) × Moves by_blank_lines kind path order (document_of o t (Some x)) (document_of o u (Some y)))

  outcome : Outcome (kind_of_row a.kind) order
  outcome =
      subst (Outcome (kind_of_row a.kind)) a.by
      (elim (cases_Bool (is_unchanged a.sort.order)) [
        | inl e ↦ (
            let same : container_before a.kind a.top a.sort ≡ container_after a.kind a.top a.sort = rw e refl in
            inl ((bytes_eq-Decides a.sort.order (range_with_len 0 (length a.sort.order))).0 e, ap printed_text (sym (document_same same a.changed))))
        | inr e ↦ inr (not_from_Decides (is_unchanged a.sort.order) (bytes_eq-Decides a.sort.order (range_with_len 0 (length a.sort.order))) e, moves e)
      ])

  outcome_as : (k : places.Kind) → k ≡ kind_of_row a.kind → Outcome k order
  outcome_as k e = subst (λ k. Outcome k order) (sym e) outcome

  pub sorted_so : SortsEntries path order x y → Does (document_of o t (Some x)) (texts.rearrange by_blank_lines path order) (document_of o u (Some y))
  sorted_so (sorts_items {vs = vs} c) =
      let entries : List Named = list_of_items vs in (
        an_array,
        entries,
        ordered (length entries) (items_held a.kind held.had (value_once at_path c)),
        subst (λ (l : Items). Changed (of an_array entries) (plain.array l) path x y) (items_picked order vs) (subst (λ (l : Items). Changed (plain.array l) (plain.array (items_in order vs)) path x y) (sym (same_items vs)) (changed c)),
        often,
        outcome_as an_array (sym (array_row a.kind held.had (value_once at_path c))),
      )
  sorted_so (sorts_members {ms = ms} c) =
      let entries : List Named = list_of_members ms in (
        an_object,
        entries,
        ordered (length entries) (members_held a.kind held.had (value_once at_path c)),
        subst (λ (l : Members). Changed (of an_object entries) (plain.object l) path x y) (members_picked order ms) (subst (λ (l : Members). Changed (plain.object l) (plain.object (members_in order ms)) path x y) (sym (same_members ms)) (changed c)),
        often,
        outcome_as an_object (sym (object_row a.kind held.had (value_once at_path c))),
      )

pub rearranged : (o : Options) (t u : OrderedTree) (w x : Option Plain) (by_blank_lines : Bool) (path order : List ℕ) → SoundTree o t → SoundTree o u → DocumentValueOf o t w → DocumentValueOf o u x → IsChanged w (texts.rearrange by_blank_lines path order) x
    → ((test : tree_marks.Mark → Bool) → count_by test (tree_marks.marks u) ≡ count_by test (tree_marks.marks t)) → (a : SortedAt path order t u) → (by_blank_lines ≡ true → PinsIn a) → Does (document_of o t w) (texts.rearrange by_blank_lines path order) (document_of o u x)
rearranged o t u _ _ by_blank_lines path order s r h k (by_sorting e) m a pinned = sorted_so o by_blank_lines path order s r h k m a pinned e

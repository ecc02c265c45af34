-- The elements of a sorted row, in their order, and their values.
use Rattle.std.proofs.Common.{◌≡◌, ℕ, zero, suc, ◌+◌, ◌<◌, Bool, true, false, cond, not, ◌&&◌, List, [], ◌∷◌, ◌++◌, length, map, drop, filter, Option, IsTrue, refl, sym, ap, subst, ◌∙◌, arith, inl, inr, append-nil}
use Rattle.std.specs.Prelude.{if◌then◌else◌, zip, IsPermutation}
use Rattle.std.specs.List.{range_with_len}
use Rattle.std.proofs.lemmas.Bool.{cases_Bool}
use Rattle.std.proofs.lemmas.List.FromFn.{length-range_with_len}
use Rattle.std.proofs.lemmas.List.Sorted.{length_permutation}
use Rattle.std.proofs.lemmas.Slice.Eq.{bytes_eq-Decides}
use Rattle.jsonc_text.specs.Options.{Options}
use Rattle.jsonc_text.specs.Plain.{Plain, Items, item, Members, member}
use Rattle.jsonc_tree.specs.Content.{Content, token, newline, property}
use Rattle.jsonc_tree.specs.OrderedTree.{OrderedTree, Top, more}
use Rattle.jsonc_tree.specs.Values as values
use Rattle.jsonc_tree.specs.Values.{ItemsOf, MembersOf, PropertyOf, ValueOf, is_passed_over}
use Rattle.jsonc_tree.specs.declared.node.CstNewlineKind.{CstNewlineKind}
use Rattle.jsonc_layout.specs.nodes.Kinds.{is_element}
use Rattle.jsonc_sound.specs.Lines.{is_line_comment}
use Rattle.jsonc_sort.specs.Slots.{Slot, stays, comes, all_stay, row_in, top_in}
use Rattle.jsonc_sort.specs.Parts.{Part, has_comma, is_comma_at, is_whitespace_at, parts}
use Rattle.jsonc_sort.specs.Leads.{blank_lines}
use Rattle.jsonc_sort.specs.Sorting.{Entry, Headers, ends_with_comma, entries, entries_from, entry_at, goes_on, is_unchanged, lines_ended, no_entry, placed, placed_one, rearranged, row_end, slot_content, sorted, tail_with, travelling, without_comma}
use Rattle.jsonc_sort.specs.Laws.{IsOrderOf, content_of, item_at, items_in, name_at, value_at, members_in}
use Rattle.jsonc_sound.proofs.RemovedEntries.{item_taken, member_taken}
use Rattle.jsonc_sort.proofs.NodesOfEntries.{ByKind, HeldEntry, row_held}
use Rattle.jsonc_sort.proofs.Weights.{entry_count}
use Rattle.jsonc_sort.proofs.Choices.{Each, all_members, all_moved, choose, choose_by, each_drop, each_moved, each_zipped, zipped_seconds}

-- the elements among places
module _ (at : ℕ → Content) where
  abbrev is_element_slot : Slot → Bool
  is_element_slot s = is_element (slot_content at s)

  abbrev pub elements : List Slot → List Slot
  elements slots = filter is_element_slot slots

  abbrev Idle : ℕ → Type 0
  Idle n = is_element (at n) ≡ false

  abbrev IsOne : ℕ → Type 0
  IsOne n = is_element (at n) ≡ true

  abbrev IsEntry : Entry → Type 0
  IsEntry e = HeldEntry at Idle IsOne e

  elements_joined : (xs ys : List Slot) → elements (xs ++ ys) ≡ elements xs ++ elements ys
  elements_joined [] ys = refl
  elements_joined (x ∷ xs) ys = elim (cases_Bool (is_element_slot x)) [ inl e ↦ rw e (ap (λ l. x ∷ l) (elements_joined xs ys)) | inr e ↦ rw e (elements_joined xs ys) ]

  idle_none : (row : List ℕ) → Each Idle row → elements (all_stay row) ≡ []
  idle_none [] h = refl
  idle_none (n ∷ row) h = rw h.0 (idle_none row h.1)

  -- and before others
  idle_before : (row : List ℕ) (xs : List Slot) → Each Idle row → elements (all_stay row ++ xs) ≡ elements xs
  idle_before row xs h = elements_joined (all_stay row) xs ∙ ap (λ l. l ++ elements xs) (idle_none row h)

  without_idle : (tail : List ℕ) → Each Idle tail → Each Idle (without_comma at tail)
  without_idle [] h = tt
  without_idle (n ∷ []) h = choose (Each Idle) (is_comma_at at n) [] (n ∷ []) tt h
  without_idle (n ∷ m ∷ rest) h =
      choose (Each Idle) (is_comma_at at n) (m ∷ rest) (if is_whitespace_at at n && is_comma_at at m then rest else n ∷ without_comma at (m ∷ rest)) h.1
      (choose (Each Idle) (is_whitespace_at at n && is_comma_at at m) rest (n ∷ without_comma at (m ∷ rest)) h.1.1 (h.0, without_idle (m ∷ rest) h.1))

  tail_none : (comma : Bool) (tail : List ℕ) → Each Idle tail → elements (tail_with at comma tail) ≡ []
  tail_none true tail h = choose (λ l. elements l ≡ []) (has_comma at tail) (all_stay tail) (comes (token 0x2C) ∷ all_stay tail) (idle_none tail h) (idle_none tail h)
  tail_none false tail h = choose (λ l. elements l ≡ []) (has_comma at tail) (all_stay (without_comma at tail)) (all_stay tail) (idle_none (without_comma at tail) (without_idle tail h)) (idle_none tail h)

  travelling_idle : (first : Bool) (row : List ℕ) → Each Idle row → Each Idle (travelling at first row)
  travelling_idle true row h = each_drop Idle (blank_lines at row) row h
  travelling_idle false row h = h

  one_element : (first comma : Bool) (p : Entry × Entry) → IsEntry p.0 → IsEntry p.1 → elements (placed_one at first comma p) ≡ stays p.1.element ∷ []
  one_element first comma p a b =
      let front : List Slot = all_stay p.0.lead.front in
      let travels : List Slot = all_stay (travelling at first p.1.lead.travels) in
      let indent : List Slot = all_stay p.0.lead.indent in
      let last : List Slot = stays p.1.element ∷ tail_with at comma p.1.tail in
      let behind : elements last ≡ stays p.1.element ∷ [] = rw b.element (ap (λ l. stays p.1.element ∷ l) (tail_none comma p.1.tail b.tail)) in
      elements_joined (front ++ travels ++ indent) last
      ∙ ap (λ l. l ++ elements last) (elements_joined (front ++ travels) indent ∙ ap (λ l. l ++ elements indent) (elements_joined front travels))
      ∙ ap (λ l. ((l ++ elements travels) ++ elements indent) ++ elements last) (idle_none p.0.lead.front a.lead.front)
      ∙ ap (λ l. (l ++ elements indent) ++ elements last) (idle_none (travelling at first p.1.lead.travels) (travelling_idle first p.1.lead.travels b.lead.travels))
      ∙ ap (λ l. l ++ elements last) (idle_none p.0.lead.indent a.lead.indent)
      ∙ behind

  abbrev second : Entry × Entry → Slot
  second p = stays p.1.element

  placed_elements : (first commas : Bool) (ps : List (Entry × Entry)) → Each (λ p. IsEntry p.0 × IsEntry p.1) ps → elements (placed at first commas ps) ≡ map second ps
  placed_elements first commas [] h = refl
  placed_elements first commas (p ∷ []) h = one_element first commas p h.0.0 h.0.1
  placed_elements first commas (p ∷ q ∷ rest) h =
      elements_joined (placed_one at first true p) (placed at false commas (q ∷ rest))
      ∙ ap (λ l. l ++ elements (placed at false commas (q ∷ rest))) (one_element first true p h.0.0 h.0.1)
      ∙ ap (λ l. second p ∷ l) (placed_elements false commas (q ∷ rest) h.1)

  lines_elements : (k : CstNewlineKind) (xs : List Slot) → elements (lines_ended at k xs) ≡ elements xs
  lines_elements k [] = refl
  lines_elements k (s ∷ xs) =
      let same : elements (s ∷ lines_ended at k xs) ≡ elements (s ∷ xs) = onto s (lines_ended at k xs) xs (lines_elements k xs) in
      choose (λ l. elements l ≡ elements (s ∷ xs)) (is_line_comment (slot_content at s) && goes_on at xs) (s ∷ comes (newline k) ∷ lines_ended at k xs) (s ∷ lines_ended at k xs) same same
    where
      onto : (s : Slot) (a b : List Slot) → elements a ≡ elements b → elements (s ∷ a) ≡ elements (s ∷ b)
      onto s a b e = ap (λ l. cond (is_element_slot s) (s ∷ l) l) e

  by_kind : (row : List ℕ) → Each (ByKind at Idle IsOne) row
  by_kind [] = tt
  by_kind (n ∷ row) = (record { element = λ e. e; other = λ e. e }, by_kind row)

  -- of a row they are those of its entries
  abbrev of_entry : Entry → Slot
  of_entry e = stays e.element

  part_elements : (row : List ℕ) → elements (all_stay row) ≡ map (λ part. stays part.element) (parts at row).rest
  part_elements [] = refl
  part_elements (n ∷ row) = elim (cases_Bool (is_element (at n))) [ inl e ↦ rw e (ap (λ l. stays n ∷ l) (part_elements row)) | inr e ↦ rw e (part_elements row) ]

  entry_elements : (groups : Bool) (pins : List (Option ℕ)) (lead : List ℕ) (rest : List Part) → map of_entry (entries_from at groups pins lead rest) ≡ map (λ part. stays part.element) rest
  entry_elements groups pins lead [] = refl
  entry_elements groups pins lead (part ∷ rest) = ap (λ l. stays part.element ∷ l) (entry_elements groups (drop 1 pins) part.behind rest)

  pub row_elements : (h : Headers) (row : List ℕ) → elements (all_stay row) ≡ map of_entry (entries at h row)
  row_elements h row = part_elements row ∙ sym (entry_elements h.groups h.pinned (parts at row).lead (parts at row).rest)

  pub mapped : (es : List Entry) (order : List ℕ) → map of_entry (map (entry_at es) order) ≡ map (λ i. stays (entry_at es i).element) order
  mapped es [] = refl
  mapped es (i ∷ order) = ap (λ l. stays (entry_at es i).element ∷ l) (mapped es order)

  -- moved as the order says, they come in it
  pub moved_elements : (k : CstNewlineKind) (h : Headers) (row order : List ℕ) → IsPermutation (range_with_len 0 (length (entries at h row))) order
      → elements (lines_ended at k (rearranged at (entries at h row) order ++ all_stay (row_end at row))) ≡ map (λ i. stays (entry_at (entries at h row) i).element) order
  moved_elements k h row order p =
      let es : List Entry = entries at h row in
      let xs : List Entry = map (entry_at es) order in
      let moves : IsPermutation es xs = all_moved no_entry es order p in
      let are = row_held at Idle IsOne h row (by_kind row) in
      let held : Each IsEntry xs = each_moved IsEntry es xs moves are.0 in
      lines_elements k (rearranged at es order ++ all_stay (row_end at row)) ∙ elements_joined (rearranged at es order) (all_stay (row_end at row))
      ∙ ap (λ l. l ++ elements (all_stay (row_end at row))) (placed_elements true (ends_with_comma at es) (zip es xs) (each_zipped IsEntry es xs are.0 held) ∙ zipped_seconds (λ e. stays e.element) es xs (length_permutation es xs moves) ∙ mapped es order)
      ∙ ap (λ l. map (λ i. stays (entry_at es i).element) order ++ l) (idle_none (row_end at row) are.1) ∙ append-nil (map (λ i. stays (entry_at es i).element) order)

  -- the sorted row has them in its order
  pub sorted_elements : (k : CstNewlineKind) (h : Headers) (row order : List ℕ) → IsPermutation (range_with_len 0 (length (entries at h row))) order
      → elements (sorted at k h row order) ≡ map (λ i. stays (entry_at (entries at h row) i).element) order
  sorted_elements k h row order p =
      choose_by (λ l. elements l ≡ map (λ i. stays (entry_at (entries at h row) i).element) order) (is_unchanged order) (all_stay row) (lines_ended at k (rearranged at (entries at h row) order ++ all_stay (row_end at row))) old new
    where
      old : is_unchanged order ≡ true → elements (all_stay row) ≡ map (λ i. stays (entry_at (entries at h row) i).element) order
      old e =
          let same : order ≡ range_with_len 0 (length order) = (bytes_eq-Decides order (range_with_len 0 (length order))).0 e in
          let long : length order ≡ length (entries at h row) = length_permutation (range_with_len 0 (length (entries at h row))) order p ∙ length-range_with_len 0 (length (entries at h row)) in
          row_elements h row ∙ ap (map of_entry) (sym (all_members no_entry (entries at h row))) ∙ mapped (entries at h row) (range_with_len 0 (length (entries at h row))) ∙ ap (λ n. map (λ i. stays (entry_at (entries at h row) i).element) (range_with_len 0 n)) (sym long) ∙ ap (map (λ i. stays (entry_at (entries at h row) i).element)) (sym same)

      new : is_unchanged order ≡ false → elements (lines_ended at k (rearranged at (entries at h row) order ++ all_stay (row_end at row))) ≡ map (λ i. stays (entry_at (entries at h row) i).element) order
      new e = moved_elements k h row order p

-- numbers below a length
each_range : (P : ℕ → Type 0) (from n : ℕ) → ((i : ℕ) → i < from + n → P i) → Each P (range_with_len from n)
each_range P from zero h = tt
each_range P from (suc n) h = (h from (omega arith), each_range P (from + 1) n (λ i lt. h i (omega arith)))

each_by : {A : Type 0} (P Q : A → Type 0) (xs : List A) → ((x : A) → P x → Q x) → Each P xs → Each Q xs
each_by P Q [] f h = tt
each_by P Q (x ∷ xs) f h = (f x h.0, each_by P Q xs f h.1)

one_is : (b : Bool) → not b ≡ true → IsTrue b → ⊥
one_is true e h = cc
one_is false e h = cc

pub none_is : (b : Bool) → not b ≡ false → IsTrue b
none_is true e = refl
none_is false e = cc

module _ (o : Options) (top : ℕ → Top) where
  abbrev kinds : ℕ → Content
  kinds = content_of top

  same_kind : (s : Slot) → slot_content kinds s ≡ (top_in top s).content
  same_kind (stays n) = refl
  same_kind (comes content) = refl

  -- an item, or none
  record FirstItem (content : Content) (below after : OrderedTree) (vs : Items) : Type 0 where
    v : Plain
    ws : Items
    value : ValueOf o content below v
    rest : ItemsOf o after ws
    is : vs ≡ item v ws

  first_item : {content : Content} {below after : OrderedTree} {vs : Items} → is_element content ≡ true → ItemsOf o (more content below after) vs → FirstItem content below after vs
  first_item {content} e (values.pass_to_items p h) = absurd (one_is (is_passed_over content) e p)
  first_item e (values.one_item {v = v} {vs = vs} x h) = record { v = v; ws = vs; value = x; rest = h; is = refl }

  items_skip : (slots : List Slot) {vs : Items} → ItemsOf o (row_in top slots) vs → ItemsOf o (row_in top (elements kinds slots)) vs
  items_skip [] h = h
  items_skip (s ∷ slots) {vs} h =
      elim (cases_Bool (is_element (slot_content kinds s))) [
        | inl e ↦ (
            let f = first_item (ap is_element (sym (same_kind s)) ∙ e) h in
            rw e (subst (ItemsOf o (row_in top (s ∷ elements kinds slots))) (sym f.is) (values.one_item f.value (items_skip slots f.rest)))
            )
        | inr e ↦ rw e (items_skip slots (item_taken o (none_is (is_passed_over (top_in top s).content) (ap is_element (sym (same_kind s)) ∙ e)) h))
      ]

  items_back : (slots : List Slot) {vs : Items} → ItemsOf o (row_in top (elements kinds slots)) vs → ItemsOf o (row_in top slots) vs
  items_back [] h = h
  items_back (s ∷ slots) {vs} h =
      elim (cases_Bool (is_element (slot_content kinds s))) [
        | inl e ↦ (
            let g : ItemsOf o (row_in top (s ∷ elements kinds slots)) vs = rw e at h in
            let f = first_item (ap is_element (sym (same_kind s)) ∙ e) g in
            subst (ItemsOf o (row_in top (s ∷ slots))) (sym f.is) (values.one_item f.value (items_back slots f.rest))
            )
        | inr e ↦ (
            let g : ItemsOf o (row_in top (elements kinds slots)) vs = rw e at h in
            values.pass_to_items (none_is (is_passed_over (top_in top s).content) (ap is_element (sym (same_kind s)) ∙ e)) (items_back slots g)
            )
      ]

  abbrev HasValue_ : Items → ℕ → ℕ → Type 0
  HasValue_ vs n i = ValueOf o (top n).content (top n).below (item_at i vs)

  value_there : (es : List Entry) {vs : Items} → Each (λ e. is_element (kinds e.element) ≡ true) es → ItemsOf o (row_in top (map (λ e. stays e.element) es)) vs → (i : ℕ) → i < length es → HasValue_ vs (entry_at es i).element i
  value_there [] h g i lt = absurd (omega arith)
  value_there (e ∷ es) {vs} h g zero lt = let f = first_item h.0 g in subst (λ w. HasValue_ w e.element 0) (sym f.is) f.value
  value_there (e ∷ es) {vs} h g (suc i) lt = let f = first_item h.0 g in subst (λ w. HasValue_ w (entry_at es i).element (suc i)) (sym f.is) (value_there es h.1 f.rest i (omega arith))

  items_ordered : (pick : ℕ → ℕ) (order : List ℕ) (vs : Items) → Each (λ i. HasValue_ vs (pick i) i) order → ItemsOf o (row_in top (map (λ i. stays (pick i)) order)) (items_in order vs)
  items_ordered pick [] vs h = values.no_more_items
  items_ordered pick (i ∷ order) vs h = values.one_item h.0 (items_ordered pick order vs h.1)

  -- a property, or none
  record FirstMember (content : Content) (below after : OrderedTree) (ms : Members) : Type 0 where
    name : List ℕ
    v : Plain
    ns : Members
    kind : content ≡ property
    held : PropertyOf o below name v
    rest : MembersOf o after ns
    is : ms ≡ member name v ns

  first_member : {content : Content} {below after : OrderedTree} {ms : Members} → is_element content ≡ true → MembersOf o (more content below after) ms → FirstMember content below after ms
  first_member {content} e (values.pass_to_members p h) = absurd (one_is (is_passed_over content) e p)
  first_member e (values.one_member {name = name} {v = v} {ms = ms} x h) = record { name = name; v = v; ns = ms; kind = refl; held = x; rest = h; is = refl }

  put_member : {content : Content} {below after : OrderedTree} {name : List ℕ} {v : Plain} {ms : Members} → content ≡ property → PropertyOf o below name v → MembersOf o after ms → MembersOf o (more content below after) (member name v ms)
  put_member {content} {below} {after} {name} {v} {ms} e p h = subst (λ c. MembersOf o (more c below after) (member name v ms)) (sym e) (values.one_member p h)

  members_skip : (slots : List Slot) {ms : Members} → MembersOf o (row_in top slots) ms → MembersOf o (row_in top (elements kinds slots)) ms
  members_skip [] h = h
  members_skip (s ∷ slots) {ms} h =
      elim (cases_Bool (is_element (slot_content kinds s))) [
        | inl e ↦ (
            let f = first_member (ap is_element (sym (same_kind s)) ∙ e) h in
            rw e (subst (MembersOf o (row_in top (s ∷ elements kinds slots))) (sym f.is) (put_member f.kind f.held (members_skip slots f.rest)))
            )
        | inr e ↦ rw e (members_skip slots (member_taken o (none_is (is_passed_over (top_in top s).content) (ap is_element (sym (same_kind s)) ∙ e)) h))
      ]

  members_back : (slots : List Slot) {ms : Members} → MembersOf o (row_in top (elements kinds slots)) ms → MembersOf o (row_in top slots) ms
  members_back [] h = h
  members_back (s ∷ slots) {ms} h =
      elim (cases_Bool (is_element (slot_content kinds s))) [
        | inl e ↦ (
            let g : MembersOf o (row_in top (s ∷ elements kinds slots)) ms = rw e at h in
            let f = first_member (ap is_element (sym (same_kind s)) ∙ e) g in
            subst (MembersOf o (row_in top (s ∷ slots))) (sym f.is) (put_member f.kind f.held (members_back slots f.rest))
            )
        | inr e ↦ (
            let g : MembersOf o (row_in top (elements kinds slots)) ms = rw e at h in
            values.pass_to_members (none_is (is_passed_over (top_in top s).content) (ap is_element (sym (same_kind s)) ∙ e)) (members_back slots g)
            )
      ]

  abbrev HasMember : Members → ℕ → ℕ → Type 0
  HasMember ms n i = ((top n).content ≡ property) × PropertyOf o (top n).below (name_at i ms) (value_at i ms)

  member_there : (es : List Entry) {ms : Members} → Each (λ e. is_element (kinds e.element) ≡ true) es → MembersOf o (row_in top (map (λ e. stays e.element) es)) ms → (i : ℕ) → i < length es → HasMember ms (entry_at es i).element i
  member_there [] h g i lt = absurd (omega arith)
  member_there (e ∷ es) {ms} h g zero lt = let f = first_member h.0 g in subst (λ w. HasMember w e.element 0) (sym f.is) (f.kind, f.held)
  member_there (e ∷ es) {ms} h g (suc i) lt = let f = first_member h.0 g in subst (λ w. HasMember w (entry_at es i).element (suc i)) (sym f.is) (member_there es h.1 f.rest i (omega arith))

  members_ordered : (pick : ℕ → ℕ) (order : List ℕ) (ms : Members) → Each (λ i. HasMember ms (pick i) i) order → MembersOf o (row_in top (map (λ i. stays (pick i)) order)) (members_in order ms)
  members_ordered pick [] ms h = values.no_more_members
  members_ordered pick (i ∷ order) ms h = put_member h.0.0 h.0.1 (members_ordered pick order ms h.1)

  module _ (k : CstNewlineKind) (h : Headers) (row order : List ℕ) (is : IsOrderOf top row order) where
    abbrev es : List Entry
    es = entries kinds h row

    perm : IsPermutation (range_with_len 0 (length es)) order
    perm = subst (λ n. IsPermutation (range_with_len 0 n) order) (sym (entry_count kinds h row)) is

    below : Each (λ i. i < length es) order
    below = each_moved (λ i. i < length es) (range_with_len 0 (length es)) order perm (each_range (λ i. i < length es) 0 (length es) (λ i lt. omega arith))

    ones : Each (λ e. is_element (kinds e.element) ≡ true) es
    ones = each_by (λ e. HeldEntry kinds (λ n. is_element (kinds n) ≡ false) (λ n. is_element (kinds n) ≡ true) e) (λ e. is_element (kinds e.element) ≡ true) es (λ e x. x.element) (row_held kinds (λ n. is_element (kinds n) ≡ false) (λ n. is_element (kinds n) ≡ true) h row (by_kind kinds row)).0

    pub items_sorted : (vs : Items) → ItemsOf o (row_in top (all_stay row)) vs → ItemsOf o (row_in top (sorted kinds k h row order)) (items_in order vs)
    items_sorted vs g =
        let old : ItemsOf o (row_in top (map (λ e. stays e.element) es)) vs = subst (λ l. ItemsOf o (row_in top l) vs) (row_elements kinds h row) (items_skip (all_stay row) g) in
        let each : Each (λ i. HasValue_ vs (entry_at es i).element i) order = each_by (λ i. i < length es) (λ i. HasValue_ vs (entry_at es i).element i) order (λ i lt. value_there es ones old i lt) below in
        items_back (sorted kinds k h row order) (subst (λ l. ItemsOf o (row_in top l) (items_in order vs)) (sym (sorted_elements kinds k h row order perm)) (items_ordered (λ i. (entry_at es i).element) order vs each))

    pub members_sorted : (ms : Members) → MembersOf o (row_in top (all_stay row)) ms → MembersOf o (row_in top (sorted kinds k h row order)) (members_in order ms)
    members_sorted ms g =
        let old : MembersOf o (row_in top (map (λ e. stays e.element) es)) ms = subst (λ l. MembersOf o (row_in top l) ms) (row_elements kinds h row) (members_skip (all_stay row) g) in
        let each : Each (λ i. HasMember ms (entry_at es i).element i) order = each_by (λ i. i < length es) (λ i. HasMember ms (entry_at es i).element i) order (λ i lt. member_there es ones old i lt) below in
        members_back (sorted kinds k h row order) (subst (λ l. MembersOf o (row_in top l) (members_in order ms)) (sym (sorted_elements kinds k h row order perm)) (members_ordered (λ i. (entry_at es i).element) order ms each))

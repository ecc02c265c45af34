-- The marks of a sorted row.
use Rattle.std.proofs.Common.{◌≡◌, ℕ, ◌+◌, Bool, cond, ◌&&◌, List, [], ◌∷◌, ◌++◌, IsTrue, refl, sym, ap, ◌∙◌, append-nil}
use Rattle.std.specs.Prelude.{if◌then◌else◌, count_by}
use Rattle.std.proofs.lemmas.List.Sums.{sum_by-append}
use Rattle.jsonc_text.specs.Options.{Options}
use Rattle.jsonc_tree.specs.Content.{Content, newline}
use Rattle.jsonc_tree.specs.OrderedTree.{OrderedTree, Top, none, more, leaves}
use Rattle.jsonc_tree.proofs.OrderedTrees.{leaves-followed_by}
use Rattle.jsonc_tree.specs.declared.node.CstNewlineKind.{CstNewlineKind}
use Rattle.jsonc_sound.specs.Lines.{is_line_comment}
use Rattle.jsonc_sound.specs.Shape.{token_then}
use Rattle.jsonc_sound.specs.Marks.{Mark, marks, marks_of}
use Rattle.jsonc_sound.specs.MarkChanges.{marks_under}
use Rattle.jsonc_sound.specs.Rows as rows
use Rattle.jsonc_sound.specs.Rows.{RowKind, closing, container_of}
use Rattle.jsonc_sound.proofs.NodesAlone.{value_alone}
use Rattle.jsonc_sound.proofs.ReplacedStretches.{marks_join, values_marks}
use Rattle.jsonc_sound.proofs.HeldValues.{document_held}
use Rattle.jsonc_sound.proofs.SeamRows.{container_leaves, row_of}
use Rattle.jsonc_sort.specs.Slots.{Slot, stays, comes, all_stay, row_in, top_in}
use Rattle.jsonc_sort.specs.Sorting.{entries, goes_on, is_unchanged, lines_ended, rearranged, row_end, slot_content}
use Rattle.jsonc_sort.specs.Laws.{IsOrderOf, KeepsAllMarks, KeepsMarks, KeepsNodes, Sort, closed, container_after, container_before, content_of, is_filling, row_after, row_before, slots_of}
use Rattle.jsonc_sort.proofs.Choices.{Each, choose, choose_by}
use Rattle.jsonc_sort.proofs.Documents.{order_is, row_joined}
use Rattle.jsonc_sort.proofs.Lines.{Held, rearranged_held}
use Rattle.jsonc_sort.proofs.OldRows.{bare_row}
use Rattle.jsonc_sort.proofs.Sums.{added, added_map, sum_is}
use Rattle.jsonc_sort.proofs.Weights.{sorted_whole}

-- nodes
pub keeps_nodes : (top : ℕ → Top) (s : Sort) (test : Top → Bool) → KeepsNodes top s test
keeps_nodes top s test order passes =
    let f : Top → ℕ = λ t. cond (test t) 1 0 in
    sum_is (λ slot. f (top_in top slot)) (slots_of top s)
    ∙ sorted_whole top f (λ t h. rw (passes t h) refl) s.newline s.headers s.row s.order order
    ∙ sym (sum_is (λ n. f (top n)) s.row)

-- marks
module _ (top : ℕ → Top) (test : Mark → Bool) where
  abbrev own_marks : Top → ℕ
  own_marks t = count_by test (marks_of (leaves (more t.content t.below none)))

  abbrev solid_marks : Top → ℕ
  solid_marks t = if is_filling t.content then 0 else own_marks t

  free : (t : Top) → IsTrue (is_filling t.content) → solid_marks t ≡ 0
  free t h = rw h refl

  no_marks : (c : Content) → IsTrue (is_filling c) → count_by test (marks_of (leaves (more c none none))) ≡ 0
  no_marks (Content.whitespace s) h = refl
  no_marks (Content.newline s) h = refl
  no_marks (Content.token s) h = refl
  no_marks c h = cc

  abbrev IsBareTop : Top → Type 0
  IsBareTop t = IsTrue (is_filling t.content) → t.below ≡ none

  solid_is : (t : Top) → IsBareTop t → own_marks t ≡ solid_marks t
  solid_is t h = choose_by (λ n. own_marks t ≡ n) (is_filling t.content) 0 (own_marks t) (λ e. ap (λ b. count_by test (marks_of (leaves (more t.content b none)))) (h e) ∙ no_marks t.content e) (λ e. refl)

  marks_are : (slots : List Slot) → Each (λ s. IsBareTop (top_in top s)) slots → count_by test (marks (row_in top slots)) ≡ added (λ s. solid_marks (top_in top s)) slots
  marks_are [] h = refl
  marks_are (s ∷ slots) h =
      let t : Top = top_in top s in
      let first : OrderedTree = more t.content t.below none in
      let parted : marks (row_in top (s ∷ slots)) ≡ marks first ++ marks (row_in top slots) = ap marks_of (leaves-followed_by first (row_in top slots)) ∙ marks_join (leaves first) (leaves (row_in top slots)) in
      ap (count_by test) parted ∙ sum_by-append (λ m. cond (test m) 1 0) (marks first) (marks (row_in top slots)) ∙ ap (λ n. n + count_by test (marks (row_in top slots))) (solid_is t h.0) ∙ ap (λ n. solid_marks t + n) (marks_are slots h.1)

  all_bare : (row : List ℕ) → Each (λ n. IsBareTop (top n)) row → Each (λ s. IsBareTop (top_in top s)) (all_stay row)
  all_bare [] h = tt
  all_bare (n ∷ row) h = (h.0, all_bare row h.1)

  held_bare : (slots : List Slot) → Each (Held (content_of top) (λ n. IsBareTop (top n))) slots → Each (λ s. IsBareTop (top_in top s)) slots
  held_bare [] h = tt
  held_bare (stays n ∷ slots) h = (h.0, held_bare slots h.1)
  held_bare (comes content ∷ slots) h = (λ x. refl, held_bare slots h.1)

  lines_bare : (k : CstNewlineKind) (slots : List Slot) → Each (λ s. IsBareTop (top_in top s)) slots → Each (λ s. IsBareTop (top_in top s)) (lines_ended (content_of top) k slots)
  lines_bare k [] h = tt
  lines_bare k (s ∷ slots) h =
      choose (Each (λ s. IsBareTop (top_in top s))) (is_line_comment (slot_content (content_of top) s) && goes_on (content_of top) slots) (s ∷ comes (newline k) ∷ lines_ended (content_of top) k slots) (s ∷ lines_ended (content_of top) k slots)
      (h.0, (λ x. refl, lines_bare k slots h.1)) (h.0, lines_bare k slots h.1)

  sorted_bare : (s : Sort) → IsOrderOf top s.row s.order → Each (λ n. IsBareTop (top n)) s.row → Each (λ x. IsBareTop (top_in top x)) (slots_of top s)
  sorted_bare s order h =
      let at : ℕ → Content = content_of top in
      let body : List Slot = rearranged at (entries at s.headers s.row) s.order ++ all_stay (row_end at s.row) in
      choose (Each (λ x. IsBareTop (top_in top x))) (is_unchanged s.order) (all_stay s.row) (lines_ended at s.newline body) (all_bare s.row h)
      (lines_bare s.newline body (held_bare body (rearranged_held at (λ n. IsBareTop (top n)) s.headers s.row s.order h (order_is top s order))))

  pub marks_kept : (s : Sort) → IsOrderOf top s.row s.order → Each (λ n. IsBareTop (top n)) s.row → count_by test (marks (row_after top s)) ≡ count_by test (marks (row_before top s))
  marks_kept s order h =
      marks_are (slots_of top s) (sorted_bare s order h)
      ∙ sorted_whole top solid_marks free s.newline s.headers s.row s.order order
      ∙ sym (added_map (λ x. solid_marks (top_in top x)) stays s.row)
      ∙ sym (marks_are (all_stay s.row) (all_bare s.row h))

pub each_of : (P : ℕ → Type 0) (row : List ℕ) → ((n : ℕ) → P n) → Each P row
each_of P [] f = tt
each_of P (n ∷ row) f = (f n, each_of P row f)

pub keeps_marks : (top : ℕ → Top) (s : Sort) (test : Mark → Bool) → KeepsMarks top s test
keeps_marks top s test bare order = marks_kept top test s order (each_of (λ n. IsTrue (is_filling (top n).content) → (top n).below ≡ none) s.row bare)

-- of a container
container_marks : (kind : RowKind) (top : ℕ → Top) (slots : List Slot) → marks_under (container_of kind (closed kind top slots)) ≡ marks (row_in top slots)
container_marks kind top slots =
    let row : OrderedTree = row_in top slots in
    let close : OrderedTree = token_then (closing kind) none in
    ap marks_of (container_leaves kind (closed kind top slots))
    ∙ ap marks (sym (row_joined top slots close))
    ∙ ap marks_of (leaves-followed_by row close) ∙ marks_join (leaves row) (leaves close) ∙ append-nil (marks row)

pub keeps_all_marks : (o : Options) (t : OrderedTree) (test : Mark → Bool) → KeepsAllMarks o t test
keeps_all_marks o t test sound kind top s path u c order =
    let v = document_held o c sound.shaped in
    let g = row_of o kind (closed kind top (all_stay s.row)) (value_alone o v.1) in
    let same = marks_kept top test s order (bare_row o kind top s.row rows.nothing_yet g) in
    let m = values_marks t (container_before kind top s) (container_after kind top s) path u c in
    let was = marks_under (container_before kind top s) in
    let now = marks_under (container_after kind top s) in
    let one : Mark → ℕ = λ x. cond (test x) 1 0 in
    let counts : count_by test now ≡ count_by test was = ap (count_by test) (container_marks kind top (slots_of top s)) ∙ same ∙ ap (count_by test) (sym (container_marks kind top (all_stay s.row))) in
    ap (count_by test) m.after ∙ sum_by-append one m.front (now ++ m.back) ∙ ap (λ n. count_by test m.front + n) (sum_by-append one now m.back)
    ∙ ap (λ n. count_by test m.front + (n + count_by test m.back)) counts
    ∙ ap (λ n. count_by test m.front + n) (sym (sum_by-append one was m.back)) ∙ sym (sum_by-append one m.front (was ++ m.back)) ∙ ap (count_by test) (sym m.before)

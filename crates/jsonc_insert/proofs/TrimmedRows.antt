-- A row without blank lines inside its brackets still has its brackets, and holds nothing else than before.
use Rattle.std.proofs.Common.{◌≡◌, ◌<◌, ◌≤◌, ◌+◌, ◌-◌, ◌&&◌, ◌||◌, inl, inr, ℕ, suc, Bool, true, false, cond, List, [], ◌∷◌, ◌++◌, All, length, filter, reverse, take, drop, get_or, slice_index, slice_range, nat_lt, refl, sym, ap, subst, ◌∙◌, arith, length-append, length-drop}
use Rattle.std.specs.List.{prefix_len}
use Rattle.std.proofs.lemmas.Bool.{cases_Bool, cases_lt, ltb-false, ltb-true, false≢true}
use Rattle.std.proofs.lemmas.List.{get_or-append-add, get_or-drop, get_or-reverse, get_or-take, get_or_append_left, length-reverse, length-take}
use Rattle.std.proofs.lemmas.List.Edits.{get_or-between, length-between, split_between}
use Rattle.std.proofs.lemmas.List.Elements.{All-append, All-drop, All-take, filter-append}
use Rattle.std.proofs.lemmas.List.Folds.{length-prefix_len}
use Rattle.std.proofs.lemmas.List.Sums.{prefix_len_passes, prefix_len_stops, prefix_len-le-length}
use Rattle.jsonc_tree.specs.Changes.{EachOnce}
use Rattle.jsonc_tree.specs.Content as content
use Rattle.jsonc_tree.specs.Content.{Content}
use Rattle.jsonc_tree.specs.Tree.{Node, content_at}
use Rattle.jsonc_layout.specs.nodes.Kinds.{is_element, is_element_at, is_newline, is_whitespace, is_whitespace_at, is_token, is_blank_at}
use Rattle.jsonc_insert.specs.Planned.{elements, has_brackets}
use Rattle.jsonc_insert.specs.Trimmed.{before_last_line, behind_first_line, blanks, first_gone, inside, last_blanks, last_gone, last_gone_from, last_spaces, nothing_at, spaces, trimmed, without}
use Rattle.jsonc_insert.specs.declared.trim.Stretch.{Stretch}
use Rattle.jsonc_insert.proofs.NoDuplicates.{once_without}

-- what passes at the front of a list in which something doesn't, and what passes at its end, are apart
pub runs_apart : (p : ℕ → Bool) (xs : List ℕ) → prefix_len p xs < length xs → prefix_len p xs + prefix_len p (reverse xs) < length xs
runs_apart p xs h =
    elim (cases_lt (prefix_len p xs + prefix_len p (reverse xs)) (length xs)) [
      | inl low ↦ low
      | inr high ↦ (
          let k = prefix_len p xs in
          let j : ℕ = length xs - 1 - k in
          let back : length xs - 1 - j ≡ k = omega (arith, h) in
          let there : j < length xs = omega (arith, h) in
          let passes : p (get_or (reverse xs) j 0) ≡ true = prefix_len_passes p (reverse xs) j 0 (omega (arith, h, high)) in
          let same : get_or (reverse xs) j 0 ≡ get_or xs k 0 = get_or-reverse xs j 0 there ∙ ap (λ i. get_or xs i 0) back in
          absurd (false≢true (sym (prefix_len_stops p xs 0 h) ∙ sym (ap p same) ∙ passes)))
    ]

module _ (ns : List Node) where
  blanks_are : (xs : List ℕ) → blanks ns xs ≡ prefix_len (is_blank_at ns) xs
  blanks_are xs = length-prefix_len (is_blank_at ns) xs

  pub blanks_within : (xs : List ℕ) → blanks ns xs ≤ length xs
  blanks_within xs = omega (arith, blanks_are xs, prefix_len-le-length (is_blank_at ns) xs)

  spaces_within : (xs : List ℕ) → spaces ns xs ≤ length xs
  spaces_within xs = omega (arith, length-prefix_len (is_whitespace_at ns) xs, prefix_len-le-length (is_whitespace_at ns) xs)

  last_within : (xs : List ℕ) → last_blanks ns xs ≤ length xs
  last_within xs = omega (arith, blanks_within (reverse xs), length-reverse xs)

  pub spaces_apart : (xs : List ℕ) → spaces ns xs < length xs → spaces ns xs + last_spaces ns xs < length xs
  spaces_apart xs h =
      let front = length-prefix_len (is_whitespace_at ns) xs in
      let back = length-prefix_len (is_whitespace_at ns) (reverse xs) in
      let apart = runs_apart (is_whitespace_at ns) xs (omega (arith, h, front)) in
      omega (arith, apart, front, back)

  blanks_apart : (xs : List ℕ) → blanks ns xs < length xs → blanks ns xs + last_blanks ns xs < length xs
  blanks_apart xs h =
      let front = blanks_are xs in
      let back = blanks_are (reverse xs) in
      let apart = runs_apart (is_blank_at ns) xs (omega (arith, h, front)) in
      omega (arith, apart, front, back)

-- a stretch from one place on, and up to another
pub record Within (low high : ℕ) (s : Stretch) : Type 0 where
  pub from : low ≤ s.from
  pub order : s.from ≤ s.to
  pub to : s.to ≤ high

pub either : (P : Stretch → Type 0) (b : Bool) (s t : Stretch) → (b ≡ true → P s) → P t → P (cond b s t)
either P true s t f g = f refl
either P false s t f g = g

module _ (ns : List Node) (place : ℕ) (run : List ℕ) where
  few : nat_lt (spaces ns run) (length run) ≡ true → spaces ns run + last_spaces ns run < length run
  few b = spaces_apart ns run (ltb-true (spaces ns run) (length run) b)

  pub behind_within : Within 1 (1 + length run) (behind_first_line ns 1 run)
  behind_within =
      either (Within 1 (1 + length run)) (nat_lt (spaces ns run) (length run)) _ (nothing_at 1)
      (λ b. record { from = omega arith; order = omega (arith, few b); to = omega arith })
      (record { from = omega arith; order = omega arith; to = omega arith })

  pub before_within : Within place (place + length run) (before_last_line ns place run)
  before_within =
      either (Within place (place + length run)) (nat_lt (spaces ns run) (length run)) _ (nothing_at place)
      (λ b. record { from = omega arith; order = omega (arith, few b); to = omega arith })
      (record { from = omega arith; order = omega arith; to = omega arith })

-- a row without a stretch inside keeps its ends
module _ (row : List ℕ) (s : Stretch) (low : 1 ≤ s.from) (order : s.from ≤ s.to) (high : s.to < length row) where
  count : length (without s row) ≡ s.from + (length row - s.to)
  count = omega (arith, order, high, length-append (take s.from row) (drop s.to row), length-take s.from row, length-drop s.to row)

  front : slice_index (without s row) 0 ≡ slice_index row 0
  front = get_or_append_left (take s.from row) (drop s.to row) 0 0 (omega (arith, low, order, high, length-take s.from row)) ∙ get_or-take s.from row 0 0 (omega (arith, low))

  back : slice_index (without s row) (length (without s row) - 1) ≡ slice_index row (length row - 1)
  back =
      let many : length (take s.from row) ≡ s.from = omega (arith, order, high, length-take s.from row) in
      let last : length (without s row) - 1 ≡ length (take s.from row) + (length row - s.to - 1) = omega (arith, count, many, high) in
      let past : s.to + (length row - s.to - 1) ≡ length row - 1 = omega (arith, high) in
      ap (slice_index (without s row)) last ∙ get_or-append-add (take s.from row) (drop s.to row) (length row - s.to - 1) 0 ∙ get_or-drop s.to row (length row - s.to - 1) 0 ∙ ap (slice_index row) past

-- the row without the last stretch, and then without the first
module _ (ns : List Node) (row : List ℕ) (two : 2 ≤ length row) where
  long : length (inside row) ≡ length row - 2
  long = let l = length-between row 1 (length row - 1) (omega arith) in omega (arith, l)

  run_long : length (slice_range (inside row) 0 (blanks ns (inside row))) ≡ blanks ns (inside row)
  run_long = let l = length-between (inside row) 0 (blanks ns (inside row)) (blanks_within ns (inside row)) in omega (arith, l)

  pub first_within : Within 1 (1 + blanks ns (inside row)) (first_gone ns row)
  first_within = subst (λ k. Within 1 (1 + k) (first_gone ns row)) run_long (behind_within ns 1 (slice_range (inside row) 0 (blanks ns (inside row))))

  abbrev place : ℕ
  place = length row - 1 - last_blanks ns (inside row)

  -- where it begins: behind the blanks at the front, unless nothing but blanks is inside
  abbrev pub Behind : Stretch → Type 0
  Behind s = (1 + blanks ns (inside row) ≤ s.from) × (s.from ≤ s.to) × (s.to < length row)

  tail_long : length (slice_range row place (length row - 1)) ≡ length row - 1 - place
  tail_long = length-between row place (length row - 1) (omega arith)

  last_in : Within place (length row - 1) (last_gone_from ns row place)
  last_in =
      let w = before_within ns place (slice_range row place (length row - 1)) in
      let e : place + length (slice_range row place (length row - 1)) ≡ length row - 1 = omega (arith, tail_long) in
      subst (λ k. Within place k (last_gone_from ns row place)) e w

  pub last_behind : Behind (last_gone ns row)
  last_behind =
      either Behind (nat_lt (blanks ns (inside row)) (length (inside row))) (last_gone_from ns row place) (nothing_at (length row - 1))
      (λ b.
      let some = ltb-true (blanks ns (inside row)) (length (inside row)) b in
      let apart = blanks_apart ns (inside row) some in
      (omega (arith, last_in.from, apart, long, two), last_in.order, omega (arith, last_in.to, two)))
      (let w = blanks_within ns (inside row) in (omega (arith, w, long, two), omega arith, omega (arith, two)))

  abbrev shorter : List ℕ
  shorter = without (last_gone ns row) row

  shorter_count : length shorter ≡ (last_gone ns row).from + (length row - (last_gone ns row).to)
  shorter_count = count row (last_gone ns row) (omega (arith, last_behind.0)) last_behind.1 last_behind.2

  pub first_high : (first_gone ns row).to < length shorter
  first_high = omega (arith, first_within.to, last_behind.0, last_behind.2, shorter_count)

  pub trimmed_two : 2 ≤ length (trimmed ns row)
  trimmed_two = omega (arith, count shorter (first_gone ns row) first_within.from first_within.order first_high, first_within.from, first_high)

  pub trimmed_front : slice_index (trimmed ns row) 0 ≡ slice_index row 0
  trimmed_front =
      front shorter (first_gone ns row) first_within.from first_within.order first_high
      ∙ front row (last_gone ns row) (omega (arith, last_behind.0)) last_behind.1 last_behind.2

  pub trimmed_back : slice_index (trimmed ns row) (length (trimmed ns row) - 1) ≡ slice_index row (length row - 1)
  trimmed_back =
      back shorter (first_gone ns row) first_within.from first_within.order first_high
      ∙ back row (last_gone ns row) (omega (arith, last_behind.0)) last_behind.1 last_behind.2

  -- no number stands twice in what is left of a row in which none did
  pub trimmed_once : EachOnce row → EachOnce (trimmed ns row)
  trimmed_once once =
      once_without shorter (first_gone ns row).from (first_gone ns row).to first_within.order
      (once_without row (last_gone ns row).from (last_gone ns row).to last_behind.1 once)

pub has_two : (ns : List Node) (row : List ℕ) → has_brackets ns row ≡ true → 2 ≤ length row
has_two ns row e = by (nat_lt (length row) 2) refl e
  where
    by : (b : Bool) → nat_lt (length row) 2 ≡ b → cond b false (is_token (content_at ns (slice_index row 0)) && is_token (content_at ns (slice_index row (length row - 1)))) ≡ true → 2 ≤ length row
    by true f h = absurd (false≢true h)
    by false f h = ltb-false (length row) 2 f

pub front_token : (ns : List Node) (row : List ℕ) → has_brackets ns row ≡ true → is_token (content_at ns (slice_index row 0)) ≡ true
front_token ns row e = by (nat_lt (length row) 2) (is_token (content_at ns (slice_index row 0))) e
  where
    by : (b t : Bool) → cond b false (t && is_token (content_at ns (slice_index row (length row - 1)))) ≡ true → t ≡ true
    by true t h = absurd (false≢true h)
    by false true h = refl
    by false false h = absurd (false≢true h)

-- a row with the same ends has its brackets too
same_brackets : (ns : List Node) (row other : List ℕ) → 2 ≤ length row → 2 ≤ length other → slice_index other 0 ≡ slice_index row 0 → slice_index other (length other - 1) ≡ slice_index row (length row - 1) → has_brackets ns other ≡ has_brackets ns row
same_brackets ns row other h k first last =
    ap (λ b. cond b false (is_token (content_at ns (slice_index other 0)) && is_token (content_at ns (slice_index other (length other - 1))))) (not_less other k)
    ∙ ap (λ n. is_token (content_at ns n) && is_token (content_at ns (slice_index other (length other - 1)))) first
    ∙ ap (λ n. is_token (content_at ns (slice_index row 0)) && is_token (content_at ns n)) last
    ∙ sym (ap (λ b. cond b false (is_token (content_at ns (slice_index row 0)) && is_token (content_at ns (slice_index row (length row - 1))))) (not_less row h))
  where
    not_less : (xs : List ℕ) → 2 ≤ length xs → nat_lt (length xs) 2 ≡ false
    not_less xs l = elim (cases_Bool (nat_lt (length xs) 2)) [ inl e ↦ absurd (let less = ltb-true (length xs) 2 e in omega (arith, less, l)) | inr e ↦ e ]

pub trimmed_brackets : (ns : List Node) (row : List ℕ) → has_brackets ns row ≡ true → has_brackets ns (trimmed ns row) ≡ true
trimmed_brackets ns row e =
    let two = has_two ns row e in
    same_brackets ns row (trimmed ns row) two (trimmed_two ns row two) (trimmed_front ns row two) (trimmed_back ns row two) ∙ e

-- what holds of each in the row holds of each in what is left of it
pub trimmed_all : (P : ℕ → Type 0) (ns : List Node) (row : List ℕ) → All P row → All P (trimmed ns row)
trimmed_all P ns row h =
    let once : (s : Stretch) (xs : List ℕ) → All P xs → All P (without s xs) = λ s xs a. All-append P (take s.from xs) (drop s.to xs) (All-take P s.from xs a) (All-drop P s.to xs a) in
    once (first_gone ns row) (without (last_gone ns row) row) (once (last_gone ns row) row h)

-- a row has the elements that it has without nodes that are none
module _ (ns : List Node) where
  none_in : (xs : List ℕ) → ((k : ℕ) → k < length xs → is_element_at ns (slice_index xs k) ≡ false) → elements ns xs ≡ []
  none_in [] h = refl
  none_in (x ∷ xs) h = ap (λ b. cond b (x ∷ elements ns xs) (elements ns xs)) (h 0 (omega arith)) ∙ none_in xs (λ k l. h (suc k) (omega (arith, l)))

  elements_without : (row : List ℕ) (s : Stretch) → s.from ≤ s.to → s.to ≤ length row → ((q : ℕ) → s.from ≤ q → q < s.to → is_element_at ns (slice_index row q) ≡ false) → elements ns (without s row) ≡ elements ns row
  elements_without row s order high none =
      let E = is_element_at ns in
      let out : filter E (slice_range row s.from s.to) ≡ [] =
      none_in (slice_range row s.from s.to)
      (λ k h.
      let long : length (slice_range row s.from s.to) ≡ s.to - s.from = length-between row s.from s.to high in
      ap E (get_or-between row s.from s.to k 0 (omega (arith, h, long))) ∙ none (s.from + k) (omega arith) (omega (arith, h, long))) in
      filter-append E (take s.from row) (drop s.to row)
      ∙ ap (λ l. filter E (take s.from row) ++ l) (sym (ap (λ l. l ++ filter E (drop s.to row)) out) ∙ sym (filter-append E (slice_range row s.from s.to) (drop s.to row)))
      ∙ sym (filter-append E (take s.from row) (slice_range row s.from s.to ++ drop s.to row))
      ∙ ap (filter E) (sym (split_between row s.from s.to order))

  blank_none : (n : ℕ) → is_blank_at ns n ≡ true → is_element_at ns n ≡ false
  blank_none n e = by (content_at ns n) e
    where
      by : (c : Content) → (is_whitespace c || is_newline c) ≡ true → is_element c ≡ false
      by (content.whitespace s) f = refl
      by (content.newline k) f = refl
      by _ f = cc

  module _ (row : List ℕ) (two : 2 ≤ length row) where
    pub inside_at : (q : ℕ) → 1 ≤ q → q < length row - 1 → slice_index (inside row) (q - 1) ≡ slice_index row q
    inside_at q low high = let at : 1 + (q - 1) ≡ q = omega (arith, low) in get_or-between row 1 (length row - 1) (q - 1) 0 (omega (arith, low, high)) ∙ ap (slice_index row) at

    pub front_blank : (q : ℕ) → 1 ≤ q → q < 1 + blanks ns (inside row) → is_blank_at ns (slice_index row q) ≡ true
    front_blank q low high =
        let within = blanks_within ns (inside row) in
        let passes : is_blank_at ns (slice_index (inside row) (q - 1)) ≡ true = prefix_len_passes (is_blank_at ns) (inside row) (q - 1) 0 (omega (arith, low, high, blanks_are ns (inside row))) in
        sym (ap (is_blank_at ns) (inside_at q low (omega (arith, high, within, long ns row two)))) ∙ passes

    pub back_blank : (q : ℕ) → length row - 1 - last_blanks ns (inside row) ≤ q → q < length row - 1 → is_blank_at ns (slice_index row q) ≡ true
    back_blank q low high =
        let l = long ns row two in
        let w = last_within ns (inside row) in
        let some : 1 ≤ q = omega (arith, low, l, w, two) in
        let k : ℕ = length (inside row) - 1 - (q - 1) in
        let there : k < length (inside row) = omega (arith, l, high, some) in
        let back : length (inside row) - 1 - k ≡ q - 1 = omega (arith, l, high, some) in
        let passes : is_blank_at ns (slice_index (reverse (inside row)) k) ≡ true = prefix_len_passes (is_blank_at ns) (reverse (inside row)) k 0 (omega (arith, low, high, l, w, some, blanks_are ns (reverse (inside row)))) in
        let same : slice_index (reverse (inside row)) k ≡ slice_index row q = get_or-reverse (inside row) k 0 there ∙ ap (slice_index (inside row)) back ∙ inside_at q some high in
        sym (ap (is_blank_at ns) same) ∙ passes

    pub last_low : length row - 1 - last_blanks ns (inside row) ≤ (last_gone ns row).from
    last_low =
        either (λ s. length row - 1 - last_blanks ns (inside row) ≤ s.from) (nat_lt (blanks ns (inside row)) (length (inside row))) (last_gone_from ns row (place ns row two)) (nothing_at (length row - 1))
        (λ b. (last_in ns row two).from) (omega arith)

    pub last_high : (last_gone ns row).to ≤ length row - 1
    last_high = let l = last_behind ns row two in omega (arith, l.2)

    pub shorter_at : (q : ℕ) → q < 1 + blanks ns (inside row) → slice_index (without (last_gone ns row) row) q ≡ slice_index row q
    shorter_at q high =
        let l = last_behind ns row two in
        get_or_append_left (take (last_gone ns row).from row) (drop (last_gone ns row).to row) 0 q (omega (arith, high, l.0, l.1, l.2, length-take (last_gone ns row).from row))
        ∙ get_or-take (last_gone ns row).from row q 0 (omega (arith, high, l.0))

    pub trimmed_elements : elements ns (trimmed ns row) ≡ elements ns row
    trimmed_elements =
        let first = first_within ns row two in
        let l = last_behind ns row two in
        let h = first_high ns row two in
        elements_without (without (last_gone ns row) row) (first_gone ns row) first.order (omega (arith, h))
        (λ q low high. ap (is_element_at ns) (shorter_at q (omega (arith, high, first.to))) ∙ blank_none (slice_index row q) (front_blank q (omega (arith, low, first.from)) (omega (arith, high, first.to))))
        ∙ elements_without row (last_gone ns row) l.1 (omega (arith, l.2)) (λ q low high. blank_none (slice_index row q) (back_blank q (omega (arith, low, last_low)) (omega (arith, high, last_high))))

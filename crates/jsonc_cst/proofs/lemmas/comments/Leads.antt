-- Which comments of what is before an entry a sort moves where those above the last blank line are pinned: those that belong to the entry.
use Rattle.std.proofs.Common.{◌≡◌, ℕ, zero, suc, ◌+◌, ◌-◌, ◌<◌, ◌≤◌, Bool, true, false, not, ◌&&◌, ◌||◌, inl, inr, ◌⊎◌, List, [], ◌∷◌, ◌++◌, length, take, drop, max, refl, sym, ap, subst, ◌∙◌, arith, Option, Some, nat_le, reverse, filter, length-take, length-drop}
use Rattle.std.specs.Prelude.{if◌then◌else◌, slice_index}
use Rattle.std.specs.List.{list_any, prefix_len, suffix_len, position_or_len}
use Rattle.std.proofs.lemmas.Bool.{cases_Bool, cases_lt, leb-true, leb-false}
use Rattle.std.proofs.lemmas.List.{take-append-drop, append-nil, length-append, take-append-le, get_or-reverse, get_or-drop}
use Rattle.std.proofs.lemmas.List.Sums.{length-filter, suffix_len-le-length, prefix_len_passes}
use Rattle.std.proofs.lemmas.List.Elements.{filter-append}
use Rattle.std.proofs.Math.Seq.{take-append-add, drop-append_seam, take-length}
use Rattle.jsonc_tree.specs.Content.{Content}
use Rattle.jsonc_layout.specs.nodes.Kinds.{is_comment, is_newline, is_whitespace}
use Rattle.jsonc_sort.specs.Above.{above, above_from, header}
use Rattle.jsonc_sort.specs.Leads.{before_comment, below, blank_lines, comments, first_line, has_blank_line, header_by, header_of, is_blank_at, is_comment_at, lead_parts, line_ends, own_lead, parts_of_line, parts_of_lines, spaces, through_last_line}
use Rattle.jsonc_sort.specs.Parts.{is_newline_at, is_no_newline_at, is_whitespace_at, up_to_spaces}

-- what passes a test, after so many members
abbrev cnt : (ℕ → Bool) → List ℕ → ℕ
cnt p row = length (filter p row)

filter_drop : (p : ℕ → Bool) (k : ℕ) (row : List ℕ) → filter p (drop k row) ≡ drop (cnt p (take k row)) (filter p row)
filter_drop p zero row = refl
filter_drop p (suc k) [] = refl
filter_drop p (suc k) (n ∷ row) = elim (cases_Bool (p n)) [
  | inl e ↦ rw e (filter_drop p k row)
  | inr e ↦ rw e (filter_drop p k row)
]

cnt_parted : (p : ℕ → Bool) (k : ℕ) (row : List ℕ) → cnt p (take k row) + cnt p (drop k row) ≡ cnt p row
cnt_parted p k row = sym (length-append (filter p (take k row)) (filter p (drop k row))) ∙ ap length (sym (filter-append p (take k row) (drop k row))) ∙ ap (λ l. cnt p l) (take-append-drop k row)

cnt_joined : (p : ℕ → Bool) (xs ys : List ℕ) → cnt p (xs ++ ys) ≡ cnt p xs + cnt p ys
cnt_joined p xs ys = ap length (filter-append p xs ys) ∙ length-append (filter p xs) (filter p ys)

cnt_grows : (p : ℕ → Bool) (i j : ℕ) (row : List ℕ) → i ≤ j → cnt p (take i row) ≤ cnt p (take j row)
cnt_grows p zero j row h = omega arith
cnt_grows p (suc i) zero row h = absurd (omega (arith, h))
cnt_grows p (suc i) (suc j) [] h = omega arith
cnt_grows p (suc i) (suc j) (n ∷ row) h = elim (cases_Bool (p n)) [
  | inl e ↦ rw e (omega (arith, cnt_grows p i j row (omega (arith, h))))
  | inr e ↦ rw e (cnt_grows p i j row (omega (arith, h)))
]

-- after what children are without the end that passes a test, each member passes
suffix_passes : (p : ℕ → Bool) (row : List ℕ) (i : ℕ) → length row - suffix_len p row ≤ i → i < length row → p (slice_index row i) ≡ true
suffix_passes p row i low high =
    let place : length row - 1 - (length row - 1 - i) ≡ i = omega (arith, high) in
    let found = get_or-reverse row (length row - 1 - i) 0 (omega (arith, high)) ∙ ap (slice_index row) place in
    ap p (sym found) ∙ prefix_len_passes p (reverse row) (length row - 1 - i) 0 (omega (arith, low, high, suffix_len-le-length p row))

-- members that pass one test and no other
none_behind : (p q : ℕ → Bool) (other : (n : ℕ) → q n ≡ true → p n ≡ false) (row : List ℕ) → ((i : ℕ) → i < length row → q (slice_index row i) ≡ true) → filter p row ≡ []
none_behind p q other [] h = refl
none_behind p q other (n ∷ row) h = rw (other n (h 0 (omega arith))) (none_behind p q other row (λ i l. h (suc i) (omega (arith, l))))

behind_suffix : (p q : ℕ → Bool) (other : (n : ℕ) → q n ≡ true → p n ≡ false) (row : List ℕ) → filter p (drop (length row - suffix_len q row) row) ≡ []
behind_suffix p q other row =
    let k : ℕ = length row - suffix_len q row in
    none_behind p q other (drop k row) (λ i l. ap q (get_or-drop k row i 0) ∙ suffix_passes q row (k + i) (omega arith) (omega (arith, l, length-drop k row)))

none_front : (p q : ℕ → Bool) (other : (n : ℕ) → q n ≡ true → p n ≡ false) (row : List ℕ) → filter p (take (prefix_len q row) row) ≡ []
none_front p q other [] = refl
none_front p q other (n ∷ row) = elim (cases_Bool (q n)) [
  | inl e ↦ (let one : 1 + prefix_len q row ≡ suc (prefix_len q row) = omega arith in rw (e, one, other n e) (none_front p q other row))
  | inr e ↦ rw e refl
]

comment_alone : (c : Content) → is_newline c || is_whitespace c ≡ true → is_comment c ≡ false
comment_alone (Content.newline k) e = refl
comment_alone (Content.whitespace s) e = refl
comment_alone c e = cc

module _ (at : ℕ → Content) where
  abbrev nl : ℕ → Bool
  nl = is_newline_at at

  abbrev rem : ℕ → Bool
  rem = is_comment_at at

  abbrev ws : ℕ → Bool
  ws = is_whitespace_at at

  abbrev no_nl : ℕ → Bool
  no_nl = is_no_newline_at at

  abbrev is_blank : ℕ → Bool
  is_blank = is_blank_at at

  nl_rem : (n : ℕ) → nl n ≡ true → rem n ≡ false
  nl_rem n e = comment_alone (at n) (rw e refl)

  ws_rem : (n : ℕ) → ws n ≡ true → rem n ≡ false
  ws_rem n e = comment_alone (at n) (by (is_newline (at n)) (is_whitespace (at n)) e)
    where
      by : (a b : Bool) → b ≡ true → a || b ≡ true
      by true b h = refl
      by false b h = h

  -- children whose part in front ends with the end of a line
  record Cut (row behind : List ℕ) : Type 0 where
    front : List ℕ
    last : ℕ
    ends : nl last ≡ true
    split : row ≡ (front ++ last ∷ []) ++ behind

  blank_any : (row : List ℕ) → has_blank_line at row ≡ true → list_any nl row ≡ true
  blank_any [] e = cc
  blank_any (n ∷ row) e = by (nl n) (line_ends at row) (has_blank_line at row) e (blank_any row)
    where
      by : (a b c : Bool) → (a && b) || c ≡ true → (c ≡ true → list_any nl row ≡ true) → a || list_any nl row ≡ true
      by true b c e k = refl
      by false b c e k = k e

  more : (n : ℕ) (row behind : List ℕ) → Cut row behind → Cut (n ∷ row) behind
  more n row behind c = record { front = n ∷ c.front; last = c.last; ends = c.ends; split = ap (λ l. n ∷ l) c.split }

  cut : (row : List ℕ) → list_any nl row ≡ true → Cut row (below at row)
  cut [] e = cc
  cut (n ∷ row) e = by (nl n) refl (has_blank_line at row) refl e (cut row)
    where
      by : (a : Bool) → nl n ≡ a → (b : Bool) → has_blank_line at row ≡ b → a || list_any nl row ≡ true → (list_any nl row ≡ true → Cut row (below at row)) → Cut (n ∷ row) (if a && not b then row else below at row)
      by true f true g h k = more n row (below at row) (k (blank_any row g))
      by true f false g h k = record { front = []; last = n; ends = f; split = refl }
      by false f b g h k = more n row (below at row) (k h)

  -- after the first end of a line
  abbrev Behind : List ℕ → List ℕ → Type 0
  Behind rest behind = (rest ≡ behind) ⊎ Cut rest behind

  first_cut : (lead : List ℕ) → list_any nl lead ≡ true → Behind (drop (position_or_len nl lead + 1) lead) (below at lead)
  first_cut [] e = cc
  first_cut (n ∷ row) e = by (nl n) refl (has_blank_line at row) refl e (first_cut row)
    where
      shift : (k : ℕ) → Behind (drop (k + 1) row) (below at row) → Behind (drop (1 + k + 1) (n ∷ row)) (below at row)
      shift k h = let e : 1 + k + 1 ≡ suc (k + 1) = omega arith in rw e h

      by : (a : Bool) → nl n ≡ a → (b : Bool) → has_blank_line at row ≡ b → a || list_any nl row ≡ true → (list_any nl row ≡ true → Behind (drop (position_or_len nl row + 1) row) (below at row))
          → Behind (drop (position_or_len nl (n ∷ row) + 1) (n ∷ row)) (if a && not b then row else below at row)
      by true f true g h k = rw f (inr (cut row (blank_any row g)))
      by true f false g h k = rw f (inl refl)
      by false f b g h k = rw f (shift (position_or_len nl row) (k h))

  -- what is before a comment, where so many comments are in front
  before_passed : (p z : List ℕ) → before_comment at (cnt rem p) (p ++ z) ≡ p ++ before_comment at 0 z
  before_passed [] z = refl
  before_passed (n ∷ p) z = elim (cases_Bool (rem n)) [
    | inl e ↦ rw (e, e) (ap (λ l. n ∷ l) (before_passed p z))
    | inr e ↦ rw e (by (cnt rem p) e (before_passed p z))
  ]
    where
      by : (k : ℕ) → rem n ≡ false → before_comment at k (p ++ z) ≡ p ++ before_comment at 0 z → before_comment at k (n ∷ (p ++ z)) ≡ n ∷ (p ++ before_comment at 0 z)
      by zero e h = rw e (ap (λ l. n ∷ l) h)
      by (suc k) e h = rw e (ap (λ l. n ∷ l) h)

  -- no comment is before the first
  before_first : (z : List ℕ) (j : ℕ) → j ≤ length (before_comment at 0 z) → filter rem (take j z) ≡ []
  before_first z zero h = refl
  before_first [] (suc j) h = refl
  before_first (n ∷ z) (suc j) h = elim (cases_Bool (rem n)) [
    | inl e ↦ absurd (omega (arith, rw e at h))
    | inr e ↦ rw e (before_first z j (omega (arith, rw e at h)))
  ]

  at_seam : (front z : List ℕ) (last : ℕ) → slice_index ((front ++ last ∷ []) ++ z) (length front) ≡ last
  at_seam [] z last = refl
  at_seam (n ∷ front) z last = at_seam front z last

  suffix_short : (front z : List ℕ) (last : ℕ) → nl last ≡ true → suffix_len no_nl ((front ++ last ∷ []) ++ z) ≤ length z
  suffix_short front z last ends = elim (cases_lt (length z) (suffix_len no_nl ((front ++ last ∷ []) ++ z))) [
    | inl less ↦ (
        let row : List ℕ = (front ++ last ∷ []) ++ z in
        let long : length row ≡ length front + 1 + length z = omega (arith, length-append (front ++ last ∷ []) z, length-append front (last ∷ [])) in
        let said : no_nl (slice_index row (length front)) ≡ true = suffix_passes no_nl row (length front) (omega (arith, long, less)) (omega (arith, long)) in
        let wrong : not true ≡ true = ap not (sym (ap nl (at_seam front z last) ∙ ends)) ∙ said in cc
        )
    | inr most ↦ most
  ]

  blank_rem : (n : ℕ) → is_blank n ≡ true → rem n ≡ false
  blank_rem n e = elim (cases_Bool (ws n)) [
    | inl w ↦ ws_rem n w
    | inr w ↦ nl_rem n (rw w at e)
  ]

  -- no comment is in blank lines
  blanks_none : (row : List ℕ) → cnt rem (take (blank_lines at row) row) ≡ 0
  blanks_none row =
      let short : blank_lines at row ≤ prefix_len is_blank row = omega (arith, length-take (prefix_len is_blank row) row) in
      omega (arith, cnt_grows rem (blank_lines at row) (prefix_len is_blank row) row short, ap length (none_front rem is_blank blank_rem row))

  header_counts : (front q : List ℕ) (last i : ℕ) → nl last ≡ true → cnt rem (front ++ last ∷ []) ≡ suc i → cnt rem (take (header_of at (suc i) ((front ++ last ∷ []) ++ q)) ((front ++ last ∷ []) ++ q)) ≡ suc i
  header_counts front q last i ends count =
      let p : List ℕ = front ++ last ∷ [] in
      let above : List ℕ = p ++ q in
      let z : List ℕ = before_comment at 0 q in
      let before : before_comment at (suc i) above ≡ p ++ z = ap (λ k. before_comment at k above) (sym count) ∙ before_passed p q in
      let j : ℕ = length z - suffix_len no_nl (p ++ z) in
      let place : through_last_line at (before_comment at (suc i) above) ≡ length p + j = ap (through_last_line at) before ∙ omega (arith, length-append p z, suffix_short front z last ends) in
      let through : cnt rem (take (through_last_line at (before_comment at (suc i) above)) above) ≡ suc i =
      ap (λ k. cnt rem (take k above)) place ∙ ap (cnt rem) (take-append-add p q j) ∙ cnt_joined rem p (take j q) ∙ omega (arith, count, ap length (before_first q j (omega arith))) in
      elim (cases_lt (through_last_line at (before_comment at (suc i) above)) (blank_lines at above)) [
        | inl less ↦ absurd (omega (arith, less, through, blanks_none above, cnt_grows rem (through_last_line at (before_comment at (suc i) above)) (blank_lines at above) above (omega (arith, less))))
        | inr most ↦ (let e : max (blank_lines at above) (through_last_line at (before_comment at (suc i) above)) ≡ through_last_line at (before_comment at (suc i) above) = omega (arith, most) in ap (λ k. cnt rem (take k above)) e ∙ through)
      ]

  -- so many comments are a header where all but those after a cut are pinned
  header_pinned : (front q : List ℕ) (last k : ℕ) → nl last ≡ true → cnt rem (front ++ last ∷ []) ≡ k → cnt rem (take (header_of at k ((front ++ last ∷ []) ++ q)) ((front ++ last ∷ []) ++ q)) ≡ k
  header_pinned front q last zero ends count = blanks_none ((front ++ last ∷ []) ++ q)
  header_pinned front q last (suc i) ends count = header_counts front q last i ends count

  own_after : (above behind rest : List ℕ) (k header : ℕ) → filter rem rest ≡ filter rem above → cnt rem (take header above) ≡ k → filter rem behind ≡ drop k (filter rem rest) → filter rem (drop header above) ≡ filter rem behind
  own_after above behind rest k header same count own = filter_drop rem header above ∙ ap (λ i. drop i (filter rem above)) count ∙ ap (drop k) (sym same) ∙ sym own

  -- all are pinned, or not
  header_cases : (above : List ℕ) (pin k : ℕ) → comments at above ≡ cnt rem above → (cnt rem above ≤ pin → cnt rem above ≡ k) → (pin < cnt rem above → cnt rem (take (header_of at pin above) above) ≡ k) → cnt rem (take (header_by at (Some pin) above) above) ≡ k
  header_cases above pin k size all some = by (nat_le (comments at above) pin) refl
    where
      whole : cnt rem (take (length above) above) ≡ cnt rem above
      whole = ap (cnt rem) (take-length above)

      by : (b : Bool) → nat_le (comments at above) pin ≡ b → cnt rem (take (if b then length above else header_of at pin above) above) ≡ k
      by true e = whole ∙ all (omega (arith, leb-true (comments at above) pin e, size))
      by false e = some (omega (arith, leb-false (comments at above) pin e, size))

  size : (row : List ℕ) → comments at row ≡ cnt rem row
  size row = sym (length-filter rem row)

  -- children that are pinned up to a cut, with what is cut off
  cut_pinned : (front behind above : List ℕ) (last u pin : ℕ) → nl last ≡ true → above ≡ take u ((front ++ last ∷ []) ++ behind) → cnt rem above ≡ cnt rem (front ++ last ∷ []) + cnt rem behind → pin ≡ cnt rem above - cnt rem behind
      → pin < cnt rem above → cnt rem (take (header_of at pin above) above) ≡ cnt rem (front ++ last ∷ [])
  cut_pinned front behind above last u pin ends is counted pinned less =
      let p : List ℕ = front ++ last ∷ [] in
      let k : pin ≡ cnt rem p = omega (arith, counted, pinned) in
      elim (cases_lt u (length p)) [
        | inl short ↦ (
            let e : take u (p ++ behind) ≡ take u p = take-append-le u p behind (omega (arith, short)) in
            absurd (omega (arith, ap (cnt rem) (is ∙ e), cnt_parted rem u p, counted, less, k))
            )
        | inr long ↦ (
            let e : u ≡ length p + (u - length p) = omega (arith, long) in
            let q : List ℕ = take (u - length p) behind in
            let whole : p ++ q ≡ above = sym (is ∙ ap (λ i. take i (p ++ behind)) e ∙ take-append-add p behind (u - length p)) in
            ap (λ i. cnt rem (take (header_of at i above) above)) k ∙ subst (λ l. cnt rem (take (header_of at (cnt rem p) l) l) ≡ cnt rem p) whole (header_pinned front q last (cnt rem p) ends refl)
            )
      ]

  rest_own : (rest above behind : List ℕ) (u pin : ℕ) → above ≡ take u rest → filter rem (drop u rest) ≡ [] → pin ≡ comments at above - comments at behind → Behind rest behind → filter rem (drop (header_by at (Some pin) above) above) ≡ filter rem behind
  rest_own rest above behind u pin is none told h =
      let same : filter rem rest ≡ filter rem above =
      ap (filter rem) (sym (take-append-drop u rest)) ∙ filter-append rem (take u rest) (drop u rest) ∙ ap (λ l. filter rem (take u rest) ++ l) none ∙ append-nil (filter rem (take u rest)) ∙ ap (filter rem) (sym is) in
      let pinned : pin ≡ cnt rem above - cnt rem behind = omega (arith, told, size above, size behind) in
      let counted : cnt rem rest ≡ cnt rem above = ap length same in
      elim h [
        | inl e ↦ (
            let all : cnt rem rest ≡ cnt rem behind = ap (cnt rem) e in
            let z : pin ≡ 0 = omega (arith, pinned, counted, all) in
            own_after above behind rest 0 (header_by at (Some pin) above) same
            (header_cases above pin 0 (size above) (λ l. omega (arith, l, z)) (λ l. ap (λ k. cnt rem (take (header_of at k above) above)) z ∙ blanks_none above))
            (ap (filter rem) (sym e))
            )
        | inr c ↦ (
            let p : List ℕ = c.front ++ c.last ∷ [] in
            let all : cnt rem rest ≡ cnt rem p + cnt rem behind = ap (cnt rem) c.split ∙ cnt_joined rem p behind in
            own_after above behind rest (cnt rem p) (header_by at (Some pin) above) same
            (header_cases above pin (cnt rem p) (size above) (λ l. omega (arith, l, pinned, counted, all))
            (λ l. cut_pinned c.front behind above c.last u pin c.ends (is ∙ ap (take u) c.split) (omega (arith, counted, all)) pinned l))
            (sym (ap (drop (cnt rem p)) (ap (filter rem) c.split ∙ filter-append rem p behind) ∙ drop-append_seam (filter rem p) (filter rem behind)))
            )
      ]

  lines_own : (lead : List ℕ) → list_any nl lead ≡ true → filter rem (drop (header_by at (Some (comments at (above at lead) - comments at (below at lead))) (above_from at (drop (first_line at lead) lead))) (above_from at (drop (first_line at lead) lead))) ≡ filter rem (below at lead)
  lines_own lead e =
      let rest : List ℕ = drop (first_line at lead) lead in
      rest_own rest (above_from at rest) (below at lead) (up_to_spaces at rest) (comments at (above at lead) - comments at (below at lead)) refl (behind_suffix rem ws ws_rem rest) (ap (λ (b : Bool). comments at (if b then above_from at rest else []) - comments at (below at lead)) e) (first_cut lead e)

  -- in a lead without the end of a line only whitespace stays
  line_own : (lead : List ℕ) → filter rem (drop (spaces at lead) lead) ≡ filter rem lead
  line_own lead =
      let k : ℕ = spaces at lead in
      ap (λ l. l ++ filter rem (drop k lead)) (sym (none_front rem ws ws_rem lead)) ∙ sym (filter-append rem (take k lead) (drop k lead)) ∙ ap (filter rem) (take-append-drop k lead)

  -- what is pinned of a lead where headers are kept
  abbrev pub pin_above : List ℕ → Option ℕ
  pin_above lead = Some (header at lead)

  pub travels_own : (lead : List ℕ) → filter rem (lead_parts at false (pin_above lead) lead).travels ≡ filter rem (own_lead at lead)
  travels_own lead = by (list_any nl lead) refl
    where
      by : (b : Bool) → list_any nl lead ≡ b → filter rem (if b then parts_of_lines at false (pin_above lead) lead else parts_of_line at lead).travels ≡ filter rem (if b then below at lead else lead)
      by true e = lines_own lead e
      by false e = line_own lead

-- The entries of a row with what goes with each, in the text.
use Rattle.std.proofs.Common.{◌≡◌, ℕ, zero, suc, ◌+◌, ◌≤◌, Bool, true, false, ◌&&◌, ◌||◌, ◌⊎◌, List, [], ◌∷◌, ◌++◌, length, take, drop, map, Option, IsTrue, refl, sym, ap, subst, ◌∙◌, arith, inl, inr, append-nil}
use Rattle.std.specs.Prelude.{if◌then◌else◌}
use Rattle.std.specs.List.{list_all, list_any}
use Rattle.std.proofs.lemmas.Bool.{cases_Bool}
use Rattle.std.proofs.lemmas.List.{append_assoc, take-append-drop, take-append-le, drop-append-le, drop-drop}
use Rattle.jsonc_text.specs.Options.{Options}
use Rattle.jsonc_tree.specs.Content.{Content}
use Rattle.jsonc_tree.specs.OrderedTree.{Top}
use Rattle.jsonc_layout.specs.nodes.Kinds.{is_element, is_inline_trivia, is_newline}
use Rattle.jsonc_sound.specs.Shape.{IsTrivia}
use Rattle.jsonc_sound.specs.Rows as rows
use Rattle.jsonc_sound.specs.Rows.{Last, RowKind}
use Rattle.jsonc_sort.specs.Laws.{content_of}
use Rattle.jsonc_sort.specs.Parts.{Part, Parts, comments_on_line, has_comma, is_comma_at, is_inline_trivia_at, is_newline_at, is_none, is_own_line, is_whitespace_at, line, part_with, parts, tail_length, through_comma, up_to_spaces}
use Rattle.jsonc_sort.specs.Above.{PinUnderBlankLines, leads, leads_from, pins_none}
use Rattle.jsonc_sort.specs.Leads.{LeadParts, begins_group, first_line, has_blank_line, header_length, lead_parts, parts_of_line, parts_of_lines, spaces, with_header}
use Rattle.jsonc_sort.specs.Sorting.{Entry, Headers, end_of, entries, entries_from, first_pin, row_end}
use Rattle.jsonc_sort.proofs.Choices.{choose, each_drop, each_joined, each_take}
use Rattle.jsonc_sort.proofs.Entries.{AreParts, IsPart, IsRow}
use Rattle.jsonc_sort.proofs.Runs as runs
use Rattle.jsonc_sort.proofs.Runs.{IsQuiet, IsComma, Gap, Quiets, comma_is, cut_gap, no_comma_gap, other_no_comma, quiet_gap}
use Rattle.jsonc_sort.proofs.Stretches.{take_both}
use Rattle.jsonc_run.specs.texts.Stretches as documents
use Rattle.jsonc_run.specs.texts.Stretches.{InLine, AreSpaces}
use Rattle.jsonc_run.specs.texts.Entering.{StartsLine}
use Rattle.jsonc_run.specs.texts.Sorting as sorting
use Rattle.jsonc_run.specs.texts.Sorting.{Held, Ahead, Beside, AreHeld, AreEntries, row}
use Rattle.jsonc_run.specs.promise.PlaceLaws.{node_chars}
use Rattle.jsonc_run.proofs.lemmas.promise.SortedHeaders.{blank_leading, stays_above}
use Rattle.jsonc_run.proofs.lemmas.promise.SortedParts.{AreTrivia, EndsNone, Lined, Spaces, any_none, any_there, comma_one, each_prefix, first_dropped, first_taken, inline_said, line_end_one, line_none, line_there, lined, none_ends, one_ends, say, say_cut, say_joined, spaces_last, spaces_said, trivia_joined, trivia_one, trivia_said}

module _ (o : Options) (kind : RowKind) (top : ℕ → Top) where
  abbrev at : ℕ → Content
  at = content_of top

  abbrev AllQuiet : List ℕ → Type 0
  AllQuiet row = Quiets o kind top row

  abbrev say_ : List ℕ → List ℕ
  say_ row = say top row

  -- what a lead prints, in its parts
  abbrev AheadOf : (by_blank_lines : Bool) → (List ℕ → Type 0) → (lines : Bool) → LeadParts → Type 0
  AheadOf by_blank_lines Rest lines l = Ahead by_blank_lines Rest lines (say_ l.front) (say_ l.travels) (say_ l.indent)

  -- by the library's own rules comments are pinned only where a blank line is
  abbrev Pinned : Bool → Option ℕ → List ℕ → Type 0
  Pinned by_blank_lines pin lead = by_blank_lines ≡ true → IsTrue (pins_none pin || has_blank_line at lead)

  quiet_first : (xs ys : List ℕ) → AllQuiet (xs ++ ys) → AllQuiet xs
  quiet_first [] ys h = tt
  quiet_first (x ∷ xs) ys h = (h.0, quiet_first xs ys h.1)

  quiet_second : (xs ys : List ℕ) → AllQuiet (xs ++ ys) → AllQuiet ys
  quiet_second [] ys h = h
  quiet_second (x ∷ xs) ys h = quiet_second xs ys h.1

  -- where a line ends in a lead
  lines_ahead : {Rest : List ℕ → Type 0} (xs more : List ℕ) (n : ℕ) → EndsNone at xs → is_newline_at at n ≡ true → AllQuiet (xs ++ n ∷ more) → Rest (say_ xs)
      → (by_blank_lines groups : Bool) (pin : Option ℕ) → Pinned by_blank_lines pin (xs ++ n ∷ more) → AheadOf by_blank_lines Rest true (lead_parts at groups pin (xs ++ n ∷ more))
  lines_ahead {Rest} xs more n h e q rest by_blank_lines groups pin pinned =
      let lead : List ℕ = xs ++ n ∷ more in
      let begins : Bool = begins_group at groups lead in
      let behind : AllQuiet (n ∷ more) = quiet_second xs (n ∷ more) q in
      let upto : ℕ = up_to_spaces at more in
      let above : List ℕ = take upto more in
      let header : ℕ = header_length at begins pin above in
      let quiet_above : AllQuiet above = each_take (λ m. IsQuiet o kind top (top m)) upto more behind.1 in
      let quiet_indent : AllQuiet (drop upto more) = each_drop (λ m. IsQuiet o kind top (top m)) upto more behind.1 in
      let front : say_ ((xs ++ n ∷ []) ++ take header above) ≡ say_ xs ++ (node_chars (top n) ++ say_ (take header above)) =
      ap say_ (append_assoc xs (n ∷ []) (take header above)) ∙ say_joined top xs (n ∷ take header above) in
      let made : AheadOf by_blank_lines Rest true (with_header at (xs ++ n ∷ []) header above (drop upto more)) =
      subst (λ s. Ahead by_blank_lines Rest true s (say_ (drop header above)) (say_ (drop upto more))) (sym front)
      (sorting.on_lines rest (line_end_one o kind top (top n) behind.0 e)
      (trivia_said o kind top (take header above) (each_take (λ m. IsQuiet o kind top (top m)) header above quiet_above))
      (trivia_said o kind top (drop header above) (each_drop (λ m. IsQuiet o kind top (top m)) header above quiet_above))
      (spaces_said o kind top (drop upto more) quiet_indent (spaces_last at more))
      (stays_above o kind top lead more n e behind (blank_leading at xs (n ∷ more) h) groups pin by_blank_lines pinned)) in
      let cut : List ℕ → List ℕ → Type 0 = λ first rest. AheadOf by_blank_lines Rest true (with_header at first (header_length at begins pin (take (up_to_spaces at rest) rest)) (take (up_to_spaces at rest) rest) (drop (up_to_spaces at rest) rest)) in
      let of_lines : AheadOf by_blank_lines Rest true (parts_of_lines at begins pin lead) =
      subst (λ first. cut first (drop (first_line at lead) lead)) (sym (first_taken at n more e xs h)) (subst (cut (xs ++ n ∷ [])) (sym (first_dropped at n more e xs h)) made) in
      subst (λ b. AheadOf by_blank_lines Rest true (if b then parts_of_lines at begins pin lead else parts_of_line at lead)) (sym (any_there at n more e xs h)) of_lines

  -- where none does
  none_from : (k : ℕ) (row : List ℕ) → EndsNone at row → EndsNone at (drop k row)
  none_from k row h = each_drop (λ n. is_newline_at at n ≡ false) k row h

  prefix_spaces : (row : List ℕ) → Spaces at (take (spaces at row) row)
  prefix_spaces row = each_prefix (is_whitespace_at at) row (spaces at row) (omega arith)

  line_ahead : {Rest : List ℕ → Type 0} (lead : List ℕ) → EndsNone at lead → AllQuiet lead → (by_blank_lines groups : Bool) (pin : Option ℕ) → AheadOf by_blank_lines Rest false (lead_parts at groups pin lead)
  line_ahead {Rest} lead h q by_blank_lines groups pin =
      let k : ℕ = spaces at lead in
      let made : AheadOf by_blank_lines Rest false (parts_of_line at lead) =
      sorting.on_one_line (spaces_said o kind top (take k lead) (each_take (λ m. IsQuiet o kind top (top m)) k lead q) (prefix_spaces lead))
      (inline_said o kind top (drop k lead) (each_drop (λ m. IsQuiet o kind top (top m)) k lead q) (none_from k lead h)) in
      subst (λ b. AheadOf by_blank_lines Rest false (if b then parts_of_lines at (begins_group at groups lead) pin lead else parts_of_line at lead)) (sym (any_none at lead h)) made

  -- what stands before the first entry
  first_ahead : (lead : List ℕ) → AllQuiet lead → (by_blank_lines groups : Bool) (pin : Option ℕ) → Pinned by_blank_lines pin lead → (lines : Bool) × AheadOf by_blank_lines InLine lines (lead_parts at groups pin lead)
  first_ahead lead q by_blank_lines groups pin pinned = by (lined at lead) q pinned
    where
      by : {lead : List ℕ} → Lined at lead → AllQuiet lead → Pinned by_blank_lines pin lead → (lines : Bool) × AheadOf by_blank_lines InLine lines (lead_parts at groups pin lead)
      by {lead} (none_ends h) q p = (false, line_ahead lead h q by_blank_lines groups pin)
      by (one_ends xs more n h e) q p = (true, lines_ahead xs more n h e q (inline_said o kind top xs (quiet_first xs (n ∷ more) q) h) by_blank_lines groups pin p)

  -- up to the comma behind an entry
  more_before : (s : List ℕ) {x : List ℕ} → AreTrivia s → Beside false true x → Beside false true (s ++ x)
  more_before s h (sorting.up_to_comma {s = t} k) = subst (Beside false true) (append_assoc s t (0x2C ∷ [])) (sorting.up_to_comma (trivia_joined h k))

  up_to : {to : Last} (xs : List ℕ) → Gap o kind top rows.an_element xs to → Beside false (has_comma at xs) (say_ (take (through_comma at xs) xs))
  up_to [] g = sorting.nothing
  up_to (n ∷ xs) (runs.gap_quiet q g) =
      let other : is_comma_at at n ≡ false = other_no_comma o kind top n q in
      let rest : Beside false (has_comma at xs) (say_ (take (through_comma at xs) xs)) = up_to xs g in
      elim (cases_Bool (has_comma at xs)) [
        | inl c ↦ rw (other, c) (more_before (node_chars (top n)) (trivia_one o kind top (top n) q) (subst (λ b. Beside false b (say_ (take (through_comma at xs) xs))) c rest))
        | inr c ↦ rw (other, c) sorting.nothing
      ]
  up_to (n ∷ xs) (runs.gap_comma c g) =
      rw (comma_is o kind top n c) (subst (λ x. Beside false true (x ++ [])) (sym (comma_one o kind top (top n) c)) (sorting.up_to_comma {s = []} documents.nothing))

  quiet_none : (xs : List ℕ) → AllQuiet xs → has_comma at xs ≡ false
  quiet_none [] h = refl
  quiet_none (n ∷ xs) h = rw (other_no_comma o kind top n h.0) (quiet_none xs h.1)

  none_taken : (j : ℕ) → has_comma at (take j []) ≡ false
  none_taken zero = refl
  none_taken (suc j) = refl

  one_taken : (n : ℕ) (xs : List ℕ) (j m : ℕ) → is_comma_at at n ≡ false → j ≡ suc m → has_comma at (take m xs) ≡ true → has_comma at (take j (n ∷ xs)) ≡ true
  one_taken n xs zero m other e h = absurd (omega (arith, e))
  one_taken n xs (suc j) m other e h = let same : j ≡ m = omega (arith, e) in rw other (ap (λ k. has_comma at (take k xs)) same ∙ h)

  comma_taken : (n : ℕ) (xs : List ℕ) (j m : ℕ) → is_comma_at at n ≡ true → j ≡ suc m → has_comma at (take j (n ∷ xs)) ≡ true
  comma_taken n xs zero m is e = absurd (omega (arith, e))
  comma_taken n xs (suc j) m is e = rw is refl

  kept_comma : {to : Last} (xs : List ℕ) (j k : ℕ) → j ≡ through_comma at xs + k → Gap o kind top rows.an_element xs to → has_comma at (take j xs) ≡ has_comma at xs
  kept_comma [] j k e g = none_taken j
  kept_comma (n ∷ xs) j k e (runs.gap_quiet q g) =
      let other : is_comma_at at n ≡ false = other_no_comma o kind top n q in
      elim (cases_Bool (has_comma at xs)) [
        | inl c ↦ (
            let m : ℕ = through_comma at xs + k in
            let rest : has_comma at (take m xs) ≡ true = kept_comma xs m k refl g ∙ c in
            let long : j ≡ suc m = omega (arith, rw (other, c) at e) in
            let all : has_comma at (n ∷ xs) ≡ true = rw (other, c) refl in
            one_taken n xs j m other long rest ∙ sym all)
        | inr c ↦ (
            let none : has_comma at (n ∷ xs) ≡ false = rw (other, c) refl in
            quiet_none (take j (n ∷ xs)) (each_take (λ m. IsQuiet o kind top (top m)) j (n ∷ xs) (q, (no_comma_gap o kind top g c).0)) ∙ sym none)
      ]
  kept_comma (n ∷ xs) j k e (runs.gap_comma c g) =
      let is : is_comma_at at n ≡ true = comma_is o kind top n c in
      let long : j ≡ suc k = omega (arith, rw is at e) in
      let all : has_comma at (n ∷ xs) ≡ true = rw is refl in
      comma_taken n xs j k is long ∙ sym all

  -- the comments on an entry's line
  inline_all : (row : List ℕ) → AllQuiet row → EndsNone at row → list_all (is_inline_trivia_at at) row ≡ true
  inline_all [] q h = refl
  inline_all (n ∷ row) q h = rw (inline_node (at n) q.0.trivia h.0) (inline_all row q.1 h.1)
    where
      inline_node : (c : Content) → IsTrivia o c → is_newline c ≡ false → is_inline_trivia c ≡ true
      inline_node (Content.whitespace s) t e = refl
      inline_node (Content.newline k) t e = cc
      inline_node (Content.comment s) t e = refl
      inline_node c t e = absurd t

  both : (a b : Bool) → a ≡ true → b ≡ true → a && b ≡ true
  both a b e f = rw (e, f) refl

  or_yes : (a : Bool) → a || true ≡ true
  or_yes true = refl
  or_yes false = refl

  on_line : (last : Bool) (rest : List ℕ) (b : Bool) → is_own_line at last rest ≡ b → comments_on_line at last rest ≡ (if b then up_to_spaces at (line at rest) else 0)
  on_line last rest b e = ap (λ b. if b then up_to_spaces at (line at rest) else 0) e

  own_there : (last : Bool) (xs more : List ℕ) (n : ℕ) → EndsNone at xs → is_newline_at at n ≡ true → AllQuiet xs → comments_on_line at last (xs ++ n ∷ more) ≡ up_to_spaces at xs
  own_there last xs more n h e q =
      let rest : List ℕ = xs ++ n ∷ more in
      let is_line : line at rest ≡ xs = line_there at n more e xs h in
      let own : is_own_line at last rest ≡ true =
      both (last || list_any (is_newline_at at) rest) (list_all (is_inline_trivia_at at) (line at rest)) (ap (λ b. last || b) (any_there at n more e xs h) ∙ or_yes last) (ap (list_all (is_inline_trivia_at at)) is_line ∙ inline_all xs q h) in
      on_line last rest true own ∙ ap (up_to_spaces at) is_line

  own_last : (rest : List ℕ) → EndsNone at rest → AllQuiet rest → comments_on_line at true rest ≡ up_to_spaces at rest
  own_last rest h q =
      let is_line : line at rest ≡ rest = line_none at rest h in
      on_line true rest true (ap (list_all (is_inline_trivia_at at)) is_line ∙ inline_all rest q h) ∙ ap (up_to_spaces at) is_line

  own_none : (rest : List ℕ) → EndsNone at rest → comments_on_line at false rest ≡ 0
  own_none rest h = on_line false rest false (ap (λ b. b && list_all (is_inline_trivia_at at) (line at rest)) (any_none at rest h))

  short : (row : List ℕ) → up_to_spaces at row ≤ length row
  short row = omega arith

  -- behind the comma of an entry that others follow
  record Next (rest : List ℕ) (k : ℕ) : Type 0 where
    lines : Bool
    beside : {comma : Bool} {s : List ℕ} → Beside false comma s → Beside lines comma (s ++ say_ (take k rest))
    ahead : (by_blank_lines groups : Bool) (pin : Option ℕ) → Pinned by_blank_lines pin (drop k rest) → AheadOf by_blank_lines AreSpaces lines (lead_parts at groups pin (drop k rest))

  next : (rest : List ℕ) → AllQuiet rest → Next rest (comments_on_line at false rest)
  next rest q = by (lined at rest) q
    where
      by : {rest : List ℕ} → Lined at rest → AllQuiet rest → Next rest (comments_on_line at false rest)
      by {rest} (none_ends h) q =
          subst (Next rest) (sym (own_none rest h))
          (record {
            lines = false;
            beside = λ {comma} {s} b. subst (Beside false comma) (sym (append-nil s)) b;
            ahead = λ by_blank_lines groups pin pinned. line_ahead rest h q by_blank_lines groups pin;
          })
      by (one_ends xs more n h e) q =
          let rest : List ℕ = xs ++ n ∷ more in
          let quiet : AllQuiet xs = quiet_first xs (n ∷ more) q in
          let k : ℕ = up_to_spaces at xs in
          let front : take k rest ≡ take k xs = take-append-le k xs (n ∷ more) (short xs) in
          let back : drop k rest ≡ drop k xs ++ n ∷ more = drop-append-le k xs (n ∷ more) (short xs) in
          let line_text : InLine (say_ (take k xs)) = inline_said o kind top (take k xs) (each_take (λ m. IsQuiet o kind top (top m)) k xs quiet) (each_take (λ m. is_newline_at at m ≡ false) k xs h) in
          let gone : AllQuiet (drop k xs) = each_drop (λ m. IsQuiet o kind top (top m)) k xs quiet in
          let behind : AllQuiet (drop k xs ++ n ∷ more) = each_joined (λ m. IsQuiet o kind top (top m)) (drop k xs) (n ∷ more) gone (quiet_second xs (n ∷ more) q) in
          subst (Next rest) (sym (own_there false xs more n h e quiet))
          (record {
            lines = true;
            beside = λ {comma} {s} b. subst (λ l. Beside true comma (s ++ say_ l)) (sym front) (sorting.and_line b line_text);
            ahead = λ by_blank_lines groups pin pinned. subst (λ l. AheadOf by_blank_lines AreSpaces true (lead_parts at groups pin l)) (sym back)
                (lines_ahead (drop k xs) more n (none_from k xs h) e behind (spaces_said o kind top (drop k xs) gone (spaces_last at xs)) by_blank_lines groups pin (subst (Pinned by_blank_lines pin) back pinned));
          })

  -- and behind that of the last
  record End (rest : List ℕ) (k : ℕ) : Type 0 where
    beside : InLine (say_ (take k rest))
    blanks : List ℕ
    end : List ℕ
    behind : say_ (drop k rest) ≡ blanks ++ end
    spaces_ : AreSpaces blanks
    line_ : (end ≡ []) ⊎ StartsLine end

  ended : (rest : List ℕ) → AllQuiet rest → End rest (comments_on_line at true rest)
  ended rest q = by (lined at rest) q
    where
      by : {rest : List ℕ} → Lined at rest → AllQuiet rest → End rest (comments_on_line at true rest)
      by {rest} (none_ends h) q =
          let k : ℕ = up_to_spaces at rest in
          subst (End rest) (sym (own_last rest h q))
          (record {
            beside = inline_said o kind top (take k rest) (each_take (λ m. IsQuiet o kind top (top m)) k rest q) (each_take (λ m. is_newline_at at m ≡ false) k rest h);
            blanks = say_ (drop k rest);
            end = [];
            behind = sym (append-nil (say_ (drop k rest)));
            spaces_ = spaces_said o kind top (drop k rest) (each_drop (λ m. IsQuiet o kind top (top m)) k rest q) (spaces_last at rest);
            line_ = inl refl;
          })
      by (one_ends xs more n h e) q =
          let rest : List ℕ = xs ++ n ∷ more in
          let quiet : AllQuiet xs = quiet_first xs (n ∷ more) q in
          let behind : AllQuiet (n ∷ more) = quiet_second xs (n ∷ more) q in
          let k : ℕ = up_to_spaces at xs in
          let front : take k rest ≡ take k xs = take-append-le k xs (n ∷ more) (short xs) in
          let back : drop k rest ≡ drop k xs ++ n ∷ more = drop-append-le k xs (n ∷ more) (short xs) in
          subst (End rest) (sym (own_there true xs more n h e quiet))
          (record {
            beside = subst (λ l. InLine (say_ l)) (sym front) (inline_said o kind top (take k xs) (each_take (λ m. IsQuiet o kind top (top m)) k xs quiet) (each_take (λ m. is_newline_at at m ≡ false) k xs h));
            blanks = say_ (drop k xs);
            end = say_ (n ∷ more);
            behind = ap say_ back ∙ say_joined top (drop k xs) (n ∷ more);
            spaces_ = spaces_said o kind top (drop k xs) (each_drop (λ m. IsQuiet o kind top (top m)) k xs quiet) (spaces_last at xs);
            line_ = inr (node_chars (top n), say_ more, refl, line_end_one o kind top (top n) behind.0 e);
          })

  -- the parts are cut so
  record IsCut (last : Bool) (part : Part) : Type 0 where
    gap : List ℕ
    tail : part.tail ≡ take (tail_length at last gap) gap
    behind : part.behind ≡ drop (tail_length at last gap) gap

  abbrev AreCut : List Part → Type 0
  AreCut [] = Unit {0}
  AreCut (part ∷ rest) = IsCut (is_none rest) part × AreCut rest

  cut_parts : (row : List ℕ) → AreCut (parts at row).rest
  cut_parts [] = tt
  cut_parts (n ∷ row) =
      let p : Parts = parts at row in
      choose {A = Parts} (λ q. AreCut q.rest) (is_element (at n)) (record { lead = []; rest = part_with at n (is_none p.rest) p.lead ∷ p.rest }) (record { lead = n ∷ p.lead; rest = p.rest })
      (record { gap = p.lead; tail = refl; behind = refl }, cut_parts row) (cut_parts row)

  gap_more : {last to : Last} {xs : List ℕ} (ys : List ℕ) → Gap o kind top last xs to → AllQuiet ys → Gap o kind top last (xs ++ ys) to
  gap_more [] runs.gap_over h = runs.gap_over
  gap_more (y ∷ ys) runs.gap_over h = runs.gap_quiet h.0 (gap_more ys runs.gap_over h.1)
  gap_more ys (runs.gap_quiet q g) h = runs.gap_quiet q (gap_more ys g h)
  gap_more ys (runs.gap_comma c g) h = runs.gap_comma c (gap_more ys g h)

  module _ (last : Bool) (part : Part) (is : IsPart o kind top last part) (cut : IsCut last part) where
    abbrev gap : List ℕ
    gap = cut.gap

    abbrev rest : List ℕ
    rest = drop (through_comma at gap) gap

    abbrev k : ℕ
    k = comments_on_line at last rest

    gap_is : Gap o kind top rows.an_element gap is.to
    gap_is =
        let n : ℕ = tail_length at last gap in
        subst (λ l. Gap o kind top rows.an_element l is.to) (ap (λ l. l ++ part.behind) cut.tail ∙ ap (λ l. take n gap ++ l) cut.behind ∙ take-append-drop n gap) (gap_more part.behind is.tail is.behind)

    quiet_rest : AllQuiet rest
    quiet_rest = (cut_gap o kind top gap (through_comma at gap) gap_is (omega arith)).1

    tail_said : say_ part.tail ≡ say_ (take (through_comma at gap) gap) ++ say_ (take k rest)
    tail_said = ap say_ (cut.tail ∙ take_both (through_comma at gap) k gap) ∙ say_joined top (take (through_comma at gap) gap) (take k rest)

    tail_comma : has_comma at part.tail ≡ has_comma at gap
    tail_comma = ap (has_comma at) cut.tail ∙ kept_comma gap (tail_length at last gap) k refl gap_is

    behind_is : part.behind ≡ drop k rest
    behind_is = cut.behind ∙ sym (drop-drop k (through_comma at gap) gap)

    before : Beside false (has_comma at part.tail) (say_ (take (through_comma at gap) gap))
    before = subst (λ b. Beside false b (say_ (take (through_comma at gap) gap))) (sym tail_comma) (up_to gap gap_is)

  -- the entries
  abbrev pub held_of : Entry → Held
  held_of e = record { stays = say_ e.lead.front; above = say_ e.lead.travels; indent = say_ e.lead.indent; own = node_chars (top e.element); beside = say_ e.tail; comma = has_comma at e.tail }

  abbrev AllPinned : Bool → List (Option ℕ) → List (List ℕ) → Type 0
  AllPinned by_blank_lines pins leads = by_blank_lines ≡ true → PinUnderBlankLines at pins leads

  all_held : (by_blank_lines groups : Bool) (pins : List (Option ℕ)) (lead : List ℕ) (part : Part) (rest : List Part) → AreParts o kind top (part ∷ rest) → AreCut (part ∷ rest) → AllPinned by_blank_lines (drop 1 pins) (leads_from part.behind rest)
      → AreHeld by_blank_lines (map held_of (entries_from at groups pins lead (part ∷ rest))) (say_ (end_of part.behind rest))
  all_held by_blank_lines groups pins lead part [] h c pinned =
      let e = ended (rest true part h.0 c.0) (quiet_rest true part h.0 c.0) in
      subst (λ x. AreHeld by_blank_lines (map held_of (entries_from at groups pins lead (part ∷ []))) x) (sym (ap say_ (behind_is true part h.0 c.0) ∙ e.behind))
      (sorting.last (subst (Beside true (has_comma at part.tail)) (sym (tail_said true part h.0 c.0)) (sorting.and_line (before true part h.0 c.0) e.beside)) e.spaces_ e.line_)
  all_held by_blank_lines groups pins lead part (other ∷ others) h c pinned =
      let n = next (rest false part h.0 c.0) (quiet_rest false part h.0 c.0) in
      let pin : Option ℕ = first_pin (drop 1 pins) in
      sorting.before n.lines
      (subst (Beside n.lines (has_comma at part.tail)) (sym (tail_said false part h.0 c.0)) (n.beside (before false part h.0 c.0)))
      (subst (λ l. AheadOf by_blank_lines AreSpaces n.lines (lead_parts at groups pin l)) (sym (behind_is false part h.0 c.0)) (n.ahead by_blank_lines groups pin (subst (Pinned by_blank_lines pin) (behind_is false part h.0 c.0) (λ e. (pinned e).0))))
      (all_held by_blank_lines groups (drop 1 pins) part.behind other others h.1 c.1 (λ e. (pinned e).1))

  pub are_entries : (by_blank_lines : Bool) (h : Headers) (row : List ℕ) → AllPinned by_blank_lines h.pinned (leads at row) → IsRow o kind top rows.nothing_yet (parts at row)
      → AreEntries by_blank_lines (map held_of (entries at h row)) (say_ (row_end at row))
  are_entries by_blank_lines h row pinned r = by (parts at row).rest r.rest (cut_parts row) pinned
    where
      quiet : AllQuiet (parts at row).lead
      quiet = (quiet_gap o kind top tt r.lead).0

      by : (rest : List Part) → AreParts o kind top rest → AreCut rest → AllPinned by_blank_lines h.pinned (leads_from (parts at row).lead rest)
          → AreEntries by_blank_lines (map held_of (entries_from at h.groups h.pinned (parts at row).lead rest)) (say_ (end_of (parts at row).lead rest))
      by [] a c p = sorting.no_entries
      by (part ∷ rest) a c p =
          let ahead = first_ahead (parts at row).lead quiet by_blank_lines h.groups (first_pin h.pinned) (λ e. (p e).0) in
          sorting.entries ahead.0 ahead.1 (all_held by_blank_lines h.groups h.pinned (parts at row).lead part rest a c (λ e. (p e).1))

  -- their text is the row's
  abbrev flat : List Part → List ℕ
  flat [] = []
  flat (part ∷ rest) = part.element ∷ (part.tail ++ (part.behind ++ flat rest))

  in_parts : (row : List ℕ) → (parts at row).lead ++ flat (parts at row).rest ≡ row
  in_parts [] = refl
  in_parts (n ∷ row) =
      let p : Parts = parts at row in
      let k : ℕ = tail_length at (is_none p.rest) p.lead in
      choose {A = Parts} (λ q. q.lead ++ flat q.rest ≡ n ∷ row) (is_element (at n)) (record { lead = []; rest = part_with at n (is_none p.rest) p.lead ∷ p.rest }) (record { lead = n ∷ p.lead; rest = p.rest })
      (ap (λ l. n ∷ l) (sym (append_assoc (take k p.lead) (drop k p.lead) (flat p.rest)) ∙ ap (λ l. l ++ flat p.rest) (take-append-drop k p.lead) ∙ in_parts row))
      (ap (λ l. n ∷ l) (in_parts row))

  lead_said : (groups : Bool) (pin : Option ℕ) (lead r : List ℕ) → say_ lead ++ r ≡ say_ (lead_parts at groups pin lead).front ++ (say_ (lead_parts at groups pin lead).travels ++ (say_ (lead_parts at groups pin lead).indent ++ r))
  lead_said groups pin lead r =
      choose (λ l. say_ lead ++ r ≡ say_ l.front ++ (say_ l.travels ++ (say_ l.indent ++ r))) (list_any (is_newline_at at) lead) (parts_of_lines at (begins_group at groups lead) pin lead) (parts_of_line at lead) (lines (begins_group at groups lead))
      (ap (λ l. l ++ r) (say_cut top (spaces at lead) lead) ∙ append_assoc (say_ (take (spaces at lead) lead)) (say_ (drop (spaces at lead) lead)) r)
    where
      four : (a b c d r : List ℕ) → (a ++ ((b ++ c) ++ d)) ++ r ≡ (a ++ b) ++ (c ++ (d ++ r))
      four a b c d r = simp (append_assoc) refl

      lines : (begins : Bool) → say_ lead ++ r ≡ say_ (parts_of_lines at begins pin lead).front ++ (say_ (parts_of_lines at begins pin lead).travels ++ (say_ (parts_of_lines at begins pin lead).indent ++ r))
      lines begins =
          let first : List ℕ = take (first_line at lead) lead in
          let behind : List ℕ = drop (first_line at lead) lead in
          let upto : ℕ = up_to_spaces at behind in
          let above : List ℕ = take upto behind in
          let header : ℕ = header_length at begins pin above in
          ap (λ l. l ++ r) (say_cut top (first_line at lead) lead ∙ ap (λ l. say_ first ++ l) (say_cut top upto behind ∙ ap (λ l. l ++ say_ (drop upto behind)) (say_cut top header above)))
          ∙ four (say_ first) (say_ (take header above)) (say_ (drop header above)) (say_ (drop upto behind)) r
          ∙ ap (λ l. l ++ (say_ (drop header above) ++ (say_ (drop upto behind) ++ r))) (sym (say_joined top first (take header above)))

  entries_said : (groups : Bool) (pins : List (Option ℕ)) (lead : List ℕ) (rest : List Part) → say_ (lead ++ flat rest) ≡ row (map held_of (entries_from at groups pins lead rest)) (say_ (end_of lead rest))
  entries_said groups pins lead [] = ap say_ (append-nil lead)
  entries_said groups pins lead (part ∷ rest) =
      let l : LeadParts = lead_parts at groups (first_pin pins) lead in
      say_joined top lead (flat (part ∷ rest))
      ∙ lead_said groups (first_pin pins) lead (say_ (flat (part ∷ rest)))
      ∙ ap (λ x. say_ l.front ++ (say_ l.travels ++ (say_ l.indent ++ (node_chars (top part.element) ++ x)))) (say_joined top part.tail (part.behind ++ flat rest) ∙ ap (λ x. say_ part.tail ++ x) (entries_said groups (drop 1 pins) part.behind rest))

  pub row_said : (h : Headers) (row : List ℕ) → say_ row ≡ sorting.row (map held_of (entries at h row)) (say_ (row_end at row))
  row_said h row = ap say_ (sym (in_parts row)) ∙ entries_said h.groups h.pinned (parts at row).lead (parts at row).rest

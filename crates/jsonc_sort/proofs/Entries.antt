-- The entries of a row of a sound document, and the same in another order.
use Rattle.std.proofs.Common.{◌≡◌, ℕ, Bool, true, false, ◌&&◌, List, [], ◌∷◌, ◌++◌, length, map, take, drop, Option, IsTrue, refl, subst}
use Rattle.std.specs.Prelude.{if◌then◌else◌, zip, IsPermutation}
use Rattle.std.specs.List.{list_any, range_with_len}
use Rattle.jsonc_text.specs.Options.{Options}
use Rattle.jsonc_tree.specs.Content.{Content, token, newline}
use Rattle.jsonc_tree.specs.OrderedTree.{Top}
use Rattle.jsonc_tree.specs.declared.node.CstNewlineKind.{CstNewlineKind}
use Rattle.jsonc_sound.specs.Lines.{is_line_comment}
use Rattle.jsonc_sound.specs.Rows as rows
use Rattle.jsonc_sound.specs.Rows.{Last, RowKind, may_end}
use Rattle.jsonc_sort.specs.Slots.{Slot, comes, all_stay}
use Rattle.jsonc_sort.specs.Parts.{Part, Parts, has_comma, is_comma_at, is_newline_at, is_none, is_whitespace_at, parts, up_to_spaces}
use Rattle.jsonc_sort.specs.Leads.{LeadParts, begins_group, blank_lines, first_line, header_length, lead_parts, parts_of_line, parts_of_lines, spaces}
use Rattle.jsonc_sort.specs.Sorting.{Entry, Headers, end_of, ends_with_comma, entries, entries_from, entry_at, first_pin, goes_on, lines_ended, no_entry, placed, placed_one, rearranged, row_end, slot_content, tail_with, travelling, without_comma}
use Rattle.jsonc_sort.specs.Laws.{content_of}
use Rattle.jsonc_sort.proofs.Choices.{Each, all_moved, choose, choose_by, each_drop, each_joined, each_moved, each_take, each_zipped}
use Rattle.jsonc_sort.proofs.Runs as runs
use Rattle.jsonc_sort.proofs.Runs.{IsQuiet, IsComma, IsWhole, Parted, Runs, Quiets, Gap, comma_gap, comma_is, cut_gap, no_comma_gap, other_no_comma, quiet_gap, runs_gap, runs_joined, runs_quiets}

module _ (o : Options) (kind : RowKind) (top : ℕ → Top) where
  abbrev at : ℕ → Content
  at = content_of top

  abbrev Quiet : ℕ → Type 0
  Quiet n = IsQuiet o kind top (top n)

  abbrev pub AllQuiet : List ℕ → Type 0
  AllQuiet row = Quiets o kind top row

  abbrev Runs_ : Last → List Slot → Last → Type 0
  Runs_ last xs to = Runs o kind top last xs to

  -- tails that have their comma, or have none
  with_comma : {to : Last} (tail : List ℕ) → Gap o kind top rows.an_element tail to → Runs_ rows.an_element (tail_with at true tail) rows.a_comma
  with_comma tail g =
      choose_by (λ l. Runs_ rows.an_element l rows.a_comma) (has_comma at tail) (all_stay tail) (comes (token 0x2C) ∷ all_stay tail)
      (λ e. subst (Runs_ rows.an_element (all_stay tail)) (comma_gap o kind top g e) (runs_gap o kind top g))
      (λ e. runs.comma (record { is = refl; bare = refl }) (runs_quiets o kind top tail (no_comma_gap o kind top g e).0))

  behind_comma : {last to : Last} (n : ℕ) (xs : List ℕ) → Gap o kind top last (n ∷ xs) to → is_comma_at at n ≡ true → AllQuiet xs
  behind_comma n xs (runs.gap_quiet q g) e = let other = other_no_comma o kind top n q in cc
  behind_comma n xs (runs.gap_comma c g) e = (quiet_gap o kind top tt g).0

  without_quiet : {last to : Last} (tail : List ℕ) → Gap o kind top last tail to → AllQuiet (without_comma at tail)
  without_quiet [] g = tt
  without_quiet (n ∷ []) (runs.gap_quiet q g) = choose AllQuiet (is_comma_at at n) [] (n ∷ []) tt (q, tt)
  without_quiet (n ∷ []) (runs.gap_comma c g) = choose_by AllQuiet (is_comma_at at n) [] (n ∷ []) (λ e. tt) (λ e. let yes = comma_is o kind top n c in cc)
  without_quiet (n ∷ m ∷ rest) (runs.gap_quiet q g) =
      choose_by AllQuiet (is_comma_at at n) (m ∷ rest) (if is_whitespace_at at n && is_comma_at at m then rest else n ∷ without_comma at (m ∷ rest))
      (λ e. let other = other_no_comma o kind top n q in cc)
      (λ e. choose_by AllQuiet (is_whitespace_at at n && is_comma_at at m) rest (n ∷ without_comma at (m ∷ rest))
      (λ b. behind_comma m rest g (second (is_whitespace_at at n) (is_comma_at at m) b)) (λ b. (q, without_quiet (m ∷ rest) g)))
    where
      second : (a b : Bool) → a && b ≡ true → b ≡ true
      second true b h = h
      second false b h = cc
  without_quiet (n ∷ m ∷ rest) (runs.gap_comma c g) =
      choose_by AllQuiet (is_comma_at at n) (m ∷ rest) (if is_whitespace_at at n && is_comma_at at m then rest else n ∷ without_comma at (m ∷ rest))
      (λ e. (quiet_gap o kind top tt g).0)
      (λ e. let yes = comma_is o kind top n c in cc)

  with_none : {to : Last} (tail : List ℕ) → Gap o kind top rows.an_element tail to → Runs_ rows.an_element (tail_with at false tail) rows.an_element
  with_none tail g =
      choose_by (λ l. Runs_ rows.an_element l rows.an_element) (has_comma at tail) (all_stay (without_comma at tail)) (all_stay tail)
      (λ e. runs_quiets o kind top (without_comma at tail) (without_quiet tail g))
      (λ e. runs_quiets o kind top tail (no_comma_gap o kind top g e).0)

  abbrev stood : Bool → Last
  stood true = rows.a_comma
  stood false = rows.an_element

  tail_runs : {to : Last} (comma : Bool) (tail : List ℕ) → Gap o kind top rows.an_element tail to → Runs_ rows.an_element (tail_with at comma tail) (stood comma)
  tail_runs true tail g = with_comma tail g
  tail_runs false tail g = with_none tail g

  -- leads of trivia
  pub record QuietLead (p : LeadParts) : Type 0 where
    pub front : AllQuiet p.front
    pub travels : AllQuiet p.travels
    pub indent : AllQuiet p.indent

  quiet_lead : (groups : Bool) (pin : Option ℕ) (lead : List ℕ) → AllQuiet lead → QuietLead (lead_parts at groups pin lead)
  quiet_lead groups pin lead h =
      choose QuietLead (list_any (is_newline_at at) lead) (parts_of_lines at (begins_group at groups lead) pin lead) (parts_of_line at lead) (lines (begins_group at groups lead))
      (record { front = each_take Quiet (spaces at lead) lead h; travels = each_drop Quiet (spaces at lead) lead h; indent = tt })
    where
      lines : (begins : Bool) → QuietLead (parts_of_lines at begins pin lead)
      lines begins =
          let first : List ℕ = take (first_line at lead) lead in
          let rest : List ℕ = drop (first_line at lead) lead in
          let behind : AllQuiet rest = each_drop Quiet (first_line at lead) lead h in
          let above : List ℕ = take (up_to_spaces at rest) rest in
          let quiet : AllQuiet above = each_take Quiet (up_to_spaces at rest) rest behind in
          let header : ℕ = header_length at begins pin above in
          record {
            front = each_joined Quiet first (take header above) (each_take Quiet (first_line at lead) lead h) (each_take Quiet header above quiet);
            travels = each_drop Quiet header above quiet;
            indent = each_drop Quiet (up_to_spaces at rest) rest behind;
          }

  -- entries
  pub record IsEntry (e : Entry) : Type 0 where
    pub lead : QuietLead e.lead
    pub element : IsWhole o kind top (top e.element)
    pub to : Last
    pub tail : Gap o kind top rows.an_element e.tail to

  quiet_travelling : (first : Bool) (row : List ℕ) → AllQuiet row → AllQuiet (travelling at first row)
  quiet_travelling true row h = each_drop Quiet (blank_lines at row) row h
  quiet_travelling false row h = h

  one_runs : {last : Last} (first comma : Bool) (p : Entry × Entry) → Parted o kind top last → IsEntry p.0 → IsEntry p.1 → Runs_ last (placed_one at first comma p) (stood comma)
  one_runs {last} first comma p parted a b =
      let front : Runs_ last (all_stay p.0.lead.front) last = runs_quiets o kind top p.0.lead.front a.lead.front in
      let travels : Runs_ last (all_stay (travelling at first p.1.lead.travels)) last = runs_quiets o kind top (travelling at first p.1.lead.travels) (quiet_travelling first p.1.lead.travels b.lead.travels) in
      let indent : Runs_ last (all_stay p.0.lead.indent) last = runs_quiets o kind top p.0.lead.indent a.lead.indent in
      runs_joined o kind top (runs_joined o kind top (runs_joined o kind top front travels) indent) (runs.whole parted b.element (tail_runs comma p.1.tail b.tail))

  abbrev started : Bool → Last
  started true = rows.nothing_yet
  started false = rows.a_comma

  started_parted : (first : Bool) → Parted o kind top (started first)
  started_parted true = tt
  started_parted false = tt

  abbrev ended : Bool → Bool → List (Entry × Entry) → Last
  ended first commas [] = started first
  ended first commas (p ∷ ps) = stood commas

  placed_runs : (first commas : Bool) (ps : List (Entry × Entry)) → Each (λ p. IsEntry p.0 × IsEntry p.1) ps → Runs_ (started first) (placed at first commas ps) (ended first commas ps)
  placed_runs first commas [] h = runs.over
  placed_runs first commas (p ∷ []) h = one_runs first commas p (started_parted first) h.0.0 h.0.1
  placed_runs first commas (p ∷ q ∷ rest) h = runs_joined o kind top (one_runs first true p (started_parted first) h.0.0 h.0.1) (placed_runs false commas (q ∷ rest) h.1)

  -- ends of lines are trivia
  lines_run : {last to : Last} (newline_kind : CstNewlineKind) {xs : List Slot} → Runs_ last xs to → Runs_ last (lines_ended at newline_kind xs) to
  lines_run k runs.over = runs.over
  lines_run k (runs.quiet {last = last} {to = to} {s = s} {xs = xs} q h) =
      choose (λ l. Runs_ last l to) (is_line_comment (slot_content at s) && goes_on at xs) (s ∷ comes (newline k) ∷ lines_ended at k xs) (s ∷ lines_ended at k xs)
      (runs.quiet q (runs.quiet (record { trivia = tt; bare = refl }) (lines_run k h))) (runs.quiet q (lines_run k h))
  lines_run k (runs.whole {last = last} {to = to} {s = s} {xs = xs} p w h) =
      choose (λ l. Runs_ last l to) (is_line_comment (slot_content at s) && goes_on at xs) (s ∷ comes (newline k) ∷ lines_ended at k xs) (s ∷ lines_ended at k xs)
      (runs.whole p w (runs.quiet (record { trivia = tt; bare = refl }) (lines_run k h))) (runs.whole p w (lines_run k h))
  lines_run k (runs.comma {to = to} {s = s} {xs = xs} c h) =
      choose (λ l. Runs_ rows.an_element l to) (is_line_comment (slot_content at s) && goes_on at xs) (s ∷ comes (newline k) ∷ lines_ended at k xs) (s ∷ lines_ended at k xs)
      (runs.comma c (runs.quiet (record { trivia = tt; bare = refl }) (lines_run k h))) (runs.comma c (lines_run k h))

  -- what the parts of a row are, and where it ends
  pub record IsPart (last : Bool) (part : Part) : Type 0 where
    pub element : IsWhole o kind top (top part.element)
    pub to : Last
    pub tail : Gap o kind top rows.an_element part.tail to
    pub behind : AllQuiet part.behind
    pub ends : IsTrue last → IsTrue (may_end o to)

  abbrev pub AreParts : List Part → Type 0
  AreParts [] = Unit {0}
  AreParts (part ∷ rest) = IsPart (is_none rest) part × AreParts rest

  pub record IsRow (last : Last) (p : Parts) : Type 0 where
    pub to : Last
    pub lead : Gap o kind top last p.lead to
    pub ends : IsTrue (is_none p.rest) → IsTrue (may_end o to)
    pub rest : AreParts p.rest

  entries_are : (groups : Bool) (pins : List (Option ℕ)) (lead : List ℕ) (rest : List Part) → AllQuiet lead → AreParts rest → Each IsEntry (entries_from at groups pins lead rest) × AllQuiet (end_of lead rest)
  entries_are groups pins lead [] h k = (tt, h)
  entries_are groups pins lead (part ∷ rest) h k =
      let others = entries_are groups (drop 1 pins) part.behind rest k.0.behind k.1 in
      ((record { lead = quiet_lead groups (first_pin pins) lead h; element = k.0.element; to = k.0.to; tail = k.0.tail }, others.0), others.1)

  -- the last comma may trail
  last_comma : (groups : Bool) (pins : List (Option ℕ)) (lead : List ℕ) (rest : List Part) → AreParts rest → ends_with_comma at (entries_from at groups pins lead rest) ≡ true → IsTrue (may_end o rows.a_comma)
  last_comma groups pins lead [] k e = cc
  last_comma groups pins lead (part ∷ []) k e = subst (λ l. IsTrue (may_end o l)) (comma_gap o kind top k.0.tail e) (k.0.ends refl)
  last_comma groups pins lead (part ∷ next ∷ rest) k e = last_comma groups (drop 1 pins) part.behind (next ∷ rest) k.1 e

  -- a row in another order
  pub record Rearranges (slots : List Slot) : Type 0 where
    pub to : Last
    pub ends : IsTrue (may_end o to)
    pub runs : Runs o kind top rows.nothing_yet slots to

  end_may : (commas : Bool) (ps : List (Entry × Entry)) → (commas ≡ true → IsTrue (may_end o rows.a_comma)) → IsTrue (may_end o (ended true commas ps))
  end_may commas [] h = refl
  end_may true (p ∷ ps) h = h refl
  end_may false (p ∷ ps) h = refl

  pub entries_in : (h : Headers) (row : List ℕ) → IsRow rows.nothing_yet (parts at row) → Each IsEntry (entries at h row) × AllQuiet (row_end at row)
  entries_in h row r = entries_are h.groups h.pinned (parts at row).lead (parts at row).rest (quiet_gap o kind top tt r.lead).0 r.rest

  -- before lines end behind its comments
  pub row_moves : (h : Headers) (row order : List ℕ) → IsRow rows.nothing_yet (parts at row) → IsPermutation (range_with_len 0 (length (entries at h row))) order
      → Rearranges (rearranged at (entries at h row) order ++ all_stay (row_end at row))
  row_moves h row order r p =
      let are = entries_in h row r in
      let es : List Entry = entries at h row in
      let xs : List Entry = map (entry_at es) order in
      let commas : Bool = ends_with_comma at es in
      let moved : Each IsEntry xs = each_moved IsEntry es xs (all_moved no_entry es order p) are.0 in
      record {
        to = ended true commas (zip es xs);
        ends = end_may commas (zip es xs) (last_comma h.groups h.pinned (parts at row).lead (parts at row).rest r.rest);
        runs = runs_joined o kind top (placed_runs true commas (zip es xs) (each_zipped IsEntry es xs are.0 moved)) (runs_quiets o kind top (row_end at row) are.1);
      }

  pub row_rearranges : (newline_kind : CstNewlineKind) (h : Headers) (row order : List ℕ) → IsRow rows.nothing_yet (parts at row) → IsPermutation (range_with_len 0 (length (entries at h row))) order
      → Rearranges (lines_ended at newline_kind (rearranged at (entries at h row) order ++ all_stay (row_end at row)))
  row_rearranges k h row order r p =
      let before = row_moves h row order r p in
      record { to = before.to; ends = before.ends; runs = lines_run k before.runs }

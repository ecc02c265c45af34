-- Where the parts of an entry are.
use Rattle.std.proofs.Common.{◌≡◌, ℕ, ◌+◌, ◌-◌, ◌<◌, ◌≤◌, Bool, true, inl, inr, List, [], ◌∷◌, ◌++◌, length, take, drop, Option, refl, sym, ap, subst, ◌∙◌, arith, length-take, length-drop}
use Rattle.std.specs.Prelude.{nat_le, nat_lt, slice_range}
use Rattle.std.specs.List.{list_any, position_or_len}
use Rattle.std.proofs.lemmas.Bool.{cases_Bool, cases_lt, le-ltb, lt-ltb}
use Rattle.std.proofs.lemmas.List.{drop_all, drop-drop, take_rest, take-take}
use Rattle.jsonc_tree.specs.Content.{Content}
use Rattle.jsonc_sort.specs.Leads.{LeadParts, blank_lines, first_line, header_length, lead_parts, parts_of_line, parts_of_lines, spaces}
use Rattle.jsonc_sort.specs.Parts.{has_comma, is_newline_at, tail_length, up_to_spaces}
use Rattle.jsonc_sort.specs.Places.{ArePlaces, IsComma, bare_tail_of, before_element, entry_of, gap_behind, is_last_at, lead_of, tail_of}
use Rattle.jsonc_sort.specs.Sorting.{without_comma}
use Rattle.jsonc_sort.specs.declared.places.Places.{Places}
use Rattle.jsonc_sort.specs.declared.leads.Lead.{Lead}
use Rattle.jsonc_sort.specs.declared.parts.Comma.{Comma}
use Rattle.jsonc_sort.proofs.Stretches.{front_of, middle_of, rest_of, stretch, take_both}

abbrev three : List ℕ → List ℕ → List ℕ → LeadParts
three front travels indent = record { front = front; travels = travels; indent = indent }

same_three : (a b c x y z : List ℕ) → a ≡ x → b ≡ y → c ≡ z → three a b c ≡ three x y z
same_three a b c x y z e f g = ap (λ l. three l b c) e ∙ ap (λ l. three x l c) f ∙ ap (three x y) g

module _ (at : ℕ → Content) (lead : List ℕ) (l : Lead) where
  -- by the place behind the first end of a line
  abbrev cut_at : Bool → Option ℕ → ℕ → LeadParts
  cut_at begins pin k =
      let rest : List ℕ = drop k lead in
      let n : ℕ = up_to_spaces at rest in
      let header : ℕ = header_length at begins pin (take n rest) in
      three (take k lead ++ take header (take n rest)) (drop header (take n rest)) (drop n rest)

  -- a lead in which a line ends
  pub lines_are : (begins : Bool) (pin : Option ℕ) (first upto header : ℕ) → first ≡ first_line at lead → first ≤ length lead → upto ≡ up_to_spaces at (drop first lead) → header ≡ header_length at begins pin (take upto (drop first lead)) → header ≤ length (take upto (drop first lead)) → l.travels ≡ first + header → l.indent ≡ first + upto
      → lead_of lead l ≡ parts_of_lines at begins pin lead
  lines_are begins pin first upto header e far f g short t i =
      let rest : List ℕ = drop first lead in
      let above : List ℕ = take upto rest in
      let low : header ≤ upto = omega (arith, short, length-take upto rest) in
      let front : take l.travels lead ≡ take first lead ++ take header above =
      ap (λ k. take k lead) t ∙ take_both first header lead ∙ ap (λ x. take first lead ++ x) (sym (take-take header upto rest low)) in
      let travels : slice_range lead l.travels l.indent ≡ drop header above =
      ap (λ k. slice_range lead k l.indent) t ∙ ap (slice_range lead (first + header)) i ∙ sym (rest_of lead first header upto (first + upto) low refl) in
      let indent : drop l.indent lead ≡ drop upto rest = ap (λ k. drop k lead) i ∙ sym (drop-drop upto first lead) in
      same_three (take l.travels lead) (slice_range lead l.travels l.indent) (drop l.indent lead) (take first lead ++ take header above) (drop header above) (drop upto rest) front travels indent
      ∙ ap (λ k. three (take first lead ++ take k above) (drop k above) (drop upto rest)) g
      ∙ ap (λ k. three (take first lead ++ take (header_length at begins pin (take k rest)) (take k rest)) (drop (header_length at begins pin (take k rest)) (take k rest)) (drop k rest)) f
      ∙ ap (cut_at begins pin) e

  -- one in which none does
  pub line_is : l.travels ≡ spaces at lead → l.indent ≡ length lead → lead_of lead l ≡ parts_of_line at lead
  line_is t i =
      same_three (take l.travels lead) (slice_range lead l.travels l.indent) (drop l.indent lead) (take (spaces at lead) lead) (drop (spaces at lead) lead) []
      (ap (λ k. take k lead) t)
      (ap (λ k. slice_range lead k l.indent) t ∙ ap (slice_range lead (spaces at lead)) i ∙ take_rest lead (spaces at lead))
      (ap (λ k. drop k lead) i ∙ drop_all (length lead) lead (omega arith))

-- where a line ends, its end is there
pub newline_there : (at : ℕ → Content) (row : List ℕ) → list_any (is_newline_at at) row ≡ true → position_or_len (is_newline_at at) row < length row
newline_there at [] e = cc
newline_there at (n ∷ row) e =
    elim (cases_Bool (is_newline_at at n)) [
      | inl f ↦ rw f (omega arith)
      | inr f ↦ (let rest : position_or_len (is_newline_at at) row < length row = newline_there at row (rw f at e) in rw f (omega (arith, rest)))
    ]

-- by places in a row
lt_moved : (a b k : ℕ) → nat_lt a b ≡ nat_lt (k + a) (k + b)
lt_moved a b k =
    elim (cases_lt a b) [
      | inl low ↦ lt-ltb a b low ∙ sym (lt-ltb (k + a) (k + b) (omega (arith, low)))
      | inr high ↦ le-ltb a b high ∙ sym (le-ltb (k + a) (k + b) (omega (arith, high)))
    ]

module _ (at : ℕ → Content) (row : List ℕ) (from element : ℕ) (low : from ≤ element) (h : element < length row) (groups : Bool) (pin : Option ℕ) where
  abbrev lead : List ℕ
  lead = slice_range row from element

  abbrev ys : List ℕ
  ys = drop (element + 1) row

  lead_length : length lead ≡ element - from
  lead_length = omega (arith, low, h, length-take (element - from) (drop from row), length-drop from row)

  lead_placed : (l : Lead) (p : Places) → l.travels ≤ l.indent → l.indent ≤ length lead → p.lead ≡ from → p.travels ≡ from + l.travels → p.indent ≡ from + l.indent → p.element ≡ element → (entry_of row p).lead ≡ lead_of lead l
  lead_placed l p a b e f g k =
      let n : ℕ = element - from in
      let end : element ≡ from + n = omega (arith, low) in
      let short : l.indent ≤ n = omega (arith, b, lead_length) in
      same_three (slice_range row p.lead p.travels) (slice_range row p.travels p.indent) (slice_range row p.indent p.element) (take l.travels lead) (slice_range lead l.travels l.indent) (drop l.indent lead)
      (ap (λ x. slice_range row x p.travels) e ∙ ap (slice_range row from) f ∙ sym (front_of row from l.travels n (omega (arith, a, short))))
      (ap (λ x. slice_range row x p.indent) f ∙ ap (slice_range row (from + l.travels)) g ∙ sym (middle_of row from l.travels l.indent n a short))
      (ap (λ x. slice_range row x p.element) g ∙ ap (slice_range row (from + l.indent)) k ∙ sym (rest_of row from l.indent n element short end))

  pub places_are : (l : Lead) (blank gap t : ℕ) (last : Bool) (comma : Comma) (p : Places)
      → lead_of lead l ≡ lead_parts at groups pin lead → l.travels ≤ l.indent → l.indent ≤ length lead
      → blank ≡ blank_lines at (slice_range row (from + l.travels) (from + l.indent)) → blank ≤ length (slice_range row (from + l.travels) (from + l.indent))
      → gap ≡ before_element at ys → gap ≤ length ys → last ≡ nat_le (length ys) gap → t ≡ tail_length at last (take gap ys) → t ≤ length (take gap ys)
      → IsComma at (take t ys) comma
      → p.lead ≡ from → p.travels ≡ from + l.travels → p.solid ≡ from + l.travels + blank → p.indent ≡ from + l.indent → p.element ≡ element → p.comma ≡ element + 1 + comma.from → p.behind ≡ element + 1 + comma.to → p.end ≡ element + 1 + t
      → ArePlaces at row from element groups pin p
  places_are l blank gap t last comma p parts order within is_blank short_blank is_gap short_gap is_last is_tail short is_comma e_lead e_travels e_solid e_indent e_element e_comma e_behind e_end =
      let travels : ℕ = from + l.travels in
      let indent : ℕ = from + l.indent in
      let many : ℕ = l.indent - l.travels in
      let behind_travels : indent ≡ travels + many = omega (arith, order) in
      let far : t ≤ gap = omega (arith, short, length-take gap ys) in
      let count : length (take t ys) ≡ t = omega (arith, length-take t ys, far, short_gap) in
      let tail : tail_of row p ≡ take t ys = ap (λ k. slice_range row (k + 1) p.end) e_element ∙ ap (λ k. take (k - (element + 1)) ys) e_end ∙ ap (λ k. take k ys) (omega arith) in
      let last_is : last ≡ is_last_at at row element = is_last ∙ ap (nat_le (length ys)) is_gap in
      let gap_is : take gap ys ≡ gap_behind at row element = ap (λ k. take k ys) is_gap in
      let t_is : t ≡ tail_length at (is_last_at at row element) (gap_behind at row element) = is_tail ∙ ap (λ b. tail_length at b (take gap ys)) last_is ∙ ap (tail_length at (is_last_at at row element)) gap_is in
      let many_blank : blank ≤ many = omega (arith, short_blank, length-take (indent - travels) (drop travels row), order) in
      let ranges : slice_range row p.travels p.indent ≡ slice_range row travels indent = ap (λ k. slice_range row k p.indent) e_travels ∙ ap (slice_range row travels) e_indent in
      let lead_short : indent ≤ element = omega (arith, within, lead_length, low) in
      let taken : slice_range row travels indent ≡ stretch row travels many = ap (λ k. take k (drop travels row)) (omega (arith, order)) in
      let to : comma.to ≤ t = omega (arith, is_comma.to, count) in
      let solid : drop (blank_lines at (slice_range row travels indent)) (slice_range row travels indent) ≡ slice_range row (travels + blank) indent =
      ap (λ k. drop k (slice_range row travels indent)) (sym is_blank) ∙ ap (drop blank) taken ∙ rest_of row travels blank many indent many_blank behind_travels in
      let bare : take comma.from (take t ys) ++ drop comma.to (take t ys) ≡ bare_tail_of row p =
      ap (λ x. x ++ drop comma.to (take t ys)) (front_of row (element + 1) comma.from t (omega (arith, is_comma.from, to)))
      ∙ ap (λ x. slice_range row (element + 1) (element + 1 + comma.from) ++ x) (rest_of row (element + 1) comma.to t (element + 1 + t) to refl)
      ∙ ap (λ k. slice_range row (element + 1) k ++ slice_range row (element + 1 + comma.to) (element + 1 + t)) (sym e_comma)
      ∙ ap (λ k. slice_range row (element + 1) p.comma ++ slice_range row k (element + 1 + t)) (sym e_behind)
      ∙ ap (λ k. slice_range row (element + 1) p.comma ++ slice_range row p.behind k) (sym e_end)
      ∙ ap (λ k. slice_range row (k + 1) p.comma ++ slice_range row p.behind p.end) (sym e_element) in
      record {
        begins = e_lead;
        stands = e_element;
        parts = lead_placed l p order within e_lead e_travels e_indent e_element ∙ parts;
        end = e_end ∙ ap (λ k. element + 1 + k) t_is;
        far = subst (λ k. k ≤ length (gap_behind at row element)) t_is (subst (λ x. t ≤ length x) gap_is short);
        read = record {
          within = record {
            lead = omega (arith, e_lead, e_travels);
            travels = omega (arith, e_travels, e_solid);
            solid = omega (arith, e_solid, e_indent, many_blank, behind_travels);
            indent = omega (arith, e_indent, e_element, lead_short);
            element = omega (arith, e_element, e_comma);
            comma = omega (arith, e_comma, e_behind, is_comma.from);
            behind = omega (arith, e_behind, e_end, to);
            end = omega (arith, e_end, far, short_gap, length-drop (element + 1) row, h);
          };
          solid = ap (λ x. drop (blank_lines at x) x) ranges ∙ solid ∙ ap (λ k. slice_range row k indent) (sym e_solid) ∙ ap (slice_range row p.solid) (sym e_indent);
          has = ap (has_comma at) tail ∙ is_comma.has ∙ lt_moved comma.from comma.to (element + 1) ∙ ap (λ k. nat_lt k (element + 1 + comma.to)) (sym e_comma) ∙ ap (nat_lt p.comma) (sym e_behind);
          without = ap (without_comma at) tail ∙ is_comma.without ∙ bare;
        };
      }

  -- the same, where what stands behind the element is told
  pub places_by : (rest : List ℕ) → rest ≡ ys → (l : Lead) (blank gap t : ℕ) (last : Bool) (comma : Comma) (p : Places)
      → lead_of lead l ≡ lead_parts at groups pin lead → l.travels ≤ l.indent → l.indent ≤ length lead
      → blank ≡ blank_lines at (slice_range row (from + l.travels) (from + l.indent)) → blank ≤ length (slice_range row (from + l.travels) (from + l.indent))
      → gap ≡ before_element at rest → gap ≤ length rest → last ≡ nat_le (length rest) gap → t ≡ tail_length at last (take gap rest) → t ≤ length (take gap rest)
      → IsComma at (take t (take gap rest)) comma
      → p.lead ≡ from → p.travels ≡ from + l.travels → p.solid ≡ from + l.travels + blank → p.indent ≡ from + l.indent → p.element ≡ element → p.comma ≡ element + 1 + comma.from → p.behind ≡ element + 1 + comma.to → p.end ≡ element + 1 + t
      → ArePlaces at row from element groups pin p
  places_by rest e l blank gap t last comma p parts order within is_blank short_blank is_gap short_gap is_last is_tail short is_comma e_lead e_travels e_solid e_indent e_element e_comma e_behind e_end =
      let far : t ≤ gap = omega (arith, short, length-take gap rest) in
      places_are l blank gap t last comma p parts order within is_blank short_blank (is_gap ∙ ap (before_element at) e) (subst (λ (x : List ℕ). gap ≤ length x) e short_gap) (is_last ∙ ap (λ (x : List ℕ). nat_le (length x) gap) e) (is_tail ∙ ap (λ x. tail_length at last (take gap x)) e)
      (subst (λ (x : List ℕ). t ≤ length (take gap x)) e short) (subst (λ x. IsComma at x comma) (take-take t gap ys far) (subst (λ x. IsComma at (take t (take gap x)) comma) e is_comma)) e_lead e_travels e_solid e_indent e_element e_comma e_behind e_end

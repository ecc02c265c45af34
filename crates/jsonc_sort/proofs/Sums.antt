-- Sums over the nodes of a row: of the lead and the parts that it falls into, and of its entries.
use Rattle.std.proofs.Common.{◌≡◌, ℕ, zero, suc, ◌+◌, Bool, List, [], ◌∷◌, ◌++◌, length, map, take, drop, Option, refl, sym, ap, ◌∙◌, arith}
use Rattle.std.specs.Prelude.{zip, IsPermutation}
use Rattle.std.specs.List.{list_any, sum_by}
use Rattle.std.proofs.lemmas.List.Sums.{sum_by-cons}
use Rattle.std.proofs.lemmas.List.Sorted.{sum_by-IsPermutation}
use Rattle.jsonc_tree.specs.Content.{Content}
use Rattle.jsonc_layout.specs.nodes.Kinds.{is_element}
use Rattle.jsonc_sort.specs.Parts.{Part, Parts, is_newline_at, is_none, part_with, parts, tail_length, up_to_spaces}
use Rattle.jsonc_sort.specs.Leads.{LeadParts, begins_group, first_line, header_length, lead_parts, parts_of_line, parts_of_lines, spaces}
use Rattle.jsonc_sort.specs.Sorting.{Entry, end_of, entries_from, first_pin}
use Rattle.jsonc_sort.proofs.Choices.{choose}

-- sums one by one
abbrev pub added : {A : Type 0} → (A → ℕ) → List A → ℕ
added f [] = 0
added f (x ∷ xs) = f x + added f xs

pub sum_is : {A : Type 0} (f : A → ℕ) (xs : List A) → sum_by f xs ≡ added f xs
sum_is f [] = refl
sum_is f (x ∷ xs) = sum_by-cons f x xs ∙ ap (λ k. f x + k) (sum_is f xs)

pub added_joined : {A : Type 0} (f : A → ℕ) (xs ys : List A) → added f (xs ++ ys) ≡ added f xs + added f ys
added_joined f [] ys = omega arith
added_joined f (x ∷ xs) ys = omega (arith, added_joined f xs ys)

pub added_map : {A B : Type 0} (f : B → ℕ) (g : A → B) (xs : List A) → added f (map g xs) ≡ added (λ x. f (g x)) xs
added_map f g [] = refl
added_map f g (x ∷ xs) = ap (λ k. f (g x) + k) (added_map f g xs)

pub added_parted : {A : Type 0} (f : A → ℕ) (k : ℕ) (xs : List A) → added f (take k xs) + added f (drop k xs) ≡ added f xs
added_parted f zero xs = omega arith
added_parted f (suc k) [] = refl
added_parted f (suc k) (x ∷ xs) = omega (arith, added_parted f k xs)

-- the same of a permutation
pub added_moved : {A : Type 0} (f : A → ℕ) (xs ys : List A) → IsPermutation xs ys → added f ys ≡ added f xs
added_moved f xs ys p = sym (sum_is f ys) ∙ sum_by-IsPermutation f xs ys p ∙ sum_is f xs

module _ (f : ℕ → ℕ) where
  abbrev own : List ℕ → ℕ
  own row = added f row

  -- what stays of an entry, and what moves
  abbrev pub kept : Entry → ℕ
  kept e = own e.lead.front + own e.lead.indent

  abbrev pub moved : Entry → ℕ
  moved e = own e.lead.travels + (f e.element + own e.tail)

  abbrev pub both : Entry × Entry → ℕ
  both p = kept p.0 + moved p.1

  pub zip_whole : (es xs : List Entry) → length xs ≡ length es → added both (zip es xs) ≡ added kept es + added moved xs
  zip_whole [] [] e = refl
  zip_whole [] (x ∷ xs) e = absurd (omega arith)
  zip_whole (y ∷ es) [] e = absurd (omega arith)
  zip_whole (y ∷ es) (x ∷ xs) e = omega (arith, zip_whole es xs (omega arith))

  module _ (at : ℕ → Content) where
    -- of a lead nothing leaves
    abbrev whole_lead : LeadParts → ℕ
    whole_lead p = own p.front + (own p.travels + own p.indent)

    lines_whole : (begins : Bool) (pin : Option ℕ) (lead : List ℕ) → whole_lead (parts_of_lines at begins pin lead) ≡ own lead
    lines_whole begins pin lead =
        let first : List ℕ = take (first_line at lead) lead in
        let rest : List ℕ = drop (first_line at lead) lead in
        let above : List ℕ = take (up_to_spaces at rest) rest in
        let indent : List ℕ = drop (up_to_spaces at rest) rest in
        let header : ℕ = header_length at begins pin above in
        omega (arith, added_joined f first (take header above), added_parted f header above, added_parted f (up_to_spaces at rest) rest, added_parted f (first_line at lead) lead)

    line_whole : (lead : List ℕ) → own (take (spaces at lead) lead) + (own (drop (spaces at lead) lead) + own []) ≡ own lead
    line_whole lead = omega (arith, added_parted f (spaces at lead) lead)

    lead_whole : (groups : Bool) (pin : Option ℕ) (lead : List ℕ) → whole_lead (lead_parts at groups pin lead) ≡ own lead
    lead_whole groups pin lead =
        choose (λ p. whole_lead p ≡ own lead) (list_any (is_newline_at at) lead) (parts_of_lines at (begins_group at groups lead) pin lead) (parts_of_line at lead) (lines_whole (begins_group at groups lead) pin lead) (line_whole lead)

    -- the entries of a row are the row
    abbrev pub in_part : Part → ℕ
    in_part part = f part.element + (own part.tail + own part.behind)

    pub parts_whole : (row : List ℕ) → own (parts at row).lead + added in_part (parts at row).rest ≡ own row
    parts_whole [] = refl
    parts_whole (n ∷ row) =
        let p : Parts = parts at row in
        let k : ℕ = tail_length at (is_none p.rest) p.lead in
        choose (λ (q : Parts). own q.lead + added in_part q.rest ≡ f n + own row) (is_element (at n)) (record { lead = []; rest = part_with at n (is_none p.rest) p.lead ∷ p.rest }) (record { lead = n ∷ p.lead; rest = p.rest })
        (omega (arith, parts_whole row, added_parted f k p.lead)) (omega (arith, parts_whole row))

    pub entries_whole : (groups : Bool) (pins : List (Option ℕ)) (lead : List ℕ) (rest : List Part)
        → (added kept (entries_from at groups pins lead rest) + added moved (entries_from at groups pins lead rest)) + own (end_of lead rest) ≡ own lead + added in_part rest
    entries_whole groups pins lead [] = omega arith
    entries_whole groups pins lead (part ∷ rest) = omega (arith, lead_whole groups (first_pin pins) lead, entries_whole groups (drop 1 pins) part.behind rest)

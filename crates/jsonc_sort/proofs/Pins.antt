-- Rules that pin comments above an element only where a blank line stands before it.
use Rattle.std.proofs.Common.{◌≡◌, ◌∙◌, ℕ, suc, ◌-◌, ◌+◌, ◌≤◌, Bool, true, false, ◌||◌, inl, inr, List, [], ◌∷◌, ◌++◌, map, take, drop, Option, Some, IsTrue, refl, sym, ap, subst, arith}
use Rattle.std.specs.Prelude.{cond, if◌then◌else◌}
use Rattle.std.specs.List.{list_any}
use Rattle.std.proofs.lemmas.Bool.{cases_Bool}
use Rattle.std.proofs.lemmas.List.{take-append-drop}
use Rattle.std.proofs.lemmas.List.Sums.{sum_by-append}
use Rattle.jsonc_tree.specs.Content.{Content}
use Rattle.jsonc_sort.specs.Above.{PinUnderBlankLines, above, above_from, header, lead_read, pins_none}
use Rattle.jsonc_sort.specs.Leads.{below, comments, first_line, has_blank_line, is_comment_at, line_ends}
use Rattle.jsonc_sort.specs.Parts.{is_newline_at, up_to_spaces}
use Rattle.jsonc_sort.specs.declared.above.LeadRead.{LeadRead}

or_second : (a b : Bool) → a || b ≡ false → b ≡ false
or_second true b h = cc
or_second false b h = h

or_yes : (a b : Bool) → b ≡ true → IsTrue (a || b)
or_yes true b h = refl
or_yes false true h = refl
or_yes false false h = cc

module _ (at : ℕ → Content) where
  -- no rule pins any
  pub none_pinned : (leads : List (List ℕ)) → PinUnderBlankLines at [] leads
  none_pinned [] = tt
  none_pinned (lead ∷ leads) = (refl, none_pinned leads)

  -- a rule that is asked of what a lead tells
  pub all_pinned : (pin : LeadRead → Option ℕ) → ((lead : List ℕ) → IsTrue (pins_none (pin (lead_read at lead)) || has_blank_line at lead)) → (leads : List (List ℕ))
      → PinUnderBlankLines at (map pin (map (lead_read at) leads)) leads
  all_pinned pin h [] = tt
  all_pinned pin h (lead ∷ leads) = (h lead, all_pinned pin h leads)

  -- all above an element before which a blank line is
  pub by_blank_line : (count : ℕ) (lead : List ℕ) → IsTrue (pins_none (Some (if has_blank_line at lead then count else 0)) || has_blank_line at lead)
  by_blank_line count lead =
      elim (cases_Bool (has_blank_line at lead)) [
        | inl e ↦ or_yes (pins_none (Some (if has_blank_line at lead then count else 0))) (has_blank_line at lead) e
        | inr e ↦ rw e refl
      ]

  -- those above the last blank line
  below_is : (lead : List ℕ) → has_blank_line at lead ≡ false → below at lead ≡ drop (first_line at lead) lead
  below_is [] h = refl
  below_is (n ∷ row) h =
      let none : has_blank_line at row ≡ false = or_second _ (has_blank_line at row) h in
      elim (cases_Bool (is_newline_at at n)) [
        | inl e ↦ rw (e, none) refl
        | inr e ↦ (
            let over : below at (n ∷ row) ≡ below at row = rw e refl in
            let more : first_line at (n ∷ row) ≡ suc (first_line at row) = rw e (omega arith) in
            over ∙ below_is row none ∙ ap (λ k. drop k (n ∷ row)) (sym more))
      ]

  fewer : (k : ℕ) (row : List ℕ) → comments at (take k row) ≤ comments at row
  fewer k row =
      let parts : comments at row ≡ comments at (take k row) + comments at (drop k row) =
      ap (comments at) (sym (take-append-drop k row)) ∙ sum_by-append (λ n. cond (is_comment_at at n) 1 0) (take k row) (drop k row) in
      omega (arith, parts)

  no_header : (lead : List ℕ) → has_blank_line at lead ≡ false → header at lead ≡ 0
  no_header lead h =
      let rest : List ℕ = drop (first_line at lead) lead in
      let same : comments at (below at lead) ≡ comments at rest = ap (comments at) (below_is lead h) in
      elim (cases_Bool (list_any (is_newline_at at) lead)) [
        | inl e ↦ (
            let is : comments at (above at lead) ≡ comments at (above_from at rest) = ap (λ b. comments at (if b then above_from at rest else [])) e in
            omega (arith, is, same, fewer (up_to_spaces at rest) rest))
        | inr e ↦ (
            let is : comments at (above at lead) ≡ 0 = ap (λ b. comments at (if b then above_from at rest else [])) e in
            omega (arith, is))
      ]

  pub by_header : (lead : List ℕ) → IsTrue (pins_none (Some (header at lead)) || has_blank_line at lead)
  by_header lead =
      elim (cases_Bool (has_blank_line at lead)) [
        | inl e ↦ or_yes (pins_none (Some (header at lead))) (has_blank_line at lead) e
        | inr e ↦ subst (λ k. IsTrue (pins_none (Some k) || has_blank_line at lead)) (sym (no_header lead e)) refl
      ]

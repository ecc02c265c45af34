-- Nodes that are the same in all but their parents and children make the same plans.
use Rattle.std.proofs.Common.{◌≡◌, ◌+◌, ◌-◌, ◌&&◌, ◌||◌, ℕ, zero, suc, Bool, true, false, cond, not, List, [], ◌∷◌, length, drop, reverse, nat_lt, slice_get, slice_range, Option, Some, None, is_some, refl, sym, ap, ◌∙◌}
use Rattle.std.specs.List.{find, list_all, list_any, take_while}
use Rattle.std.specs.Option.{option_or}
use Rattle.std.proofs.lemmas.List.Sums.{take_while-cons}
use Rattle.jsonc_text.specs.Plain.{Plain}
use Rattle.jsonc_tree.specs.Tree.{Node, content_at}
use Rattle.jsonc_layout.specs.lines.Breadth.{last_element}
use Rattle.jsonc_layout.specs.nodes.Kinds.{is_blank_at, is_comma, is_element, is_element_at, is_inline_trivia, is_inline_trivia_at, is_newline, is_newline_at, is_trivia, is_trivia_at, is_whitespace, is_whitespace_at}
use Rattle.jsonc_layout.specs.nodes.Siblings.{is_no_newline_at}
use Rattle.jsonc_edit.proofs.NodesKept.{filter_same}
use Rattle.jsonc_insert.specs.Planned.{before_next, begins_with_comma, behind_comma, comma_comes, comma_wanted, element_before, elements, has_comma, line, line_ends, line_if, line_unless, past_comments, parting, place_in, plan_alone, plan_alone_at, plan_behind, plan_between, plan_by, plan_first, planned, through_comments, trivia}
use Rattle.jsonc_insert.specs.Settings.{is_spread, on_several_lines}
use Rattle.jsonc_insert.specs.Trimmed.{before_last_line, behind_first_line, blanks, first_gone, inside, last_blanks, last_gone, last_gone_from, last_spaces, nothing_at, spaces, trimmed, without}
use Rattle.jsonc_insert.specs.declared.plan.Gap.{Gap}

module _ (p q : ℕ → Bool) (same : (n : ℕ) → q n ≡ p n) where
  take_alike : (xs : List ℕ) → take_while q xs ≡ take_while p xs
  take_alike [] = refl
  take_alike (x ∷ xs) =
      take_while-cons q x xs ∙ ap (λ w. cond w (x ∷ take_while q xs) []) (same x) ∙ ap (λ l. cond (p x) (x ∷ l) []) (take_alike xs) ∙ sym (take_while-cons p x xs)

  any_alike : (xs : List ℕ) → list_any q xs ≡ list_any p xs
  any_alike [] = refl
  any_alike (x ∷ xs) = ap (λ w. w || list_any q xs) (same x) ∙ ap (λ w. p x || w) (any_alike xs)

  all_alike : (xs : List ℕ) → list_all q xs ≡ list_all p xs
  all_alike [] = refl
  all_alike (x ∷ xs) = ap (λ w. w && list_all q xs) (same x) ∙ ap (λ w. p x && w) (all_alike xs)

  find_alike : (xs : List ℕ) → find q xs ≡ find p xs
  find_alike [] = refl
  find_alike (x ∷ xs) = ap (λ w. cond w (Some x) (find q xs)) (same x) ∙ ap (λ w. cond (p x) (Some x) w) (find_alike xs)

module _ (a b : List Node) (same : (n : ℕ) → content_at b n ≡ content_at a n) where
  pub elements_alike : (row : List ℕ) → elements b row ≡ elements a row
  elements_alike row = filter_same (is_element_at b) (is_element_at a) row (λ k h. ap is_element (same _))

  newlines : (n : ℕ) → is_newline_at b n ≡ is_newline_at a n
  newlines n = ap is_newline (same n)

  trivias : (n : ℕ) → is_trivia_at b n ≡ is_trivia_at a n
  trivias n = ap is_trivia (same n)

  last_alike : (row : List ℕ) → last_element b row ≡ last_element a row
  last_alike row = find_alike (is_element_at a) (is_element_at b) (λ n. ap is_element (same n)) (reverse row)

  before_alike : (row : List ℕ) (i : ℕ) → element_before b row i ≡ element_before a row i
  before_alike row zero = refl
  before_alike row (suc i) = ap (λ l. option_or (slice_get l i) (last_element b row)) (elements_alike row) ∙ ap (option_or (slice_get (elements a row) i)) (last_alike row)

  ends_alike : (after : List ℕ) → line_ends b after ≡ line_ends a after
  ends_alike after = ap (list_any (is_newline_at b)) (take_alike (is_trivia_at a) (is_trivia_at b) trivias after) ∙ any_alike (is_newline_at a) (is_newline_at b) newlines (take_while (is_trivia_at a) after)

  unless_alike : (s : Bool) (after : List ℕ) → line_unless b s after ≡ line_unless a s after
  unless_alike s after = ap (λ w. line_if (s && not w)) (ends_alike after)

  next_alike : (s : Bool) (after : List ℕ) → before_next b s after ≡ before_next a s after
  next_alike true after = unless_alike true after
  next_alike false after = refl

  blanks_alike : (row : List ℕ) → last_blanks b row ≡ last_blanks a row
  blanks_alike row = ap length (take_alike (is_blank_at a) (is_blank_at b) (λ n. ap (λ w. is_whitespace w || is_newline w) (same n)) (reverse row))

  spaces_alike : (row : List ℕ) → last_spaces b row ≡ last_spaces a row
  spaces_alike row = ap length (take_alike (is_whitespace_at a) (is_whitespace_at b) (λ n. ap is_whitespace (same n)) (reverse row))

  trivia_alike : (after : List ℕ) → trivia b after ≡ trivia a after
  trivia_alike after = ap length (take_alike (is_trivia_at a) (is_trivia_at b) trivias after)

  begins_alike : (after : List ℕ) → begins_with_comma b after ≡ begins_with_comma a after
  begins_alike [] = refl
  begins_alike (n ∷ rest) = ap is_comma (same n)

  comes_alike : (after : List ℕ) → comma_comes b after ≡ comma_comes a after
  comes_alike after = ap (λ k. begins_with_comma b (drop k after)) (trivia_alike after) ∙ begins_alike (drop (trivia a after) after)

  behind_alike : (row : List ℕ) (place : ℕ) → behind_comma b row place ≡ behind_comma a row place
  behind_alike row place =
      ap (λ w. cond w (place + trivia b (drop place row) + 1) place) (comes_alike (drop place row))
      ∙ ap (λ k. cond (has_comma a row place) (place + k + 1) place) (trivia_alike (drop place row))

  through_alike : (xs : List ℕ) → through_comments b xs ≡ through_comments a xs
  through_alike xs =
      ap (λ w. cond w (length xs - last_spaces b xs) 0) (all_alike (is_inline_trivia_at a) (is_inline_trivia_at b) (λ n. ap is_inline_trivia (same n)) xs)
      ∙ ap (λ k. cond (list_all (is_inline_trivia_at a) xs) (length xs - k) 0) (spaces_alike xs)

  past_alike : (row : List ℕ) (place : ℕ) → past_comments b row place ≡ past_comments a row place
  past_alike row place =
      let after : List ℕ = slice_range row place (length row) in
      ap (λ l. place + through_comments b l) (take_alike (is_no_newline_at a) (is_no_newline_at b) (λ n. ap (λ w. not (is_newline w)) (same n)) after) ∙ ap (λ k. place + k) (through_alike (line a after))

  module _ (s commas : Bool) (row : List ℕ) where
    first_alike : plan_first b s row ≡ plan_first a s row
    first_alike = ap (λ (g : Gap). record { comma = None; place = 1; before = line_if s; comma_behind = true; behind = g }) (next_alike s (slice_range row 1 (length row)))

    alone_alike : plan_alone b s row ≡ plan_alone a s row
    alone_alike =
        let place : ℕ = length row - 1 - last_blanks a (slice_range row 0 (length row - 1)) in
        ap (λ k. plan_alone_at b s row (length row - 1 - k)) (blanks_alike (slice_range row 0 (length row - 1)))
        ∙ ap (λ (g : Gap). record { comma = None; place = place; before = line_if s; comma_behind = false; behind = g }) (unless_alike s (slice_range row place (length row)))

    between_alike : (more : Bool) (comma : Option ℕ) (place : ℕ) → plan_between b s commas row more comma place ≡ plan_between a s commas row more comma place
    between_alike true comma place = ap (λ (g : Gap). record { comma = comma; place = place; before = parting s; comma_behind = true; behind = g }) (next_alike s (slice_range row place (length row)))
    between_alike false comma place = refl

    after_alike : (more : Bool) (place : ℕ) → plan_behind b s commas row more place ≡ plan_behind a s commas row more place
    after_alike more place =
        ap (λ w. plan_between b s commas row more (cond w None (Some place)) (past_comments b row (behind_comma b row place))) (comes_alike (drop place row))
        ∙ ap (plan_between b s commas row more (comma_wanted a row place)) (ap (past_comments b row) (behind_alike row place) ∙ past_alike row (behind_comma a row place))
        ∙ between_alike more (comma_wanted a row place) (past_comments a row (behind_comma a row place))

    by_alike : (i : ℕ) (o : Option ℕ) → plan_by b s commas row i o ≡ plan_by a s commas row i o
    by_alike i None =
        ap (λ l. cond (is_some (slice_get l 0)) (plan_first b s row) (plan_alone b s row)) (elements_alike row)
        ∙ ap (λ p. cond (is_some (slice_get (elements a row) 0)) p (plan_alone b s row)) first_alike
        ∙ ap (cond (is_some (slice_get (elements a row) 0)) (plan_first a s row)) alone_alike
    by_alike i (Some n) =
        ap (λ l. plan_behind b s commas row (is_some (slice_get l i)) (place_in n row + 1)) (elements_alike row) ∙ after_alike (is_some (slice_get (elements a row) i)) (place_in n row + 1)

    pub planned_alike : (i : ℕ) → planned b s commas row i ≡ planned a s commas row i
    planned_alike i = ap (plan_by b s commas row i) (before_alike row i) ∙ by_alike i (element_before a row i)

  pub several_alike : (row : List ℕ) (name : Option (List ℕ)) (v : Plain) → on_several_lines b row name v ≡ on_several_lines a row name v
  several_alike row name v = ap (λ w. is_some name || (w || is_spread v)) (any_alike (is_newline_at a) (is_newline_at b) newlines row)

  before_spaces : (row : List ℕ) → spaces b row ≡ spaces a row
  before_spaces row = ap length (take_alike (is_whitespace_at a) (is_whitespace_at b) (λ n. ap is_whitespace (same n)) row)

  before_blanks : (row : List ℕ) → blanks b row ≡ blanks a row
  before_blanks row = ap length (take_alike (is_blank_at a) (is_blank_at b) (λ n. ap (λ w. is_whitespace w || is_newline w) (same n)) row)

  first_line_alike : (place : ℕ) (run : List ℕ) → behind_first_line b place run ≡ behind_first_line a place run
  first_line_alike place run =
      ap (λ k. cond (nat_lt k (length run)) (record { from = place + k + 1; to = place + length run - last_spaces b run }) (nothing_at place)) (before_spaces run)
      ∙ ap (λ (k : ℕ). cond (nat_lt (spaces a run) (length run)) (record { from = place + spaces a run + 1; to = place + length run - k }) (nothing_at place)) (spaces_alike run)

  last_line_alike : (place : ℕ) (run : List ℕ) → before_last_line b place run ≡ before_last_line a place run
  last_line_alike place run =
      ap (λ k. cond (nat_lt k (length run)) (record { from = place + k; to = place + length run - last_spaces b run - 1 }) (nothing_at place)) (before_spaces run)
      ∙ ap (λ (k : ℕ). cond (nat_lt (spaces a run) (length run)) (record { from = place + spaces a run; to = place + length run - k - 1 }) (nothing_at place)) (spaces_alike run)

  first_gone_alike : (row : List ℕ) → first_gone b row ≡ first_gone a row
  first_gone_alike row = ap (λ k. behind_first_line b 1 (slice_range (inside row) 0 k)) (before_blanks (inside row)) ∙ first_line_alike 1 (slice_range (inside row) 0 (blanks a (inside row)))

  last_gone_alike : (row : List ℕ) → last_gone b row ≡ last_gone a row
  last_gone_alike row =
      let place : ℕ = length row - 1 - last_blanks a (inside row) in
      ap (λ k. cond (nat_lt k (length (inside row))) (last_gone_from b row (length row - 1 - last_blanks b (inside row))) (nothing_at (length row - 1))) (before_blanks (inside row))
      ∙ ap (λ k. cond (nat_lt (blanks a (inside row)) (length (inside row))) (last_gone_from b row (length row - 1 - k)) (nothing_at (length row - 1))) (blanks_alike (inside row))
      ∙ ap (λ s. cond (nat_lt (blanks a (inside row)) (length (inside row))) s (nothing_at (length row - 1))) (last_line_alike place (slice_range row place (length row - 1)))

  pub trimmed_alike : (row : List ℕ) → trimmed b row ≡ trimmed a row
  trimmed_alike row = ap (λ s. without s (without (last_gone b row) row)) (first_gone_alike row) ∙ ap (λ s. without (first_gone a row) (without s row)) (last_gone_alike row)

-- The first and the last child of a container, and a token in front.
use Rattle.std.proofs.Common.{◌≡◌, ◌<◌, ◌≤◌, ◌-◌, ◌&&◌, ◌||◌, inl, inr, ℕ, true, false, cond, List, length, reverse, slice_index, slice_range, Some, sym, ap, ◌∙◌, arith}
use Rattle.std.proofs.lemmas.Bool.{cases_lt, false≢true}
use Rattle.std.proofs.lemmas.List.{get_or-reverse, length-reverse}
use Rattle.std.proofs.lemmas.List.Edits.{get_or-between, length-between}
use Rattle.std.proofs.lemmas.List.Folds.{length-prefix_len}
use Rattle.std.proofs.lemmas.List.Sums.{prefix_len_passes}
use Rattle.std.proofs.lemmas.Option.{get_or_from_slice_get, slice_get_within}
use Rattle.jsonc_tree.specs.Content as content
use Rattle.jsonc_tree.specs.Content.{Content}
use Rattle.jsonc_tree.specs.Siblings.{first}
use Rattle.jsonc_tree.specs.Tree.{Node, children_at, content_at, place_at, IsTree}
use Rattle.jsonc_layout.specs.nodes.Kinds.{is_blank_at, is_newline, is_token, is_whitespace}
use Rattle.jsonc_insert.specs.Planned.{has_brackets}
use Rattle.jsonc_insert.specs.Trimmed.{last_blanks}
use Rattle.jsonc_insert.proofs.TrimmedRows.{front_token, has_two}
use Rattle.jsonc_insert.proofs.BlankRuns.{less, not_less}

module _ (ns : List Node) (tree : IsTree ns) (c f l : ℕ) (front : first (children_at ns c) ≡ Some f) (back : first (reverse (children_at ns c)) ≡ Some l) where
  abbrev row : List ℕ
  row = children_at ns c

  some : 0 < length row
  some = slice_get_within row 0 f front

  at_front : slice_index row 0 ≡ f
  at_front = get_or_from_slice_get row 0 f 0 front

  at_back : slice_index row (length row - 1) ≡ l
  at_back =
      let same : length row - 1 - 0 ≡ length row - 1 = omega arith in
      ap (slice_index row) (sym same) ∙ sym (get_or-reverse row 0 0 some) ∙ get_or_from_slice_get (reverse row) 0 l 0 back

  pub one_alone : f ≡ l → has_brackets ns row ≡ false
  one_alone e =
      elim (cases_lt (length row) 2) [
        | inl lt ↦ ap (λ b. cond b false (is_token (content_at ns (slice_index row 0)) && is_token (content_at ns (slice_index row (length row - 1))))) (less (length row) 2 lt)
        | inr ge ↦ absurd (omega (arith, ge, tree.placed c 0 some, tree.placed c (length row - 1) (omega (arith, some)), ap (place_at ns) (at_front ∙ e ∙ sym at_back)))
      ]

  pub two_apart : (f ≡ l → ⊥) → has_brackets ns row ≡ (is_token (content_at ns f) && is_token (content_at ns l))
  two_apart ne =
      let many : 2 ≤ length row = elim (cases_lt (length row) 2) [
        | inl lt ↦ absurd (let one : length row - 1 ≡ 0 = omega (arith, lt, some) in ne (sym at_front ∙ ap (slice_index row) (sym one) ∙ at_back))
        | inr ge ↦ ge
      ] in
      ap (λ b. cond b false (is_token (content_at ns (slice_index row 0)) && is_token (content_at ns (slice_index row (length row - 1))))) (not_less (length row) 2 many)
      ∙ ap (λ n. is_token (content_at ns n) && is_token (content_at ns (slice_index row (length row - 1)))) at_front
      ∙ ap (λ n. is_token (content_at ns f) && is_token (content_at ns n)) at_back

-- a token is not blank, so blanks before the last bracket end behind the first
token_no_blank : (c : Content) → is_token c ≡ true → (is_whitespace c || is_newline c) ≡ true → ⊥
token_no_blank (content.token k) e f = false≢true f
token_no_blank (content.whitespace s) e f = false≢true e
token_no_blank (content.newline k) e f = false≢true e
token_no_blank content.root e f = false≢true e
token_no_blank content.array e f = false≢true e
token_no_blank content.object e f = false≢true e
token_no_blank content.property e f = false≢true e
token_no_blank content.null e f = false≢true e
token_no_blank (content.boolean b) e f = false≢true e
token_no_blank (content.number s) e f = false≢true e
token_no_blank (content.string s) e f = false≢true e
token_no_blank (content.word s) e f = false≢true e
token_no_blank (content.comment s) e f = false≢true e

pub alone_low : (ns : List Node) (row : List ℕ) → has_brackets ns row ≡ true → 1 ≤ length row - 1 - last_blanks ns (slice_range row 0 (length row - 1))
alone_low ns row brackets =
    let two = has_two ns row brackets in
    let xs : List ℕ = slice_range row 0 (length row - 1) in
    let long : length xs ≡ length row - 1 = let l = length-between row 0 (length row - 1) (omega arith) in omega (arith, l) in
    let turned = length-reverse xs in
    let same = length-prefix_len (is_blank_at ns) (reverse xs) in
    elim (cases_lt (last_blanks ns xs) (length xs)) [
      | inl lt ↦ omega (arith, lt, long)
      | inr ge ↦ (
          let k : ℕ = length xs - 1 in
          let back : length xs - 1 - k ≡ 0 = omega arith in
          let at : slice_index (reverse xs) k ≡ slice_index row 0 = get_or-reverse xs k 0 (omega (arith, long, two)) ∙ ap (slice_index xs) back ∙ get_or-between row 0 (length row - 1) 0 0 (omega (arith, two)) in
          let passes : is_blank_at ns (slice_index (reverse xs) k) ≡ true = prefix_len_passes (is_blank_at ns) (reverse xs) k 0 (omega (arith, ge, same, long, two)) in
          absurd (token_no_blank (content_at ns (slice_index row 0)) (front_token ns row brackets) (sym (ap (is_blank_at ns) at) ∙ passes)))
    ]

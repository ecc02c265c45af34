-- What stays above an entry as a header where the entries of a row are sorted, in the text: spaces, or a blank line is there.
use Rattle.std.proofs.Common.{◌≡◌, ℕ, zero, suc, ◌+◌, ◌≤◌, Bool, true, false, cond, ◌&&◌, ◌||◌, List, [], ◌∷◌, ◌++◌, length, take, drop, Option, Some, None, IsTrue, refl, sym, ap, subst, ◌∙◌, arith, inl, inr}
use Rattle.std.specs.Prelude.{nat_le}
use Rattle.std.specs.List.{prefix_len}
use Rattle.std.proofs.lemmas.Bool.{cases_Bool, leb-true}
use Rattle.std.proofs.lemmas.List.{append_assoc, take-append-drop}
use Rattle.std.proofs.lemmas.List.Folds.{length-prefix_len}
use Rattle.std.proofs.lemmas.List.Sums.{sum_by-append}
use Rattle.jsonc_text.specs.Options.{Options}
use Rattle.jsonc_text.specs.Text as many
use Rattle.jsonc_tree.specs.Content.{Content}
use Rattle.jsonc_tree.specs.OrderedTree.{Top}
use Rattle.jsonc_layout.specs.nodes.Kinds.{is_comment, is_newline, is_whitespace}
use Rattle.jsonc_sound.specs.Shape.{IsTrivia}
use Rattle.jsonc_sound.specs.Rows.{RowKind}
use Rattle.jsonc_sort.specs.Above.{pins_none}
use Rattle.jsonc_sort.specs.Laws.{content_of}
use Rattle.jsonc_sort.specs.Leads.{begins_group, blank_lines, comments, has_blank_line, header_by, header_length, header_of, is_blank_at, is_comment_at, line_ends}
use Rattle.jsonc_sort.specs.Parts.{is_newline_at, is_whitespace_at, up_to_spaces}
use Rattle.jsonc_sort.proofs.Choices.{Each, choose_by, each_take}
use Rattle.jsonc_sort.proofs.Runs.{IsQuiet, Quiets}
use Rattle.jsonc_run.specs.texts.Stretches.{AreSpaces, HasBlankLine, IsLineEnd}
use Rattle.jsonc_run.specs.texts.Sorting.{StaysAbove}
use Rattle.jsonc_run.specs.promise.PlaceLaws.{node_chars}
use Rattle.jsonc_run.proofs.lemmas.promise.SortedParts.{EndsNone, Spaces, each_prefix, line_end_one, say, say_cut, spaces_last, spaces_one, spaces_said}
use Rattle.jsonc_run.proofs.lemmas.promise.Trivia.{many_joined}

both_of : (a b : Bool) → a && b ≡ true → (a ≡ true) × (b ≡ true)
both_of true b h = (refl, h)
both_of false b h = cc

no_first : (a b : Bool) → a || b ≡ false → a ≡ false
no_first true b h = cc
no_first false b h = refl

or_none : (a : Bool) → a || false ≡ a
or_none true = refl
or_none false = refl

and_none : (a : Bool) → a && false ≡ false
and_none true = refl
and_none false = refl

-- blank lines among nodes
module _ (at : ℕ → Content) where
  spaces_end_no_line : (row : List ℕ) → Spaces at row → line_ends at row ≡ false
  spaces_end_no_line [] h = refl
  spaces_end_no_line (n ∷ row) h = rw h.0 (spaces_end_no_line row h.1)

  space_no_line : (c : Content) → is_whitespace c ≡ true → is_newline c ≡ false
  space_no_line (Content.whitespace s) e = refl
  space_no_line (Content.newline s) e = cc
  space_no_line c e = cc

  spaces_no_blank : (row : List ℕ) → Spaces at row → has_blank_line at row ≡ false
  spaces_no_blank [] h = refl
  spaces_no_blank (n ∷ row) h = rw (space_no_line (at n) h.0) (spaces_no_blank row h.1)

  -- spaces behind a row are no part of one
  line_trailing : (row ws : List ℕ) → Spaces at ws → line_ends at (row ++ ws) ≡ line_ends at row
  line_trailing [] ws h = spaces_end_no_line ws h
  line_trailing (n ∷ row) ws h =
      elim (cases_Bool (is_whitespace_at at n)) [
        | inl w ↦ rw w (line_trailing row ws h)
        | inr w ↦ rw w refl
      ]

  blank_trailing : (row ws : List ℕ) → Spaces at ws → has_blank_line at (row ++ ws) ≡ has_blank_line at row
  blank_trailing [] ws h = spaces_no_blank ws h
  blank_trailing (n ∷ row) ws h =
      ap (λ b. (is_newline_at at n && b) || has_blank_line at (row ++ ws)) (line_trailing row ws h) ∙ ap (λ b. (is_newline_at at n && line_ends at row) || b) (blank_trailing row ws h)

  -- nor is what stands before the first line's end
  pub blank_leading : (xs row : List ℕ) → EndsNone at xs → has_blank_line at (xs ++ row) ≡ has_blank_line at row
  blank_leading [] row h = refl
  blank_leading (x ∷ xs) row h = rw h.0 (blank_leading xs row h.1)

  -- blanks behind a line's end are spaces, where no blank line is
  blank_spaces : (row rest : List ℕ) → Each (λ n. is_blank_at at n ≡ true) row → line_ends at (row ++ rest) ≡ false → Spaces at row
  blank_spaces [] rest h e = tt
  blank_spaces (n ∷ row) rest h e =
      elim (cases_Bool (is_whitespace_at at n)) [
        | inl w ↦ (w, blank_spaces row rest h.1 (rw w at e))
        | inr w ↦ (
            let is : is_newline_at at n ≡ true = rw w at h.0 in
            let no : is_newline_at at n ≡ false = rw w at e in
            absurd (never (is_newline_at at n) is no))
      ]
    where
      never : (b : Bool) → b ≡ true → b ≡ false → ⊥
      never true e f = cc
      never false e f = cc

module _ (o : Options) (kind : RowKind) (top : ℕ → Top) where
  abbrev at : ℕ → Content
  at = content_of top

  abbrev AllQuiet : List ℕ → Type 0
  AllQuiet row = Quiets o kind top row

  abbrev AreBlank : List ℕ → Type 0
  AreBlank row = Each (λ n. is_blank_at at n ≡ true) row

  -- a line ends next, past spaces
  record LineNext (row : List ℕ) : Type 0 where
    spaces : List ℕ
    other : List ℕ
    behind : List ℕ
    is : say top row ≡ spaces ++ (other ++ behind)
    blank : AreSpaces spaces
    line : IsLineEnd other

  line_next : (row : List ℕ) → AllQuiet row → line_ends at row ≡ true → LineNext row
  line_next [] q e = cc
  line_next (n ∷ row) q e =
      elim (cases_Bool (is_whitespace_at at n)) [
        | inl w ↦ (
            let next = line_next row q.1 (rw w at e) in
            record {
              spaces = node_chars (top n) ++ next.spaces;
              other = next.other;
              behind = next.behind;
              is = ap (λ l. node_chars (top n) ++ l) next.is ∙ sym (append_assoc (node_chars (top n)) next.spaces (next.other ++ next.behind));
              blank = many_joined (spaces_one o kind top (top n) q.0 w) refl next.blank;
              line = next.line;
            })
        | inr w ↦ (
            record {
              spaces = [];
              other = node_chars (top n);
              behind = say top row;
              is = refl;
              blank = many.stop;
              line = line_end_one o kind top (top n) q.0 (rw w at e);
            })
      ]

  -- a blank line of nodes is one of the text
  blank_said : (row : List ℕ) → AllQuiet row → has_blank_line at row ≡ true → HasBlankLine (say top row)
  blank_said [] q e = cc
  blank_said (n ∷ row) q e =
      elim (cases_Bool (is_newline_at at n && line_ends at row)) [
        | inl b ↦ (
            let ends = both_of (is_newline_at at n) (line_ends at row) b in
            let next = line_next row q.1 ends.1 in
            ([], node_chars (top n), next.spaces, next.other, next.behind, ap (λ l. node_chars (top n) ++ l) next.is, line_end_one o kind top (top n) q.0 ends.0, next.blank, next.line))
        | inr b ↦ (
            let (x, line, spaces, other, y, is, first, blank, last) = blank_said row q.1 (rw b at e) in
            (node_chars (top n) ++ x, line, spaces, other, y, ap (λ l. node_chars (top n) ++ l) is ∙ sym (append_assoc (node_chars (top n)) x (line ++ (spaces ++ (other ++ y)))), first, blank, last))
      ]

  -- trivia without comments are blank
  none_blank : (row : List ℕ) → AllQuiet row → comments at row ≡ 0 → AreBlank row
  none_blank [] q e = tt
  none_blank (n ∷ row) q e =
      let parts : comments at (n ∷ row) ≡ comments at (n ∷ []) + comments at row = sum_by-append (λ m. cond (is_comment_at at m) 1 0) (n ∷ []) row in
      elim (cases_Bool (is_comment_at at n)) [
        | inl c ↦ (
            let one : comments at (n ∷ []) ≡ 1 = rw c refl in
            absurd (omega (arith, parts, e, one)))
        | inr c ↦ (one_blank (at n) q.0.trivia c, none_blank row q.1 (omega (arith, parts, e)))
      ]
    where
      one_blank : (c : Content) → IsTrivia o c → is_comment c ≡ false → is_whitespace c || is_newline c ≡ true
      one_blank (Content.whitespace s) h e = refl
      one_blank (Content.newline k) h e = refl
      one_blank (Content.comment s) h e = cc
      one_blank c h e = absurd h

  -- where no comment is pinned the header is blank
  header_blank : (pin : Option ℕ) (row : List ℕ) → AllQuiet row → IsTrue (pins_none pin) → AreBlank (take (header_by at pin row) row)
  header_blank None row q h = tt
  header_blank (Some zero) row q h =
      choose_by (λ k. AreBlank (take k row)) (nat_le (comments at row) 0) (length row) (header_of at 0 row)
      (λ e. each_take (λ n. is_blank_at at n ≡ true) (length row) row (none_blank row q (omega (arith, leb-true (comments at row) 0 e))))
      (λ e. each_prefix (is_blank_at at) row (blank_lines at row) low)
    where
      low : blank_lines at row ≤ prefix_len (is_blank_at at) row
      low = omega (arith, length-prefix_len (is_blank_at at) row)
  header_blank (Some (suc i)) row q h = cc

  -- what stays above an entry, between the line's end n and the entry
  module _ (lead more : List ℕ) (n : ℕ) (e : is_newline_at at n ≡ true) (q : AllQuiet (n ∷ more)) (same : has_blank_line at lead ≡ has_blank_line at (n ∷ more)) (groups : Bool) (pin : Option ℕ) where
    abbrev above : List ℕ
    above = take (up_to_spaces at more) more

    abbrev indent : List ℕ
    indent = drop (up_to_spaces at more) more

    abbrev header : ℕ
    header = header_length at (begins_group at groups lead) pin above

    quiet_above : AllQuiet above
    quiet_above = each_take (λ m. IsQuiet o kind top (top m)) (up_to_spaces at more) more q.1

    parted : more ≡ above ++ indent
    parted = sym (take-append-drop (up_to_spaces at more) more)

    blank_there : has_blank_line at lead ≡ true → HasBlankLine (node_chars (top n) ++ (say top (take header above) ++ say top (drop header above)))
    blank_there b =
        let here : has_blank_line at (n ∷ above) ≡ true = sym (blank_trailing at (n ∷ above) indent (spaces_last at more)) ∙ ap (λ l. has_blank_line at (n ∷ l)) (sym parted) ∙ sym same ∙ b in
        subst (λ l. HasBlankLine (node_chars (top n) ++ l)) (say_cut top header above) (blank_said (n ∷ above) (q.0, quiet_above) here)

    spaces_there : has_blank_line at lead ≡ false → IsTrue (pins_none pin) → AreSpaces (say top (take header above))
    spaces_there b h =
        let begins : begins_group at groups lead ≡ false = ap (λ x. groups && x) b ∙ and_none groups in
        let blank : AreBlank (take header above) = subst (λ x. AreBlank (take (header_length at x pin above) above)) (sym begins) (header_blank pin above quiet_above h) in
        let ends : is_newline_at at n && line_ends at more ≡ false = no_first (is_newline_at at n && line_ends at more) (has_blank_line at more) (sym same ∙ b) in
        let none : line_ends at more ≡ false = ap (λ x. x && line_ends at more) (sym e) ∙ ends in
        let all : take header above ++ (drop header above ++ indent) ≡ more = sym (append_assoc (take header above) (drop header above) indent) ∙ ap (λ l. l ++ indent) (take-append-drop header above) ∙ sym parted in
        spaces_said o kind top (take header above) (each_take (λ m. IsQuiet o kind top (top m)) header above quiet_above)
        (blank_spaces at (take header above) (drop header above ++ indent) blank (ap (line_ends at) all ∙ none))

    pub stays_above : (by_blank_lines : Bool) → (by_blank_lines ≡ true → IsTrue (pins_none pin || has_blank_line at lead)) → StaysAbove by_blank_lines (node_chars (top n)) (say top (take header above)) (say top (drop header above))
    stays_above false h = tt
    stays_above true h =
        elim (cases_Bool (has_blank_line at lead)) [
          | inl b ↦ inr (blank_there b)
          | inr b ↦ inl (spaces_there b (subst IsTrue (ap (λ x. pins_none pin || x) b ∙ or_none (pins_none pin)) (h refl)))
        ]

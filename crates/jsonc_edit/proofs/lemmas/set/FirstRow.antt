-- A first value among the rows of roots.
use Rattle.std.proofs.Common.{◌≡◌, ◌==◌, ℕ, zero, suc, ◌+◌, Bool, true, false, not, cond, List, [], ◌∷◌, ◌++◌, length, map, reverse, take, drop, slice_index, Option, Some, None, IsTrue, inl, inr, refl, sym, ap, subst, ◌∙◌, arith, append-nil, eq-eqb}
use Rattle.std.specs.Option.{option_or}
use Rattle.std.proofs.lemmas.Bool.{cases_Bool, ne_eqb}
use Rattle.std.proofs.lemmas.List.{drop_more, reverse-append}
use Rattle.std.proofs.lemmas.List.Folds.{find-append}
use Rattle.jsonc_tree.specs.Content.{Content, newline}
use Rattle.jsonc_tree.specs.Tree.{Node, content_at}
use Rattle.jsonc_tree.specs.declared.node.CstNewlineKind.{CstNewlineKind}
use Rattle.jsonc_layout.specs.nodes.Kinds.{is_comment, is_comment_at, is_newline, is_newline_at, is_trivia}
use Rattle.jsonc_sound.specs.Coming.{AreLineEnds, has_text, ends_in_comment, begins_in_line_end, Leads, behind_comment, at_once, EndsLine, comes_with, stood_last}
use Rattle.jsonc_sound.specs.TriviaChanges.{AreTrivia}
use Rattle.jsonc_edit.specs.Comments.{newline_from}
use Rattle.jsonc_edit.specs.Due.{nearest, prints, prints_at}
use Rattle.jsonc_edit.specs.set.RootSet.{place_in, follows_comment, is_comment_in, ends_row, line_end_if}
use Rattle.jsonc_edit.proofs.Printing.{unkept_prints}

-- newlines that may have been made
pub line_ends : (b : Bool) (k : CstNewlineKind) → AreLineEnds (line_end_if b k)
line_ends true k = (refl, tt)
line_ends false k = tt

not_true : (b : Bool) → b ≡ false → IsTrue (not b)
not_true true e = cc
not_true false e = refl

-- where a newline has come behind leaves they end in no comment
ended_apart : (before : Bool) (cs : List Content) (k : CstNewlineKind) → ends_in_comment before (cs ++ newline k ∷ []) ≡ false
ended_apart before [] k = ap (λ b. cond b false before) (unkept_prints (newline k) refl)
ended_apart before (c ∷ cs) k = ended_apart (cond (has_text c) (is_comment c) before) cs k

pub led_apart : (cs : List Content) (b : Bool) (k : CstNewlineKind) → ends_in_comment false cs ≡ b → IsTrue (not (ends_in_comment false (cs ++ line_end_if b k)))
led_apart cs true k e = not_true (ends_in_comment false (cs ++ newline k ∷ [])) (ended_apart false cs k)
led_apart cs false k e = not_true (ends_in_comment false (cs ++ [])) (ap (ends_in_comment false) (append-nil cs) ∙ e)

pub leads_so : (cs : List Content) (b : Bool) (k : CstNewlineKind) → ends_in_comment false cs ≡ b → Leads cs (line_end_if b k)
leads_so cs true k e = behind_comment e
leads_so cs false k e = at_once

module _ (ns : List Node) where
  -- of nodes the last that prints something, or what was said before
  abbrev told : Bool → Option ℕ → Bool
  told before None = before
  told before (Some n) = is_comment_at ns n

  told_false : (found : Option ℕ) → told false found ≡ is_comment_in ns found
  told_false None = refl
  told_false (Some n) = refl

  bare_prints : (content : Content) → IsTrue (is_trivia content) → prints content ≡ has_text content
  bare_prints (Content.whitespace s) h = refl
  bare_prints (Content.newline k) h = refl
  bare_prints (Content.comment s) h = refl
  bare_prints content h = cc

  one_told : (before : Bool) (n : ℕ) → IsTrue (is_trivia (content_at ns n)) → (b : Bool) → prints_at ns n ≡ b
      → cond (has_text (content_at ns n)) (is_comment_at ns n) before ≡ told before (nearest ns (n ∷ []))
  one_told before n h true e =
      ap (λ w. cond w (is_comment_at ns n) before) (sym (bare_prints (content_at ns n) h) ∙ e) ∙ sym (ap (λ w. told before (cond w (Some n) None)) e)
  one_told before n h false e =
      ap (λ w. cond w (is_comment_at ns n) before) (sym (bare_prints (content_at ns n) h) ∙ e) ∙ sym (ap (λ w. told before (cond w (Some n) None)) e)

  told_on : (before : Bool) (n : ℕ) → IsTrue (is_trivia (content_at ns n)) → (found : Option ℕ)
      → told (cond (has_text (content_at ns n)) (is_comment_at ns n) before) found ≡ told before (option_or found (nearest ns (n ∷ [])))
  told_on before n h (Some m) = refl
  told_on before n h None = one_told before n h (prints_at ns n) refl

  ends_in_told : (before : Bool) (row : List ℕ) → AreTrivia (map (content_at ns) row) → ends_in_comment before (map (content_at ns) row) ≡ told before (nearest ns (reverse row))
  ends_in_told before [] h = refl
  ends_in_told before (n ∷ row) h =
      ends_in_told (cond (has_text (content_at ns n)) (is_comment_at ns n) before) row h.1 ∙ told_on before n h.0 (nearest ns (reverse row))
      ∙ ap (told before) (sym (find-append (prints_at ns) (reverse row) (n ∷ [])) ∙ ap (nearest ns) (sym (reverse-append (n ∷ []) row)))

  -- the leaves before a place end in a comment where one stands last of those that print something
  pub ends_told : (row : List ℕ) (place : ℕ) → AreTrivia (map (content_at ns) (take place row)) → ends_in_comment false (map (content_at ns) (take place row)) ≡ follows_comment ns row place
  ends_told row place h = ends_in_told false (take place row) h ∙ told_false (nearest ns (reverse (take place row)))

  from_at : (row : List ℕ) (last : ℕ) (b : Bool) → is_newline_at ns (slice_index row last) ≡ b → newline_from ns row (suc last) ≡ cond b last (suc last)
  from_at row last b e = ap (λ c. cond c last (suc last)) e

  -- with what is behind the place a line ends
  abbrev Starts : List ℕ → CstNewlineKind → ℕ → Type 0
  Starts row k place = IsTrue (begins_in_line_end (line_end_if (ends_row row place) k ++ map (content_at ns) (drop place row)))

  at_end : (row : List ℕ) (k : CstNewlineKind) (place : ℕ) → place ≡ length row → Starts row k place
  at_end row k place e = subst (λ b. IsTrue (begins_in_line_end (line_end_if b k ++ map (content_at ns) (drop place row)))) (sym (eq-eqb place (length row) e)) refl

  starts_newline : (content : Content) (rest : List Content) → is_newline content ≡ true → IsTrue (begins_in_line_end (content ∷ rest))
  starts_newline content rest e = e

  before_last : (row : List ℕ) (k : CstNewlineKind) (last : ℕ) → suc last ≡ length row → is_newline_at ns (slice_index row last) ≡ true → Starts row k last
  before_last row k last all newline_there =
      let apart : (last == length row) ≡ false = ne_eqb last (length row) (λ e. omega (arith, e, all)) in
      let parts : drop last row ≡ slice_index row last ∷ drop (last + 1) row = drop_more row last 0 (omega (arith, all)) in
      subst (λ b. IsTrue (begins_in_line_end (line_end_if b k ++ map (content_at ns) (drop last row)))) (sym apart)
      (subst (λ l. IsTrue (begins_in_line_end (map (content_at ns) l))) (sym parts) newline_there)

  starts_from : (row : List ℕ) (k : CstNewlineKind) (count : ℕ) → count ≡ length row → Starts row k (newline_from ns row count)
  starts_from row k zero all = at_end row k 0 all
  starts_from row k (suc last) all =
      elim (cases_Bool (is_newline_at ns (slice_index row last))) [
        | inl newline_there ↦ subst (Starts row k) (sym (from_at row last true newline_there)) (before_last row k last all newline_there)
        | inr none_there ↦ subst (Starts row k) (sym (from_at row last false none_there)) (at_end row k (suc last) all)
      ]

  -- one line ends behind the place, and no more
  abbrev Ends : List ℕ → CstNewlineKind → ℕ → Type 0
  Ends row k place = EndsLine (line_end_if (ends_row row place) k) (map (content_at ns) (drop place row))

  none_behind : (row : List ℕ) (place : ℕ) → place ≡ length row → drop place row ≡ []
  none_behind [] zero e = refl
  none_behind [] (suc k) e = absurd (omega (arith, e))
  none_behind (n ∷ row) zero e = absurd (omega (arith, e))
  none_behind (n ∷ row) (suc k) e = none_behind row k (omega (arith, e))

  ends_at : (row : List ℕ) (k : CstNewlineKind) (place : ℕ) → place ≡ length row → Ends row k place
  ends_at row k place e =
      subst (λ b. EndsLine (line_end_if b k) (map (content_at ns) (drop place row))) (sym (eq-eqb place (length row) e))
      (subst (λ l. EndsLine (newline k ∷ []) (map (content_at ns) l)) (sym (none_behind row place e)) comes_with)

  newline_last : (content : Content) → is_newline content ≡ true → EndsLine [] (content ∷ [])
  newline_last (newline k) e = stood_last
  newline_last content e = cc

  ends_before : (row : List ℕ) (k : CstNewlineKind) (last : ℕ) → suc last ≡ length row → is_newline_at ns (slice_index row last) ≡ true → Ends row k last
  ends_before row k last all newline_there =
      let apart : (last == length row) ≡ false = ne_eqb last (length row) (λ e. omega (arith, e, all)) in
      let parts : drop last row ≡ slice_index row last ∷ drop (last + 1) row = drop_more row last 0 (omega (arith, all)) in
      let rest : drop (last + 1) row ≡ [] = none_behind row (last + 1) (omega (arith, all)) in
      subst (λ b. EndsLine (line_end_if b k) (map (content_at ns) (drop last row))) (sym apart)
      (subst (λ l. EndsLine [] (map (content_at ns) l)) (sym (parts ∙ ap (λ l. slice_index row last ∷ l) rest)) (newline_last (content_at ns (slice_index row last)) newline_there))

  ends_from : (row : List ℕ) (k : CstNewlineKind) (count : ℕ) → count ≡ length row → Ends row k (newline_from ns row count)
  ends_from row k zero all = ends_at row k 0 all
  ends_from row k (suc last) all =
      elim (cases_Bool (is_newline_at ns (slice_index row last))) [
        | inl newline_there ↦ subst (Ends row k) (sym (from_at row last true newline_there)) (ends_before row k last all newline_there)
        | inr none_there ↦ subst (Ends row k) (sym (from_at row last false none_there)) (ends_at row k (suc last) all)
      ]

  pub ends_behind : (row : List ℕ) (k : CstNewlineKind) → Ends row k (place_in ns row)
  ends_behind row k = ends_from row k (length row) refl

  pub starts : (row : List ℕ) (k : CstNewlineKind) → Starts row k (place_in ns row)
  starts row k = starts_from row k (length row) refl

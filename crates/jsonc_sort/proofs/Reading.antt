-- What belongs to an element behind it, and before it: as a count tells it.
use Rattle.std.proofs.Common.{◌≡◌, ℕ, zero, suc, ◌+◌, ◌<◌, ◌≤◌, Bool, true, false, ◌&&◌, ◌||◌, inl, inr, List, [], ◌∷◌, ◌++◌, length, take, drop, slice_index, refl, sym, ap, ◌∙◌, arith}
use Rattle.std.specs.Prelude.{if◌then◌else◌}
use Rattle.std.proofs.lemmas.Bool.{cases_Bool, le-ltb, lt-ltb}
use Rattle.std.proofs.lemmas.List.{take-append-drop}
use Rattle.jsonc_tree.specs.Content.{Content}
use Rattle.jsonc_sort.specs.Leads.{before_comment, has_blank_line, line_ends}
use Rattle.jsonc_sort.specs.Parts.{has_comma, is_comma_at, is_whitespace_at, through_comma}
use Rattle.jsonc_sort.specs.Places.{IsComma, before_blank, before_comma}
use Rattle.jsonc_sort.specs.Sorting.{without_comma}
use Rattle.jsonc_sort.specs.declared.parts.Comma.{Comma}

module _ (at : ℕ → Content) where
  -- a comma is there
  there : (row : List ℕ) → before_comma at row < length row → (has_comma at row ≡ true) × (through_comma at row ≡ before_comma at row + 1)
  there [] h = absurd (omega arith)
  there (n ∷ row) h =
      elim (cases_Bool (is_comma_at at n)) [
        | inl e ↦ (rw e refl, rw e refl)
        | inr e ↦ (
            let rest = there row (omega (arith, rw e at h)) in
            (rw e rest.0, rw (e, rest.0) (omega (arith, rest.1)))
            )
      ]

  none : (row : List ℕ) → length row ≤ before_comma at row → (has_comma at row ≡ false) × (through_comma at row ≡ 0)
  none [] h = (refl, refl)
  none (n ∷ row) h =
      elim (cases_Bool (is_comma_at at n)) [
        | inl e ↦ absurd (omega (arith, rw e at h))
        | inr e ↦ (let rest = none row (omega (arith, rw e at h)) in (rw e rest.0, rw (e, rest.0) refl))
      ]

  pub through_there : (row : List ℕ) → before_comma at row < length row → before_comma at row + 1 ≡ through_comma at row
  through_there row h = sym (there row h).1

  pub through_none : (row : List ℕ) → length row ≤ before_comma at row → 0 ≡ through_comma at row
  through_none row h = sym (none row h).1

  -- a tail without its comma
  without_none : (row : List ℕ) → has_comma at row ≡ false → without_comma at row ≡ row
  without_none [] e = refl
  without_none (n ∷ []) e = by (is_comma_at at n) e
    where
      by : (b : Bool) → b || false ≡ false → (if b then [] else n ∷ []) ≡ n ∷ []
      by true f = cc
      by false f = refl
  without_none (n ∷ m ∷ row) e = by (is_comma_at at n) (is_comma_at at m) (is_whitespace_at at n) e (without_none (m ∷ row))
    where
      by : (b c w : Bool) → b || (c || has_comma at row) ≡ false → (c || has_comma at row ≡ false → without_comma at (m ∷ row) ≡ m ∷ row)
          → (if b then m ∷ row else (if w && c then row else n ∷ without_comma at (m ∷ row))) ≡ n ∷ m ∷ row
      by true c w f g = cc
      by false true w f g = cc
      by false false true f g = ap (λ l. n ∷ l) (g f)
      by false false false f g = ap (λ l. n ∷ l) (g f)

  abbrev Bare : List ℕ → ℕ → List ℕ
  Bare row k = take (before_blank at row k) row ++ drop (k + 1) row

  -- with one more node in front
  bare_more : (n : ℕ) (row : List ℕ) (k : ℕ) → (k ≡ 0 → is_whitespace_at at n ≡ false) → Bare (n ∷ row) (suc k) ≡ n ∷ Bare row k
  bare_more n row zero h = rw (h refl) refl
  bare_more n row (suc j) h = ap (λ k. take (before_blank at (n ∷ row) (suc (suc j))) (n ∷ row) ++ drop k (n ∷ row)) one ∙ by (is_whitespace_at at (slice_index row j))
    where
      one : suc (suc j) + 1 ≡ suc (suc j + 1)
      one = omega arith

      by : (w : Bool) → take (if w then suc j else suc (suc j)) (n ∷ row) ++ drop (suc j + 1) row ≡ n ∷ (take (if w then j else suc j) row ++ drop (suc j + 1) row)
      by true = refl
      by false = refl

  without_first : (m : ℕ) (row : List ℕ) → is_comma_at at m ≡ true → without_comma at (m ∷ row) ≡ row
  without_first m [] f = rw f refl
  without_first m (k ∷ row) f = rw f refl

  without_there : (row : List ℕ) → before_comma at row < length row → without_comma at row ≡ Bare row (before_comma at row)
  without_there [] h = absurd (omega arith)
  without_there (n ∷ []) h =
      elim (cases_Bool (is_comma_at at n)) [
        | inl e ↦ rw e refl
        | inr e ↦ absurd (omega (arith, rw e at h))
      ]
  without_there (n ∷ m ∷ row) h =
      elim (cases_Bool (is_comma_at at n)) [
        | inl e ↦ rw e refl
        | inr e ↦ (elim (cases_Bool (is_comma_at at m)) [
          | inl f ↦ (elim (cases_Bool (is_whitespace_at at n)) [
            | inl w ↦ rw (e, f, w) refl
            | inr w ↦ rw (e, w, without_first m row f, f, w) refl
          ])
          | inr f ↦ (
              let k : ℕ = before_comma at row in
              let later : before_comma at (m ∷ row) ≡ suc k = rw f (omega arith) in
              let here : before_comma at (n ∷ m ∷ row) ≡ suc (before_comma at (m ∷ row)) = rw e (omega arith) in
              let rest : without_comma at (m ∷ row) ≡ Bare (m ∷ row) (before_comma at (m ∷ row)) = without_there (m ∷ row) (omega (arith, h, here)) in
              let first : without_comma at (n ∷ m ∷ row) ≡ n ∷ without_comma at (m ∷ row) = skip n m row e f in
              let more : Bare (n ∷ m ∷ row) (suc (before_comma at (m ∷ row))) ≡ n ∷ Bare (m ∷ row) (before_comma at (m ∷ row)) = bare_more n (m ∷ row) (before_comma at (m ∷ row)) (λ z. absurd (omega (arith, z, later))) in
              first ∙ ap (λ l. n ∷ l) rest ∙ sym more ∙ ap (Bare (n ∷ m ∷ row)) (sym here)
              )
        ])
      ]
    where
      skip : (n m : ℕ) (row : List ℕ) → is_comma_at at n ≡ false → is_comma_at at m ≡ false → without_comma at (n ∷ m ∷ row) ≡ n ∷ without_comma at (m ∷ row)
      skip n m row e f =
          elim (cases_Bool (is_whitespace_at at n)) [
            | inl w ↦ rw (e, w, f) refl
            | inr w ↦ rw (e, w) refl
          ]

  -- what leaves with the comma
  pub comma_there : (row : List ℕ) (from : ℕ) → before_comma at row < length row → from ≡ before_blank at row (before_comma at row) → from ≤ before_comma at row → (comma : Comma) → comma.from ≡ from → comma.to ≡ before_comma at row + 1 → IsComma at row comma
  comma_there row from h e low comma f g = record {
    has = (there row h).0 ∙ sym (lt-ltb comma.from comma.to (omega (arith, low, f, g)));
    without = without_there row h ∙ ap (λ k. take k row ++ drop (before_comma at row + 1) row) (sym e ∙ sym f) ∙ ap (λ k. take comma.from row ++ drop k row) (sym g);
    from = omega (arith, low, f, g);
    to = omega (arith, g, h);
  }

  pub comma_none : (row : List ℕ) → length row ≤ before_comma at row → (comma : Comma) → comma.from ≡ length row → comma.to ≡ length row → IsComma at row comma
  comma_none row h comma f g = record {
    has = (none row h).0 ∙ sym (le-ltb comma.from comma.to (omega (arith, f, g)));
    without = without_none row (none row h).0 ∙ sym (take-append-drop (length row) row) ∙ ap (λ k. take k row ++ drop (length row) row) (sym f) ∙ ap (λ k. take comma.from row ++ drop k row) (sym g);
    from = omega (arith, f, g);
    to = omega (arith, g);
  }

  -- blank lines, where a line has ended, with nothing but whitespace since, or not
  abbrev pub Blank : Bool → List ℕ → Bool
  Blank ended row = (ended && line_ends at row) || has_blank_line at row

  -- what stands before the comment of a number, as far as a place
  abbrev pub Passed : ℕ → List ℕ → ℕ → ℕ → Type 0
  Passed number row left place = before_comment at number row ≡ take place row ++ before_comment at left (drop place row)

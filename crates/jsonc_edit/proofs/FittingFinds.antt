-- What a test finds in a list: one that passes it, and backwards the last one.
use Rattle.std.proofs.Common.{◌≡◌, ℕ, suc, ◌<◌, Bool, true, false, cond, ◌⊎◌, inl, inr, List, [], ◌∷◌, All, length, drop, reverse, slice_index, Option, Some, None, refl, sym, ap, subst, ◌∙◌, arith}
use Rattle.std.specs.List.{find}
use Rattle.std.specs.Option.{option_or}
use Rattle.std.proofs.lemmas.Bool.{cases_Bool}
use Rattle.std.proofs.lemmas.Grind.{reverse_onto}
use Rattle.std.proofs.lemmas.List.Elements.{All-nil, All-cons, All-head, All-tail}
use Rattle.std.proofs.lemmas.List.Folds.{find-append}
use Rattle.jsonc_edit.proofs.Elements.{Some_same}

-- what is there, or nothing
cases_Option : (r : Option ℕ) → (r ≡ None) ⊎ ((m : ℕ) × (r ≡ Some m))
cases_Option None = inl refl
cases_Option (Some m) = inr (m, refl)

pub none_is_some : {A : Type 0} (m : ℕ) → None ≡ Some m → A
none_is_some m e = cc

module _ (test : ℕ → Bool) where
  pub passes : (x : ℕ) (xs : List ℕ) → test x ≡ true → find test (x ∷ xs) ≡ Some x
  passes x xs h = ap (λ b. cond b (Some x) (find test xs)) h

  pub fails : (x : ℕ) (xs : List ℕ) → test x ≡ false → find test (x ∷ xs) ≡ find test xs
  fails x xs h = ap (λ b. cond b (Some x) (find test xs)) h

  -- what is found passes, and is one of the list
  pub found_one : (P : ℕ → Type 0) (xs : List ℕ) (m : ℕ) → All P xs → find test xs ≡ Some m → P m × (test m ≡ true)
  found_one P [] m all e = none_is_some m e
  found_one P (x ∷ xs) m all e =
      elim (cases_Bool (test x)) [
        | inl h ↦ let same : x ≡ m = Some_same x m (sym (passes x xs h) ∙ e) in (subst P same (All-head P x xs all), ap test (sym same) ∙ h)
        | inr h ↦ found_one P xs m (All-tail P x xs all) (sym (fails x xs h) ∙ e)
      ]

  -- where nothing is found in a list, no first one passes, nor a later one
  pub none_first : (x : ℕ) (xs : List ℕ) → find test (x ∷ xs) ≡ None → (test x ≡ false) × (find test xs ≡ None)
  none_first x xs e =
      elim (cases_Bool (test x)) [
        | inl h ↦ none_is_some x (sym e ∙ passes x xs h)
        | inr h ↦ (h, sym (fails x xs h) ∙ e)
      ]

  backwards : (x : ℕ) (xs : List ℕ) → find test (reverse (x ∷ xs)) ≡ option_or (find test (reverse xs)) (find test (x ∷ []))
  backwards x xs = ap (find test) (reverse_onto xs x []) ∙ find-append test (reverse xs) (x ∷ [])

  none_backwards : (xs : List ℕ) → find test (reverse xs) ≡ None → find test xs ≡ None
  none_backwards [] e = refl
  none_backwards (x ∷ xs) e =
      elim (cases_Option (find test (reverse xs))) [
        | inl h ↦
            let first : find test (x ∷ []) ≡ None = ap (λ r. option_or r (find test (x ∷ []))) (sym h) ∙ sym (backwards x xs) ∙ e in
            fails x xs (none_first x [] first).0 ∙ none_backwards xs h
        | inr h ↦ none_is_some h.0 (sym e ∙ backwards x xs ∙ ap (λ r. option_or r (find test (x ∷ []))) h.1)
      ]

  -- the place of the last one that passes
  abbrev pub IsLast : List ℕ → ℕ → Type 0
  IsLast xs m = (k : ℕ) × (k < length xs) × (slice_index xs k ≡ m) × (test m ≡ true) × (find test (drop (suc k) xs) ≡ None)

  -- what is found backwards is the last one that passes
  pub found_last : (xs : List ℕ) (m : ℕ) → find test (reverse xs) ≡ Some m → IsLast xs m
  found_last [] m e = none_is_some m e
  found_last (x ∷ xs) m e =
      elim (cases_Option (find test (reverse xs))) [
        | inl h ↦
            let first : find test (x ∷ []) ≡ Some m = ap (λ r. option_or r (find test (x ∷ []))) (sym h) ∙ sym (backwards x xs) ∙ e in
            let one = found_one (λ y. x ≡ y) (x ∷ []) m (All-cons (λ y. x ≡ y) x [] refl (All-nil (λ y. x ≡ y))) first in
            (0, omega arith, one.0, one.1, none_backwards xs h)
        | inr h ↦
            let same : Some h.0 ≡ Some m = ap (λ r. option_or r (find test (x ∷ []))) (sym h.1) ∙ sym (backwards x xs) ∙ e in
            let rest : IsLast xs m = found_last xs m (h.1 ∙ same) in
            (suc rest.0, omega (arith, rest.1), rest.2, rest.3, rest.4)
      ]

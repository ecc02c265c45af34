-- How deep values are nested: within a limit or not, element by element.
use Rattle.std.proofs.Common.{◌≡◌, ◌∙◌, ℕ, suc, ◌+◌, ◌-◌, ◌<◌, ◌≤◌, ◌↔◌, Bool, true, false, List, [], ◌∷◌, length, drop, get_or, max, refl, sym, ap, subst, arith}
use lib.Dec.{eqb}
use Rattle.std.proofs.lemmas.Bool.{eqb-true}
use denote.Param.Weighed.{most, at_most}
use Rattle.std.proofs.lemmas.List.{drop_more, drop_all}
use Rattle.std.specs.declared.string.String.{String}
use Rattle.jsonc_text.specs.Plain.{around, items_around, members_around}
use Rattle.jsonc_layout.specs.input.Views.{plain, items_plain, members_plain}
use Rattle.jsonc_layout.specs.declared.input.value.CstInputValue.{CstInputValue}

-- of a list whose elements are nested so deep, those from a place on, and with them all, are within the limit
module _ {X : Type 0} (deep : X → ℕ) (limit : ℕ) where
  abbrev pub WithinFrom : List X → ℕ → Type 0
  WithinFrom xs i = most deep (drop i xs) ≤ limit → most deep xs ≤ limit

  pub one_within : (xs : List X) (i : ℕ) (x : X) → i < length xs → x ≡ get_or xs i x → deep x ≤ limit → WithinFrom xs i → WithinFrom xs (i + 1)
  one_within xs i x h e small so_far rest =
      let at : deep (get_or xs i x) ≤ limit = subst (λ y. deep y ≤ limit) e small in
      so_far (subst (λ l. most deep l ≤ limit) (sym (drop_more xs i x h)) (omega (arith, at, rest)))

  pub all_within : (xs : List X) (i : ℕ) → length xs ≤ i → WithinFrom xs i → most deep xs ≤ limit
  all_within xs i past so_far = so_far (subst (λ l. most deep l ≤ limit) (sym (drop_all i xs past)) (omega arith))

  -- an element that is not puts all of them beyond it
  pub one_beyond : (xs : List X) (i : ℕ) (x : X) → i < length xs → x ≡ get_or xs i x → most deep xs ≤ limit → deep x ≤ limit
  one_beyond xs i x h e all =
      let bound : deep (get_or xs i x) ≤ most deep xs = at_most deep xs i x h in
      subst (λ y. deep y ≤ limit) (sym e) (omega (arith, bound, all))

  -- where the limit is less than each element is nested, only no elements are within it
  pub none_within : (least : ℕ) → ((x : X) → least ≤ deep x) → limit < least → (xs : List X) (b : Bool) → b ≡ eqb (length xs) 0 → (b ≡ true) ↔ (most deep xs ≤ limit)
  none_within least above low [] b is = (λ h. omega arith, λ h. is)
  none_within least above low (x ∷ xs) b is = (
    λ h. absurd (let none : length (x ∷ xs) ≡ 0 = eqb-true (length (x ∷ xs)) 0 (sym is ∙ h) in omega (arith, none)),
    λ h. absurd (let bound : least ≤ deep x = above x in omega (arith, bound, low, h)),
  )

  -- where one is not within, all are not
  pub told_beyond : (step : ℕ) (around : ℕ) (xs : List X) (i : ℕ) (x : X) (r : Bool) → deep x ≡ step + around → i < length xs → x ≡ get_or xs i x → ((r ≡ true) ↔ (around ≤ limit - step)) → r ≡ false
      → (false ≡ true) ↔ (most deep xs ≤ limit)
  told_beyond step around xs i x r is h e told not_so = (
    λ never. absurd cc,
    λ all. let one : deep x ≤ limit = one_beyond xs i x h e all in sym not_so ∙ told.1 (omega (arith, one, is)),
  )

  pub told_within : (step : ℕ) (around : ℕ) (xs : List X) (i : ℕ) (x : X) (r : Bool) → deep x ≡ step + around → step ≤ limit → i < length xs → x ≡ get_or xs i x → ((r ≡ true) ↔ (around ≤ limit - step)) → r ≡ true
      → WithinFrom xs i → WithinFrom xs (i + 1)
  told_within step around xs i x r is high h e told so so_far =
      let small : around ≤ limit - step = told.0 so in
      one_within xs i x h e (omega (arith, small, is, high)) so_far

module _ {A : Type 0} where
  -- what an element of an array, and a property of an object, adds
  abbrev pub element_deep : CstInputValue A → ℕ
  element_deep x = suc (around (plain x))

  abbrev pub property_deep : String A × CstInputValue A → ℕ
  property_deep p = suc (suc (around (plain p.1)))

  pub items_most : (xs : List (CstInputValue A)) → items_around (items_plain xs) ≡ most element_deep xs
  items_most [] = refl
  items_most (x ∷ xs) = ap (max (element_deep x)) (items_most xs)

  pub members_most : (ps : List (String A × CstInputValue A)) → members_around (members_plain ps) ≡ most property_deep ps
  members_most [] = refl
  members_most (p ∷ ps) = ap (max (property_deep p)) (members_most ps)

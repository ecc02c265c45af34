-- What values stand for, level by level, and how deep they are.
use Rattle.std.proofs.Common.{◌≡◌, ℕ, zero, suc, ◌+◌, ◌*◌, ◌<◌, ◌≤◌, Bool, true, false, not, ◌||◌, List, [], ◌∷◌, length, drop, get_or, vec_len, refl, sym, ap, rules, ◌∙◌, arith}
use denote.Param.Weighed.{most, at_most}
use lib.Dec.{eqb}
use Rattle.std.proofs.lemmas.Bool.{ne_eqb, eqb-true, eqb-false}
use Rattle.std.proofs.lemmas.List.{drop_more, drop_all}
use Rattle.std.specs.declared.string.String.{String}
use Rattle.std.specs.declared.vec.Vec.{Vec}
use Rattle.jsonc_text.specs.Plain.{Plain, array, object}
use Rattle.jsonc_layout.specs.input.Views.{plain, items_plain, members_plain, chars_of}
use Rattle.jsonc_layout.specs.declared.input.value.CstInputValue.{CstInputValue, the_lemmas}
use Rattle.jsonc_layout.specs.declared.input.value.CstInputValue as value
use Rattle.jsonc_layout.specs.from_input.Laid.{is_filled, holds_filled}

pub plain-Null : (A : Type 0) → plain {A = A} value.Null ≡ Plain.null
plain-Null A = search (rules, the_lemmas)

pub plain-Bool : (A : Type 0) (b : Bool) → plain {A = A} (value.Bool b) ≡ Plain.boolean b
plain-Bool A b = search (rules, the_lemmas)

module _ {A : Type 0} where
  pub plain-Array : (vs : Vec (CstInputValue A) A) → plain (value.Array vs) ≡ array (items_plain vs.items)
  plain-Array vs = search (rules, the_lemmas)

  pub plain-Object : (ps : Vec (String A × CstInputValue A) A) → plain (value.Object ps) ≡ object (members_plain ps.items)
  plain-Object ps = search (rules, the_lemmas)

  pub plain-Number : (s : String A) → plain (value.Number s) ≡ Plain.number (chars_of s)
  plain-Number s = search (rules, the_lemmas)

  pub plain-String : (s : String A) → plain (value.String s) ≡ Plain.string (chars_of s)
  plain-String s = search (rules, the_lemmas)

  -- a container is filled where it is not empty
  filled_items : (xs : List (CstInputValue A)) → not (eqb (length xs) 0) ≡ is_filled (array (items_plain xs))
  filled_items [] = refl
  filled_items (x ∷ xs) = ap not (ne_eqb (length (x ∷ xs)) 0 (λ e. omega arith))

  filled_members : (ps : List (String A × CstInputValue A)) → not (eqb (length ps) 0) ≡ is_filled (object (members_plain ps))
  filled_members [] = refl
  filled_members (p ∷ ps) = ap not (ne_eqb (length (p ∷ ps)) 0 (λ e. omega arith))

  pub filled_Array : (v : CstInputValue A) (vs : Vec (CstInputValue A) A) (b : Bool) → v ≡ value.Array vs → b ≡ eqb (vec_len vs) 0 → not b ≡ is_filled (plain v)
  filled_Array v vs b is e = ap not e ∙ ap (λ n. not (eqb n 0)) (omega (arith, vs.ok.0)) ∙ filled_items vs.items ∙ ap is_filled (sym (ap plain is ∙ plain-Array vs))

  pub filled_Object : (v : CstInputValue A) (ps : Vec (String A × CstInputValue A) A) (b : Bool) → v ≡ value.Object ps → b ≡ eqb (vec_len ps) 0 → not b ≡ is_filled (plain v)
  filled_Object v ps b is e = ap not e ∙ ap (λ n. not (eqb n 0)) (omega (arith, ps.ok.0)) ∙ filled_members ps.items ∙ ap is_filled (sym (ap plain is ∙ plain-Object ps))

  -- one of the elements from a place on
  abbrev pub holds_from : List (CstInputValue A) → ℕ → Bool
  holds_from xs i = holds_filled (items_plain (drop i xs))

  pub holds_more : (xs : List (CstInputValue A)) (i : ℕ) (x : CstInputValue A) → i < length xs → x ≡ get_or xs i x → holds_from xs i ≡ (is_filled (plain x) || holds_from xs (i + 1))
  holds_more xs i x h e = ap (λ l. holds_filled (items_plain l)) (drop_more xs i x h) ∙ ap (λ y. is_filled (plain y) || holds_from xs (i + 1)) (sym e)

  pub holds_none : (xs : List (CstInputValue A)) (i : ℕ) → length xs ≤ i → holds_from xs i ≡ false
  holds_none xs i h = ap (λ l. holds_filled (items_plain l)) (drop_all i xs h)

either_true : (b c : Bool) → b ≡ true → (b || c) ≡ true
either_true true c h = refl
either_true false c h = let never : ⊥ = cc in absurd never

either_false : (b c : Bool) → b ≡ false → (b || c) ≡ c
either_false true c h = let never : ⊥ = cc in absurd never
either_false false c h = refl

module _ {A : Type 0} where
  pub holds_found : (xs : List (CstInputValue A)) (i : ℕ) (x : CstInputValue A) (b : Bool) → holds_from xs i ≡ holds_filled (items_plain xs) → i < length xs → x ≡ get_or xs i x → b ≡ is_filled (plain x) → b ≡ true → true ≡ holds_filled (items_plain xs)
  holds_found xs i x b so_far h e is found = sym (either_true (is_filled (plain x)) (holds_from xs (i + 1)) (sym is ∙ found)) ∙ sym (holds_more xs i x h e) ∙ so_far

  pub holds_passed : (xs : List (CstInputValue A)) (i : ℕ) (x : CstInputValue A) (b : Bool) → holds_from xs i ≡ holds_filled (items_plain xs) → i < length xs → x ≡ get_or xs i x → b ≡ is_filled (plain x) → b ≡ false → holds_from xs (i + 1) ≡ holds_filled (items_plain xs)
  holds_passed xs i x b so_far h e is passed = sym (either_false (is_filled (plain x)) (holds_from xs (i + 1)) (sym is ∙ passed)) ∙ sym (holds_more xs i x h e) ∙ so_far

  pub holds_end : (xs : List (CstInputValue A)) (i : ℕ) → holds_from xs i ≡ holds_filled (items_plain xs) → length xs ≤ i → false ≡ holds_filled (items_plain xs)
  holds_end xs i so_far past = sym (holds_none xs i past) ∙ so_far

-- a list is empty, or has an element
pub length_none : (n : ℕ) (b : Bool) → b ≡ eqb n 0 → b ≡ true → n ≡ 0
length_none n b e h = eqb-true n 0 (sym e ∙ h)

some_length : (n : ℕ) → (n ≡ 0 → ⊥) → 0 < n
some_length zero h = absurd (h refl)
some_length (suc n) h = omega arith

pub length_some : (n : ℕ) (b : Bool) → b ≡ eqb n 0 → b ≡ false → 0 < n
length_some n b e h = some_length n (eqb-false n 0 (sym e ∙ h))

-- what is smaller than an element of a list is smaller than the list
pub part_smaller : {P : Type 0} (size : P → ℕ) (xs : List P) (i : ℕ) (p : P) (n t k m : ℕ)
    → 7 * most size xs + k ≡ t → i < length xs → p ≡ get_or xs i p → 7 * n + m < 7 * size p + k → 7 * n + m < t
part_smaller size xs i p n t k m whole within at part =
    let bound : size (get_or xs i p) ≤ most size xs = at_most size xs i p within in
    let same : size p ≡ size (get_or xs i p) = ap size at in
    omega arith

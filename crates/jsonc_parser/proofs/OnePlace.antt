-- A line and a column are those of one place: a walk over any characters leads further.
use Rattle.std.proofs.Common.{◌≡◌, ◌∙◌, ◌⊎◌, inl, inr, refl, sym, ap, arith, ℕ, ◌+◌, ◌<◌, ◌≤◌, List, [], ◌∷◌, ◌++◌, Bool, true, false, cond}
use Rattle.std.proofs.lemmas.Bool.{cases_lt}
use Rattle.std.proofs.lemmas.List.{append-nil}
use Rattle.jsonc_text.specs.Text.{byte_length}
use Rattle.jsonc_text.specs.Places.{ends_line}
use Rattle.jsonc_parser.specs.declared.places.ColumnUnit.{ColumnUnit}
use Rattle.jsonc_parser.specs.declared.places.ColumnUnit.TheVariants.{Character, Utf16}
use Rattle.jsonc_parser.specs.Places.{HasOnePlace, LineColumnBy, past, units, utf16_units, walked_by}
use Rattle.jsonc_parser.proofs.Changes.{Later, later}
use Rattle.jsonc_parser.proofs.LineWalk.{one_unit, two_units, walked_append}

-- each character takes some units
utf16_some : (c : ℕ) → (c < 0x1_0000) ⊎ (0x1_0000 ≤ c) → 1 ≤ utf16_units c
utf16_some c (inl h) = omega (arith, one_unit c h)
utf16_some c (inr h) = omega (arith, two_units c h)

some_units : (u : ColumnUnit) (c : ℕ) → 1 ≤ units u c
some_units Character c = omega arith
some_units Utf16 c = utf16_some c (cases_lt c 0x1_0000)

-- the second is in a later line, or further on in the same
abbrev IsFurther : ℕ × ℕ → ℕ × ℕ → Type 0
IsFurther p q = (p.0 < q.0) ⊎ ((p.0 ≡ q.0) × (p.1 < q.1))

further_on : (p q r : ℕ × ℕ) → IsFurther p q → IsFurther q r → IsFurther p r
further_on p q r (inl a) (inl b) = inl (omega (arith, a, b))
further_on p q r (inl a) (inr b) = inl (omega (arith, a, b.0))
further_on p q r (inr a) (inl b) = inl (omega (arith, a.0, b))
further_on p q r (inr a) (inr b) = inr (a.0 ∙ b.0, omega (arith, a.1, b.1))

one_further : (b : Bool) (u h k : ℕ) → 1 ≤ u → IsFurther (h, k) (cond {A = ℕ × ℕ} b (h + 1, 1) (h, k + u))
one_further true u h k some = inl (omega arith)
one_further false u h k some = inr (refl, omega (arith, some))

module _ (u : ColumnUnit) where
  abbrev w : ℕ → ℕ
  w = units u

  past_further : (p : ℕ × ℕ) (c : ℕ) (r : List ℕ) → IsFurther p (past w p c r)
  past_further p c r = one_further (ends_line c r) (w c) p.0 p.1 (some_units u c)

  walked_further : (p : ℕ × ℕ) (c : ℕ) (s r : List ℕ) → IsFurther p (walked_by w p (c ∷ s) r)
  walked_further p c [] r = past_further p c ([] ++ r)
  walked_further p c (d ∷ s) r = further_on p (past w p c ((d ∷ s) ++ r)) (walked_by w p (c ∷ d ∷ s) r) (past_further p c ((d ∷ s) ++ r)) (walked_further (past w p c ((d ∷ s) ++ r)) d s r)

  not_further : (p q : ℕ × ℕ) → p ≡ q → IsFurther p q → ⊥
  not_further p q e (inl a) = omega (arith, a, ap (λ x. x.0) e)
  not_further p q e (inr a) = omega (arith, a.1, ap (λ x. x.1) e)

  -- where one place is after another
  no_further : (t : List ℕ) (p q line column : ℕ) (x : LineColumnBy w t p line column) (y : LineColumnBy w t q line column) (h : List ℕ) → y.before ≡ x.before ++ h → x.after ≡ h ++ y.after → p ≡ q
  no_further t p q line column x y [] e f = sym x.at ∙ ap byte_length (sym (e ∙ append-nil x.before)) ∙ y.at
  no_further t p q line column x y (c ∷ s) e f =
      let on : (line, column) ≡ walked_by w (line, column) (c ∷ s) y.after =
      y.position ∙ ap (λ b. walked_by w (1, 1) b y.after) e ∙ walked_append w (1, 1) x.before (c ∷ s) y.after ∙ ap (λ a. walked_by w (walked_by w (1, 1) x.before a) (c ∷ s) y.after) (sym f)
      ∙ ap (λ at. walked_by w at (c ∷ s) y.after) (sym x.position) in
      absurd (not_further (line, column) (walked_by w (line, column) (c ∷ s) y.after) on (walked_further (line, column) c s y.after))

  either : (t : List ℕ) (p q line column : ℕ) (x : LineColumnBy w t p line column) (y : LineColumnBy w t q line column) → Later x.before x.after y.before y.after → p ≡ q
  either t p q line column x y (Later.second_later h e f) = no_further t p q line column x y h e f
  either t p q line column x y (Later.first_later h e f) = sym (no_further t q p line column y x h e f)

pub has_one_place : (u : ColumnUnit) (t : List ℕ) → HasOnePlace u t
has_one_place u t p q line column x y = either u t p q line column x y (later x.before x.after y.before y.after (sym x.split ∙ y.split))

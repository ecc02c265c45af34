-- No blank past ASCII is a letter or digit.
use Rattle.std.proofs.Common.{ℕ, zero, suc, ◌≡◌, ◌<◌, ◌≤◌, ◌+◌, Bool, true, false, refl, not, ◌||◌, ◌&&◌, ◌==◌, nat_lt, IsTrue, List, [], ◌∷◌, arith, inl, inr}
use Rattle.std.specs.List.{list_all}
use Rattle.std.proofs.lemmas.Bool.{cases_lt}
use Rattle.ucd_table.specs.Rows.{in_ranges, value_in}
use Rattle.ucd_derived.specs.Binary.{is_alphabetic}
use Rattle.ucd_derived.specs.AlphabeticRanges.{alphabetic_ranges}
use Rattle.ucd_category.specs.GeneralCategory.{general_category}
use Rattle.ucd_category.specs.GeneralCategoryRows.{general_category_rows}
use Rattle.jsonc_text.specs.Letters.{is_wide_letter}
use Rattle.jsonc_text.specs.Gaps.{is_blank}
use Rattle.jsonc_text.proofs.Basics.{or_cases, or_right, or_left, and_both, eq_test, test_eq}

pub wide_past_ascii : (c : ℕ) → IsTrue (is_wide_letter c) → 0x7F < c
unfolding is_wide_letter
wide_past_ascii c h = grind arith

-- c is one of these
among : List ℕ → ℕ → Bool
among [] c = false
among (d ∷ ds) c = c == d || among ds c

-- so many numbers from lo on
upto : ℕ → ℕ → List ℕ
upto zero lo = []
upto (suc n) lo = lo ∷ upto n (suc lo)

in_upto : (n lo c : ℕ) → lo ≤ c → c < lo + n → IsTrue (among (upto n lo) c)
unfolding among upto
in_upto zero lo c a b = absurd (omega arith)
in_upto (suc n) lo c a b =
    elim (cases_lt lo c) [
      | inl h ↦ or_right (c == lo) (among (upto n (suc lo)) c) (in_upto n (suc lo) c h (omega arith))
      | inr h ↦ or_left (c == lo) (among (upto n (suc lo)) c) (eq_test c lo (omega arith))
    ]

all_fail : (p : ℕ → Bool) (ds : List ℕ) (c : ℕ) → list_all (λ d. not (p d)) ds ≡ true → IsTrue (among ds c) → IsTrue (not (p c))
unfolding among
all_fail p [] c a m = cc
all_fail p (d ∷ ds) c a m =
    let b = and_both (not (p d)) (list_all (λ d. not (p d)) ds) a in
    elim (or_cases (c == d) (among ds c) m) [
      | inl e ↦ rw (test_eq c d e) b.0
      | inr n ↦ all_fail p ds c b.1 n
    ]

none_wide_range : list_all (λ c. not (is_wide_letter c)) (upto 11 0x2000) ≡ true
unfolding upto is_wide_letter is_alphabetic general_category in_ranges value_in alphabetic_ranges general_category_rows
none_wide_range = refl

one_by_one : List ℕ
one_by_one = 0x85 ∷ 0xA0 ∷ 0x1680 ∷ 0x2028 ∷ 0x2029 ∷ 0x202F ∷ 0x205F ∷ 0x3000 ∷ []

none_one : list_all (λ c. not (is_wide_letter c)) one_by_one ≡ true
unfolding one_by_one is_wide_letter is_alphabetic general_category in_ranges value_in alphabetic_ranges general_category_rows
none_one = refl

one_not_wide : (k c : ℕ) → IsTrue (among one_by_one k) → IsTrue (c == k) → IsTrue (not (is_wide_letter c))
one_not_wide k c m e = rw (test_eq c k e) (all_fail is_wide_letter one_by_one k none_one m)

range_not_wide : (c : ℕ) → IsTrue (nat_lt 0x1FFF c && nat_lt c 0x200B) → IsTrue (not (is_wide_letter c))
range_not_wide c h = all_fail is_wide_letter (upto 11 0x2000) c none_wide_range (in_upto 11 0x2000 c (low c h) (high c h))
  where
    low : (c : ℕ) → IsTrue (nat_lt 0x1FFF c && nat_lt c 0x200B) → 0x2000 ≤ c
    low c h = grind arith

    high : (c : ℕ) → IsTrue (nat_lt 0x1FFF c && nat_lt c 0x200B) → c < 0x2000 + 11
    high c h = grind arith

ascii_not_wide : (c : ℕ) → c < 0x80 → IsTrue (not (is_wide_letter c))
unfolding is_wide_letter
ascii_not_wide c h = grind arith

small : (c : ℕ) → IsTrue ((nat_lt 0x08 c && nat_lt c 0x0E) || c == 0x20) → c < 0x80
small c h = grind arith

pub blank_not_wide : (c : ℕ) → IsTrue (is_blank c) → IsTrue (not (is_wide_letter c))
unfolding among one_by_one
blank_not_wide c b =
    elim (or_cases _ (c == 0x3000) b) [
      | inr e ↦ one_not_wide 0x3000 c refl e
      | inl b ↦
          elim (or_cases _ (c == 0x205F) b) [
            | inr e ↦ one_not_wide 0x205F c refl e
            | inl b ↦
                elim (or_cases _ (c == 0x202F) b) [
                  | inr e ↦ one_not_wide 0x202F c refl e
                  | inl b ↦
                      elim (or_cases _ (c == 0x2029) b) [
                        | inr e ↦ one_not_wide 0x2029 c refl e
                        | inl b ↦
                            elim (or_cases _ (c == 0x2028) b) [
                              | inr e ↦ one_not_wide 0x2028 c refl e
                              | inl b ↦
                                  elim (or_cases _ (nat_lt 0x1FFF c && nat_lt c 0x200B) b) [
                                    | inr e ↦ range_not_wide c e
                                    | inl b ↦
                                        elim (or_cases _ (c == 0x1680) b) [
                                          | inr e ↦ one_not_wide 0x1680 c refl e
                                          | inl b ↦
                                              elim (or_cases _ (c == 0xA0) b) [
                                                | inr e ↦ one_not_wide 0xA0 c refl e
                                                | inl b ↦
                                                    elim (or_cases _ (c == 0x85) b) [ inr e ↦ one_not_wide 0x85 c refl e | inl b ↦ ascii_not_wide c (small c b) ]
                                              ]
                                        ]
                                  ]
                            ]
                      ]
                ]
          ]
    ]

-- The characters by which numbers and keywords go on end no literals and no names.
use Rattle.std.proofs.Common.{ℕ, ◌≡◌, ◌<◌, ◌≤◌, subst, refl, Bool, true, false, not, ◌||◌, ◌==◌, Option, Some, None, IsTrue, arith, inl, inr, ap}
use Rattle.std.specs.Int.{is_in_range}
use Rattle.jsonc_text.specs.Text.{no, end_or, is_digit, is_hex_digit, is_ascii_letter}
use Rattle.jsonc_text.specs.Gaps.{is_blank}
use Rattle.jsonc_text.specs.Letters.{is_wide_letter}
use Rattle.jsonc_text.specs.Words.{goes_on}
use Rattle.jsonc_text.specs.Numbers.{is_x, is_e, is_point}
use Rattle.jsonc_text.proofs.Basics.{clash, or_cases, or_left, or_right, test_eq, Apart}
use Rattle.jsonc_text.proofs.WideBlanks.{blank_not_wide, wide_past_ascii}
use Rattle.jsonc_sound.specs.Followers.{ends_literals}

-- a character that ends literals, or `:`, a quote or a first bracket
abbrev pub ends_names : ℕ → Bool
ends_names c = is_blank c || (c == 0x2F || c == 0x2C || c == 0x5D || c == 0x7D || c == 0x3A || c == 0x22 || c == 0x27 || c == 0x5B || c == 0x7B)

pub literal_ends_name : (c : ℕ) → IsTrue (ends_literals c) → IsTrue (ends_names c)
literal_ends_name c h =
    elim (or_cases (is_blank c) _ h) [
      | inl b ↦ or_left (is_blank c) _ b
      | inr m ↦ or_right (is_blank c) _ (marks_more c m)
    ]
  where
    marks_more : (c : ℕ) → IsTrue (c == 0x2F || c == 0x2C || c == 0x5D || c == 0x7D) → IsTrue (c == 0x2F || c == 0x2C || c == 0x5D || c == 0x7D || c == 0x3A || c == 0x22 || c == 0x27 || c == 0x5B || c == 0x7B)
    marks_more c h = grind arith

pub text_ends_names : (n : Option ℕ) → IsTrue (end_or ends_literals n) → IsTrue (end_or ends_names n)
text_ends_names None h = refl
text_ends_names (Some c) h = literal_ends_name c h

-- the characters by which numbers and keywords go on, but for the letters past ASCII
record Inside (c : ℕ) : Type 0 where
  low : 0x21 ≤ c
  high : c < 0x80
  mark : IsTrue (not (c == 0x2F || c == 0x2C || c == 0x5D || c == 0x7D || c == 0x3A || c == 0x22 || c == 0x27 || c == 0x5B || c == 0x7B))

no_ascii_blank : (c : ℕ) → 0x21 ≤ c → c < 0x80 → IsTrue (not (is_blank c))
no_ascii_blank c a b = grind arith

inside_apart : (c : ℕ) → Inside c → IsTrue (ends_names c) → ⊥
inside_apart c i h = elim (or_cases (is_blank c) _ h) [ inl b ↦ clash (is_blank c) (no_ascii_blank c i.low i.high) b | inr m ↦ clash _ i.mark m ]

range_low : (a b c : ℕ) → IsTrue (is_in_range a b c) → a ≤ c
range_low a b c h = grind arith

range_high : (a b c : ℕ) → IsTrue (is_in_range a b c) → c ≤ b
range_high a b c h = grind arith

digit_mark : (c : ℕ) → 0x30 ≤ c → c ≤ 0x39 → IsTrue (not (c == 0x2F || c == 0x2C || c == 0x5D || c == 0x7D || c == 0x3A || c == 0x22 || c == 0x27 || c == 0x5B || c == 0x7B))
digit_mark c a b = grind arith

upper_mark : (c : ℕ) → 0x41 ≤ c → c ≤ 0x5A → IsTrue (not (c == 0x2F || c == 0x2C || c == 0x5D || c == 0x7D || c == 0x3A || c == 0x22 || c == 0x27 || c == 0x5B || c == 0x7B))
upper_mark c a b = grind arith

lower_mark : (c : ℕ) → 0x61 ≤ c → c ≤ 0x7A → IsTrue (not (c == 0x2F || c == 0x2C || c == 0x5D || c == 0x7D || c == 0x3A || c == 0x22 || c == 0x27 || c == 0x5B || c == 0x7B))
lower_mark c a b = grind arith

digit_inside : (c : ℕ) → 0x30 ≤ c → c ≤ 0x39 → Inside c
digit_inside c a b = record { low = omega (arith, a); high = omega (arith, b); mark = digit_mark c a b }

upper_inside : (c : ℕ) → 0x41 ≤ c → c ≤ 0x5A → Inside c
upper_inside c a b = record { low = omega (arith, a); high = omega (arith, b); mark = upper_mark c a b }

lower_inside : (c : ℕ) → 0x61 ≤ c → c ≤ 0x7A → Inside c
lower_inside c a b = record { low = omega (arith, a); high = omega (arith, b); mark = lower_mark c a b }

in_digits : (c : ℕ) → IsTrue (is_digit c) → Inside c
in_digits c h = digit_inside c (range_low 0x30 0x39 c h) (range_high 0x30 0x39 c h)

in_letters : (c : ℕ) → IsTrue (is_ascii_letter c) → Inside c
in_letters c h =
    elim (or_cases (is_in_range 0x41 0x5A c) (is_in_range 0x61 0x7A c) h) [
      | inl e ↦ upper_inside c (range_low 0x41 0x5A c e) (range_high 0x41 0x5A c e)
      | inr e ↦ lower_inside c (range_low 0x61 0x7A c e) (range_high 0x61 0x7A c e)
    ]

hex_letter : (c : ℕ) → IsTrue (is_hex_digit c) → IsTrue (is_digit c || is_ascii_letter c)
hex_letter c h = grind arith

-- no such character ends literals
one_apart : (c d : ℕ) → IsTrue (not (ends_names d)) → IsTrue (c == d) → IsTrue (ends_names c) → ⊥
one_apart c d n g h = clash (ends_names d) n (subst (λ e. IsTrue (ends_names e)) (test_eq c d g) h)

pub x_apart : Apart is_x ends_names
unfolding Apart
x_apart c g h =
    elim (or_cases (c == 0x78) (c == 0x58) g) [
      | inl e ↦ one_apart c 0x78 refl e h
      | inr e ↦ one_apart c 0x58 refl e h
    ]

pub e_apart : Apart is_e ends_names
unfolding Apart
e_apart c g h =
    elim (or_cases (c == 0x65) (c == 0x45) g) [
      | inl e ↦ one_apart c 0x65 refl e h
      | inr e ↦ one_apart c 0x45 refl e h
    ]

pub point_apart : Apart is_point ends_names
unfolding Apart
point_apart c g h = one_apart c 0x2E refl g h

pub digit_apart : Apart is_digit ends_names
unfolding Apart
digit_apart c g h = inside_apart c (in_digits c g) h

pub hex_digit_apart : Apart is_hex_digit ends_names
unfolding Apart
hex_digit_apart c g h =
    elim (or_cases (is_digit c) (is_ascii_letter c) (hex_letter c g)) [
      | inl e ↦ inside_apart c (in_digits c e) h
      | inr e ↦ inside_apart c (in_letters c e) h
    ]

ascii_apart : (c : ℕ) → IsTrue (is_ascii_letter c || is_digit c || c == 0x24) → IsTrue (ends_names c) → ⊥
ascii_apart c g h =
    elim (or_cases _ (c == 0x24) g) [
      | inr e ↦ one_apart c 0x24 refl e h
      | inl k ↦
          elim (or_cases (is_ascii_letter c) (is_digit c) k) [
            | inl e ↦ inside_apart c (in_letters c e) h
            | inr e ↦ inside_apart c (in_digits c e) h
          ]
    ]

marks_small : (c : ℕ) → IsTrue (c == 0x2F || c == 0x2C || c == 0x5D || c == 0x7D || c == 0x3A || c == 0x22 || c == 0x27 || c == 0x5B || c == 0x7B) → c < 0x80
marks_small c h = grind arith

wide_apart : (c : ℕ) → IsTrue (is_wide_letter c) → IsTrue (ends_names c) → ⊥
wide_apart c g h =
    elim (or_cases (is_blank c) _ h) [
      | inl b ↦ clash (is_wide_letter c) (blank_not_wide c b) g
      | inr m ↦ omega (arith, marks_small c m, wide_past_ascii c g)
    ]

pub goes_on_apart : Apart goes_on ends_names
unfolding Apart
goes_on_apart c g h = elim (or_cases _ (is_wide_letter c) g) [ inl a ↦ ascii_apart c a h | inr w ↦ wide_apart c w h ]

pub whole_apart : Apart (λ c. goes_on c || c == 0x2D || c == 0x5F) ends_names
unfolding Apart
whole_apart c g h =
    elim (or_cases _ (c == 0x5F) g) [
      | inr e ↦ one_apart c 0x5F refl e h
      | inl k ↦ elim (or_cases (goes_on c) (c == 0x2D) k) [ inr e ↦ one_apart c 0x2D refl e h | inl w ↦ goes_on_apart c w h ]
    ]

-- so none of them stands where such a character, or nothing, does
pub fails_there : (p : ℕ → Bool) → Apart p ends_names → (n : Option ℕ) → IsTrue (end_or ends_names n) → IsTrue (no p n)
unfolding Apart
fails_there p a None h = refl
fails_there p a (Some c) h = fails (p c) refl
  where
    fails : (b : Bool) → p c ≡ b → IsTrue (not (p c))
    fails true e = absurd (a c e h)
    fails false e = ap not e

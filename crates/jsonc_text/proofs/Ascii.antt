-- A test that only ASCII passes sees the same in the first byte as in the first character.
use Rattle.std.proofs.Common.{ℕ, ◌+◌, ◌<◌, ◌≤◌, ◌≡◌, ◌∙◌, sym, ap, refl, List, [], ◌∷◌, ◌++◌, length, drop, get_or, arith, IsUtf8, IsTrue, Bool, true, false, IsCharBoundary, encode_utf8, encode_utf8_all, add-zero, length-drop, ◌⊎◌, inl, inr, chars, Option, Some, None, not, nat_lt, ◌&&◌, ◌||◌, ◌==◌}
use Rattle.std.proofs.lemmas.Str.{chars_past_char, IsUtf8-drop, byte_from_char, char_from_byte}
use Rattle.std.proofs.lemmas.Bool.{cases_lt}
use Rattle.std.proofs.lemmas.List.{get_or-drop}
use Rattle.jsonc_text.specs.Text.{rest, next, starts, no, is_digit, is_hex_digit}
use Rattle.jsonc_text.specs.Gaps.{is_blank}
use Rattle.jsonc_text.specs.Chars.{Steps}
use Rattle.jsonc_text.proofs.CharacterSteps.{steps_ascii}

-- only ASCII passes the test
abbrev pub OnlyAscii : (ℕ → Bool) → Type 0
OnlyAscii p = (c : ℕ) → IsTrue (p c) → c < 128

both_fail : (p : ℕ → Bool) (c d : ℕ) → OnlyAscii p → 128 ≤ c → 128 ≤ d → p c ≡ p d
both_fail p c d small h k = go (p c) (p d) refl refl
  where
    go : (x y : Bool) → p c ≡ x → p d ≡ y → p c ≡ p d
    go true y e f = absurd (omega (arith, small c e))
    go false true e f = absurd (omega (arith, small d f))
    go false false e f = e ∙ sym f

first_byte : (bs tail : List ℕ) (c : ℕ) → bs ≡ encode_utf8 c ++ tail → 0 < length bs → (c ≡ get_or bs 0 0) ⊎ ((128 ≤ c) × (128 ≤ get_or bs 0 0))
first_byte bs tail c e l = go (cases_lt c 128) (cases_lt (get_or bs 0 0) 128)
  where
    go : (c < 128) ⊎ (128 ≤ c) → (get_or bs 0 0 < 128) ⊎ (128 ≤ get_or bs 0 0) → (c ≡ get_or bs 0 0) ⊎ ((128 ≤ c) × (128 ≤ get_or bs 0 0))
    go (inl h) k = inl (sym (byte_from_char bs tail c e h))
    go (inr h) (inl k) = inl (char_from_byte bs tail c e k l)
    go (inr h) (inr k) = inr (h, k)

same_test : (p : ℕ → Bool) → OnlyAscii p → (c d : ℕ) → (c ≡ d) ⊎ ((128 ≤ c) × (128 ≤ d)) → p c ≡ p d
same_test p small c d (inl e) = ap p e
same_test p small c d (inr h) = both_fail p c d small h.0 h.1

first_test : (p : ℕ → Bool) → OnlyAscii p → (bs : List ℕ) → IsUtf8 bs → 0 < length bs → starts p (next (chars bs)) ≡ p (get_or bs 0 0)
first_test p small bs ([], (s, e)) l = let z : 0 ≡ length bs = ap length e in absurd (omega arith)
first_test p small bs (c ∷ cs, (s, e)) l =
    let q : bs ≡ encode_utf8 c ++ encode_utf8_all cs = sym e in
    ap (λ t. starts p (next t)) (chars_past_char bs (encode_utf8_all cs) c (c ∷ cs, (s, e)) q) ∙ same_test p small c (get_or bs 0 0) (first_byte bs (encode_utf8_all cs) c q l)

pub ascii_test : (p : ℕ → Bool) → OnlyAscii p → (bytes : List ℕ) (i : ℕ) → IsUtf8 bytes → IsCharBoundary bytes i → i < length bytes → starts p (next (rest bytes i)) ≡ p (get_or bytes i 0)
ascii_test p small bytes i u b l =
    first_test p small (drop i bytes) (IsUtf8-drop bytes i u b) (rw length-drop (omega arith)) ∙ ap p (get_or-drop i bytes 0 0 ∙ ap (λ n. get_or bytes n 0) (add-zero i))

starts_no : (p : ℕ → Bool) (n : Option ℕ) → starts p n ≡ false → IsTrue (no p n)
starts_no p None e = refl
starts_no p (Some c) e = ap not e

-- the same, as what does not follow
pub ascii_no : (p : ℕ → Bool) → OnlyAscii p → (bytes : List ℕ) (i : ℕ) → IsUtf8 bytes → IsCharBoundary bytes i → i < length bytes → p (get_or bytes i 0) ≡ false → IsTrue (no p (next (rest bytes i)))
ascii_no p small bytes i u b l e = starts_no p (next (rest bytes i)) (ascii_test p small bytes i u b l ∙ e)

test_eq : (c b : ℕ) → (c == b) ≡ true → c ≡ b
test_eq c b h = grind arith

pub one_small : (b : ℕ) → b < 128 → OnlyAscii (λ c. c == b)
one_small b l e h = grind arith

pub digit_small : OnlyAscii is_digit
digit_small e h = grind arith

pub hex_digit_small : OnlyAscii is_hex_digit
hex_digit_small e h = grind arith

-- an ASCII character that a test of its byte found, or found missing
pub here_at : (bytes : List ℕ) (i b : ℕ) → IsUtf8 bytes → i < length bytes → b < 128 → (get_or bytes i 0 == b) ≡ true → Steps bytes i b (i + 1)
here_at bytes i b u l a h =
    let e : get_or bytes i 0 ≡ b = test_eq (get_or bytes i 0) b h in
    rw e at (steps_ascii bytes i u l (rw e a))

pub other_at : (bytes : List ℕ) (i b : ℕ) → IsUtf8 bytes → IsCharBoundary bytes i → i < length bytes → b < 128 → (get_or bytes i 0 == b) ≡ false → IsTrue (no (λ c. c == b) (next (rest bytes i)))
other_at bytes i b u d l a h = ascii_no (λ c. c == b) (one_small b a) bytes i u d l h

-- U+0009 to U+000D and the space are the blanks of ASCII
pub ascii_blank : (c : ℕ) → c < 128 → ((nat_lt 8 c && nat_lt c 14) || c == 32) ≡ is_blank c
ascii_blank c h = grind arith

pub blank_step : (bytes : List ℕ) (i : ℕ) → IsUtf8 bytes → i < length bytes → get_or bytes i 0 < 128 → IsTrue ((nat_lt 8 (get_or bytes i 0) && nat_lt (get_or bytes i 0) 14) || get_or bytes i 0 == 32)
    → (c : ℕ) × IsTrue (is_blank c) × Steps bytes i c (i + 1)
blank_step bytes i u l a t = (get_or bytes i 0, sym (ascii_blank (get_or bytes i 0) a) ∙ t, steps_ascii bytes i u l a)

pub no_blank_step : (bytes : List ℕ) (i : ℕ) → IsUtf8 bytes → i < length bytes → get_or bytes i 0 < 128 → ((nat_lt 8 (get_or bytes i 0) && nat_lt (get_or bytes i 0) 14) || get_or bytes i 0 == 32) ≡ false
    → IsTrue (no is_blank (next (rest bytes i)))
no_blank_step bytes i u l a f = rw (steps_ascii bytes i u l a).0 (ap not (sym (ascii_blank (get_or bytes i 0) a) ∙ f))

-- past the space, ASCII has no blank
pub past_space : (bytes : List ℕ) (i : ℕ) → IsUtf8 bytes → i < length bytes → 32 < get_or bytes i 0 → get_or bytes i 0 < 128 → IsTrue (no is_blank (next (rest bytes i)))
past_space bytes i u l h a = no_blank_step bytes i u l a (no_test (get_or bytes i 0) h)
  where
    no_test : (c : ℕ) → 32 < c → ((nat_lt 8 c && nat_lt c 14) || c == 32) ≡ false
    no_test c h = grind arith

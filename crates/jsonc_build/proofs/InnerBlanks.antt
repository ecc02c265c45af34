-- The blanks of ASCII that end no line, by their bytes.
use Rattle.std.proofs.Common.{ℕ, ◌+◌, ◌<◌, ◌≡◌, ◌∙◌, refl, sym, ap, Bool, false, not, ◌||◌, ◌==◌, List, length, get_or, arith, IsTrue, IsUtf8}
use Rattle.std.proofs.lemmas.Bool.{agree_below_at}
use Rattle.jsonc_text.specs.Text.{rest, next, no}
use Rattle.jsonc_text.specs.Chars.{Steps}
use Rattle.jsonc_text.proofs.CharacterSteps.{steps_ascii}
use Rattle.jsonc_sound.specs.Leaves.{is_inner_blank}

-- the space, the tab, U+000B and U+000C
abbrev pub is_one_of_four : ℕ → Bool
is_one_of_four c = c == 0x20 || c == 9 || c == 11 || c == 12

same_test : (c : ℕ) → c < 128 → is_one_of_four c ≡ is_inner_blank c
same_test c h = agree_below_at is_one_of_four is_inner_blank 128 c refl h

pub inner_blank_step : (bytes : List ℕ) (i : ℕ) → IsUtf8 bytes → i < length bytes → get_or bytes i 0 < 128 → IsTrue (is_one_of_four (get_or bytes i 0)) → (c : ℕ) × IsTrue (is_inner_blank c) × Steps bytes i c (i + 1)
inner_blank_step bytes i u l a t = (get_or bytes i 0, sym (same_test (get_or bytes i 0) a) ∙ t, steps_ascii bytes i u l a)

pub no_inner_blank_step : (bytes : List ℕ) (i : ℕ) → IsUtf8 bytes → i < length bytes → get_or bytes i 0 < 128 → is_one_of_four (get_or bytes i 0) ≡ false → IsTrue (no is_inner_blank (next (rest bytes i)))
no_inner_blank_step bytes i u l a f = rw (steps_ascii bytes i u l a).0 (ap not (sym (same_test (get_or bytes i 0) a) ∙ f))

-- past the space, ASCII has none
pub no_inner_blank_past : (bytes : List ℕ) (i : ℕ) → IsUtf8 bytes → i < length bytes → 32 < get_or bytes i 0 → get_or bytes i 0 < 128 → IsTrue (no is_inner_blank (next (rest bytes i)))
no_inner_blank_past bytes i u l h a = no_inner_blank_step bytes i u l a (none (get_or bytes i 0) h)
  where
    none : (c : ℕ) → 32 < c → is_one_of_four c ≡ false
    none c g = grind arith

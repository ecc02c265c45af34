-- What is spelled for characters is characters.
use Rattle.std.proofs.Common.{ℕ, ◌≡◌, ◌<◌, ◌/◌, ◌%◌, Bool, true, false, ◌&&◌, Option, Some, None, List, [], ◌∷◌, ◌++◌, refl, arith, if◌then◌else◌}
use Rattle.std.proofs.Math.Utf8.{scalar, scalars, low_scalar}
use Rattle.std.specs.Fmt.{digit_glyph}
use Rattle.std.specs.Char.{is_control}
use Rattle.jsonc_text.specs.Spelling.{short_escape_of, unit_escape, spelled_by, spelled_char, spelled_inside, spelled}
use Rattle.jsonc_layout.proofs.lemmas.input.Spelled.{control_small}

both : (a b : Bool) → a ≡ true → b ≡ true → (a && b) ≡ true
both true b h k = k
both false b h k = h

first_of : (a b : Bool) → (a && b) ≡ true → a ≡ true
first_of true b h = refl
first_of false b h = h

second_of : (a b : Bool) → (a && b) ≡ true → b ≡ true
second_of true b h = h
second_of false b h = let never : ⊥ = cc in absurd never

scalars_append : (xs ys : List ℕ) → scalars xs ≡ true → scalars ys ≡ true → scalars (xs ++ ys) ≡ true
scalars_append [] ys h k = k
scalars_append (x ∷ xs) ys h k = both (scalar x) (scalars (xs ++ ys)) (first_of (scalar x) (scalars xs) h) (scalars_append xs ys (second_of (scalar x) (scalars xs) h) k)

short_low : (c d : ℕ) → short_escape_of c ≡ Some d → d < 55296
short_low c d e = grind arith

glyph_low : (k : ℕ) → k < 16 → digit_glyph false k < 55296
glyph_low k h = grind arith

-- low characters
two_low : (a b : ℕ) → a < 55296 → b < 55296 → scalars (a ∷ b ∷ []) ≡ true
two_low a b h k = both (scalar a) (scalars (b ∷ [])) (low_scalar a h) (both (scalar b) true (low_scalar b k) refl)

unit_scalars : (c : ℕ) → c < 256 → scalars (unit_escape c) ≡ true
unit_scalars c h =
    let high : ℕ = digit_glyph false (c / 16) in
    let low : ℕ = digit_glyph false (c % 16) in
    scalars_append (0x5C ∷ 0x75 ∷ []) (0x30 ∷ 0x30 ∷ high ∷ low ∷ []) refl
    (scalars_append (0x30 ∷ 0x30 ∷ []) (high ∷ low ∷ []) refl (two_low high low (glyph_low (c / 16) (omega arith)) (glyph_low (c % 16) (omega arith))))

plain_scalars : (b : Bool) (c : ℕ) → is_control c ≡ b → scalar c ≡ true → scalars (if b then unit_escape c else c ∷ []) ≡ true
plain_scalars true c e h = unit_scalars c (control_small c e)
plain_scalars false c e h = both (scalar c) true h refl

char_scalars : (s : Option ℕ) (c : ℕ) → short_escape_of c ≡ s → scalar c ≡ true → scalars (spelled_by s c) ≡ true
char_scalars (Some d) c e h = two_low 0x5C d (omega arith) (short_low c d e)
char_scalars None c e h = plain_scalars (is_control c) c refl h

inside_scalars : (s : List ℕ) → scalars s ≡ true → scalars (spelled_inside s) ≡ true
inside_scalars [] h = refl
inside_scalars (c ∷ s) h = scalars_append (spelled_char c) (spelled_inside s) (char_scalars (short_escape_of c) c refl (first_of (scalar c) (scalars s) h)) (inside_scalars s (second_of (scalar c) (scalars s) h))

pub spelled_characters : (s : List ℕ) → scalars s ≡ true → scalars (spelled s) ≡ true
spelled_characters s h = scalars_append (0x22 ∷ []) (spelled_inside s ++ 0x22 ∷ []) refl (scalars_append (spelled_inside s) (0x22 ∷ []) (inside_scalars s h) refl)

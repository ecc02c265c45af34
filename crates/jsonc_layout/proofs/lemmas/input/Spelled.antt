-- What is spelled stands for what it was spelled from.
use Rattle.std.proofs.Common.{ℕ, ◌≡◌, ◌≢◌, ◌+◌, ◌*◌, ◌/◌, ◌%◌, ◌<◌, ◌≤◌, refl, sym, ap, Bool, true, false, not, ◌&&◌, ◌==◌, Option, Some, None, List, [], ◌∷◌, ◌++◌, IsTrue, arith, append_assoc, if◌then◌else◌, ◌⊎◌, inl, inr, ◌∙◌, subst}
use Rattle.std.proofs.lemmas.Bool.{cases_lt}
use Rattle.std.specs.Fmt.{digit_glyph}
use Rattle.std.specs.Char.{digit_value, is_control}
use Rattle.jsonc_text.specs.Options.{Options}
use Rattle.jsonc_text.specs.Text.{is_hex_digit}
use Rattle.jsonc_text.specs.Strings.{gives, meaning, hex4, is_surrogate, Piece, Pieces, Decodes, IsString}
use Rattle.jsonc_text.specs.Spelling.{short_escape_of, unit_escape, spelled_by, spelled_char, spelled_inside, spelled}

-- one of two ways
either : {G : Type 0} (b : Bool) (x y d : Option ℕ) → (if b then x else y) ≡ d → (IsTrue b → x ≡ d → G) → (y ≡ d → G) → G
either true x y d e f g = f refl e
either false x y d e f g = g e

test_is : (c k : ℕ) → IsTrue (c == k) → c ≡ k
test_is c k h = grind arith

-- where the test found c
found : (c k m d : ℕ) → meaning 0x22 m ≡ gives k → IsTrue (c == k) → Some m ≡ Some d → meaning 0x22 d ≡ gives c
found c k m d e h p =
    let same : c ≡ k = test_is c k h in
    let other : m ≡ d = cc in
    rw (← other, same) e

short_gives : (c d : ℕ) → short_escape_of c ≡ Some d → meaning 0x22 d ≡ gives c
short_gives c d e =
    either (c == 0x22) _ _ _ e (found c 0x22 0x22 d refl) (λ e.
    either (c == 0x5C) _ _ _ e (found c 0x5C 0x5C d refl) (λ e.
    either (c == 0x08) _ _ _ e (found c 0x08 0x62 d refl) (λ e.
    either (c == 0x0C) _ _ _ e (found c 0x0C 0x66 d refl) (λ e.
    either (c == 0x0A) _ _ _ e (found c 0x0A 0x6E d refl) (λ e.
    either (c == 0x0D) _ _ _ e (found c 0x0D 0x72 d refl) (λ e.
    either (c == 0x09) _ _ _ e (found c 0x09 0x74 d refl) (λ e. let never : ⊥ = cc in absurd never)))))))

never_short : (c : ℕ) → short_escape_of c ≡ None → (c ≢ 0x22) × (c ≢ 0x5C)
never_short c e = (
  λ h. let other : short_escape_of c ≡ Some 0x22 = rw h refl in cc,
  λ h. let other : short_escape_of c ≡ Some 0x5C = rw h refl in cc,
)

-- hex digits, and what they write
glyph_digit : (k : ℕ) → k < 10 → digit_glyph false k ≡ 48 + k
glyph_digit k h = grind arith

glyph_letter : (k : ℕ) → 10 ≤ k → digit_glyph false k ≡ 87 + k
glyph_letter k h = grind arith

digit_value_of : (k : ℕ) → k < 10 → digit_value (48 + k) ≡ k
digit_value_of k h = grind arith

letter_value_of : (k : ℕ) → 10 ≤ k → k < 16 → digit_value (87 + k) ≡ k
letter_value_of k h g = grind arith

is_digit_hex : (k : ℕ) → k < 10 → IsTrue (is_hex_digit (48 + k))
is_digit_hex k h = grind arith

is_letter_hex : (k : ℕ) → 10 ≤ k → k < 16 → IsTrue (is_hex_digit (87 + k))
is_letter_hex k h g = grind arith

value_of_glyph : (k : ℕ) → k < 16 → digit_value (digit_glyph false k) ≡ k
value_of_glyph k h = go (cases_lt k 10)
  where
    go : (k < 10) ⊎ (10 ≤ k) → digit_value (digit_glyph false k) ≡ k
    go (inl g) = ap digit_value (glyph_digit k g) ∙ digit_value_of k g
    go (inr g) = ap digit_value (glyph_letter k g) ∙ letter_value_of k g h

glyph_hex : (k : ℕ) → k < 16 → IsTrue (is_hex_digit (digit_glyph false k))
glyph_hex k h = go (cases_lt k 10)
  where
    go : (k < 10) ⊎ (10 ≤ k) → IsTrue (is_hex_digit (digit_glyph false k))
    go (inl g) = ap is_hex_digit (glyph_digit k g) ∙ is_digit_hex k g
    go (inr g) = ap is_hex_digit (glyph_letter k g) ∙ is_letter_hex k g h

pub control_small : (c : ℕ) → IsTrue (is_control c) → c < 256
control_small c h = grind arith

of_small_digits : (a b c x y : ℕ) → x ≡ c / 16 → y ≡ c % 16 → 0 * 256 + (x * 16 + y) ≡ c
of_small_digits a b c x y e f = omega arith

small_unit : (c : ℕ) → c < 256 → hex4 0x30 0x30 (digit_glyph false (c / 16)) (digit_glyph false (c % 16)) ≡ c
small_unit c h = of_small_digits 0 0 c _ _ (value_of_glyph (c / 16) (omega arith)) (value_of_glyph (c % 16) (omega arith))

all_hex : (a b : Bool) → IsTrue a → IsTrue b → IsTrue (true && true && a && b)
all_hex true b h g = g
all_hex false b h g = h

not_surrogate : (c : ℕ) → c < 256 → IsTrue (not (is_surrogate c))
not_surrogate c h = grind arith

unit_piece : (o : Options) (c : ℕ) (r : List ℕ) → c < 256 → Piece o 0x22 (unit_escape c ++ r) (c ∷ []) r
unit_piece o c r h =
    let e = small_unit c h in
    subst (λ x. Piece o 0x22 (unit_escape c ++ r) (x ∷ []) r) e
    (Piece.unit (all_hex _ _ (glyph_hex (c / 16) (omega arith)) (glyph_hex (c % 16) (omega arith))) (rw e (not_surrogate c h)))

plain_piece : (o : Options) (b : Bool) (c : ℕ) (r : List ℕ) → is_control c ≡ b → short_escape_of c ≡ None → Piece o 0x22 ((if b then unit_escape c else c ∷ []) ++ r) (c ∷ []) r
plain_piece o true c r e f = unit_piece o c r (control_small c e)
plain_piece o false c r e f = let other = never_short c f in Piece.itself other.0 other.1

char_piece : (o : Options) (s : Option ℕ) (c : ℕ) (r : List ℕ) → short_escape_of c ≡ s → Piece o 0x22 (spelled_by s c ++ r) (c ∷ []) r
char_piece o (Some d) c r e = Piece.plain (short_gives c d e)
char_piece o None c r e = plain_piece o (is_control c) c r refl e

pieces : (o : Options) (v r : List ℕ) → Pieces o 0x22 (spelled_inside v ++ r) v r
pieces o [] r = Pieces.done
pieces o (c ∷ v) r =
    subst (λ t. Pieces o 0x22 t (c ∷ v) r) (sym (append_assoc (spelled_char c) (spelled_inside v) r))
    (Pieces.piece (char_piece o (short_escape_of c) c (spelled_inside v ++ r) refl) (pieces o v r) refl)

pub inside_decodes : (o : Options) (v : List ℕ) → Decodes o 0x22 (spelled_inside v) v
inside_decodes o v = pieces o v (0x22 ∷ [])

pub spelled_string : (o : Options) (v r : List ℕ) → IsString o (spelled v ++ r) v r
spelled_string o v r = (0x22, spelled_inside v, refl, append_assoc (0x22 ∷ spelled_inside v) (0x22 ∷ []) r, inside_decodes o v)

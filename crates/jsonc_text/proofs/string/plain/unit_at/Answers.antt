use Rattle.std.proofs.Common.{arith, ◌≡◌, ◌+◌, ◌*◌, ◌<◌, ◌||◌, nat_lt, false, ℕ, refl}
use Rattle.std.specs.Char.{digit_value}
use Rattle.jsonc_text.specs.Strings.{hex4}
use Rattle.jsonc_text.proofs.lemmas.string.Escapes.{unit_found}
use Rattle.jsonc_text.proofs.string.plain.unit_at.Goals as goal

unit_value : (x y z w a b c d : ℕ) → x ≡ digit_value a → y ≡ digit_value b → z ≡ digit_value c → w ≡ digit_value d → (x * 16 + y) * 256 + (z * 16 + w) ≡ hex4 a b c d
unit_value x y z w a b c d e f g h = rw (e, f, g, h) refl

all_small : (x y z w : ℕ) → (((nat_lt 15 x || nat_lt 15 y) || nat_lt 15 z) || nat_lt 15 w) ≡ false → (x < 16) × (y < 16) × (z < 16) × (w < 16)
all_small x y z w h = grind arith

pub returns : goal.returns
returns c =
    let small = all_small c.hex_at-a.result c.hex_at-b.result c.hex_at-c.result c.hex_at-d.result c.if-a-b.false in
    let a = c.hex_at-a.ensures small.0 in
    let b = c.hex_at-b.ensures small.1 in
    let x = c.hex_at-c.ensures small.2 in
    let d = c.hex_at-d.ensures small.3 in
    unit_found _ _ _ _ _ _ _ c.requires.backslash c.requires.u a.here b.here x.here d.here a.is_hex b.is_hex x.is_hex d.is_hex (unit_value _ _ _ _ a.digit b.digit x.digit d.digit a.writes b.writes x.writes d.writes)

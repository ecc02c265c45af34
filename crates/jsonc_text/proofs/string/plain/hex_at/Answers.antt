use Rattle.std.proofs.Common.{◌≡◌, ℕ, ◌<◌, IsTrue, IsUtf8, List, length, get_or}
use Rattle.std.specs.Char.{digit_value}
use Rattle.jsonc_text.specs.Text.{is_hex_digit}
use Rattle.jsonc_text.specs.string.Escapes.{HasHexDigit}
use Rattle.jsonc_text.proofs.Ascii.{hex_digit_small}
use Rattle.jsonc_text.proofs.CharacterSteps.{steps_ascii}
use Rattle.jsonc_text.proofs.string.plain.hex_at.Goals as goal

stands : (bytes : List ℕ) (place v : ℕ) → IsUtf8 bytes → place < length bytes → IsTrue (is_hex_digit (get_or bytes place 0)) → v ≡ digit_value (get_or bytes place 0) → HasHexDigit bytes place v
stands bytes place v u l h e =
    record { digit = get_or bytes place 0; is_hex = h; here = steps_ascii bytes place u l (hex_digit_small _ h); writes = e }

pub returns : goal.returns
returns c = λ h.
    let same = c.as_bytes.ensures.value in
    stands c.args.text.now c.args.place _ c.utf8.text c.requires (rw same at (c.hex_of.ensures.is_hex h)) (rw same at (c.hex_of.ensures.value h))

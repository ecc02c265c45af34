use Rattle.std.proofs.Common.{◌≡◌, ◌∷◌, string_bytes, encode_utf8_all}
use Rattle.jsonc_text.specs.Spelling.{spelled_inside}
use Rattle.jsonc_layout.proofs.input.spelling.spell.Given as goal

abbrev pub invariant-loop-character : goal.invariant-loop-character
invariant-loop-character g l = string_bytes l.literal ≡ encode_utf8_all (0x22 ∷ spelled_inside l.yielded)

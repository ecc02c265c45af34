use Rattle.std.proofs.Common.{refl, List, ℕ, [], ◌∷◌, arith, rules}
use Rattle.std.specs.Str.{IsAscii}
use Rattle.std.proofs.lemmas.Str.{IsUtf8-from_ascii}
use Rattle.jsonc_text.proofs.CharacterSteps.{steps_ascii}
use Rattle.jsonc_tests.proofs.tests.tokens.decode_provided.Goals as goal

pub parse_string_with_char_provider-requires : goal.parse_string_with_char_provider-requires
parse_string_with_char_provider-requires g c κs =
    let bytes : List ℕ = 39 ∷ 97 ∷ 92 ∷ 110 ∷ 39 ∷ 120 ∷ [] in
    let ascii : IsAscii (39 ∷ 97 ∷ 92 ∷ 110 ∷ 39 ∷ 120 ∷ []) = search rules in (
      (refl, tt),
      (39, record { allowed = refl; ascii = omega arith; here = steps_ascii bytes 0 (IsUtf8-from_ascii bytes ascii) (omega arith) (omega arith) }),
    )

use Rattle.std.proofs.Common.{◌≡◌, ◌∷◌, chars, string_bytes}
use Rattle.jsonc_text.specs.Text.{byte_length}
use Rattle.jsonc_parser.specs.paths.Found.{names_of}
use Rattle.jsonc_parser.specs.patch.Reading.{text_so_far}
use Rattle.jsonc_parser.proofs.patch.pointer.read_tokens.Given as goal

abbrev pub invariant-loop-c : goal.invariant-loop-c
invariant-loop-c g l = record {
  read : text_so_far (names_of l.tokens.items) (chars (string_bytes l.token)) l.tilde ≡ 0x2F ∷ l.yielded;
  place : l.place ≡ byte_length l.yielded;
}

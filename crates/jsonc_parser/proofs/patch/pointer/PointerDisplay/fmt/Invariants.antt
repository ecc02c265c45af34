use Rattle.std.proofs.Common.{encode_utf8_all, take}
use Rattle.std.specs.Fmt.{HasWrittenStyled, IsFlush}
use Rattle.jsonc_parser.specs.paths.Found.{names_of}
use Rattle.jsonc_parser.specs.patch.Pointer.{pointer_text}
use Rattle.jsonc_parser.proofs.patch.pointer.PointerDisplay.fmt.Given as goal

abbrev pub invariant-loop-token : goal.invariant-loop-token
invariant-loop-token g l =
    IsFlush l.fn.f → HasWrittenStyled g.W.Write.write_str_gives l.fn.f (encode_utf8_all (pointer_text (names_of (take l.token-index l.self.tokens.items)))) l.f

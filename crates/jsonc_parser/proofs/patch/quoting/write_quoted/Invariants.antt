use Rattle.std.proofs.Common.{encode_utf8_all}
use Rattle.std.specs.Fmt.{HasWrittenStyled, IsFlush}
use Rattle.jsonc_parser.specs.patch.Quoting.{shown_inside}
use Rattle.jsonc_parser.proofs.patch.quoting.write_quoted.Given as goal

abbrev pub invariant-loop-c : goal.invariant-loop-c
invariant-loop-c g l = IsFlush l.fn.f → HasWrittenStyled g.W.Write.write_str_gives l.fn.f (encode_utf8_all (shown_inside l.yielded)) l.f

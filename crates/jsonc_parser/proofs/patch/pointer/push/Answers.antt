use Rattle.std.proofs.lemmas.Str.{IsUtf8-string_bytes}
use Rattle.jsonc_parser.proofs.lemmas.patch.Texts.{char_behind}
use Rattle.jsonc_parser.proofs.patch.pointer.push.Goals as goal

pub returns-in-Ok-clause-pushed : goal.returns-in-Ok-clause-pushed
returns-in-Ok-clause-pushed g c = char_behind _ _ c.args.c (IsUtf8-string_bytes c.args.token.now) c.ranges.c.0 c.in-Ok.ensures.bytes

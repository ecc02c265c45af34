use Rattle.std.proofs.lemmas.Str.{IsUtf8-string_bytes}
use Rattle.jsonc_parser.proofs.lemmas.patch.Texts.{char_behind}
use Rattle.jsonc_engine.proofs.json.output.put.Goals as goal

pub returns-in-Ok : goal.returns-in-Ok
returns-in-Ok g c = char_behind _ _ c.args.c (IsUtf8-string_bytes c.args.written.now) c.ranges.c.0 c.in-Ok.ensures.bytes

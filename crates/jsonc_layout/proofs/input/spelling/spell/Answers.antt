use Rattle.std.proofs.Common.{sym, ◌∙◌, map-id}
use Rattle.std.proofs.lemmas.Iterator.{YieldsList-from_chars}
use Rattle.std.proofs.lemmas.Iterator.Consumers.{YieldsList-end}
use Rattle.std.proofs.lemmas.Str.{chars_from_encodes, IsUtf8-string_bytes}
use Rattle.jsonc_layout.proofs.lemmas.input.Written.{more_written, all_written}
use Rattle.jsonc_layout.proofs.input.spelling.spell.Goals as goal

pub loop-character-preserved : goal.loop-character-preserved
loop-character-preserved g c = more_written _ _ c.loop-character.yielded c.in-Some.character c.loop-character.invariant c.in_ok-push_spelled.ensures

pub returns : goal.returns
returns g c =
    let end = YieldsList-end (YieldsList-from_chars c.args.text.now c.utf8.text cc) c.loop-character.yielded _ c.loop-character.yielded_by _ _ c.in-None.is c.next.ensures.steps in
    let all = sym (map-id c.loop-character.yielded) ∙ end.0 in
    let bytes = all_written _ _ c.loop-character.yielded _ all c.loop-character.invariant c.in_ok-push-2.ensures.bytes in
    record { bytes = bytes; characters = sym (chars_from_encodes _ _ (IsUtf8-string_bytes c.push-2.new.self) (sym bytes)) }

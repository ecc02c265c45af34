use Rattle.std.proofs.lemmas.Str.{IsUtf8-string_bytes}
use Rattle.jsonc_text.proofs.lemmas.string.Decoding.{part_appended, both_appended}
use Rattle.jsonc_text.proofs.string.decode.append.Goals as goal

pub returns-in_default : goal.returns-in_default
returns-in_default g c = rw c.in_default.is (part_appended _ _ _ (IsUtf8-string_bytes c.args.copy.now) c.in_ok-push_str.ensures.bytes)

pub returns : goal.returns
returns g c =
    rw c.in-Some.is (both_appended _ _ _ _ _ (IsUtf8-string_bytes c.args.copy.now) (IsUtf8-string_bytes c.push_str.new.self) (IsUtf8-string_bytes c.push.new.self) c.in_ok-push_str.ensures.bytes c.in_ok-push.ensures.bytes)

use Rattle.std.proofs.Common.{◌∙◌, ap, chars, string_bytes, ◌++◌, arith}
use Rattle.std.proofs.lemmas.Str.{IsUtf8-string_bytes, chars-append}
use Rattle.jsonc_format.proofs.Texts.{one_byte}
use Rattle.jsonc_format.proofs.output.put.Goals as goal

pub returns-in-Ok : goal.returns-in-Ok
returns-in-Ok g c =
    ap chars c.in-Ok.ensures.bytes ∙ ap (λ s. chars (string_bytes c.args.out.now ++ s)) (one_byte c.as_bytes.result.now c.args.text.now c.as_bytes.ensures.value (omega (arith, c.in-len1.len_below, c.in-len1.len_at_least)) c.if-byte-lt128.true)
    ∙ chars-append (string_bytes c.args.out.now) c.args.text.now (IsUtf8-string_bytes c.args.out.now)

pub returns-in-Ok-push_str : goal.returns-in-Ok-push_str
returns-in-Ok-push_str g c = ap chars c.in-Ok-push_str.ensures.bytes ∙ chars-append (string_bytes c.args.out.now) c.args.text.now (IsUtf8-string_bytes c.args.out.now)

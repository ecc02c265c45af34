use Rattle.std.proofs.Common.{refl, ◌+◌}
use Rattle.jsonc_text.proofs.lemmas.string.Decoding.{quoted_run, run_holds_none, before_quote}
use Rattle.jsonc_text.proofs.lemmas.string.QuotedStrings.{scanned_of_quoted}
use Rattle.jsonc_scan.proofs.string.plain_string.Goals as goal

pub returns : goal.returns
returns g c = λ o.
    let opens = c.requires.opens in
    let closes = c.if-not-has_byte.ensures.here refl in
    let run = c.requires.run in
    record {
      stands = scanned_of_quoted o 0x22 _ _ _ _ _ refl (quoted_run o.extended_escapes 0x22 _ _ _ _ c.utf8.text opens run c.range.ensures.value closes) refl;
      lent = record {
        copied = (λ b. absurd b, λ h. absurd (run_holds_none 0x22 _ _ _ c.utf8.text refl opens run closes h));
        slice = λ b. before_quote c.args.text.now _ (c.args.start + 1) c.args.stop c.range.ensures.value;
      };
      escaped = λ b. absurd b;
    }

use Rattle.std.proofs.Common.{refl, ap, sym, ◌+◌, slice_range, chars}
use Rattle.jsonc_text.proofs.lemmas.string.Decoding.{quoted_run, run_holds_none, before_quote}
use Rattle.jsonc_text.proofs.lemmas.string.QuotedStrings.{scanned_of_quoted}
use Rattle.jsonc_scan.proofs.string.plain_end.Goals as goal

pub returns : goal.returns
returns c =
    let opens = c.requires.opens in
    let closes = c.if-not-has_byte.ensures.here refl in
    let run = c.requires.run in
    let inside = slice_range c.args.text.now (c.args.start + 1) c.args.stop in
    record {
      stands = λ o. scanned_of_quoted o 0x22 _ _ _ _ _ refl (quoted_run o.extended_escapes 0x22 _ inside _ _ c.utf8.text opens run refl closes) (ap chars (sym (before_quote c.args.text.now inside (c.args.start + 1) c.args.stop refl)));
      plain = run_holds_none 0x22 _ _ _ c.utf8.text refl opens run closes;
    }

use Rattle.std.proofs.Common.{None, Some, ◌∙◌, lit<, sym}
use Rattle.std.proofs.lemmas.Str.Pattern.{strip_prefix_char}
use Rattle.jsonc_engine.proofs.Strings.{quote_none, quote_some}
use Rattle.jsonc_engine.proofs.json.literal.is_json_string.Goals as goal

pub returns-in-Some : goal.returns-in-Some
returns-in-Some c =
    c.is_plain.ensures ∙ sym (quote_some c.args.literal.now c.in-Some.rest.now (strip_prefix_char 0x22 c.args.literal.now (Some c.in-Some.rest) c.in-Some.ensures.cases (lit< tt)))

pub returns-in-None : goal.returns-in-None
returns-in-None c =
    sym (quote_none c.args.literal.now c.utf8.literal (strip_prefix_char 0x22 c.args.literal.now None c.in-None.ensures.cases (lit< tt)))

use Rattle.std.proofs.Common.{Some, lit<, refl}
use Rattle.std.proofs.lemmas.Str.Pattern.{strip_suffix_char}
use Rattle.jsonc_program.proofs.EditTexts.{loses_more}
use Rattle.jsonc_program.proofs.edit.comment.without_end.Goals as goal

pub returns-in-Some : goal.returns-in-Some
returns-in-Some c =
    loses_more c.args.text.now c.in-Some.rest.now c.without_return.result.now 0x0A refl (strip_suffix_char 0x0A c.args.text.now (Some c.in-Some.rest) c.in-Some.ensures.cases (lit< tt)) c.without_return.ensures

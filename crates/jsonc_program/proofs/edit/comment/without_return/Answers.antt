use Rattle.std.proofs.Common.{Some, lit<, refl}
use Rattle.std.proofs.lemmas.Str.Pattern.{strip_suffix_char}
use Rattle.jsonc_program.proofs.EditTexts.{loses, stays}
use Rattle.jsonc_program.proofs.edit.comment.without_return.Goals as goal

pub returns-in-Some : goal.returns-in-Some
returns-in-Some c = loses c.args.text.now c.in-Some.rest.now 0x0D refl (strip_suffix_char 0x0D c.args.text.now (Some c.in-Some.rest) c.in-Some.ensures.cases (lit< tt))

pub returns-in-None : goal.returns-in-None
returns-in-None c = stays c.args.text.now

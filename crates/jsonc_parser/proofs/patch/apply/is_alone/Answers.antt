use Rattle.std.proofs.Common.{◌∙◌, sym}
use Rattle.std.proofs.lemmas.Bool.{false≢true}
use Rattle.jsonc_parser.proofs.lemmas.patch.Chains.{no_rest}
use Rattle.jsonc_parser.proofs.patch.apply.is_alone.Goals as goal

pub returns-then-not-is_empty : goal.returns-then-not-is_empty
returns-then-not-is_empty g c = λ e. absurd (false≢true e)

pub returns : goal.returns
returns g c = λ e. (sym c.is_one_edit.ensures ∙ e, no_rest c.args.rest.now c.is_empty.result c.is_empty.ensures c.if-not-is_empty.false)

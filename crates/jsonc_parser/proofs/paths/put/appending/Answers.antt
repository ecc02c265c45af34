use Rattle.std.proofs.Common.{◌∙◌, ◌+◌, ap}
use Rattle.jsonc_layout.specs.input.Views.{chars_of, plain}
use Rattle.jsonc_parser.proofs.lemmas.paths.ChosenEdit.{appends_so, sliced}
use Rattle.jsonc_parser.proofs.paths.put.appending.Goals as goal

pub returns-in-Ok-nested-clause-appends : goal.returns-in-Ok-nested-clause-appends
returns-in-Ok-nested-clause-appends g c =
    appends_so c.args.names.now c.args.count c.index-names-count.result c.requires c.args.path c.in-Ok.name c.in-Ok-nested.value (plain c.args.value) (c.in-Ok.ensures.copy ∙ ap chars_of c.index-names-count.is)
    (sliced c.args.names.now (c.args.count + 1) (plain c.in-Ok-nested.value) (plain c.args.value) c.in-Ok-nested.ensures.nested)

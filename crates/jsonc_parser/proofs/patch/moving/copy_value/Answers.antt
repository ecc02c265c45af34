use Rattle.jsonc_layout.specs.input.Views.{plain}
use Rattle.jsonc_parser.specs.patch.Pointer.{tokens_of}
use Rattle.jsonc_parser.proofs.lemmas.patch.Chains.{copied}
use Rattle.jsonc_parser.proofs.lemmas.patch.Edited.{kept_same}
use Rattle.jsonc_parser.proofs.lemmas.patch.Failing.{copies_not, uncopied}
use Rattle.jsonc_parser.proofs.patch.moving.copy_value.Goals as goal

pub returns-in-Ok-add-clause-made : goal.returns-in-Ok-add-clause-made
returns-in-Ok-add-clause-made g c = copied c.args.doc.now c.add.new.doc (tokens_of c.args.from.now) (tokens_of c.args.path.now) c.in-Ok.value c.in-Ok.ensures.taken c.in-Ok-add.ensures.made

pub returns-clause-fails : goal.returns-clause-fails
returns-clause-fails g c = copies_not c.args.doc.now (tokens_of c.args.from.now) (tokens_of c.args.path.now) (plain c.in-Ok.value) c.in-Err-add.cause c.in-Ok.ensures.taken c.in-Err-add.ensures.fails

pub returns-in-Err-clause-kept : goal.returns-in-Err-clause-kept
returns-in-Err-clause-kept g c = kept_same c.args.doc.now

pub returns-in-Err-clause-fails : goal.returns-in-Err-clause-fails
returns-in-Err-clause-fails g c = λ d shown. uncopied (tokens_of c.args.from.now) (tokens_of c.args.path.now) d.value c.in-Err.cause (c.in-Err.ensures.fails d shown)

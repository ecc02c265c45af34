use Rattle.std.proofs.Common.{refl}
use Rattle.jsonc_layout.specs.input.Views.{plain}
use Rattle.jsonc_parser.specs.patch.Pointer.{tokens_of}
use Rattle.jsonc_parser.proofs.lemmas.patch.MergeChains.{added_not, not_there, set_other, set_same, there_so}
use Rattle.jsonc_parser.proofs.patch.merging.set_value.Goals as goal

pub returns-in_default-clause-fails : goal.returns-in_default-clause-fails
returns-in_default-clause-fails g c = λ d shown place. tt

pub returns-in-Ok-true-clause-set : goal.returns-in-Ok-true-clause-set
returns-in-Ok-true-clause-set g c =
    let doc = c.args.doc.now in
    let tokens = tokens_of c.args.pointer.now in
    set_same doc doc tokens (plain c.args.patch.now) refl (there_so doc tokens (plain c.args.patch.now) (plain c.in-Ok.new) c.in-Ok.ensures _ c.in-Ok-true.ensures.decided c.in-Ok-true.field-0-test)

pub returns-in-Ok-add-clause-set : goal.returns-in-Ok-add-clause-set
returns-in-Ok-add-clause-set g c =
    let doc = c.args.doc.now in
    let tokens = tokens_of c.args.pointer.now in
    set_other doc c.add.new.doc tokens (plain c.args.patch.now) (plain c.in-Ok.new) c.in-Ok.ensures
    (not_there doc tokens (plain c.args.patch.now) (plain c.in-Ok.new) c.in-Ok.ensures _ c.in-Ok-false.ensures.decided c.in-Ok-false.field-0-test) c.in-Ok-add.ensures.made

pub returns-clause-fails : goal.returns-clause-fails
returns-clause-fails g c = λ d shown place. c.in-Err.ensures.fails d shown

pub returns-in-Ok-false-clause-fails : goal.returns-in-Ok-false-clause-fails
returns-in-Ok-false-clause-fails g c = added_not c.args.doc.now (tokens_of c.args.pointer.now) (plain c.in-Ok.new) c.in-Err-add.cause c.in-Err-add.ensures.fails

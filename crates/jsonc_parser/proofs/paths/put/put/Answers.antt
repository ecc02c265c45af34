use Rattle.std.proofs.Common.{subst}
use Rattle.jsonc_layout.specs.input.Views.{plain}
use Rattle.jsonc_run.specs.Edits.{operation_of, unsorted}
use Rattle.jsonc_parser.specs.paths.Choices.{Chooses}
use Rattle.jsonc_parser.specs.paths.Found.{names_of}
use Rattle.jsonc_parser.proofs.lemmas.paths.EditOutcome.{for_want, put_made, put_refused}
use Rattle.jsonc_parser.proofs.lemmas.paths.Depths.{decided, decided_not}
use Rattle.jsonc_parser.proofs.paths.put.put.Goals as goal

pub returns-in-Ok-make_one-clause-put : goal.returns-in-Ok-make_one-clause-put
returns-in-Ok-make_one-clause-put g c =
    put_made c.args.doc.now c.make_one.new.doc c.args.doc.now.tree.tree c.args.which (plain c.args.value) c.args.over (names_of c.args.names.now) c.in-Ok-Some.edit
    (subst (Chooses c.args.which c.args.doc.now (plain c.args.value) c.args.over (names_of c.args.names.now)) c.in-Ok-Some.field-0-is c.in-Ok-Some.ensures.chosen) c.make_one.new.doc.tree.tree c.in-Ok-make_one.ensures.made

pub returns-in-Err-make_one-clause-error : goal.returns-in-Err-make_one-clause-error
returns-in-Err-make_one-clause-error g c =
    put_refused c.args.doc.now c.make_one.new.doc c.args.doc.now.tree.tree c.args.which (plain c.args.value) c.args.over (names_of c.args.names.now) c.in-Ok-Some.edit
    (subst (Chooses c.args.which c.args.doc.now (plain c.args.value) c.args.over (names_of c.args.names.now)) c.in-Ok-Some.field-0-is c.in-Ok-Some.ensures.chosen) (decided c.fits_at.result c.fits_at.ensures c.if-not-fits_at.false) c.in-Err-make_one.error c.in-Err-make_one.ensures.error

pub returns-in-Ok-make_one-clause-one : goal.returns-in-Ok-make_one-clause-one
returns-in-Ok-make_one-clause-one g c = (operation_of unsorted c.in-Ok-Some.edit, c.in-Ok-make_one.ensures.made)

pub returns-then-not-fits_at-clause-error : goal.returns-then-not-fits_at-clause-error
returns-then-not-fits_at-clause-error g c = λ d shown. decided_not c.fits_at.result c.fits_at.ensures c.if-not-fits_at.true

pub returns-in-Ok-make_one-clause-fits : goal.returns-in-Ok-make_one-clause-fits
returns-in-Ok-make_one-clause-fits g c = decided c.fits_at.result c.fits_at.ensures c.if-not-fits_at.false

pub returns-in-Err-clause-error : goal.returns-in-Err-clause-error
returns-in-Err-clause-error g c = λ d shown.
    for_want (names_of c.args.names.now) (plain c.args.value) c.in-Err.error (decided c.fits_at.result c.fits_at.ensures c.if-not-fits_at.false) c.in-Err.ensures.memory

pub returns-in-Err-choose-clause-error : goal.returns-in-Err-choose-clause-error
returns-in-Err-choose-clause-error g c = λ d shown.
    for_want (names_of c.args.names.now) (plain c.args.value) c.in-Err-choose.error (decided c.fits_at.result c.fits_at.ensures c.if-not-fits_at.false) c.in-Err-choose.ensures.memory

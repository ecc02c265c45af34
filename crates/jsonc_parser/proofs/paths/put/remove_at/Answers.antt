use Rattle.std.proofs.Common.{refl, subst}
use Rattle.jsonc_run.specs.Edits.{remove}
use Rattle.jsonc_parser.specs.paths.Found.{names_of}
use Rattle.jsonc_parser.specs.declared.paths.which.Which.TheVariants.{First}
use Rattle.jsonc_parser.specs.paths.Reach.{ReachesWhatShown}
use Rattle.jsonc_parser.proofs.lemmas.paths.ChosenEdit.{nothing_another, nothing_missing}
use Rattle.jsonc_parser.proofs.lemmas.paths.EditOutcome.{drop_made, drop_refused}
use Rattle.jsonc_parser.proofs.paths.put.remove_at.Goals as goal

pub returns-in-Ok-Missing-clause-dropped : goal.returns-in-Ok-Missing-clause-dropped
returns-in-Ok-Missing-clause-dropped g c = λ d shown.
    let r = subst (ReachesWhatShown First c.args.doc.now (names_of c.args.names.now)) c.in-Ok-Missing.field-0-is c.in-Ok-Missing.ensures.reached d shown in
    (refl, nothing_missing d (names_of c.args.names.now) c.in-Ok-Missing.field-0-0.items c.in-Ok-Missing.field-0-1 r.0 r.1 r.2)

pub returns-in-Ok-Another-clause-dropped : goal.returns-in-Ok-Another-clause-dropped
returns-in-Ok-Another-clause-dropped g c = λ d shown.
    let r = subst (ReachesWhatShown First c.args.doc.now (names_of c.args.names.now)) c.in-Ok-Another.field-0-is c.in-Ok-Another.ensures.reached d shown in
    (refl, nothing_another d (names_of c.args.names.now) c.in-Ok-Another.field-0-0.items c.in-Ok-Another.field-0-1 r.0 r.1 r.2)

pub returns-in-Ok-clause-dropped : goal.returns-in-Ok-clause-dropped
returns-in-Ok-clause-dropped g c =
    drop_made c.args.doc.now c.make_one.new.doc c.args.doc.now.tree.tree (names_of c.args.names.now) c.in-Ok-Value.path
    (subst (ReachesWhatShown First c.args.doc.now (names_of c.args.names.now)) c.in-Ok-Value.field-0-is c.in-Ok-Value.ensures.reached) c.make_one.new.doc.tree.tree c.in-Ok.ensures.made

pub returns-in-Err-make_one-clause-error : goal.returns-in-Err-make_one-clause-error
returns-in-Err-make_one-clause-error g c =
    drop_refused c.args.doc.now c.make_one.new.doc c.args.doc.now.tree.tree (names_of c.args.names.now) c.in-Ok-Value.path
    (subst (ReachesWhatShown First c.args.doc.now (names_of c.args.names.now)) c.in-Ok-Value.field-0-is c.in-Ok-Value.ensures.reached) c.in-Err-make_one.error c.in-Err-make_one.ensures.error

pub returns-in-Ok-clause-one : goal.returns-in-Ok-clause-one
returns-in-Ok-clause-one g c = (remove c.in-Ok-Value.path.items, c.in-Ok.ensures.made)

use Rattle.std.proofs.Common.{Err, ◌∙◌, ap, sym}
use Rattle.jsonc_program.specs.edit.Routes.{route_of}
use Rattle.jsonc_program.proofs.EditMakes.{removed_anyhow, stays_for_nothing, told_of_another, told_so}
use Rattle.jsonc_program.proofs.edit.making.remove_if_there.Goals as goal

pub returns-in-Ok-clause-made : goal.returns-in-Ok-clause-made
returns-in-Ok-clause-made g c = λ in_object.
    removed_anyhow c.args.document.now c.remove.new.document (route_of c.args.way.now) in_object c.args.with_comments c.args.must_exist (c.in-Ok.ensures.made in_object)

pub returns-then-must_exist-clause-fails : goal.returns-then-must_exist-clause-fails
returns-then-must_exist-clause-fails g c = λ in_object.
    told_so c.args.document.now (route_of c.args.way.now) in_object c.args.with_comments c.args.must_exist c.in-Err.fault c.if-must_exist.true (c.in-Err.ensures.fails in_object)

pub returns-then-is_nothing-clause-made : goal.returns-then-is_nothing-clause-made
returns-then-is_nothing-clause-made g c = λ in_object.
    stays_for_nothing c.args.document.now c.remove.new.document (route_of c.args.way.now) in_object c.args.with_comments c.args.must_exist c.in-Err.fault (sym c.is_nothing.ensures ∙ c.if-is_nothing.true) c.if-must_exist.false (c.in-Err.ensures.fails in_object) (λ e. c.in-Err.ensures.stays (ap Err e))

pub returns-clause-fails : goal.returns-clause-fails
returns-clause-fails g c = λ in_object.
    told_of_another c.args.document.now (route_of c.args.way.now) in_object c.args.with_comments c.args.must_exist c.in-Err.fault (sym c.is_nothing.ensures ∙ c.if-is_nothing.false) (c.in-Err.ensures.fails in_object)

use Rattle.std.proofs.Common.{sym, ◌∙◌, chars}
use Rattle.jsonc_cst.specs.Document.{nodes_of, printed_of}
use Rattle.jsonc_engine.specs.Fault.{EndsOnObject}
use Rattle.jsonc_engine.specs.declared.fault.Fault.TheVariants.{Edit}
use Rattle.jsonc_engine.proofs.Changes.{err_by}
use Rattle.jsonc_engine.proofs.RootKinds.{has_object}
use Rattle.jsonc_engine.proofs.PuttingInContainers.{memory_on_object}
use Rattle.jsonc_engine.proofs.Removing.{first_found, no_object, one_loses, wants_memory}
use Rattle.jsonc_engine.proofs.edit.remove_property.Goals as goal

pub returns-in_default-clause-error : goal.returns-in_default-clause-error
returns-in_default-clause-error g c = λ o sound.
    no_object o (nodes_of c.args.document.now) c.args.document.now.tree.tree sound (sym c.object_value.ensures.value ∙ c.in_default.is)

pub returns-in_err-property-clause-error : goal.returns-in_err-property-clause-error
returns-in_err-property-clause-error g c = λ o sound.
    let bytes = printed_of c.args.document.now in
    err_by (EndsOnObject o bytes) (Edit c.in_err-property.field-0.0) c.from_residual.result c.from_residual.ensures.1
    (memory_on_object g.row.A.Denot o bytes c.in_err-property.field-0.0 c.in_err-property.ensures.memory
    (has_object o (nodes_of c.args.document.now) c.args.document.now.tree.tree sound c.in-Some.object (sym c.object_value.ensures.value ∙ c.in-Some.is)))

pub returns-in-Err-clause-error : goal.returns-in-Err-clause-error
returns-in-Err-clause-error g c = λ o sound.
    let old = nodes_of c.args.document.now in
    let read = sym c.object_value.ensures.value ∙ c.in-Some.is in
    let first = first_found c.args.document.now c.in-Some.object (chars c.args.name.now) c.in_ok-property.field-0 c.in-Some-2.property c.in_ok-property.ensures.found c.in-Some-2.is in
    memory_on_object g.row.A.Denot o (printed_of c.args.document.now) c.in-Err.error
    (wants_memory o old (nodes_of c.remove.new.doc) c.args.document.now.tree.tree (chars c.args.name.now) c.in-Some.object read c.in-Some-2.property.number first c.in-Err.error sound (c.in-Err.ensures.memory o))
    (has_object o old c.args.document.now.tree.tree sound c.in-Some.object read)

pub returns-in-Ok-clause-removed : goal.returns-in-Ok-clause-removed
returns-in-Ok-clause-removed g c = λ o sound.
    let first = first_found c.args.document.now c.in-Some.object (chars c.args.name.now) c.in_ok-property.field-0 c.in-Some-2.property c.in_ok-property.ensures.found c.in-Some-2.is in
    one_loses o (nodes_of c.args.document.now) (nodes_of c.remove.new.doc) c.args.document.now.tree.tree (chars c.args.name.now) c.in-Some.object
    (sym c.object_value.ensures.value ∙ c.in-Some.is) c.in-Some-2.property.number first c.in-Ok.ensures.removed c.in-Ok.ensures.step

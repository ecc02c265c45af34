use Rattle.std.proofs.Common.{◌-◌, Option, arith, chars}
use Rattle.jsonc_layout.specs.input.Views.{plain}
use Rattle.jsonc_cst.specs.declared.cst.node.CstObject.{CstObject}
use Rattle.jsonc_cst.specs.Document.{nodes_of}
use Rattle.jsonc_engine.proofs.PuttingInContainers.{append_memory, appends_property, no_object, object_memory, object_stands, object_wanted, said_of, sets_property, CreatesObject}
use Rattle.jsonc_engine.proofs.Removing.{first_found, none_found}
use Rattle.jsonc_engine.proofs.Nesting.{fits_in_object, too_deep_in_object}
use Rattle.jsonc_engine.proofs.edit.set_property.Goals as goal

pub returns-then-not-is_within-clause-error : goal.returns-then-not-is_within-clause-error
returns-then-not-is_within-clause-error g c = λ o sound. too_deep_in_object (chars c.args.name.now) (plain c.args.value) (512 - 2) c.is_within.result (omega arith) c.is_within.ensures c.if-not-is_within.true

pub returns-in-Ok-None-clause-error : goal.returns-in-Ok-None-clause-error
returns-in-Ok-None-clause-error g c = λ o sound.
    no_object o (nodes_of c.args.document.now) (nodes_of c.object_value_or_create.new.self) (chars c.args.name.now) (plain c.args.value) c.args.document.now.tree.tree sound c.in-Ok-None.field-0 c.in-Ok-None.field-0-is c.in-Ok-None.ensures.value

pub returns-in-Ok-set_value-clause-set : goal.returns-in-Ok-set_value-clause-set
returns-in-Ok-set_value-clause-set g c = λ o sound.
    let document = c.object_value_or_create.new.self in
    let named = first_found document c.in-Ok-Some.object (chars c.args.name.now) c.in-Ok.found c.in-Some.property c.in-Ok.ensures.found c.in-Some.is in
    sets_property o (nodes_of c.args.document.now) (nodes_of document) c.args.document.now.tree.tree c.object_value_or_create.new.self.tree.tree c.in-Ok-Some.object
    (object_stands (nodes_of c.object_value_or_create.new.self) c.in-Ok-Some.field-0 c.in-Ok-Some.object c.in-Ok-Some.field-0-is c.in-Ok-Some.ensures.is_value)
    (said_of c.in-Ok-Some.field-0 c.in-Ok-Some.object (λ (f : Option CstObject). CreatesObject (nodes_of c.args.document.now) (nodes_of document) f) c.in-Ok-Some.field-0-is c.in-Ok-Some.ensures.value)
    sound (nodes_of c.set_value.new.doc) (chars c.args.name.now) (plain c.args.value) (fits_in_object (chars c.args.name.now) (plain c.args.value) (512 - 2) c.is_within.result (omega arith) c.is_within.ensures c.if-not-is_within.false) c.in-Ok-Some.ensures.step
    c.in-Some.property.number c.in-Ok-set_value.field-0 named c.in-Ok-set_value.ensures.set c.in-Ok-set_value.ensures.step

pub returns-in-Ok-append-clause-set : goal.returns-in-Ok-append-clause-set
returns-in-Ok-append-clause-set g c = λ o sound.
    let document = c.object_value_or_create.new.self in
    let named = none_found document c.in-Ok-Some.object (chars c.args.name.now) c.in-Ok.found c.in-Ok.ensures.found c.in-None.is in
    appends_property o (nodes_of c.args.document.now) (nodes_of document) c.args.document.now.tree.tree c.object_value_or_create.new.self.tree.tree c.in-Ok-Some.object
    (object_stands (nodes_of c.object_value_or_create.new.self) c.in-Ok-Some.field-0 c.in-Ok-Some.object c.in-Ok-Some.field-0-is c.in-Ok-Some.ensures.is_value)
    (said_of c.in-Ok-Some.field-0 c.in-Ok-Some.object (λ (f : Option CstObject). CreatesObject (nodes_of c.args.document.now) (nodes_of document) f) c.in-Ok-Some.field-0-is c.in-Ok-Some.ensures.value)
    sound (nodes_of c.append.new.doc) (chars c.args.name.now) (plain c.args.value) (fits_in_object (chars c.args.name.now) (plain c.args.value) (512 - 2) c.is_within.result (omega arith) c.is_within.ensures c.if-not-is_within.false) c.in-Ok-Some.ensures.step
    named c.in-Ok-append.field-0 c.in-Ok-append.ensures.put c.in-Ok-append.ensures.step

pub returns-in-Err-append-clause-error : goal.returns-in-Err-append-clause-error
returns-in-Err-append-clause-error g c = λ o sound.
    append_memory o (nodes_of c.args.document.now) (nodes_of c.object_value_or_create.new.self) c.args.document.now.tree.tree c.object_value_or_create.new.self.tree.tree c.in-Ok-Some.object
    (object_stands (nodes_of c.object_value_or_create.new.self) c.in-Ok-Some.field-0 c.in-Ok-Some.object c.in-Ok-Some.field-0-is c.in-Ok-Some.ensures.is_value)
    (said_of c.in-Ok-Some.field-0 c.in-Ok-Some.object (λ (f : Option CstObject). CreatesObject (nodes_of c.args.document.now) (nodes_of c.object_value_or_create.new.self) f) c.in-Ok-Some.field-0-is c.in-Ok-Some.ensures.value)
    sound g.row.A.Denot (chars c.args.name.now) (plain c.args.value) c.in-Err-append.error (c.in-Err-append.ensures.memory o)

pub returns-in-Err-set_value-clause-error : goal.returns-in-Err-set_value-clause-error
returns-in-Err-set_value-clause-error g c = λ o sound.
    object_memory o (nodes_of c.args.document.now) (nodes_of c.object_value_or_create.new.self) c.args.document.now.tree.tree c.object_value_or_create.new.self.tree.tree c.in-Ok-Some.object
    (object_stands (nodes_of c.object_value_or_create.new.self) c.in-Ok-Some.field-0 c.in-Ok-Some.object c.in-Ok-Some.field-0-is c.in-Ok-Some.ensures.is_value)
    (said_of c.in-Ok-Some.field-0 c.in-Ok-Some.object (λ (f : Option CstObject). CreatesObject (nodes_of c.args.document.now) (nodes_of c.object_value_or_create.new.self) f) c.in-Ok-Some.field-0-is c.in-Ok-Some.ensures.value)
    sound g.row.A.Denot (chars c.args.name.now) (plain c.args.value) c.in-Err-set_value.error c.in-Err-set_value.ensures.memory

pub returns-in-Err-get-clause-error : goal.returns-in-Err-get-clause-error
returns-in-Err-get-clause-error g c = λ o sound.
    object_memory o (nodes_of c.args.document.now) (nodes_of c.object_value_or_create.new.self) c.args.document.now.tree.tree c.object_value_or_create.new.self.tree.tree c.in-Ok-Some.object
    (object_stands (nodes_of c.object_value_or_create.new.self) c.in-Ok-Some.field-0 c.in-Ok-Some.object c.in-Ok-Some.field-0-is c.in-Ok-Some.ensures.is_value)
    (said_of c.in-Ok-Some.field-0 c.in-Ok-Some.object (λ (f : Option CstObject). CreatesObject (nodes_of c.args.document.now) (nodes_of c.object_value_or_create.new.self) f) c.in-Ok-Some.field-0-is c.in-Ok-Some.ensures.value)
    sound g.row.A.Denot (chars c.args.name.now) (plain c.args.value) c.in-Err-get.error c.in-Err-get.ensures.memory

pub returns-in-Err-clause-error : goal.returns-in-Err-clause-error
returns-in-Err-clause-error g c = λ o sound.
    object_wanted o (nodes_of c.args.document.now) c.args.document.now.tree.tree sound c.in-Err.ensures.oom_only_if g.row.A.Denot (chars c.args.name.now) (plain c.args.value) c.in-Err.error c.in-Err.ensures.memory

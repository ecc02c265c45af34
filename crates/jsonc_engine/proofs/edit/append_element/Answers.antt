use Rattle.std.proofs.Common.{◌-◌, Option, arith}
use Rattle.jsonc_layout.specs.input.Views.{plain}
use Rattle.jsonc_cst.specs.declared.cst.node.CstArray.{CstArray}
use Rattle.jsonc_cst.specs.Document.{nodes_of}
use Rattle.jsonc_engine.proofs.PuttingInContainers.{appends_last, array_memory, array_stands, array_wanted, no_array, said_of, CreatesArray}
use Rattle.jsonc_engine.proofs.Nesting.{fits_in_array, too_deep_in_array}
use Rattle.jsonc_engine.proofs.edit.append_element.Goals as goal

pub returns-then-not-is_within-clause-error : goal.returns-then-not-is_within-clause-error
returns-then-not-is_within-clause-error g c = λ o sound. too_deep_in_array (plain c.args.value) (512 - 1) c.is_within.result (omega arith) c.is_within.ensures c.if-not-is_within.true

pub returns-in-Ok-None-clause-error : goal.returns-in-Ok-None-clause-error
returns-in-Ok-None-clause-error g c = λ o sound.
    no_array o (nodes_of c.args.document.now) (nodes_of c.array_value_or_create.new.self) (plain c.args.value) c.args.document.now.tree.tree sound c.in-Ok-None.field-0 c.in-Ok-None.field-0-is c.in-Ok-None.ensures.value

pub returns-in-Ok-clause-appended : goal.returns-in-Ok-clause-appended
returns-in-Ok-clause-appended g c = λ o sound.
    let made = nodes_of c.array_value_or_create.new.self in
    appends_last o (nodes_of c.args.document.now) made c.array_value_or_create.new.self.tree.tree c.in-Ok-Some.array (array_stands (nodes_of c.array_value_or_create.new.self) c.in-Ok-Some.field-0 c.in-Ok-Some.array c.in-Ok-Some.field-0-is c.in-Ok-Some.ensures.is_value)
    (nodes_of c.append.new.doc) (plain c.args.value) (fits_in_array (plain c.args.value) (512 - 1) c.is_within.result (omega arith) c.is_within.ensures c.if-not-is_within.false)
    (said_of c.in-Ok-Some.field-0 c.in-Ok-Some.array (λ (f : Option CstArray). CreatesArray (nodes_of c.args.document.now) made f) c.in-Ok-Some.field-0-is c.in-Ok-Some.ensures.value)
    c.in-Ok-Some.ensures.step c.in-Ok.field-0 c.in-Ok.ensures.put c.in-Ok.ensures.step

pub returns-in-Err-append-clause-error : goal.returns-in-Err-append-clause-error
returns-in-Err-append-clause-error g c = λ o sound.
    let made = nodes_of c.array_value_or_create.new.self in
    array_memory o (nodes_of c.args.document.now) made c.array_value_or_create.new.self.tree.tree c.in-Ok-Some.array (array_stands (nodes_of c.array_value_or_create.new.self) c.in-Ok-Some.field-0 c.in-Ok-Some.array c.in-Ok-Some.field-0-is c.in-Ok-Some.ensures.is_value)
    g.row.A.Denot (plain c.args.value) c.args.document.now.tree.tree sound
    (said_of c.in-Ok-Some.field-0 c.in-Ok-Some.array (λ (f : Option CstArray). CreatesArray (nodes_of c.args.document.now) made f) c.in-Ok-Some.field-0-is c.in-Ok-Some.ensures.value)
    c.in-Err-append.error (c.in-Err-append.ensures.memory o)

pub returns-in-Err-clause-error : goal.returns-in-Err-clause-error
returns-in-Err-clause-error g c = λ o sound.
    array_wanted o (nodes_of c.args.document.now) c.args.document.now.tree.tree sound c.in-Err.ensures.oom_only_if g.row.A.Denot (plain c.args.value) c.in-Err.error c.in-Err.ensures.memory

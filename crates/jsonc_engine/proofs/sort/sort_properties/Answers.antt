use Rattle.std.proofs.Common.{sym, ◌∙◌}
use Rattle.jsonc_cst.specs.Document.{nodes_of, printed_of}
use Rattle.jsonc_engine.proofs.RootKinds.{has_object}
use Rattle.jsonc_engine.proofs.PuttingInContainers.{memory_on_object}
use Rattle.jsonc_engine.proofs.Removing.{no_object}
use Rattle.jsonc_engine.proofs.Sorting.{sorts_value}
use Rattle.jsonc_engine.proofs.sort.sort_properties.Goals as goal

pub returns-in_default-clause-error : goal.returns-in_default-clause-error
returns-in_default-clause-error g c = λ o sound.
    no_object o (nodes_of c.args.document.now) c.args.document.now.tree.tree sound (sym c.object_value.ensures.value ∙ c.in_default.is)

pub returns-in-Ok-clause-sorted : goal.returns-in-Ok-clause-sorted
returns-in-Ok-clause-sorted g c = λ o.
    sorts_value o c.args.document.now c.sort_object.new.document c.in-Some.object c.args.document.now.tree.tree (sym c.object_value.ensures.value ∙ c.in-Some.is) c.in-Ok.ensures.sorted

pub returns-in-Err-clause-error : goal.returns-in-Err-clause-error
returns-in-Err-clause-error g c = λ o sound.
    memory_on_object g.row.A.Denot o (printed_of c.args.document.now) c.in-Err.error c.in-Err.ensures.memory
    (has_object o (nodes_of c.args.document.now) c.args.document.now.tree.tree sound c.in-Some.object (sym c.object_value.ensures.value ∙ c.in-Some.is))

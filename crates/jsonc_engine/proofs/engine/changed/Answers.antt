use Rattle.std.proofs.Common.{refl}
use Rattle.jsonc_cst.specs.Document.{nodes_of, printed_of}
use Rattle.jsonc_engine.proofs.Changes.{left_by}
use Rattle.jsonc_engine.proofs.Nesting.{accepted_after}
use Rattle.jsonc_engine.proofs.engine.changed.Goals as goal

pub returns-in-Ok-clause-left : goal.returns-in-Ok-clause-left
returns-in-Ok-clause-left g c = λ o request is sound laid within.
    let old = nodes_of c.args.document in
    let new = nodes_of c.make.new.document in
    left_by o c.args.change request (printed_of c.args.document) old new is refl sound laid (accepted_after o old new c.args.document.tree.tree sound within request (c.in-Ok.ensures.made o request is sound))
    (c.in-Ok.ensures.made o request is)

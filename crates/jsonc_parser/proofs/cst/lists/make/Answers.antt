use Rattle.jsonc_cst.specs.Document.{nodes_of}
use Rattle.jsonc_parser.proofs.Lists.{left_alike, no_sort, plainly_made, sort_left, sort_made, sort_told, told_alike}
use Rattle.jsonc_parser.proofs.cst.lists.make.Goals as goal

pub make-requires : goal.make-requires
make-requires g c = record { unsorted = no_sort c.args.edit.now c.in_default.not-Sort }

pub returns-in-Sort-clause-made : goal.returns-in-Sort-clause-made
returns-in-Sort-clause-made g c =
    sort_made c.args.edit.now c.in-Sort.path c.in-Sort.pin c.in-Sort.groups c.in-Sort.is c.deref.result.now c.deref.ensures.value g.C.Fn c.args.compare.now g.D.DocumentArg.same c.args.doc.now c.sort_at.new.doc c.sort_at.result c.sort_at.ensures.made

pub returns-in-Sort-clause-error : goal.returns-in-Sort-clause-error
returns-in-Sort-clause-error g c = λ s.
    sort_told c.args.edit.now c.in-Sort.path c.in-Sort.pin c.in-Sort.groups c.in-Sort.is c.deref.result.now c.deref.ensures.value (nodes_of c.args.doc.now) s c.sort_at.result (c.sort_at.ensures.error s)

pub returns-in-Sort-clause-left : goal.returns-in-Sort-clause-left
returns-in-Sort-clause-left g c = λ s.
    sort_left c.args.edit.now c.in-Sort.path c.in-Sort.pin c.in-Sort.groups c.in-Sort.is c.deref.result.now c.deref.ensures.value (nodes_of c.args.doc.now) (nodes_of c.sort_at.new.doc) s c.sort_at.result (c.sort_at.ensures.left s)

pub returns-in_default-clause-made : goal.returns-in_default-clause-made
returns-in_default-clause-made g c =
    plainly_made g.C.Fn c.args.compare.now g.D.DocumentArg.same c.args.doc.now c.args.edit.now _ c.make.result (no_sort c.args.edit.now c.in_default.not-Sort) c.make.ensures.made c.make.ensures.fits

pub returns-in_default-clause-error : goal.returns-in_default-clause-error
returns-in_default-clause-error g c = λ s.
    told_alike (nodes_of c.args.doc.now) s c.args.edit.now c.make.result (no_sort c.args.edit.now c.in_default.not-Sort) c.make.ensures.error

pub returns-in_default-clause-left : goal.returns-in_default-clause-left
returns-in_default-clause-left g c = λ s.
    left_alike (nodes_of c.args.doc.now) _ s c.args.edit.now c.make.result (no_sort c.args.edit.now c.in_default.not-Sort) c.make.ensures.left

use Rattle.jsonc_cst.specs.Document.{nodes_of}
use Rattle.jsonc_parser.proofs.lemmas.paths.EditOutcome.{left_alone, whole_no_sort}
use Rattle.jsonc_parser.proofs.paths.put.make_one.Goals as goal

pub make-requires : goal.make-requires
make-requires g c = record { unsorted = whole_no_sort c.args.edit c.requires }

pub returns-clause-document : goal.returns-clause-document
returns-clause-document g c = left_alone c.args.edit (nodes_of c.args.doc.now) (nodes_of c.make.new.self) c.make.result c.requires c.make.ensures.left

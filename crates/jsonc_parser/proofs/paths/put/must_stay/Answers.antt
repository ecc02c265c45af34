use Rattle.jsonc_cst.specs.Document.{nodes_of}
use Rattle.jsonc_parser.specs.paths.Found.{names_of}
use Rattle.jsonc_parser.proofs.lemmas.paths.MemoryNeeded.{kept_stays, replaced_goes}
use Rattle.jsonc_parser.proofs.paths.put.must_stay.Goals as goal

pub returns-in-Keep-clause-stays : goal.returns-in-Keep-clause-stays
returns-in-Keep-clause-stays g c = kept_stays (nodes_of c.args.doc.now) (names_of c.args.names.now) c.args.which c.args.over c.is_in_the_way.result c.in-Keep.is c.is_in_the_way.ensures.in_the_way

pub returns-in-Replace-clause-stays : goal.returns-in-Replace-clause-stays
returns-in-Replace-clause-stays g c = replaced_goes (nodes_of c.args.doc.now) (names_of c.args.names.now) c.args.which c.args.over c.in-Replace.is

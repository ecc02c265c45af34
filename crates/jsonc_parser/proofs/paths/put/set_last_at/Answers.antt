use Rattle.jsonc_layout.specs.input.Views.{plain}
use Rattle.jsonc_cst.specs.Document.{nodes_of}
use Rattle.jsonc_parser.specs.paths.Found.{names_of}
use Rattle.jsonc_parser.proofs.lemmas.paths.ReadBack.{read_result}
use Rattle.jsonc_parser.proofs.paths.put.set_last_at.Goals as goal

pub returns-clause-read : goal.returns-clause-read
returns-clause-read g c = read_result (plain c.args.value) c.args.over (names_of c.args.names.now) (nodes_of c.args.doc.now) (nodes_of c.put.new.doc) c.put.result c.put.ensures.put

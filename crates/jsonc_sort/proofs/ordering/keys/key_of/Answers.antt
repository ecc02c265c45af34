use Rattle.std.proofs.Common.{rules, refl}
use Rattle.jsonc_sort.specs.ordering.Order.{node_in}
use Rattle.jsonc_sort.proofs.lemmas.ordering.AnsweredKeys.{key_is}
use Rattle.jsonc_sort.proofs.ordering.keys.key_of.Goals as goal

pub returns-in-Ok-clause-key : goal.returns-in-Ok-clause-key
returns-in-Ok-clause-key g c =
    key_is g.F.Fn c.args.key.now c.args.doc.now (node_in c.args.nodes.now c.args.place) c.in-Some.node c.in-Ok.key (search rules) (c.args.doc, refl, c.in-Ok.ensures)

pub returns-in-Err-clause-refused : goal.returns-in-Err-clause-refused
returns-in-Err-clause-refused g c = (c.in-Some.node, search rules, (c.args.doc, refl, c.in-Err.ensures))

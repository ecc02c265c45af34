use Rattle.std.proofs.Common.{rules, IfErr}
use Rattle.jsonc_cst.specs.sorting.Asking.{LacksKeys}
use Rattle.jsonc_cst.proofs.lemmas.sorting.Keyed.{unkeyed}
use Rattle.jsonc_cst.proofs.sorting.sorting.sort_by_key.Goals as goal

pub returns-in_err-order-clause-refused : goal.returns-in_err-order-clause-refused
returns-in_err-order-clause-refused g c =
    let why : IfErr c.from_residual-in_err-order.result (LacksKeys g.F.Fn c.args.key.now (g.D.DocumentArg.same c.args.doc.now) c.args.nodes.now) = search rules in
    unkeyed g.F.Fn c.args.key.now (g.D.DocumentArg.same c.args.doc.now) c.args.nodes.now c.from_residual-in_err-order.result why

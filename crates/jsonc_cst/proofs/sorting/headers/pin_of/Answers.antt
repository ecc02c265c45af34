use Rattle.std.proofs.Common.{rules, refl}
use Rattle.jsonc_cst.proofs.lemmas.sorting.Pinned.{asked_pin}
use Rattle.jsonc_cst.proofs.sorting.headers.pin_of.Goals as goal

pub returns : goal.returns
returns g c =
    asked_pin g.F.Fn c.args.rule.now (g.D.DocumentArg.same c.args.doc.now) c.args.node c.in-Some.node c.args.comments.now c.rule.result c.in-Some.is (search rules) c.of.result c.of.ensures c.args.comments refl c.rule.ensures

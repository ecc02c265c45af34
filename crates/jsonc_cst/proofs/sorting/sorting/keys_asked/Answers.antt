use Rattle.std.proofs.Common.{rules, inr, subst}
use Rattle.jsonc_sort.specs.ordering.Keys.{AreKeys, WhyNone}
use Rattle.jsonc_cst.proofs.lemmas.sorting.Keyed.{first_refused, memory_behind}
use Rattle.jsonc_cst.proofs.sorting.sorting.keys_asked.Goals as goal

pub returns-in-Ok-clause-keys : goal.returns-in-Ok-clause-keys
returns-in-Ok-clause-keys g c =
    subst (λ (d : g.row.D.Denot). AreKeys g.F.Fn c.args.key.now d c.args.nodes.now c.in-Ok.keys.items) c.of.ensures c.in-Ok.ensures.keys

pub returns-in-Err-Refused-clause-refused : goal.returns-in-Err-Refused-clause-refused
returns-in-Err-Refused-clause-refused g c =
    inr (first_refused g.F.Fn c.args.key.now (g.D.DocumentArg.same c.args.doc.now) c.args.nodes.now c.in-Err-Refused.field-0 c.in-Err-Refused.error (search rules)
    (subst (λ (d : g.row.D.Denot). WhyNone g.F.Fn c.args.key.now d c.args.nodes.now c.in-Err-Refused.field-0) c.of.ensures c.in-Err-Refused.ensures.refused))

pub returns-in-Err-OutOfMemory-clause-refused : goal.returns-in-Err-OutOfMemory-clause-refused
returns-in-Err-OutOfMemory-clause-refused g c =
    memory_behind g.F.Fn c.args.key.now (g.D.DocumentArg.same c.args.doc.now) c.args.nodes.now c.in-Err-OutOfMemory.field-0 (search rules)
    (subst (λ (d : g.row.D.Denot). WhyNone g.F.Fn c.args.key.now d c.args.nodes.now c.in-Err-OutOfMemory.field-0) c.of.ensures c.in-Err-OutOfMemory.ensures.refused)

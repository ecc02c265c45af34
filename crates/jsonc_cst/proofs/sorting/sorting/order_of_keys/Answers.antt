use Rattle.std.proofs.Common.{Bool}
use Rattle.std.specs.Ordering.{is_lt}
use Rattle.jsonc_cst.proofs.lemmas.sorting.Keyed.{memory_behind_all, ordered_by}
use Rattle.jsonc_cst.proofs.sorting.sorting.order_of_keys.Goals as goal

pub returns-clause-order : goal.returns-clause-order
returns-clause-order g c =
    let keys = c.in_ok-keys.keys.items in
    let lt : g.row.K.Denot → g.row.K.Denot → Bool = λ x y. is_lt (g.K.Ord.cmp x y) in (
      keys,
      c.in_ok-keys.ensures.keys,
      ordered_by g.F.Fn c.args.key.now (g.D.DocumentArg.same c.args.doc.now) c.args.nodes.now lt c.args.starts.now keys c.deref.result.now c.in-Ok.order.items c.deref.ensures.value c.in_ok-keys.ensures.keys c.in-Ok.ensures,
    )

pub returns-in_default-clause-refused : goal.returns-in_default-clause-refused
returns-in_default-clause-refused g c =
    memory_behind_all g.F.Fn c.args.key.now (g.D.DocumentArg.same c.args.doc.now) c.args.nodes.now c.in_ok-keys.keys.items c.in_ok-keys.ensures.keys

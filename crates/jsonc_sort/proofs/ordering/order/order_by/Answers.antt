use Rattle.std.proofs.Common.{rules, length}
use Rattle.std.proofs.lemmas.Fn.{always_returns_same}
use Rattle.jsonc_sort.specs.ordering.Order.{comes_before}
use Rattle.jsonc_sort.proofs.lemmas.ordering.Before.{before_order, compared_by, stable_from}
use Rattle.jsonc_sort.proofs.ordering.order.order_by.Goals as goal

pub returns-clause-order : goal.returns-clause-order
returns-clause-order g c = λ lt o.
    let nodes = c.args.nodes.now in
    let starts = c.args.starts.now in
    let before = comes_before lt nodes starts in
    let answers = always_returns_same _ _ _ (λ a r f' k. (compared_by g.C.Fn c.args.compare.now c.args.doc.now nodes starts a.0.now a.1.0.now r lt o (search rules), search rules)) in
    record {
      all = search rules;
      ascends = c.in_ok-sort_by.ensures.sorted before (before_order lt o.order nodes starts) answers;
      stable = stable_from before (length nodes) c.in_ok-order.order.items c.sort_by.new.self.items c.in_ok-order.ensures (c.in_ok-sort_by.ensures.stable before (before_order lt o.order nodes starts) answers);
    }

use Rattle.std.proofs.Common.{rules, Bool, length}
use Rattle.std.specs.Ordering.{is_lt}
use Rattle.std.proofs.lemmas.Fn.{always_returns_same}
use Rattle.std.proofs.lemmas.List.MinMax.{ranks_by}
use Rattle.jsonc_sort.specs.ordering.Order.{comes_before}
use Rattle.jsonc_sort.proofs.lemmas.ordering.Before.{before_order, stable_from}
use Rattle.jsonc_sort.proofs.ordering.keys.order_by_key.Goals as goal

pub returns : goal.returns
returns g c =
    let keys = c.args.keys.now in
    let starts = c.args.starts.now in
    let lt : g.row.K.Denot → g.row.K.Denot → Bool = λ x y. is_lt (g.K.Ord.cmp x y) in
    let before = comes_before lt keys starts in
    let order = before_order lt (ranks_by g.met.K.Ord.total (λ x. x)) keys starts in
    let answers = always_returns_same _ _ _ (λ a r f' k. (search rules, search rules)) in
    record {
      all = search rules;
      ascends = c.in_ok-sort_by.ensures.sorted before order answers;
      stable = stable_from before (length keys) c.in_ok-order.order.items c.sort_by.new.self.items c.in_ok-order.ensures (c.in_ok-sort_by.ensures.stable before order answers);
    }

use Rattle.std.proofs.Common.{arith}
use Rattle.jsonc_sort.proofs.Orders.{order_changed, order_unchanged}
use Rattle.jsonc_sort.proofs.order.is_unchanged.Goals as goal

pub returns-then-order-place : goal.returns-then-order-place
returns-then-order-place c = order_changed c.args.order.now c.loop-place.place (omega arith) (λ e. omega (arith, e))

pub returns : goal.returns
returns c = order_unchanged c.args.order.now (λ k h. c.loop-place.invariant k (omega arith))

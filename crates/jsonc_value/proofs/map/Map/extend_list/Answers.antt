use Rattle.std.proofs.Common.{ap, ◌∙◌, reverse, subst}
use Rattle.jsonc_value.specs.Lists.{InsertsUpTo}
use Rattle.jsonc_value.proofs.Lists.{one_more, reverse_last}
use Rattle.jsonc_value.proofs.map.Map.extend_list.Goals as goal

pub loop-key-preserved-in_default-insert : goal.loop-key-preserved-in_default-insert
loop-key-preserved-in_default-insert g c =
    let eq = g.K.PartialEq.eq in
    let next = ap reverse c.in-Some.ensures.items ∙ reverse_last c.pop.new.self.items (c.in-Some.key, c.in-Some.value) in
    let before = subst (λ l. InsertsUpTo eq c.args.self.now c.args.pairs.items l c.loop-key.self) next c.loop-key.invariant in
    one_more eq c.args.self.now c.args.pairs.items (reverse c.pop.new.self.items) c.loop-key.self c.insert.new.self (c.in-Some.key, c.in-Some.value) before c.in_default-insert.ensures.entries

pub loop-key-preserved-in_default-insert-2 : goal.loop-key-preserved-in_default-insert-2
loop-key-preserved-in_default-insert-2 g c =
    let eq = g.K.PartialEq.eq in
    let next = ap reverse c.in-Some.ensures.items ∙ reverse_last c.pop.new.self.items (c.in-Some.key, c.in-Some.value) in
    let before = subst (λ l. InsertsUpTo eq c.args.self.now c.args.pairs.items l c.loop-key.self) next c.loop-key.invariant in
    one_more eq c.args.self.now c.args.pairs.items (reverse c.pop.new.self.items) c.loop-key.self c.insert.new.self (c.in-Some.key, c.in-Some.value) before c.in_default-insert.ensures.entries

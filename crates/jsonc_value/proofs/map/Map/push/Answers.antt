use Rattle.std.proofs.Common.{is_ok, ap, ◌∙◌}
use Rattle.std.specs.List.{list_any}
use Rattle.std.specs.Map.{keys_of}
use Rattle.jsonc_value.proofs.Stores.{few_pairs, few_distinct, many_pairs, many_hold, pushed_distinct, told_distinct}
use Rattle.jsonc_value.proofs.map.Map.push.Goals as goal
use Rattle.jsonc_value.proofs.map.Map.push.Goals.{in-Few, in-Many}

pub invariant_of-self : goal.invariant_of-self
invariant_of-self g c =
    let eq = g.K.PartialEq.eq in
    let input = g.K.Hash.hash_input in
    let old = c.keep_hashes.new.self in
    elim c.match-self.branch [
      | in-Few w ↦
          let es = w.in-Few.pairs.items in
          let none = ap (λ l. list_any (eq c.args.key) (keys_of l)) (few_pairs c.self.inside.store old w.in-Few.pairs w.in-Few.is c.self.view_is ∙ c.keep_hashes.ensures) ∙ c.requires in
          let distinct = few_distinct c.self.inside.store eq input c.self.invariant w.in-Few.pairs w.in-Few.is in
          rw w.self-inside-is (pushed_distinct eq g.met.K.Eq.laws es w.push.new.self.items (c.args.key, c.args.value) none distinct (is_ok w.push.result) w.push.ensures.items, tt)
      | in-Many w ↦
          let both = w.deref_mut.result.now in
          let none = ap (λ l. list_any (eq c.args.key) (keys_of l)) (many_pairs c.self.inside.store old w.in-Many.both both w.in-Many.is w.deref_mut.ensures.value c.self.view_is ∙ c.keep_hashes.ensures) ∙ c.requires in
          let holds = many_hold c.self.inside.store eq input c.self.invariant w.in-Many.both both w.in-Many.is w.deref_mut.ensures.value in
          let said = w.push-in-Many.ensures in
          rw w.self-inside-is (told_distinct eq g.met.K.Eq.laws both.pairs.items w.push-in-Many.new.self.pairs.items (c.args.key, c.args.value) none holds.0 w.push-in-Many.result said.pairs said.err, said.hashes)
    ]

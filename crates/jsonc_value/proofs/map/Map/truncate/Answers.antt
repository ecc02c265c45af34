use Rattle.std.proofs.Common.{ap, sym, ◌∙◌}
use Rattle.std.specs.Map.{keys_of}
use Rattle.std.proofs.lemmas.List.{take-map}
use Rattle.jsonc_value.proofs.DistinctKeys.{take_distinct}
use Rattle.jsonc_value.proofs.Stores.{few_distinct, many_hold}
use Rattle.jsonc_value.proofs.map.Map.truncate.Goals as goal
use Rattle.jsonc_value.proofs.map.Map.truncate.Goals.{in-Few, in-Many}

pub invariant_of-self : goal.invariant_of-self
invariant_of-self g c =
    let eq = g.K.PartialEq.eq in
    elim c.match-self.branch [
      | in-Few w ↦
          let es = w.in-Few.pairs.items in
          let distinct = few_distinct c.self.inside.store eq g.K.Hash.hash_input c.self.invariant w.in-Few.pairs w.in-Few.is in
          rw w.self-inside-is (take_distinct eq c.args.len (keys_of es) (keys_of w.truncate.new.self.items) (ap keys_of w.truncate.ensures.items ∙ sym (take-map (λ e. e.0) c.args.len es)) distinct, tt)
      | in-Many w ↦
          let es = w.deref_mut.result.now.pairs.items in
          let holds = many_hold c.self.inside.store eq g.K.Hash.hash_input c.self.invariant w.in-Many.both w.deref_mut.result.now w.in-Many.is w.deref_mut.ensures.value in
          rw w.self-inside-is (take_distinct eq c.args.len (keys_of es) (keys_of w.truncate-in-Many.new.self.pairs.items) (ap keys_of w.truncate-in-Many.ensures.pairs ∙ sym (take-map (λ e. e.0) c.args.len es)) holds.0, w.truncate-in-Many.ensures.hashes)
    ]

pub truncate-requires-in-Many : goal.truncate-requires-in-Many
truncate-requires-in-Many g c = (many_hold c.self.inside.store g.K.PartialEq.eq g.K.Hash.hash_input c.self.invariant c.in-Many.both c.deref_mut.result.now c.in-Many.is c.deref_mut.ensures.value).1

use Rattle.std.proofs.Common.{length, ap, ◌∙◌, arith}
use Rattle.std.specs.Map.{keys_of}
use Rattle.std.proofs.lemmas.Map.Entries.{length-keys_of}
use Rattle.indexmap.proofs.ReorderLemmas.{map-swap}
use Rattle.jsonc_value.proofs.DistinctKeys.{swap_distinct}
use Rattle.jsonc_value.proofs.Stores.{few_pairs, few_distinct, many_pairs, many_hold}
use Rattle.jsonc_value.proofs.map.Map.swap_pairs.Goals as goal
use Rattle.jsonc_value.proofs.map.Map.swap_pairs.Goals.{in-Few, in-Many}

pub invariant_of-self : goal.invariant_of-self
invariant_of-self g c =
    let eq = g.K.PartialEq.eq in
    elim c.match-self.branch [
      | in-Few w ↦
          let es = w.in-Few.pairs.items in
          let distinct = few_distinct c.self.inside.store eq g.K.Hash.hash_input c.self.invariant w.in-Few.pairs w.in-Few.is in
          rw w.self-inside-is (
            let long = ap length (few_pairs c.self.inside.store c.args.self.now w.in-Few.pairs w.in-Few.is c.self.view_is) in swap_distinct eq g.met.K.Eq.laws c.args.first c.args.second (keys_of es) (keys_of w.swap.new.self.items)
                (omega (arith, c.requires.first, long, length-keys_of es)) (omega (arith, c.requires.second, long, length-keys_of es)) (ap keys_of w.swap.ensures.items ∙ map-swap (λ e. e.0) es c.args.first c.args.second) distinct,
            tt,
          )
      | in-Many w ↦
          let es = w.deref_mut.result.now.pairs.items in
          let holds = many_hold c.self.inside.store eq g.K.Hash.hash_input c.self.invariant w.in-Many.both w.deref_mut.result.now w.in-Many.is w.deref_mut.ensures.value in
          rw w.self-inside-is (
            let long = ap length (many_pairs c.self.inside.store c.args.self.now w.in-Many.both w.deref_mut.result.now w.in-Many.is w.deref_mut.ensures.value c.self.view_is) in swap_distinct eq g.met.K.Eq.laws c.args.first c.args.second (keys_of es) (keys_of w.swap-in-Many.new.self.pairs.items)
                (omega (arith, c.requires.first, long, length-keys_of es)) (omega (arith, c.requires.second, long, length-keys_of es)) (ap keys_of w.swap-in-Many.ensures.pairs ∙ map-swap (λ e. e.0) es c.args.first c.args.second) holds.0,
            w.swap-in-Many.ensures.hashes,
          )
    ]

pub swap-requires-in-Many-clause-hashes : goal.swap-requires-in-Many-clause-hashes
swap-requires-in-Many-clause-hashes g c = (many_hold c.self.inside.store g.K.PartialEq.eq g.K.Hash.hash_input c.self.invariant c.in-Many.both c.deref_mut.result.now c.in-Many.is c.deref_mut.ensures.value).1

use Rattle.std.proofs.Common.{◌<◌, ap, sym, length, refl, subst, slice_get, ◌∙◌}
use Rattle.std.specs.Map.{keys_of}
use Rattle.std.proofs.lemmas.Option.{slice_get_read}
use Rattle.indexmap.proofs.SetLemmas.{map-remove}
use Rattle.jsonc_value.proofs.DistinctKeys.{remove_distinct}
use Rattle.jsonc_value.proofs.Stores.{few_pairs, few_distinct, many_pairs, many_hold}
use Rattle.jsonc_value.proofs.map.Map.take_at.Goals as goal
use Rattle.jsonc_value.proofs.map.Map.take_at.Goals.{in-Few, in-Many}

pub invariant_of-self : goal.invariant_of-self
invariant_of-self g c =
    let eq = g.K.PartialEq.eq in
    elim c.match-self.branch [
      | in-Few w ↦
          let es = w.in-Few.pairs.items in
          let distinct = few_distinct c.self.inside.store eq g.K.Hash.hash_input c.self.invariant w.in-Few.pairs w.in-Few.is in
          rw w.self-inside-is (remove_distinct eq c.args.place (keys_of es) (keys_of w.remove.new.self.items) (ap keys_of w.remove.ensures.items ∙ map-remove (λ e. e.0) es c.args.place) distinct, tt)
      | in-Many w ↦
          let es = w.deref_mut.result.now.pairs.items in
          let holds = many_hold c.self.inside.store eq g.K.Hash.hash_input c.self.invariant w.in-Many.both w.deref_mut.result.now w.in-Many.is w.deref_mut.ensures.value in
          rw w.self-inside-is (remove_distinct eq c.args.place (keys_of es) (keys_of w.remove-in-Many.new.self.pairs.items) (ap keys_of w.remove-in-Many.ensures.pairs ∙ map-remove (λ e. e.0) es c.args.place) holds.0, w.remove-in-Many.ensures.hashes)
    ]

pub returns-clause-pair : goal.returns-clause-pair
returns-clause-pair g c = elim c.match-self.branch [
  | in-Few w ↦
      let es = w.in-Few.pairs.items in
      let seen = few_pairs c.self.inside.store c.args.self.now w.in-Few.pairs w.in-Few.is c.self.view_is in
      let within : c.args.place < length es = subst (λ l. c.args.place < length l) (sym seen) c.requires in
      rw w.result-is (ap (λ l. slice_get l c.args.place) (sym seen) ∙ slice_get_read es (length es) c.args.place w.remove.result refl within w.remove.ensures.value)
  | in-Many w ↦
      let seen = many_pairs c.self.inside.store c.args.self.now w.in-Many.both w.deref_mut.result.now w.in-Many.is w.deref_mut.ensures.value c.self.view_is in
      rw w.result-is (ap (λ l. slice_get l c.args.place) (sym seen) ∙ w.remove-in-Many.ensures.pair)
]

pub remove-requires-in-Many-clause-within : goal.remove-requires-in-Many-clause-within
remove-requires-in-Many-clause-within g c =
    subst (λ l. c.args.place < length l) (sym (many_pairs c.self.inside.store c.args.self.now c.in-Many.both c.deref_mut.result.now c.in-Many.is c.deref_mut.ensures.value c.self.view_is)) c.requires

pub remove-requires-in-Many-clause-hashes : goal.remove-requires-in-Many-clause-hashes
remove-requires-in-Many-clause-hashes g c = (many_hold c.self.inside.store g.K.PartialEq.eq g.K.Hash.hash_input c.self.invariant c.in-Many.both c.deref_mut.result.now c.in-Many.is c.deref_mut.ensures.value).1

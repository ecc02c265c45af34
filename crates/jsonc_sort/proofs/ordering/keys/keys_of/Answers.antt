use Rattle.std.proofs.Common.{rules, [], ◌∷◌, ◌++◌, ◌+◌, subst, sym, ◌≡◌, ◌<◌, length, List, Option}
use Rattle.jsonc_sort.proofs.lemmas.ordering.AnsweredKeys.{AreKeysBelow, first_refused, memory_wanted, one_more}
use Rattle.jsonc_sort.proofs.ordering.keys.keys_of.Goals as goal

pub returns-in-Err-clause-refused : goal.returns-in-Err-clause-refused
returns-in-Err-clause-refused g c =
    first_refused g.F.Fn c.args.key.now c.args.doc.now c.args.nodes.now c.loop-place.place c.loop-place.keys.items c.in-Err.error c.loop-place.invariant.1 c.in-Err.ensures.refused

pub loop-place-preserved : goal.loop-place-preserved
loop-place-preserved g c =
    let was = c.loop-place.keys.items in
    let pushed : c.push.new.self.items ≡ was ++ c.in-Ok.found ∷ [] = search rules in (
      search rules,
      subst (λ (ks : List (Option g.row.K.Denot)). AreKeysBelow g.F.Fn c.args.key.now c.args.doc.now c.args.nodes.now (c.loop-place.place + 1) ks) (sym pushed)
          (one_more g.F.Fn c.args.key.now c.args.doc.now c.args.nodes.now c.loop-place.place was c.in-Ok.found c.loop-place.invariant.0 c.loop-place.invariant.1 c.in-Ok.ensures.key),
    )

pub returns-in_default-clause-refused : goal.returns-in_default-clause-refused
returns-in_default-clause-refused g c =
    let there : c.loop-place.place < length c.args.nodes.now = search rules in
    memory_wanted g.F.Fn c.args.key.now c.args.doc.now c.args.nodes.now c.loop-place.place c.loop-place.keys.items c.in-Ok.found there c.loop-place.invariant.1 c.in-Ok.ensures.key

use Rattle.std.proofs.Common.{refl, subst, arith}
use Rattle.jsonc_value.specs.Retained.{AnswersAt}
use Rattle.jsonc_value.proofs.RetainedEntries.{kept_more, kept_same}
use Rattle.jsonc_value.proofs.map.Map.retain.Goals as goal

pub loop-place-preserved-then-not-keep : goal.loop-place-preserved-then-not-keep
loop-place-preserved-then-not-keep g c =
    let post = g.F.Fn.post c.args.keep in
    let key = c.pair_at.result.0 in
    let value = c.pair_at.result.1 in
    kept_same (AnswersAt post) c.args.self.now c.loop-place.self c.loop-place.kept c.loop-place.place (key.now, value.now) c.loop-place.invariant c.pair_at.ensures
    (key, value, refl, refl, subst (λ b. post (key, (value, tt)) b) c.if-not-keep.true c.keep.ensures)

pub loop-place-preserved : goal.loop-place-preserved
loop-place-preserved g c =
    let post = g.F.Fn.post c.args.keep in
    let key = c.pair_at.result.0 in
    let value = c.pair_at.result.1 in
    kept_more (AnswersAt post) c.args.self.now c.loop-place.self c.loop-place.kept c.loop-place.place (key.now, value.now) c.loop-place.invariant c.pair_at.ensures
    c.swap_pairs.new.self (key, value, refl, refl, subst (λ b. post (key, (value, tt)) b) c.if-not-keep.false c.keep.ensures) (omega (arith, c.loop-place-test.true, c.len-len.ensures.len)) c.swap_pairs.ensures

use Rattle.std.proofs.Common.{refl, arith, ap, ◌+◌}
use Rattle.jsonc_diff.proofs.Shown.{goes_on}
use Rattle.jsonc_diff.proofs.hunks.push_next.Goals as goal

pub returns-clause-shown : goal.returns-clause-shown
returns-clause-shown g c =
    goes_on c.args.place _ c.args.rest.now c.split_at.result.1.now c.split_at-2.result.0.now c.args.passed c.hunk_len-count.result _ _ c.requires.kept c.requires.within c.split_at.ensures.back c.split_at-2.ensures.front
    refl (ap (λ n. c.args.place.old + c.args.passed + n) c.counts-old.ensures.old) (ap (λ n. c.args.place.new + c.args.passed + n) c.counts-old.ensures.new) c.in_ok-push_hunk.ensures

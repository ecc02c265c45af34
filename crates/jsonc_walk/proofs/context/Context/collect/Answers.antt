use Rattle.std.proofs.Common.{sym, ap, is_some}
use Rattle.jsonc_scan.specs.Found.{token_held}
use Rattle.jsonc_walk.proofs.lemmas.LentStrings.{copy_collected}
use Rattle.jsonc_walk.proofs.lemmas.MovedTokens.{lent_held}
use Rattle.jsonc_walk.proofs.context.Context.collect.Goals as goal

pub returns-clause-lent : goal.returns-clause-lent
returns-clause-lent g c = λ lent.
    let self = c.args.self.now in
    let kept = c.requires.passed (ap (λ f. is_some f) c.in-Some.is) in
    copy_collected self.scanner (token_held c.args.token self.content) c.in-Ok.token c.range-range.result self.tokens c.in-Some.tokens c.push.new.self.items
    c.in-Some.is c.range-range.ensures c.in-Ok.ensures.same c.in-Ok.ensures.lent (rw (sym c.make_room.ensures) c.in-Ok-push.ensures.items) (lent_held self.scanner self.content c.args.token c.requires.plain kept lent)

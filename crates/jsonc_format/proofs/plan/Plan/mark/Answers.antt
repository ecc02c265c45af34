use Rattle.std.proofs.Common.{sym}
use Rattle.jsonc_format.specs.Plans.{pending}
use Rattle.jsonc_format.proofs.Closing.{not_marked}
use Rattle.jsonc_format.proofs.plan.Plan.mark.Goals as goal

pub returns-then-not-broken-clause-held : goal.returns-then-not-broken-clause-held
returns-then-not-broken-clause-held g c = sym (not_marked c.args.broken (pending c.args.self.now) c.if-not-broken.true)

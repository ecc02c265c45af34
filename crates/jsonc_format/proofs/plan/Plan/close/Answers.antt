use Rattle.jsonc_format.specs.Plans.{pending}
use Rattle.jsonc_format.proofs.Closing.{closed_flag, closed_rest}
use Rattle.jsonc_format.proofs.plan.Plan.close.Goals as goal

pub returns : goal.returns
returns g c =
    let s = c.args.self.now in
    record {
      flat = rw c.mark.ensures.flat (closed_flag s.bare s.flat.items s.inner s.outer.items c.in-Some.closed c.in-Some.is c.requires.ordered);
      open_ones = closed_rest s.inner c.pop-self.result s.outer.items c.pop-self.new.self.items (pending c.mark.new.self) c.in-Some.closed c.in-Some.is c.pop-self.ensures.items c.mark.ensures.held;
      bare = c.mark.ensures.bare;
    }

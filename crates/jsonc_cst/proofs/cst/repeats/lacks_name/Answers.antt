use Rattle.std.proofs.Common.{IsTrue, false}
use Rattle.jsonc_cst.proofs.cst.repeats.lacks_name.Goals as goal

pub returns-in-Ok : goal.returns-in-Ok
returns-in-Ok g c = λ t h. let wrong : IsTrue false = rw (c.in-Ok.ensures.named.1 h) at t in cc

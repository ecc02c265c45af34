use Rattle.std.proofs.Common.{refl}
use Rattle.jsonc_parser.proofs.patch.apply.make_first.Goals as goal

pub returns-in-Err-clause-kept : goal.returns-in-Err-clause-kept
returns-in-Err-clause-kept g c = c.in-Err.ensures.kept c.requires

pub returns-in-Err-clause-fails : goal.returns-in-Err-clause-fails
returns-in-Err-clause-fails g c = (refl, c.in-Err.ensures.fails)

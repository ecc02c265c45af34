use Rattle.jsonc_cst.proofs.RepeatedNames.{text_there, text_joined}
use Rattle.jsonc_cst.proofs.cst.repeats.put_name.Goals as goal

pub returns-clause-there : goal.returns-clause-there
returns-clause-there g c = text_there c.args.seen.now.keys c.args.name c.in-Ok.added c.in-Ok.ensures.added

pub returns-clause-joined : goal.returns-clause-joined
returns-clause-joined g c = text_joined c.args.seen.now.keys c.insert.new.self.keys c.args.name c.in-Ok.ensures.keys

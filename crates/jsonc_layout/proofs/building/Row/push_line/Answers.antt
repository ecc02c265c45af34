use Rattle.std.proofs.Common.{refl}
use Rattle.jsonc_layout.proofs.lemmas.Building.{gained_as}
use Rattle.jsonc_layout.proofs.building.Row.push_line.Goals as goal

pub returns-clause-gains : goal.returns-clause-gains
returns-clause-gains g c =
    gained_as c.args.tree.now.nodes c.push.new.tree.nodes c.push_blank.new.tree.nodes c.args.self.now.nodes.items c.push.new.self.nodes.items c.push_blank.new.self.nodes.items _ _ _ c.push_blank.result refl c.in_ok-push.ensures.gains c.push_blank.ensures.gains

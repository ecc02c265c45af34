use Rattle.std.proofs.Common.{◌∙◌}
use Rattle.jsonc_view.proofs.Making.{no_member_yet}
use Rattle.jsonc_view.proofs.maker.ViewMakerReceiverString.open_object.Goals as goal

pub returns-clause-held : goal.returns-clause-held
returns-clause-held g c = no_member_yet c.args.self.now c.len.result (c.len.ensures ∙ c.args.self.now.members.ok.0)

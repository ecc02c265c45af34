use Rattle.std.proofs.Common.{◌+◌, ◌-◌}
use Rattle.jsonc_view.proofs.Making.{stays, text_shown}
use Rattle.jsonc_view.proofs.maker.ViewMakerReceiverString.number.Goals as goal

pub returns-clause-made : goal.returns-clause-made
returns-clause-made g c = stays c.args.self.now (text_shown c.args.self.now.rows c.span.result (c.args.range.start) (c.args.range.end) c.span.ensures.start c.span.ensures.end c.requires.inside)

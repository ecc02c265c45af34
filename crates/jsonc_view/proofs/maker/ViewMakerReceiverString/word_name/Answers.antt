use Rattle.std.proofs.Common.{◌+◌, ◌-◌}
use Rattle.jsonc_view.proofs.Making.{stays, text_shown}
use Rattle.jsonc_view.proofs.maker.ViewMakerReceiverString.word_name.Goals as goal

pub returns-clause-named : goal.returns-clause-named
returns-clause-named g c = stays c.args.self.now (text_shown c.args.self.now.rows c.span.result (c.args.range.start) (c.args.range.end) c.span.ensures.start c.span.ensures.end c.requires.inside)

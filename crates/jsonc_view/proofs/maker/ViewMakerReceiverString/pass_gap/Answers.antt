use Rattle.jsonc_text.specs.Gaps.{Gap, none}
use Rattle.jsonc_text.specs.OptionsOf.{parse_options}
use Rattle.jsonc_walk.proofs.lemmas.Gaps.{nothing}
use Rattle.jsonc_view.proofs.maker.ViewMakerReceiverString.pass_gap.Goals as goal

pub returns-clause-gap : goal.returns-clause-gap
returns-clause-gap g c = let old = c.args.self.now in nothing old.rows.text.now (Gap (parse_options old.options)) c.args.from c.requires.boundary none

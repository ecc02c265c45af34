use Rattle.jsonc_view.proofs.Reading.{no_root_there, root_there}
use Rattle.std.proofs.Common.{◌∙◌, ap, sym, Some}
use Rattle.jsonc_view.proofs.view.JsonView.value.Goals as goal

pub value_at-requires : goal.value_at-requires
value_at-requires g c = let view = c.args.self.now in let there = root_there view.rows view.root view.shown.0 c.in-Some.row view.shown.1 c.in-Some.is in (there.value, there.shown)

pub returns-in-Some : goal.returns-in-Some
returns-in-Some g c = let view = c.args.self.now in let there = root_there view.rows view.root view.shown.0 c.in-Some.row view.shown.1 c.in-Some.is in ap Some (c.value_at.ensures there.value there.shown) ∙ sym there.is

pub returns-in-None : goal.returns-in-None
returns-in-None g c = let view = c.args.self.now in sym (no_root_there view.rows view.root view.shown.0 view.shown.1 c.in-None.is)

use Rattle.std.proofs.Common.{sym, ap, ◌∙◌}
use Rattle.std.specs.Option.{option_map}
use Rattle.jsonc_value.proofs.Pairs.{value_of_entry}
use Rattle.jsonc_value.proofs.map.Map.remove.Goals as goal

pub returns-in-Some-clause-value : goal.returns-in-Some-clause-value
returns-in-Some-clause-value g c = ap (option_map (λ e. e.1)) c.in-Some.ensures.entry ∙ sym (value_of_entry (g.K.PartialEq.eq c.args.key.now) c.args.self.now)

pub returns-clause-value : goal.returns-clause-value
returns-clause-value g c = ap (option_map (λ e. e.1)) c.in-None.ensures.entry ∙ sym (value_of_entry (g.K.PartialEq.eq c.args.key.now) c.args.self.now)

use Rattle.std.proofs.Common.{sym, ap, ◌∙◌}
use Rattle.std.specs.Option.{option_map}
use Rattle.jsonc_value.specs.Kinds.{properties}
use Rattle.jsonc_value.specs.Names.{is_named}
use Rattle.jsonc_value.proofs.Pairs.{value_of_entry}
use Rattle.jsonc_value.proofs.value.JsonObject.take.Goals as goal

pub returns-in-Some-clause-value : goal.returns-in-Some-clause-value
returns-in-Some-clause-value g c = ap (option_map (λ e. e.1)) c.in-Some.ensures.entry ∙ sym (value_of_entry (is_named c.args.name.now) (properties c.args.self.now))

pub returns-clause-value : goal.returns-clause-value
returns-clause-value g c = ap (option_map (λ e. e.1)) c.in-None.ensures.entry ∙ sym (value_of_entry (is_named c.args.name.now) (properties c.args.self.now))

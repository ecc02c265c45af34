use Rattle.std.proofs.Common.{◌∙◌, ap}
use Rattle.jsonc_text.specs.Plain.{object}
use Rattle.jsonc_value.specs.to_value.Lent.{texts_in_properties}
use Rattle.jsonc_value.specs.to_value.Views.{members_plain}
use Rattle.jsonc_value.proofs.lemmas.to_value.Lending.{texts-Object}
use Rattle.jsonc_value.proofs.lemmas.to_value.Plains.{object_plain}
use Rattle.jsonc_value.proofs.to_value.values.object_of.Goals as goal

pub returns-clause-plain : goal.returns-clause-plain
returns-clause-plain g c = object_plain c.new.result ∙ ap (λ ps. object (members_plain ps)) c.new.ensures

pub returns-clause-texts : goal.returns-clause-texts
returns-clause-texts g c = texts-Object c.new.result ∙ ap texts_in_properties c.new.ensures

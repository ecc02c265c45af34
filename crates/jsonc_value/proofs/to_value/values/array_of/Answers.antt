use Rattle.std.proofs.Common.{◌∙◌, ap}
use Rattle.jsonc_text.specs.Plain.{array}
use Rattle.jsonc_value.specs.to_value.Lent.{texts_in_elements}
use Rattle.jsonc_value.specs.to_value.Views.{items_plain}
use Rattle.jsonc_value.proofs.lemmas.to_value.Lending.{texts-Array}
use Rattle.jsonc_value.proofs.lemmas.to_value.Plains.{array_plain}
use Rattle.jsonc_value.proofs.to_value.values.array_of.Goals as goal

pub returns-clause-plain : goal.returns-clause-plain
returns-clause-plain g c = array_plain c.new.result ∙ ap (λ vs. array (items_plain vs)) c.new.ensures

pub returns-clause-texts : goal.returns-clause-texts
returns-clause-texts g c = texts-Array c.new.result ∙ ap texts_in_elements c.new.ensures

use Rattle.jsonc_parser.proofs.lemmas.patch.Located.{leads_back}
use Rattle.jsonc_parser.proofs.patch.laws.pointers_lead_back.Goals as goal

pub returns : goal.returns
returns g c = leads_back

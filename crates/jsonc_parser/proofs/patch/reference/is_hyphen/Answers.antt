use Rattle.jsonc_parser.proofs.lemmas.patch.Adding.{hyphen_told}
use Rattle.jsonc_parser.proofs.patch.reference.is_hyphen.Goals as goal

pub returns : goal.returns
returns c = hyphen_told c.args.token.now c.utf8.token c.eq.result c.eq.ensures

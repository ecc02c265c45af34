use Rattle.jsonc_parser.proofs.lemmas.patch.Equality.{texts_told}
use Rattle.jsonc_parser.proofs.patch.moving.are_same.Goals as goal

pub returns : goal.returns
returns g c = texts_told c.args.left.now c.args.right.now c.as_str.result.now c.as_str-2.result.now c.eq.result c.as_str.ensures.value c.as_str-2.ensures.value c.eq.ensures

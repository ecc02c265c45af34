use Rattle.std.proofs.Common.{chars}
use Rattle.jsonc_parser.proofs.lemmas.patch.PutIndexes.{may_by_hyphen, may_by_index}
use Rattle.jsonc_parser.proofs.patch.putting.may_be_index.Goals as goal

pub returns-then-is_hyphen : goal.returns-then-is_hyphen
returns-then-is_hyphen c = may_by_hyphen (chars c.args.token.now) c.is_hyphen.result c.is_hyphen.ensures c.if-is_hyphen.true

pub returns : goal.returns
returns c = may_by_index (chars c.args.token.now) c.is_hyphen.result c.is_index.result c.is_hyphen.ensures c.if-is_hyphen.false c.is_index.ensures

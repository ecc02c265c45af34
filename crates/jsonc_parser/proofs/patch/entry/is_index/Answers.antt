use Rattle.std.proofs.Common.{◌∙◌, sym}
use Rattle.jsonc_parser.proofs.lemmas.patch.PutIndexes.{index_by_digits, no_index_empty, no_index_padded}
use Rattle.jsonc_parser.proofs.patch.entry.is_index.Goals as goal

pub returns-then-is_empty : goal.returns-then-is_empty
returns-then-is_empty c = no_index_empty c.args.token.now c.utf8.token (sym c.is_empty.ensures ∙ c.if-is_empty.true)

pub returns-then-is_padded : goal.returns-then-is_padded
returns-then-is_padded c = no_index_padded c.args.token.now c.utf8.token c.is_padded.result c.is_padded.ensures c.if-is_padded.true

pub returns : goal.returns
returns c = index_by_digits c.args.token.now c.utf8.token c.is_padded.result c.is_padded.ensures (sym c.is_empty.ensures ∙ c.if-is_empty.false) c.if-is_padded.false c.are_digits.result c.are_digits.ensures

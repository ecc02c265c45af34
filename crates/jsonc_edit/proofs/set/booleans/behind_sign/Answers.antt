use Rattle.std.proofs.lemmas.Str.{IsCharBoundary-start}
use Rattle.jsonc_edit.proofs.set.booleans.behind_sign.Goals as goal

pub has_byte-requires-clause-boundary : goal.has_byte-requires-clause-boundary
has_byte-requires-clause-boundary c = IsCharBoundary-start c.args.text.now c.utf8.text

pub has_byte-requires-2-clause-boundary : goal.has_byte-requires-2-clause-boundary
has_byte-requires-2-clause-boundary c = IsCharBoundary-start c.args.text.now c.utf8.text

pub returns-clause-boundary : goal.returns-clause-boundary
returns-clause-boundary c = IsCharBoundary-start c.args.text.now c.utf8.text

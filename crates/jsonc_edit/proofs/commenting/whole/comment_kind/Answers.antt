use Rattle.std.proofs.lemmas.Str.{IsCharBoundary-start}
use Rattle.jsonc_edit.proofs.commenting.whole.comment_kind.Goals as goal

pub has_byte-requires-clause-boundary : goal.has_byte-requires-clause-boundary
has_byte-requires-clause-boundary c = IsCharBoundary-start c.args.text.now c.utf8.text

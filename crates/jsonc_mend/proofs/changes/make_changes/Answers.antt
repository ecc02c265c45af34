use Rattle.std.proofs.Common.{string_bytes}
use Rattle.jsonc_mend.proofs.Rewriting.{unwritten}
use Rattle.std.proofs.lemmas.Str.{IsCharBoundary-start}
use Rattle.jsonc_mend.proofs.changes.make_changes.Goals as goal

pub loop-proposal-init : goal.loop-proposal-init
loop-proposal-init g c = record { place = IsCharBoundary-start c.args.text.now c.utf8.text; made = unwritten c.new-2.result.items (string_bytes c.new.result) c.new-2.ensures.items c.new.ensures.bytes }

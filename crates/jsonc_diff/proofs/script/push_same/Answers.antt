use Rattle.std.proofs.Common.{◌∙◌, ◌++◌, ap}
use Rattle.jsonc_diff.specs.Scripts.{old_of, new_of}
use Rattle.jsonc_diff.proofs.Scripts.{same_texts, texts}
use Rattle.jsonc_diff.proofs.script.push_same.Goals as goal

pub returns-clause-old : goal.returns-clause-old
returns-clause-old g c = c.in_ok-push_kept.ensures.old ∙ ap (λ l. old_of c.args.steps.now.items ++ texts l) c.split_at.ensures.front

pub returns-clause-new : goal.returns-clause-new
returns-clause-new g c = same_texts _ _ _ c.args.old.now c.args.new.now _ c.split_at.ensures.front c.same_len-same.ensures.same c.in_ok-push_kept.ensures.new

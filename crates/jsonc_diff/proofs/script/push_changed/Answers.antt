use Rattle.std.proofs.Common.{◌∙◌, ◌++◌, ap}
use Rattle.jsonc_diff.specs.Scripts.{old_of, new_of}
use Rattle.jsonc_diff.proofs.Scripts.{texts}
use Rattle.jsonc_diff.proofs.script.push_changed.Goals as goal

pub returns-clause-old : goal.returns-clause-old
returns-clause-old g c = c.in_ok-push_added.ensures.old ∙ c.in_ok-push_removed.ensures.old ∙ ap (λ l. old_of c.args.steps.now.items ++ texts l) c.split_at.ensures.front

pub returns-clause-new : goal.returns-clause-new
returns-clause-new g c = c.in_ok-push_added.ensures.new ∙ ap (λ l. l ++ texts c.split_at-2.result.0.now) c.in_ok-push_removed.ensures.new ∙ ap (λ l. new_of c.args.steps.now.items ++ texts l) c.split_at-2.ensures.front

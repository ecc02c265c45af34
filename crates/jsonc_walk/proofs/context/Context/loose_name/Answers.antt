use Rattle.std.proofs.Common.{◌∙◌, sym, ap, Some}
use Rattle.jsonc_walk.specs.Context.{last}
use Rattle.jsonc_walk.specs.Scanned.{loose_text}
use Rattle.jsonc_walk.proofs.lemmas.Names.{true_chars, false_chars, null_chars}
use Rattle.jsonc_walk.proofs.context.Context.loose_name.Goals as goal

pub returns-in-True : goal.returns-in-True
returns-in-True g c = ap Some true_chars ∙ sym (ap (λ k. loose_text (last c.args.self.now k)) c.in-True.is)

pub returns-in-False : goal.returns-in-False
returns-in-False g c = ap Some false_chars ∙ sym (ap (λ k. loose_text (last c.args.self.now k)) c.in-False.is)

pub returns-in-Null : goal.returns-in-Null
returns-in-Null g c = ap Some null_chars ∙ sym (ap (λ k. loose_text (last c.args.self.now k)) c.in-Null.is)

-- What a command asks for.
use Rattle.std.proofs.Common.{◌≡◌, Bool, List, subst, sym, ℕ}
use Rattle.jsonc_words.specs.declared.call.Command.{Command}
use Rattle.jsonc_program.specs.Jobs.{IsJobOf}
use Rattle.jsonc_program.specs.declared.job.Job.{Job}

-- is what the same command asks for
pub asked_by : (command same : Command) (must : Bool) (text : List ℕ) (job : Job) → command ≡ same → IsJobOf same must text job → IsJobOf command must text job
asked_by command same must text job is h = subst (λ (c : Command). IsJobOf c must text job) (sym is) h

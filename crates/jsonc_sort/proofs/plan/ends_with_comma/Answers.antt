use Rattle.std.proofs.Common.{sym, ◌∙◌}
use Rattle.jsonc_sort.proofs.Lasts.{last_comma}
use Rattle.jsonc_sort.proofs.plan.ends_with_comma.Goals as goal

pub returns-in-Some : goal.returns-in-Some
returns-in-Some c = c.has_comma.ensures ∙ last_comma c.args.entries.now c.in-Some.entry.now (sym c.in-Some.ensures.value)

use Rattle.std.proofs.Common.{refl, subst}
use Rattle.jsonc_text.specs.OptionsOf.{parse_options}
use Rattle.jsonc_mends.specs.Mends.{IsMended}
use Rattle.jsonc_program.proofs.mending.mends_of.Goals as goal

pub returns-in-Ok-mend-clause-text : goal.returns-in-Ok-mend-clause-text
returns-in-Ok-mend-clause-text g c =
    (c.in-Ok-mend.mends, (c.in-Ok.ensures.cases.1, subst (λ s. IsMended (parse_options c.args.options.now) s c.in-Ok-mend.mends) c.in-Ok.ensures.cases.0 c.in-Ok-mend.ensures), refl)

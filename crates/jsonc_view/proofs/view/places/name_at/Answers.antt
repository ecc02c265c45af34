use Rattle.jsonc_view.specs.Shown.{ShowsName}
use Rattle.std.proofs.Common.{subst}
use Rattle.jsonc_view.proofs.view.places.name_at.Goals as goal

pub text_at-requires : goal.text_at-requires
text_at-requires g c = (c.requires.0, subst (λ k. ShowsName c.args.rows.now k c.requires.0) c.in-Lent.is c.requires.1)

pub decoded_at-requires : goal.decoded_at-requires
decoded_at-requires g c = (c.requires.0, subst (λ k. ShowsName c.args.rows.now k c.requires.0) c.in-Decoded.is c.requires.1)

pub returns-in-Lent : goal.returns-in-Lent
returns-in-Lent g c = λ t h. c.text_at.ensures t (subst (λ k. ShowsName c.args.rows.now k t) c.in-Lent.is h)

pub returns-in-Decoded : goal.returns-in-Decoded
returns-in-Decoded g c = λ t h. c.decoded_at.ensures t (subst (λ k. ShowsName c.args.rows.now k t) c.in-Decoded.is h)

use Rattle.std.proofs.Common.{◌≡◌, Option, Ok, Err, IfOk, refl, subst, sym}
use Rattle.jsonc_text.specs.Plain.{Plain}
use Rattle.jsonc_view.specs.Reads.{IsViewed}
use Rattle.jsonc_view.specs.Shown.{ShowsRoot}
use Rattle.jsonc_view.proofs.parse.viewed.Goals as goal

pub of-requires : goal.of-requires
of-requires g c = subst (λ q. IfOk q (λ root. (v : Option Plain) × ShowsRoot c.args.rows root v)) c.in-Ok.is c.requires

pub returns-in-Ok : goal.returns-in-Ok
returns-in-Ok g c = subst (λ q. IsViewed c.args.rows q (Ok c.of.result)) (sym c.in-Ok.is) c.of.ensures

pub returns : goal.returns
returns g c = subst (λ q. IsViewed c.args.rows q (Err c.in-Err.fault)) (sym c.in-Err.is) refl

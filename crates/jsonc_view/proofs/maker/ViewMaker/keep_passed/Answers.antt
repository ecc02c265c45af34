use Rattle.std.proofs.Common.{subst}
use Rattle.jsonc_walk.proofs.lemmas.Refusals.{ok_of}
use Rattle.jsonc_view.specs.Shown.{WasDecoded}
use Rattle.jsonc_view.proofs.Showing.{shown_as}
use Rattle.jsonc_view.proofs.maker.ViewMaker.keep_passed.Goals as goal

pub returns : goal.returns
returns g c = ok_of c.keep.result (λ n h. shown_as (λ w. subst (WasDecoded c.keep.new.self.rows n) c.in_ok-value.ensures w) h) c.keep.ensures

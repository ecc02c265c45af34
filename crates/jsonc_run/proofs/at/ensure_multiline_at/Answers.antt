use Rattle.jsonc_run.proofs.EditsMade.{done_there, not_found}
use Rattle.jsonc_run.proofs.at.ensure_multiline_at.Goals as goal

pub returns-in_default : goal.returns-in_default
returns-in_default g c = not_found _ _ c.find_container.ensures.found (λ h. h) c.in_default.not-Some

pub ensure_multiline-requires-clause-holds : goal.ensure_multiline-requires-clause-holds
ensure_multiline-requires-clause-holds g c = ((c.find_container.ensures.found c.in-Some.container).0 c.in-Some.is).1

pub returns : goal.returns
returns g c =
    let n = c.in-Some.container in
    let at = (c.find_container.ensures.found c.in-Some.container).0 c.in-Some.is in
    done_there _ _ _ n (λ Is h. (n, at, h)) (λ k. k) _ c.ensure_multiline.ensures.made c.ensure_multiline.ensures.error c.ensure_multiline.ensures.kept c.ensure_multiline.ensures.document

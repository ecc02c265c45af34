use Rattle.jsonc_run.proofs.EditsMade.{done_there, not_found}
use Rattle.jsonc_run.proofs.at.remove_entry.Goals as goal

pub returns-in_default : goal.returns-in_default
returns-in_default g c = not_found _ _ c.find_entry.ensures.found (λ h. h) c.in_default.not-Some

pub returns : goal.returns
returns g c =
    let n = c.in-Some.node in
    let at = (c.find_entry.ensures.found c.in-Some.node).0 c.in-Some.is in
    done_there _ _ _ n (λ Is h. (n, at, h)) (λ k. k) _ c.remove.ensures.taken c.remove.ensures.error c.remove.ensures.kept c.remove.ensures.document

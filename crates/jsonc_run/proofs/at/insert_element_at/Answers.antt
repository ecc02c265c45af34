use Rattle.jsonc_run.proofs.Inserted.{never_place}
use Rattle.jsonc_run.proofs.EditsMade.{made_there, not_found, refused_there}
use Rattle.jsonc_run.proofs.at.insert_element_at.Goals as goal

pub returns-in_default : goal.returns-in_default
returns-in_default g c = not_found _ _ c.find_needed.ensures.found (λ h. h) c.in_default.not-Some

pub insert_element-requires-clause-array : goal.insert_element-requires-clause-array
insert_element-requires-clause-array g c = ((c.find_needed.ensures.found c.in-Some.array).0 c.in-Some.is).1

pub returns-in-Ok : goal.returns-in-Ok
returns-in-Ok g c = made_there (c.in-Some.array, (c.find_needed.ensures.found c.in-Some.array).0 c.in-Some.is, (c.in-Ok.field-0, c.in-Ok.ensures.put))

pub returns-in-Err : goal.returns-in-Err
returns-in-Err g c =
    let n = c.in-Some.array in
    let at = (c.find_needed.ensures.found c.in-Some.array).0 c.in-Some.is in
    refused_there _ _ _ n (λ Is h. (n, at, h)) (never_place c.args.tree.now.nodes n) _ c.in-Err.ensures.error c.in-Err.ensures.kept c.in-Err.ensures.document

use Rattle.std.proofs.Common.{length, sym, ap, subst}
use Rattle.jsonc_tree.specs.Building.{Keeps}
use Rattle.jsonc_tree.specs.OrderedTree.{ordered_tree}
use Rattle.jsonc_tree.proofs.Builder.{Keeps-same}
use Rattle.jsonc_run.proofs.EditsMade.{made_there, not_found, refused_there}
use Rattle.jsonc_run.proofs.at.rename_at.Goals as goal

pub returns-in_default : goal.returns-in_default
returns-in_default g c = not_found _ _ c.find_property.ensures.found (λ h. h) c.in_default.not-Some

pub returns-in-Ok : goal.returns-in-Ok
returns-in-Ok g c = made_there (c.in-Some.property, (c.find_property.ensures.found c.in-Some.property).0 c.in-Some.is, (c.in-Ok.field-0, c.in-Ok.ensures.renamed))

pub returns-in-Err : goal.returns-in-Err
returns-in-Err g c =
    let old = c.args.tree.now.nodes in
    let n = c.in-Some.property in
    let at = (c.find_property.ensures.found c.in-Some.property).0 c.in-Some.is in
    refused_there old _ _ n (λ Is h. (n, at, h)) (λ k. k) _ c.in-Err.ensures.error
    (subst (Keeps (length old) old) (sym c.in-Err.ensures.untouched) (Keeps-same (length old) old)) (ap (λ ns. ordered_tree ns 0) c.in-Err.ensures.untouched)

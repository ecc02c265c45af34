use Rattle.std.proofs.Common.{sym, subst}
use Rattle.jsonc_edit.specs.Paths.{FindsExactly}
use Rattle.jsonc_insert.specs.named.Places.{IsPropertyAt}
use Rattle.jsonc_run.proofs.EntryPaths.{no_property, property_found, no_property_found}
use Rattle.jsonc_run.proofs.places.find_property.Goals as goal

pub returns-in_default-clause-found : goal.returns-in_default-clause-found
returns-in_default-clause-found g c = no_property c.args.tree.now.nodes c.args.path.now c.in_default.ensures.cases

pub returns-in_err-container-clause-found : goal.returns-in_err-container-clause-found
returns-in_err-container-clause-found g c =
    subst (λ r. FindsExactly r (IsPropertyAt c.args.tree.now.nodes c.args.path.now)) (sym c.from_residual.ensures)
    (no_property_found c.args.tree.now.nodes c.args.path.now c.in-Some.front.now c.in-Some.last.now c.in-Some.ensures.cases.0 c.in_err-container.ensures.found)

pub returns-clause-found : goal.returns-clause-found
returns-clause-found g c =
    property_found c.args.tree.now.nodes c.args.path.now c.in-Some.front.now c.in-Some.last.now c.in-Some.ensures.cases.0 c.in_ok-container.container c.property_of.result c.in_ok-container.ensures.found c.property_of.ensures.found

use Rattle.std.proofs.Common.{sym, subst}
use Rattle.jsonc_edit.specs.Paths.{FindsExactly}
use Rattle.jsonc_run.specs.Places.{IsEntryAt}
use Rattle.jsonc_run.proofs.EntryPaths.{value_found, entry_found, nothing_found}
use Rattle.jsonc_run.proofs.places.find_entry.Goals as goal

pub returns-in_default-clause-found : goal.returns-in_default-clause-found
returns-in_default-clause-found g c = value_found c.args.tree.now.nodes c.args.path.now c.find.result c.in_default.ensures.cases c.find.ensures.found

pub returns-in_err-container-clause-found : goal.returns-in_err-container-clause-found
returns-in_err-container-clause-found g c =
    subst (λ r. FindsExactly r (IsEntryAt c.args.tree.now.nodes c.args.path.now)) (sym c.from_residual.ensures)
    (nothing_found c.args.tree.now.nodes c.args.path.now c.in-Some.front.now c.in-Some.last.now c.in-Some.ensures.cases.0 c.in_err-container.ensures.found)

pub returns-clause-found : goal.returns-clause-found
returns-clause-found g c =
    entry_found c.args.tree.now.nodes c.args.path.now c.in-Some.front.now c.in-Some.last.now c.in-Some.ensures.cases.0 c.in_ok-container.container c.entry_of.result c.in_ok-container.ensures.found c.entry_of.ensures.found

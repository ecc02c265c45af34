use Rattle.std.proofs.Common.{sym, ap, ◌∙◌}
use Rattle.jsonc_tree.specs.Stored.{content_of}
use Rattle.jsonc_run.proofs.EntryPaths.{property_of_object}
use Rattle.jsonc_run.proofs.places.property_of.Goals as goal

pub returns-in-Object-clause-found : goal.returns-in-Object-clause-found
returns-in-Object-clause-found g c =
    property_of_object c.args.tree.now.nodes c.args.container c.args.place c.element_at.result c.if_needed.result (sym c.kind.ensures ∙ ap content_of c.in-Object.is) c.element_at.ensures.element c.if_needed.ensures.found

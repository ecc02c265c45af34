use Rattle.std.proofs.Common.{List, ◌∙◌}
use Rattle.jsonc_tree.specs.Tree.{Node}
use Rattle.jsonc_edit.specs.Paths.{IsElementOf}
use Rattle.jsonc_cst.proofs.NodePaths.{not_entry, not_object}
use Rattle.jsonc_cst.proofs.cst.paths.property_place.Goals as goal

pub returns-in_default-kind : goal.returns-in_default-kind
returns-in_default-kind g c =
    let ns : List Node = c.args.tree.now.nodes in
    let at : IsElementOf ns c.in-Some.container c.in-Some.place c.args.property = c.in-Some.ensures.found in
    record {
      found = tt;
      none = not_entry ns c.args.tree.now.tree c.in-Some.container c.in-Some.place c.args.property at (λ o. not_object c.kind.result.now c.in_default-kind.not-Object (c.kind.ensures ∙ o));
      in_tree = tt;
    }

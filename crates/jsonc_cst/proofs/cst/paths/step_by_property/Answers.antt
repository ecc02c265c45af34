use Rattle.std.proofs.Common.{List, ◌∙◌}
use Rattle.jsonc_tree.specs.Tree.{Node}
use Rattle.jsonc_edit.specs.Paths.{IsElementOf}
use Rattle.jsonc_cst.proofs.NamePaths.{no_property, not_by_it}
use Rattle.jsonc_cst.proofs.NodePaths.{not_property}
use Rattle.jsonc_cst.proofs.cst.paths.step_by_property.Goals as goal

pub returns-in-None-clause-none : goal.returns-in-None-clause-none
returns-in-None-clause-none g c =
    let ns : List Node = c.args.tree.now.nodes in
    let at : IsElementOf ns c.in-Some.container c.in-Some.field-0-1 c.args.value = c.in-Some.ensures.found in
    not_by_it ns c.args.tree.now.tree c.in-Some.container c.in-Some.field-0-1 c.args.value at c.in-None.ensures.none

pub returns-in_default-kind : goal.returns-in_default-kind
returns-in_default-kind g c =
    let ns : List Node = c.args.tree.now.nodes in
    let at : IsElementOf ns c.in-Some.container c.in-Some.field-0-1 c.args.value = c.in-Some.ensures.found in
    record {
      found = tt;
      none = no_property ns c.args.tree.now.tree c.in-Some.container c.in-Some.field-0-1 c.args.value at (λ p. not_property c.kind.result.now c.in_default-kind.not-Property (c.kind.ensures ∙ p));
      in_tree = tt;
      property = tt;
    }

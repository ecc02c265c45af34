use Rattle.std.proofs.Common.{List, subst}
use Rattle.jsonc_tree.specs.Tree.{Node}
use Rattle.jsonc_layout.specs.nodes.Names.{HasName, NameReads}
use Rattle.jsonc_cst.specs.Paths.{StepsThrough}
use Rattle.jsonc_cst.proofs.NamePaths.{no_step_by_name}
use Rattle.jsonc_cst.proofs.cst.paths.step_by_name.Goals as goal

pub returns-in_default-clause-none : goal.returns-in_default-clause-none
returns-in_default-clause-none g c = λ p name s. c.in_default.ensures.none p s.0 s.1

pub returns-in-None-clause-none : goal.returns-in-None-clause-none
returns-in-None-clause-none g c =
    let ns : List Node = c.args.tree.now.nodes in
    let s : StepsThrough ns c.in-Some.object c.in-Some.property c.args.value = c.in-Some.ensures.found in
    no_step_by_name ns c.args.tree.now.tree c.in-Some.object c.in-Some.property c.args.value s (subst (λ o. NameReads (HasName ns c.in-Some.property) o) c.in-None.is c.in_ok-name.ensures.name)

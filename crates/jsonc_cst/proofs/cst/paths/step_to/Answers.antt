use Rattle.std.proofs.Common.{◌≡◌, List, ap, sym, ◌∙◌}
use Rattle.jsonc_tree.specs.Content.{property}
use Rattle.jsonc_tree.specs.Stored.{content_of}
use Rattle.jsonc_tree.specs.Tree.{Node, content_at}
use Rattle.jsonc_edit.specs.Paths.{IsElementOf}
use Rattle.jsonc_cst.proofs.NodePaths.{no_holder, none_through, not_array, not_property, steps_through}
use Rattle.jsonc_cst.proofs.cst.paths.step_to.Goals as goal

pub returns-in-Property-clause-found : goal.returns-in-Property-clause-found
returns-in-Property-clause-found g c = steps_through c.args.tree.now.nodes c.in-Some.container c.args.value c.step_through.result c.step_through.ensures.held c.step_through.ensures.found

pub returns-in-Property-clause-none : goal.returns-in-Property-clause-none
returns-in-Property-clause-none g c =
    let ns : List Node = c.args.tree.now.nodes in
    let at : IsElementOf ns c.in-Some.container c.in-Some.place c.args.value = c.in-Some.ensures.found in
    let is : content_at ns c.in-Some.container ≡ property = sym (ap content_of (sym c.in-Property.is) ∙ c.kind.ensures) in
    none_through ns c.args.tree.now.tree c.in-Some.container c.in-Some.place c.args.value c.step_through.result at is c.step_through.ensures.none

pub returns-in_default-kind : goal.returns-in_default-kind
returns-in_default-kind g c =
    let ns : List Node = c.args.tree.now.nodes in
    let at : IsElementOf ns c.in-Some.container c.in-Some.place c.args.value = c.in-Some.ensures.found in
    record {
      found = tt;
      none = no_holder ns c.args.tree.now.tree c.in-Some.container c.in-Some.place c.args.value at (λ a. not_array c.kind.result.now c.in_default-kind.not-Array (c.kind.ensures ∙ a)) (λ p. not_property c.kind.result.now c.in_default-kind.not-Property (c.kind.ensures ∙ p));
      in_tree = tt;
    }

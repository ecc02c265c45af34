use Rattle.std.proofs.Common.{◌<◌, ℕ, List, length, IfNone, IfSome, subst}
use Rattle.jsonc_tree.specs.Tree.{Node}
use Rattle.jsonc_layout.specs.input.Views.{chars_of}
use Rattle.jsonc_cst.specs.Paths.{StepsByName}
use Rattle.jsonc_cst.proofs.NamePaths.{covers_more_names, name_step_higher, names_lead_on, names_to_itself, no_names}
use Rattle.jsonc_cst.proofs.NodePaths.{not_first}
use Rattle.jsonc_cst.proofs.cst.paths.names_to.Goals as goal

pub loop-alloc-init : goal.loop-alloc-init
loop-alloc-init g c = record {
  in_tree = c.requires;
  leads = names_to_itself c.args.tree.now.nodes c.args.node c.new-names.result.items c.new-names.ensures.items;
  covers = λ names at. (names, at);
}

pub returns-in_default-clause-none : goal.returns-in_default-clause-none
returns-in_default-clause-none g c =
    let ns : List Node = c.args.tree.now.nodes in
    no_names ns c.args.node c.loop-alloc.value (not_first ns c.element_at-first.result c.loop-alloc.value c.element_at-first.ensures.element c.loop-alloc-test.ensures) (subst (λ o. IfNone o ((p : ℕ) (name : List ℕ) → StepsByName ns p name c.loop-alloc.value → ⊥)) c.in_default.is c.in_ok-above.ensures.none) c.loop-alloc.invariant.covers

pub loop-alloc-smaller : goal.loop-alloc-smaller
loop-alloc-smaller g c =
    let ns : List Node = c.args.tree.now.nodes in
    let s : StepsByName ns c.in-Some.above (chars_of c.in-Some.name) c.loop-alloc.value = subst (λ o. IfSome o (λ s. StepsByName ns s.0 (chars_of s.1) c.loop-alloc.value)) c.in-Some.is c.in_ok-above.ensures.found in
    name_step_higher ns c.args.tree.now.tree c.in-Some.above c.loop-alloc.value (chars_of c.in-Some.name) s

pub loop-alloc-preserved : goal.loop-alloc-preserved
loop-alloc-preserved g c =
    let ns : List Node = c.args.tree.now.nodes in
    let s : StepsByName ns c.in-Some.above (chars_of c.in-Some.name) c.loop-alloc.value = subst (λ o. IfSome o (λ s. StepsByName ns s.0 (chars_of s.1) c.loop-alloc.value)) c.in-Some.is c.in_ok-above.ensures.found in
    record {
      in_tree = subst (λ o. IfSome o (λ s. s.0 < length ns)) c.in-Some.is c.in_ok-above.ensures.in_tree;
      leads = names_lead_on ns c.args.node c.loop-alloc.value c.in-Some.above c.in-Some.name c.loop-alloc.names.items c.push.new.self.items c.in_ok-push.ensures.items s c.loop-alloc.invariant.leads;
      covers = covers_more_names ns c.args.tree.now.tree c.args.node c.loop-alloc.value c.in-Some.above (chars_of c.in-Some.name) (not_first ns c.element_at-first.result c.loop-alloc.value c.element_at-first.ensures.element c.loop-alloc-test.ensures) s c.loop-alloc.invariant.covers;
    }

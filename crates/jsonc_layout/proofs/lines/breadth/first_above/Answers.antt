use Rattle.std.proofs.Common.{◌+◌, ◌<◌, ◌∷◌, [], ◌∙◌, ap, subst, sym, IfSome}
use Rattle.std.specs.List.{find}
use Rattle.std.specs.Option.{option_or}
use Rattle.jsonc_layout.specs.lines.Breadth.{is_sought, levels}
use Rattle.jsonc_layout.specs.lines.Walk.{depth_at, node_of, HasCome}
use Rattle.jsonc_layout.proofs.lemmas.lines.WalkSteps.{come_top, found_all, found_from, searched_all, searched_on, searched_up}
use Rattle.jsonc_layout.proofs.lines.breadth.first_above.Goals as goal

pub loop-at-init : goal.loop-at-init
loop-at-init g c =
    let ns = c.args.tree.now.nodes in
    let tree = c.args.tree.now.tree in
    record {
      found = tt;
      come = come_top ns tree c.args.top c.requires.in_tree;
      depth = c.requires.some;
      same = found_all ns c.args.top (is_sought ns c.args.sought) tree c.requires.in_tree c.args.depth;
    }

pub loop-at-preserved-then-is_sought : goal.loop-at-preserved-then-is_sought
loop-at-preserved-then-is_sought g c =
    let ns = c.args.tree.now.nodes in
    let p = is_sought ns c.args.sought in
    let top = c.args.top in
    let inv = c.loop-at.invariant in
    let here = c.in-Some.here in
    let come : HasCome ns top here = subst (λ o. IfSome o (HasCome ns top)) c.in-Some.is inv.come in
    record {
      found = come.in_tree;
      come = c.next_higher-at.ensures.come;
      depth = c.next_higher-at.ensures.depth;
      same = searched_up ns top p c.loop-at.bound here (node_of c.next_higher-at.result) c.loop-at.found (find p (levels c.args.depth ns (top ∷ []))) come
          (subst (λ o. IfSome o (λ r. r.depth < c.loop-at.bound)) c.in-Some.is inv.depth) c.next_higher-at.ensures.passes (sym c.is_sought.ensures ∙ c.if-is_sought.true)
          (inv.same ∙ ap (λ o. option_or (found_from ns top p (depth_at ns top + c.loop-at.bound) (node_of o)) c.loop-at.found) c.in-Some.is);
    }

pub loop-at-preserved : goal.loop-at-preserved
loop-at-preserved g c =
    let ns = c.args.tree.now.nodes in
    let p = is_sought ns c.args.sought in
    let top = c.args.top in
    let inv = c.loop-at.invariant in
    record {
      found = inv.found;
      come = c.next_within-at.ensures.come;
      depth = c.next_within-at.ensures.depth;
      same = searched_on ns top p c.loop-at.bound c.in-Some.here.node (node_of c.next_within-at.result) c.loop-at.found (find p (levels c.args.depth ns (top ∷ []))) c.next_within-at.ensures.passes (sym c.is_sought.ensures ∙ c.if-is_sought.false)
          (inv.same ∙ ap (λ o. option_or (found_from ns top p (depth_at ns top + c.loop-at.bound) (node_of o)) c.loop-at.found) c.in-Some.is);
    }

pub returns-clause-first : goal.returns-clause-first
returns-clause-first g c =
    let ns = c.args.tree.now.nodes in
    let p = is_sought ns c.args.sought in
    let top = c.args.top in
    searched_all ns top p (depth_at ns top + c.loop-at.bound) c.loop-at.found (find p (levels c.args.depth ns (top ∷ [])))
    (c.loop-at.invariant.same ∙ ap (λ o. option_or (found_from ns top p (depth_at ns top + c.loop-at.bound) (node_of o)) c.loop-at.found) c.in_default.is)

use Rattle.std.proofs.Common.{◌<◌, [], ◌∷◌, ◌++◌, All, List, ℕ, refl, length, ap, sym, subst, ◌∙◌}
use Rattle.std.proofs.lemmas.List.{append_assoc, append-nil}
use Rattle.std.proofs.lemmas.List.Elements.{All-append, All-cons, All-nil}
use Rattle.jsonc_tree.specs.Order.{upward}
use Rattle.jsonc_tree.proofs.Order.{parent_within}
use Rattle.jsonc_layout.specs.lines.Indents.{levels_among}
use Rattle.jsonc_layout.proofs.lemmas.lines.NodesAbove.{among_here, among_over, among_root, climb_smaller, climbed, there_at}
use Rattle.jsonc_layout.proofs.lines.indents.levels_from.Goals as goal

pub returns-then-at-eq0-clause-levels : goal.returns-then-at-eq0-clause-levels
returns-then-at-eq0-clause-levels g c =
    sym (c.loop-next.invariant.same
    ∙ ap (λ xs. c.loop-next.levels.items ++ xs) (among_root c.args.tree.now.nodes c.args.tree.now.tree c.loop-next.next c.in-Some.at c.in-Some.is c.loop-next.invariant.in_tree c.if-at-eq0.true)
    ∙ append-nil c.loop-next.levels.items)

pub loop-next-smaller-then-stands_in_property : goal.loop-next-smaller-then-stands_in_property
loop-next-smaller-then-stands_in_property g c = climb_smaller c.args.tree.now.nodes c.args.tree.now.tree c.loop-next.next c.in-Some.at c.parent-next.result c.in-Some.is c.parent-next.ensures

pub loop-next-preserved-then-stands_in_property : goal.loop-next-preserved-then-stands_in_property
loop-next-preserved-then-stands_in_property g c =
    let ns = c.args.tree.now.nodes in
    record {
      in_tree = parent_within ns c.args.tree.now.tree c.in-Some.at (length ns) c.parent-next.result c.parent-next.ensures refl;
      all = c.loop-next.invariant.all;
      same = c.loop-next.invariant.same
          ∙ ap (λ xs. c.loop-next.levels.items ++ xs) (among_over ns c.args.tree.now.tree c.loop-next.next c.in-Some.at c.parent-next.result c.in-Some.is c.loop-next.invariant.in_tree c.parent-next.ensures c.if-at-eq0.false (sym c.stands_in_property.ensures ∙ c.if-stands_in_property.true));
    }

pub loop-next-smaller : goal.loop-next-smaller
loop-next-smaller g c = climb_smaller c.args.tree.now.nodes c.args.tree.now.tree c.loop-next.next c.in-Some.at c.parent-next.result c.in-Some.is c.parent-next.ensures

pub loop-next-preserved : goal.loop-next-preserved
loop-next-preserved g c =
    let ns = c.args.tree.now.nodes in
    let at = c.in-Some.at in
    let items = c.loop-next.levels.items in
    let here : at < length ns = there_at ns c.args.tree.now.tree c.loop-next.next at c.in-Some.is c.loop-next.invariant.in_tree in
    let all = All-append (λ m. m < length ns) items (at ∷ []) c.loop-next.invariant.all (All-cons (λ m. m < length ns) at [] here (All-nil (λ m. m < length ns))) in
    record {
      in_tree = parent_within ns c.args.tree.now.tree at (length ns) c.parent-next.result c.parent-next.ensures refl;
      all = subst (λ (xs : List ℕ). All (λ m. m < length ns) xs) (sym c.in_ok-push.ensures.items) all;
      same = c.loop-next.invariant.same
          ∙ ap (λ xs. items ++ xs) (among_here ns c.args.tree.now.tree c.loop-next.next at c.parent-next.result c.in-Some.is c.loop-next.invariant.in_tree c.parent-next.ensures c.if-at-eq0.false (sym c.stands_in_property.ensures ∙ c.if-stands_in_property.false))
          ∙ sym (append_assoc items (at ∷ []) (levels_among ns (upward ns c.parent-next.result)))
          ∙ ap (λ xs. xs ++ levels_among ns (upward ns c.parent-next.result)) (sym c.in_ok-push.ensures.items);
    }

pub returns-clause-levels : goal.returns-clause-levels
returns-clause-levels g c =
    let ns = c.args.tree.now.nodes in
    sym (c.loop-next.invariant.same
    ∙ ap (λ xs. c.loop-next.levels.items ++ levels_among ns xs) (climbed ns c.args.tree.now.tree c.loop-next.next c.in_default.is)
    ∙ append-nil c.loop-next.levels.items)

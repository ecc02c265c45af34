use Rattle.std.proofs.Common.{ℕ, List, get_or, sym, refl, subst, arith}
use Rattle.jsonc_tree.specs.Tree.{Node}
use Rattle.jsonc_edit.specs.Paths.{FindsExactly, IsAt}
use Rattle.jsonc_edit.proofs.Finding.{leads_nowhere, leads_there, remains_more}
use Rattle.jsonc_edit.proofs.paths.find.Goals as goal

pub returns-in_err-value-2-clause-found : goal.returns-in_err-value-2-clause-found
returns-in_err-value-2-clause-found g c =
    let ns : List Node = c.args.tree.now.nodes in
    let path : List ℕ = c.args.path.now in
    subst (λ r. FindsExactly r (IsAt ns path)) (sym c.from_residual-in_err-value-2.ensures) (leads_nowhere ns path c.loop-place.place-index c.loop-place.value c.loop-place.invariant.1 (get_or path c.loop-place.place-index 0) (omega (arith, c.loop-place-test.true)) refl c.in_err-value-2.ensures.stepped)

pub loop-place-preserved : goal.loop-place-preserved
loop-place-preserved g c =
    (c.in_ok-value-2.ensures.in_tree, remains_more c.args.tree.now.nodes c.args.path.now c.loop-place.place-index c.loop-place.value c.loop-place.invariant.1 (get_or c.args.path.now c.loop-place.place-index 0) c.in_ok-value-2.value (omega (arith, c.loop-place-test.true)) refl c.in_ok-value-2.ensures.stepped)

pub returns-clause-found : goal.returns-clause-found
returns-clause-found g c = leads_there c.args.tree.now.nodes c.args.path.now c.loop-place.place-index c.loop-place.value c.loop-place.invariant.1 (omega (arith, c.loop-place-test.false))

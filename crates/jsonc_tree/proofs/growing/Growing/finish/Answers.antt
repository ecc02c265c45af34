use Rattle.std.proofs.Common.{IfSome, ◌<◌, ◌^◌, ◌-◌, subst, sym}
use Rattle.jsonc_tree.proofs.GrowingRows.{last_fits}
use Rattle.jsonc_tree.proofs.growing.Growing.finish.Goals as goal

pub set_back-requires-clause-to : goal.set_back-requires-clause-to
set_back-requires-clause-to g c =
    let was = c.args.self in
    subst (λ o. IfSome o (λ n. n < 2 ^ 32 - 1)) (sym c.get.ensures) (last_fits was.nodes.items was.container was.last c.requires.stored c.requires.in_tree)

use Rattle.std.proofs.Common.{IfSome, ◌<◌, ◌^◌, ◌-◌, subst, sym}
use Rattle.jsonc_tree.proofs.GrowingRows.{last_fits, left, other_last_fits}
use Rattle.jsonc_tree.proofs.growing.Growing.enter.Goals as goal

pub set_back-requires-clause-to : goal.set_back-requires-clause-to
set_back-requires-clause-to g c =
    let was = c.args.self.now in
    subst (λ o. IfSome o (λ n. n < 2 ^ 32 - 1)) (sym c.get-last.ensures) (last_fits was.nodes.items was.container was.last c.requires.growing.stored c.requires.growing.in_tree)

pub from_option-self-requires : goal.from_option-self-requires
from_option-self-requires g c =
    let was = c.args.self.now in
    let is = left was.nodes.items was.container was.last c.set_back.new.nodes.items c.get-last.result c.get-last.ensures c.set_back.ensures.nodes in
    other_last_fits was.nodes.items was.container was.last c.requires.growing.stored c.requires.growing.in_tree c.set_back.new.nodes.items c.args.container c.last_of.result is c.last_of.ensures

use Rattle.std.proofs.Common.{refl}
use Rattle.jsonc_tree.proofs.GrowingRows.{starts}
use Rattle.jsonc_tree.proofs.growing.Growing.new.Goals as goal

pub returns-clause-growing : goal.returns-clause-growing
returns-clause-growing g c =
    let made = starts c.push.new.self.items c.from_option.result (rw (c.in_ok-push.ensures.items, c.new-nodes.ensures.items, c.bare_node.ensures) refl) c.from_option.ensures in
    record {
      stored = made.0;
      in_tree = made.1;
      holds = made.2;
    }

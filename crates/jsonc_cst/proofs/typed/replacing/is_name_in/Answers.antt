use Rattle.std.proofs.Common.{sym, ◌∙◌}
use Rattle.jsonc_tree.proofs.Order.{parent_there}
use Rattle.jsonc_cst.proofs.typed.replacing.is_name_in.Goals as goal

pub kind-requires : goal.kind-requires
kind-requires g c = (parent_there c.args.tree.now.nodes c.args.tree.now.tree c.args.number c.in-Some.parent (sym c.parent.ensures ∙ c.in-Some.is)).1

use Rattle.std.proofs.Common.{sym, ap, subst, ◌∙◌}
use Rattle.jsonc_tree.specs.Tree.{content_at}
use Rattle.jsonc_cst.specs.Nodes.{number_of, IsNodeOf}
use Rattle.jsonc_cst.proofs.Family.{number_of-typed}
use Rattle.jsonc_cst.proofs.lemmas.typed.Roots.{object_there}
use Rattle.jsonc_cst.proofs.typed.setting.object_at.Goals as goal

pub unreachable-requires : goal.unreachable-requires
unreachable-requires g c =
    c.in_default.not-Some (record { number = c.args.number })
    ((c.as_object.ensures (record { number = c.args.number })).1 (c.node_at.ensures.node ∙ object_there c.args.tree.now.nodes c.args.number c.requires))

pub returns-clause-number : goal.returns-clause-number
returns-clause-number g c =
    ap number_of (sym ((c.as_object.ensures c.in-Some.object).0 c.in-Some.is) ∙ c.node_at.ensures.node)
    ∙ number_of-typed (content_at c.args.tree.now.nodes c.args.number) c.args.number

pub returns-clause-in_document : goal.returns-clause-in_document
returns-clause-in_document g c = subst (IsNodeOf c.args.tree.now.nodes) ((c.as_object.ensures c.in-Some.object).0 c.in-Some.is) c.node_at.ensures.in_document

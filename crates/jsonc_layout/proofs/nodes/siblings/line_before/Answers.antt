use Rattle.std.proofs.Common.{List, ℕ, length, ap, subst, sym, take, ◌∙◌}
use Rattle.jsonc_layout.specs.nodes.Siblings.{AreThere, line_before}
use Rattle.jsonc_layout.proofs.lemmas.nodes.Lines.{line_is}
use Rattle.jsonc_layout.proofs.lemmas.nodes.InTree.{line_there}
use Rattle.jsonc_layout.proofs.nodes.siblings.line_before.Goals as goal

pub returns-clause-siblings : goal.returns-clause-siblings
returns-clause-siblings g c =
    ap (λ k. take k c.from_line_start.result) c.count_on_line-left.ensures
    ∙ ap (λ (l : List ℕ). take (length (line_before c.args.tree.now.nodes c.args.node)) l) c.from_line_start.ensures
    ∙ line_is c.args.tree.now.nodes c.args.tree.now.tree c.args.node

pub returns-clause-in_tree : goal.returns-clause-in_tree
returns-clause-in_tree g c = subst (AreThere c.args.tree.now.nodes) (sym (returns-clause-siblings g c)) (line_there c.args.tree.now.nodes c.args.tree.now.tree c.args.node)

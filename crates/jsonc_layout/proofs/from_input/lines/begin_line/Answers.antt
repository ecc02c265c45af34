use Rattle.std.proofs.Common.{subst}
use Rattle.jsonc_tree.specs.Content.{newline, whitespace}
use Rattle.jsonc_tree.specs.OrderedTree.{none}
use Rattle.jsonc_layout.specs.from_input.Extending.{Extends}
use Rattle.jsonc_layout.specs.from_input.Laid.{leaf_then}
use Rattle.jsonc_layout.proofs.lemmas.from_input.Extending.{on_ok, extends_then}
use Rattle.jsonc_layout.proofs.from_input.lines.begin_line.Goals as goal

pub returns-clause-added : goal.returns-clause-added
returns-clause-added g c =
    on_ok c.push_blanks.result
    (λ added. subst (λ s. Extends c.args.tree.now.nodes c.push_blanks.new.tree.nodes c.args.container (leaf_then (newline c.args.layout.now.newline) (leaf_then (whitespace s) none))) c.as_str.ensures.value (extends_then c.in_ok-push_leaf.ensures.added added))
    c.push_blanks.ensures.added

use Rattle.std.proofs.Common.{◌+◌, ap, ◌∙◌, arith}
use Rattle.jsonc_tree.specs.Tree.{content_at}
use Rattle.jsonc_sort.proofs.Reading.{through_none, through_there}
use Rattle.jsonc_sort.proofs.parts.through_comma.Goals as goal

pub returns-then-place-row-clause-count : goal.returns-then-place-row-clause-count
returns-then-place-row-clause-count g c = ap (λ k. k + 1) c.before_comma-place.ensures.count ∙ through_there (content_at c.args.tree.now.nodes) c.args.row.now (omega arith)

pub returns-else-place-row-clause-count : goal.returns-else-place-row-clause-count
returns-else-place-row-clause-count g c = through_none (content_at c.args.tree.now.nodes) c.args.row.now (omega arith)

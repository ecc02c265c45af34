use Rattle.std.proofs.Common.{refl, ap, ◌∙◌, arith}
use Rattle.jsonc_tree.specs.Tree.{content_at}
use Rattle.jsonc_sort.specs.Places.{before_blank}
use Rattle.jsonc_sort.proofs.Reading.{comma_none, comma_there}
use Rattle.jsonc_sort.proofs.parts.comma_in.Goals as goal

pub returns-then-place-tail : goal.returns-then-place-tail
returns-then-place-tail g c = comma_none (content_at c.args.tree.now.nodes) c.args.tail.now (omega arith) _ (omega arith) (omega arith)

pub returns : goal.returns
returns g c =
    let at = content_at c.args.tree.now.nodes in
    comma_there at c.args.tail.now c.before_blank.result (omega arith) (c.before_blank.ensures.place ∙ ap (before_blank at c.args.tail.now) c.before_comma-place.ensures.count) (omega arith) _ refl (omega arith)

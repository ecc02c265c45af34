use Rattle.std.proofs.Common.{◌-◌, ap, drop, length, sym, take, ◌∙◌}
use Rattle.jsonc_tree.specs.Tree.{children_at}
use Rattle.jsonc_sort.proofs.SortedRow.{between_read}
use Rattle.jsonc_sort.proofs.LeadsRead.{found_inside, found_nothing}
use Rattle.jsonc_sort.proofs.above.comments_above.Goals as goal

pub returns-then-not-has_brackets : goal.returns-then-not-has_brackets
returns-then-not-has_brackets g c = record { comments = found_nothing c.args.tree.now.nodes c.args.container c.new.result.items (sym c.has_brackets.ensures ∙ c.if-not-has_brackets.true) c.new.ensures.items }

pub returns : goal.returns
returns g c = record {
  comments = found_inside c.args.tree.now.nodes c.args.container (take (c.len.result - 1 - 1) (drop 1 c.deref.result.now)) c.in_ok-found.found.items (sym c.has_brackets.ensures ∙ c.if-not-has_brackets.false)
      (between_read (children_at c.args.tree.now.nodes c.args.container) c.deref.result.now c.len.result (c.deref.ensures.value ∙ c.in_ok-children.ensures.children) (c.len.ensures ∙ c.in_ok-children.children.ok.0 ∙ ap length c.in_ok-children.ensures.children)) c.in_ok-found.ensures;
}

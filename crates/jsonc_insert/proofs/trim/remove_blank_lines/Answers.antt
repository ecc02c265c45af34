use Rattle.jsonc_tree.specs.Tree.{children_at}
use Rattle.jsonc_insert.specs.Trimmed.{first_gone, last_gone}
use Rattle.std.proofs.Common.{sym, subst}
use Rattle.jsonc_insert.specs.Removed.{StandsAt}
use Rattle.jsonc_insert.proofs.trim.remove_blank_lines.Goals as goal

pub returns : goal.returns
returns g c =
    let old = c.args.tree.now.nodes in
    let kids = children_at old c.args.container in
    let stand = c.requires.stand in
    let last = c.remove.ensures (last_gone old kids) stand.last in
    record {
      are = stand;
      there = c.requires.in_tree;
      was = c.args.tree.now.tree;
      one = c.remove.new.tree.nodes;
      tree = c.remove.new.tree.tree;
      last = last;
      first = c.remove-2.ensures (first_gone old kids) (subst (λ r. StandsAt r (first_gone old kids) c.args.blanks.now.first) (sym last.children) stand.first);
    }

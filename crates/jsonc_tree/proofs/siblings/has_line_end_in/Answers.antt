use Rattle.jsonc_tree.specs.Tree.{children_at}
use Rattle.jsonc_tree.specs.Stored.{nodes_of}
use Rattle.std.proofs.Common.{◌∙◌}
use Rattle.jsonc_tree.proofs.LineEnds.{any_counted}
use Rattle.jsonc_tree.proofs.siblings.has_line_end_in.Goals as goal

pub returns : goal.returns
returns g c =
    let ns = nodes_of c.args.nodes.now.items in
    any_counted ns (children_at ns c.args.c) c.lines_of.result (c.lines_of.ensures ∙ c.requires.stored.lines c.args.c)

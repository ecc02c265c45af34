use Rattle.std.proofs.Common.{rules}
use Rattle.std.proofs.lemmas.Iterator.Search.{all_from_yields_List}
use Rattle.jsonc_layout.specs.nodes.Kinds.{is_whitespace_at}
use Rattle.jsonc_layout.specs.nodes.Siblings.{line_before}
use Rattle.jsonc_layout.proofs.lemmas.nodes.Rows.{row_yields}
use Rattle.jsonc_edit.proofs.commenting.above.begins_own_line.Goals as goal

pub returns : goal.returns
returns g c =
    let ns = c.args.tree.now.nodes in
    all_from_yields_List (is_whitespace_at ns) _ _ c.all.result c.all.ensures.ran (row_yields (line_before ns c.args.node) c.line_before.ensures.siblings) (λ x b q k. search rules)

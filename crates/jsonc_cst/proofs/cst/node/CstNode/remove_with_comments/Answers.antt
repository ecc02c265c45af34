use Rattle.std.proofs.Common.{◌≡◌, true, false, ap, sym, ◌∙◌}
use Rattle.jsonc_cst.specs.Nodes.{number_of}
use Rattle.jsonc_cst.specs.typed.Removing.{is_name_or_value}
use Rattle.jsonc_cst.proofs.lemmas.typed.ClearedEntries.{other_removed, part_refused}
use Rattle.jsonc_cst.proofs.cst.node.CstNode.remove_with_comments.Goals as goal

pub returns-then-is_name_or_value : goal.returns-then-is_name_or_value
returns-then-is_name_or_value g c =
    let old = c.args.doc.now in
    let node = c.args.self in
    let part : is_name_or_value old.tree.nodes (number_of node) ≡ true = ap (is_name_or_value old.tree.nodes) (sym c.number.ensures) ∙ sym c.is_name_or_value.ensures ∙ c.if-is_name_or_value.true in
    part_refused old node part

pub returns : goal.returns
returns g c =
    let old = c.args.doc.now in
    let node = c.args.self in
    let other : is_name_or_value old.tree.nodes (number_of node) ≡ false = ap (is_name_or_value old.tree.nodes) (sym c.number.ensures) ∙ sym c.is_name_or_value.ensures ∙ c.if-is_name_or_value.false in
    other_removed old node c.remove_entry.new.doc c.remove_entry.result other c.remove_entry.ensures

use Rattle.std.proofs.Common.{chars, option_map}
use Rattle.jsonc_layout.specs.input.Views.{plain}
use Rattle.jsonc_insert.proofs.PutBack.{entry_left, left_brackets}
use Rattle.jsonc_insert.proofs.insert.insert_entry.Goals as goal

pub insert_beside-requires-clause-brackets : goal.insert_beside-requires-clause-brackets
insert_beside-requires-clause-brackets g c =
    left_brackets c.args.tree.now.nodes c.remove_blank_lines.new.tree.nodes c.args.container c.in_ok-blanks.blanks c.remove_blank_lines.ensures c.remove_blank_lines.new.tree.tree c.requires.brackets

pub returns-in-Ok-clause-put : goal.returns-in-Ok-clause-put
returns-in-Ok-clause-put g c =
    entry_left c.args.tree.now.nodes c.remove_blank_lines.new.tree.nodes c.args.container c.in_ok-blanks.blanks c.remove_blank_lines.ensures c.remove_blank_lines.new.tree.tree c.requires.brackets c.requires.holds
    c.insert_beside.new.tree.nodes c.args.index (option_map (λ s. chars s.now) c.args.name) (plain c.args.value.now) c.in-Ok.element c.in-Ok.ensures.put

pub returns-clause-kept : goal.returns-clause-kept
returns-clause-kept g c =
    c.put_back.ensures c.args.tree.now.nodes
    (record {
      kept = c.remove_blank_lines.new.tree.nodes;
      tree = c.remove_blank_lines.new.tree.tree;
      left = c.remove_blank_lines.ensures;
      later = c.in-Err.ensures.prepared;
    })

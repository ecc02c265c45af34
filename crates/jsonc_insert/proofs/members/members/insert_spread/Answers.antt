use Rattle.std.proofs.Common.{ap, chars, ◌∙◌}
use Rattle.jsonc_tree.specs.Content.{is_container}
use Rattle.jsonc_layout.specs.input.Views.{plain}
use Rattle.jsonc_insert.proofs.lemmas.members.SpreadRows.{put_spread}
use Rattle.jsonc_insert.proofs.members.members.insert_spread.Goals as goal

pub returns-in-Ok-clause-put : goal.returns-in-Ok-clause-put
returns-in-Ok-clause-put g c =
    put_spread c.args.tree.now.nodes c.spread.new.tree.nodes c.args.tree.now.tree c.args.object c.requires.in_tree c.in_ok-spread.ensures.spread (ap is_container c.requires.object)
    c.insert_entry.new.tree.nodes c.args.index (chars c.args.name.now) (plain c.args.value.now) c.in-Ok.property c.in-Ok.ensures.put

pub returns-clause-kept : goal.returns-clause-kept
returns-clause-kept g c =
    c.put_row_back.ensures c.args.tree.now.nodes
    (record {
      tree = c.args.tree.now.tree;
      there = c.requires.in_tree;
      holds = ap is_container c.requires.object;
      had = c.deref.ensures.value ∙ c.in_ok-row.ensures.children;
      spread = c.spread.new.tree.nodes;
      is = c.in_ok-spread.ensures.spread;
      later = c.in-Err.ensures.kept;
    })

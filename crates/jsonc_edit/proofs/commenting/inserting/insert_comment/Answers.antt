use Rattle.std.proofs.Common.{chars, sym, ◌∙◌}
use Rattle.jsonc_edit.proofs.lemmas.commenting.Inserting.{among, inserts, whole_of}
use Rattle.jsonc_edit.proofs.commenting.inserting.insert_comment.Goals as goal

pub returns-in-Ok-clause-written : goal.returns-in-Ok-clause-written
returns-in-Ok-clause-written g c =
    inserts c.args.tree.now.nodes c.put.new.tree.nodes c.args.node c.args.text.now c.args.tree.now.tree c.utf8.text c.args.place
    (record { whole = whole_of c.in-Some.kind (chars c.args.text.now) c.in-Some.ensures.some; entry = sym c.is_entry.ensures.entry ∙ c.if-not-is_entry.false; line = sym c.runs_on.ensures ∙ c.if-runs_on.false }) c.in-Ok.ensures.come

pub returns-in-Ok-clause-among : goal.returns-in-Ok-clause-among
returns-in-Ok-clause-among g c =
    among c.args.tree.now.nodes c.put.new.tree.nodes c.args.node c.args.text.now c.args.tree.now.tree c.utf8.text c.args.place
    (record { whole = whole_of c.in-Some.kind (chars c.args.text.now) c.in-Some.ensures.some; entry = sym c.is_entry.ensures.entry ∙ c.if-not-is_entry.false; line = sym c.runs_on.ensures ∙ c.if-runs_on.false }) c.in-Ok.ensures.come

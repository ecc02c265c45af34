use Rattle.std.proofs.Common.{◌≡◌, ◌+◌, ◌∙◌, ap, length, subst}
use Rattle.jsonc_cst.specs.Document.{nodes_of}
use Rattle.jsonc_parser.specs.patch.Room.{bytes_of_all, bytes_of_first, HasRoom}
use Rattle.jsonc_parser.proofs.lemmas.patch.Room.{room_after, room_within}
use Rattle.jsonc_parser.proofs.lemmas.patch.Within.{fails_anyhow, made_larger, past_bound}
use Rattle.jsonc_parser.proofs.patch.within.make_within.Goals as goal

pub returns-in-Err-clause-fails : goal.returns-in-Err-clause-fails
returns-in-Err-clause-fails g c = fails_anyhow c.args.bytes c.args.doc.now c.args.operation.now c.in-Err.cause c.in-Err.ensures.fails

pub returns-then-not-is_within-clause-fails : goal.returns-then-not-is_within-clause-fails
returns-then-not-is_within-clause-fails g c =
    made_larger c.args.bytes c.args.doc.now c.make.new.doc c.args.operation.now c.in-Ok.ensures.made (past_bound c.is_within.result _ c.args.bytes c.is_within.ensures c.if-not-is_within.true)

pub returns-in-Some-left_after-clause-room : goal.returns-in-Some-left_after-clause-room
returns-in-Some-left_after-clause-room g c =
    let old = nodes_of c.args.doc.now in
    let left = c.in-Some-left_after.left in
    room_after old (nodes_of c.make.new.doc) c.args.bytes c.in-Some.room c.len-first.result left (c.len-first.ensures.len ∙ ap length c.tree.ensures) c.in-Ok.ensures.contents (subst (HasRoom c.args.bytes old) c.in-Some.is c.requires)
    (subst (λ ns. bytes_of_all ns + left ≡ bytes_of_first c.len-first.result ns + c.in-Some.room) c.tree-in-Some.ensures c.in-Some-left_after.ensures.left)

pub returns-in-Some-left_after-clause-within : goal.returns-in-Some-left_after-clause-within
returns-in-Some-left_after-clause-within g c =
    room_within (nodes_of c.make.new.doc) c.make.new.doc.tree.tree c.args.bytes c.in-Some-left_after.left (returns-in-Some-left_after-clause-room g c)

use Rattle.std.proofs.Common.{◌≡◌, ◌+◌, arith, refl, subst, IfSome}
use Rattle.jsonc_cst.specs.Document.{nodes_of}
use Rattle.jsonc_parser.specs.patch.Room.{bytes_of_all, bytes_of_first}
use Rattle.jsonc_parser.specs.patch.Within.{none_made, FailsWithin, LeadsTo}
use Rattle.jsonc_parser.specs.declared.patch.operation.Operation.{Operation}
use Rattle.jsonc_parser.proofs.lemmas.patch.Room.{room_at_first}
use Rattle.jsonc_parser.proofs.lemmas.patch.Within.{stopped_within, within_all, within_to_here}
use Rattle.jsonc_parser.proofs.patch.within.make_all.Goals as goal

pub loop-number-init : goal.loop-number-init
loop-number-init g c =
    (none_made, room_at_first (nodes_of c.args.doc.now) c.args.bytes c.left_after-room.result (subst (λ ns. IfSome c.left_after-room.result (λ left. bytes_of_all ns + left ≡ bytes_of_first 0 ns + c.args.bytes)) c.tree.ensures c.left_after-room.ensures.left))

pub loop-number-preserved : goal.loop-number-preserved
loop-number-preserved g c = (
  within_to_here c.args.bytes c.args.doc.now c.args.operations.now c.loop-number.number c.loop-number.doc c.loop-number.invariant.0 c.index-operations-number.result c.loop-number-test.true c.make_within.new.doc
      (subst (λ (o : Operation g.row.A.Denot). LeadsTo c.loop-number.doc o c.make_within.new.doc) c.index-operations-number.is c.in-Ok.ensures.made) c.in-Ok.ensures.within,
  c.in-Ok.ensures.room,
)

pub returns-in-Err-clause-stops : goal.returns-in-Err-clause-stops
returns-in-Err-clause-stops g c =
    stopped_within c.args.bytes c.args.doc.now c.args.operations.now c.loop-number.number c.loop-number.doc c.loop-number.invariant.0 c.index-operations-number.result c.loop-number-test.true _ refl
    (subst (λ (o : Operation g.row.A.Denot). FailsWithin c.args.bytes c.loop-number.doc o c.in-Err.cause) c.index-operations-number.is c.in-Err.ensures.fails)

pub returns-clause-within : goal.returns-clause-within
returns-clause-within g c = within_all c.args.bytes c.args.doc.now c.args.operations.now c.loop-number.number c.loop-number.doc c.loop-number.invariant.0 (omega (arith, c.loop-number-test.false))

use Rattle.std.proofs.Common.{Option, Some, None, subst}
use Rattle.jsonc_cst.specs.declared.cst.node.CstNode.{CstNode}
use Rattle.jsonc_program.specs.edit.Routes.{IsLedTo, route_of}
use Rattle.jsonc_program.proofs.EditRoutes.{path_led}
use Rattle.jsonc_program.proofs.edit.place.path_to.Goals as goal

pub returns-in-Ok-Some-clause-led : goal.returns-in-Ok-Some-clause-led
returns-in-Ok-Some-clause-led g c =
    let doc = c.args.document.now in
    path_led doc doc.tree.tree (route_of c.args.way.now) c.in-Ok-Some.value (subst (IsLedTo doc (route_of c.args.way.now)) c.in-Ok-Some.field-0-is c.in-Ok-Some.ensures.led) c.path.result c.path.ensures.found c.path.ensures.none

pub returns-in-Ok-None-clause-led : goal.returns-in-Ok-None-clause-led
returns-in-Ok-None-clause-led g c =
    subst (IsLedTo c.args.document.now (route_of c.args.way.now)) c.in-Ok-None.field-0-is c.in-Ok-None.ensures.led

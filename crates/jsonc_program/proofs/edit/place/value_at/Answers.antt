use Rattle.std.proofs.Common.{IfOk, ap, subst, sym}
use Rattle.jsonc_parser.specs.paths.Found.{names_of}
use Rattle.jsonc_program.specs.edit.Routes.{IsLedTo, names, route_of}
use Rattle.jsonc_program.proofs.EditRoutes.{names_led}
use Rattle.jsonc_program.proofs.edit.place.value_at.Goals as goal

pub returns-in-Tokens-clause-led : goal.returns-in-Tokens-clause-led
returns-in-Tokens-clause-led g c =
    subst (λ r. IfOk c.value_by_tokens.result (IsLedTo c.args.document.now r)) (sym (ap route_of c.in-Tokens.is)) c.value_by_tokens.ensures.led

pub returns-in-Names-clause-led : goal.returns-in-Names-clause-led
returns-in-Names-clause-led g c =
    subst (λ r. IfOk c.find_at.result (IsLedTo c.args.document.now r)) (sym (ap route_of c.in-Names.is))
    (subst (λ l. IfOk c.find_at.result (IsLedTo c.args.document.now (names (names_of l)))) c.deref.ensures.value (names_led c.args.document.now c.args.document.now.tree.tree _ c.find_at.result c.find_at.ensures.found))

use Rattle.std.proofs.Common.{arith, ◌+◌}
use Rattle.std.proofs.lemmas.Option.{IfSome_then}
use Rattle.jsonc_text.proofs.lemmas.string.Escapes.{given_found, leads}
use Rattle.jsonc_text.proofs.string.plain.plain_escape.Goals as goal

pub returns-in-Gives : goal.returns-in-Gives
returns-in-Gives c =
    given_found _ _ _ _ _ _ _ c.requires.backslash (leads c.args.text.now (c.args.place + 1) _ (c.args.place + 1 + 1) (c.args.place + 2) c.in-Some.ensures.found (omega arith)) (omega arith) c.in-Gives.ensures.meaning

pub returns-in-CodeUnit : goal.returns-in-CodeUnit
returns-in-CodeUnit c =
    let literal = c.args.literal in
    IfSome_then c.plain_unit.result c.plain_unit.ensures (λ e h. h literal.extended literal.quote)

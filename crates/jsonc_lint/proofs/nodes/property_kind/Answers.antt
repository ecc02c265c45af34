use Rattle.std.proofs.Common.{chars, refl, subst}
use Rattle.jsonc_lint.specs.SeenNames.{IsAnswered}
use Rattle.jsonc_lint.proofs.KindRules.{first_begins, fresh_found, repeated_found}
use Rattle.jsonc_lint.proofs.nodes.property_kind.Goals as goal

pub returns-in_default : goal.returns-in_default
returns-in_default g c = λ rules.
    let ns = c.args.tree.now.nodes in
    let answer = subst (IsAnswered ns c.args.property c.args.names.now c.repeated_name.new.names) c.in_default.is c.in_ok-repeat.ensures in
    fresh_found rules ns (chars c.args.lines.now) c.args.property c.args.names.now c.repeated_name.new.names c.requires.property answer

pub position-at-requires : goal.position-at-requires
position-at-requires g c =
    let ns = c.args.tree.now.nodes in
    let answer = subst (IsAnswered ns c.args.property c.args.names.now c.repeated_name.new.names) c.in-Some.is c.in_ok-repeat.ensures in
    let first = first_begins ns c.args.property c.args.names.now c.repeated_name.new.names c.in-Some.repeat c.requires.names answer in
    c.requires.text.boundary first.0 c.in-Some.repeat.1 first.1

pub returns : goal.returns
returns g c = λ rules.
    let ns = c.args.tree.now.nodes in
    let answer = subst (IsAnswered ns c.args.property c.args.names.now c.repeated_name.new.names) c.in-Some.is c.in_ok-repeat.ensures in
    repeated_found rules ns (chars c.args.lines.now) c.args.property c.args.names.now c.repeated_name.new.names c.in-Some.repeat _ answer refl c.position-at.ensures

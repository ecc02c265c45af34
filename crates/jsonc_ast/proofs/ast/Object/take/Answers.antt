use Rattle.std.proofs.Common.{sym, ap, ◌∙◌}
use Rattle.jsonc_ast.specs.Access.{is_named, properties}
use Rattle.jsonc_ast.specs.declared.ast.Object.{out-Object, out-roll-Object}
use Rattle.jsonc_ast.proofs.Firsts.{found_at, removed_at, found_nowhere, unchanged}
use Rattle.jsonc_ast.proofs.ast.Object.take.Goals as goal

pub returns-in-Some-clause-property : goal.returns-in-Some-clause-property
returns-in-Some-clause-property g c =
    found_at (is_named c.args.name.now) (properties c.args.self.now) c.in-Some.place c.remove.result (sym c.place.ensures ∙ c.in-Some.is) c.remove.ensures.value

pub returns-in-Some-clause-left : goal.returns-in-Some-clause-left
returns-in-Some-clause-left g c =
    ap (λ o. o.properties.items) (out-roll-Object g.row.A.Denot record { range = (out-Object g.row.A.Denot c.args.self.now).range; properties = c.remove.new.self })
    ∙ removed_at (is_named c.args.name.now) (properties c.args.self.now) c.remove.new.self.items c.in-Some.place (sym c.place.ensures ∙ c.in-Some.is) c.remove.ensures.items

pub returns-in-None-clause-property : goal.returns-in-None-clause-property
returns-in-None-clause-property g c =
    found_nowhere (is_named c.args.name.now) (properties c.args.self.now) (sym c.place.ensures ∙ c.in-None.is)

pub returns-in-None-clause-left : goal.returns-in-None-clause-left
returns-in-None-clause-left g c =
    unchanged (is_named c.args.name.now) (properties c.args.self.now) (sym c.place.ensures ∙ c.in-None.is)

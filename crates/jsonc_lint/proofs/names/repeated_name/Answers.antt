use Rattle.std.proofs.Common.{◌∙◌, subst, sym}
use Rattle.std.proofs.lemmas.Result.{IfOk-weaker}
use Rattle.jsonc_layout.specs.nodes.Names.{HasName, NameReads}
use Rattle.jsonc_lint.proofs.Repeats.{answered, nameless}
use Rattle.jsonc_lint.proofs.names.repeated_name.Goals as goal

pub returns-in-Some-2 : goal.returns-in-Some-2
returns-in-Some-2 g c =
    let ns = c.args.tree.now.nodes in
    let named = subst (NameReads (HasName ns c.args.property)) c.in-Some-2.is c.in_ok-name.ensures.name in
    IfOk-weaker c.known_name.result _ _ (answered ns c.args.property c.args.names.now c.in-Some.object c.args.start c.in-Some-2.name (sym c.parent.ensures ∙ c.in-Some.is) (c.requires.property, named) c.requires.start c.known_name.new.names) c.known_name.ensures

pub returns-in-None : goal.returns-in-None
returns-in-None g c =
    let ns = c.args.tree.now.nodes in
    let nobody = subst (NameReads (HasName ns c.args.property)) c.in-None.is c.in_ok-name.ensures.name in
    nameless ns c.args.property c.args.names.now (λ object v p. nobody v p.1.1)

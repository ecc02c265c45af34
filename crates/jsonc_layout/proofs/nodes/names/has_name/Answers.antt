use Rattle.std.proofs.Common.{sym, subst, chars}
use Rattle.jsonc_layout.specs.nodes.Names.{HasName, ReadsAs}
use Rattle.jsonc_layout.proofs.lemmas.nodes.NodeNames.{has_name_once, name_compared, name_missing}
use Rattle.jsonc_layout.proofs.nodes.names.has_name.Goals as goal

pub returns-in-Some-clause-has : goal.returns-in-Some-clause-has
returns-in-Some-clause-has g c =
    let R = HasName c.args.tree.now.nodes c.args.property in
    let read = subst (ReadsAs R) c.in-Some.is c.in_ok-read.ensures.read in
    name_compared R c.as_str.result.now c.args.name.now c.eq.result (has_name_once c.args.tree.now.nodes c.args.property) c.as_str.utf8 c.utf8.name (subst (λ s. R (chars s)) (sym c.as_str.ensures.value) read) c.eq.ensures

pub returns-in-None-clause-has : goal.returns-in-None-clause-has
returns-in-None-clause-has g c =
    let R = HasName c.args.tree.now.nodes c.args.property in
    name_missing R (chars c.args.name.now) (subst (ReadsAs R) c.in-None.is c.in_ok-read.ensures.read)

use Rattle.std.proofs.Common.{chars, string_bytes, subst}
use Rattle.std.proofs.lemmas.Result.{IfOk-weaker, on_ok_weaker}
use Rattle.jsonc_layout.specs.nodes.Names.{IsNamed, NameReads}
use Rattle.jsonc_cst.proofs.RepeatedNames.{name_repeats, name_joined, nameless_repeats, nameless_joined}
use Rattle.jsonc_cst.proofs.cst.repeats.repeats_name.Goals as goal

pub returns-in-Some-clause-repeats : goal.returns-in-Some-clause-repeats
returns-in-Some-clause-repeats g c =
    let named = subst (NameReads (λ v. IsNamed c.args.tree.now.nodes v c.args.node)) c.in-Some.is c.in_ok-name.ensures in
    IfOk-weaker c.put_name.result _ _ (name_repeats c.args.tree.now.nodes c.args.node c.args.seen.now.keys (chars (string_bytes c.in-Some.name)) named) c.put_name.ensures.there

pub returns-in-Some-clause-joined : goal.returns-in-Some-clause-joined
returns-in-Some-clause-joined g c =
    let named = subst (NameReads (λ v. IsNamed c.args.tree.now.nodes v c.args.node)) c.in-Some.is c.in_ok-name.ensures in
    on_ok_weaker c.put_name.result (name_joined c.args.tree.now.nodes c.args.node c.args.seen.now.keys (chars (string_bytes c.in-Some.name)) named c.put_name.new.seen.keys) c.put_name.ensures.joined

pub returns-in-None-clause-repeats : goal.returns-in-None-clause-repeats
returns-in-None-clause-repeats g c =
    let nobody = subst (NameReads (λ v. IsNamed c.args.tree.now.nodes v c.args.node)) c.in-None.is c.in_ok-name.ensures in
    nameless_repeats c.args.tree.now.nodes c.args.node c.args.seen.now.keys nobody

pub returns-in-None-clause-joined : goal.returns-in-None-clause-joined
returns-in-None-clause-joined g c =
    let nobody = subst (NameReads (λ v. IsNamed c.args.tree.now.nodes v c.args.node)) c.in-None.is c.in_ok-name.ensures in
    nameless_joined c.args.tree.now.nodes c.args.node c.args.seen.now.keys nobody

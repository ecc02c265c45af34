use Rattle.std.specs.List.{All}
use Rattle.std.proofs.Common.{ℕ, ◌<◌, chars, length, subst, sym}
use Rattle.std.proofs.lemmas.List.Elements.{All-push}
use Rattle.jsonc_layout.specs.nodes.Names.{IsNamed}
use Rattle.jsonc_cst.proofs.RepeatedNames.{passed_named}
use Rattle.jsonc_cst.proofs.cst.repeats.add_named.Goals as goal

pub returns-in-Ok-clause-apart : goal.returns-in-Ok-clause-apart
returns-in-Ok-clause-apart g c = λ t.
    let ns = c.args.tree.now.nodes in
    let none = subst (All (λ n. IsNamed ns (chars c.args.name.now) n → ⊥)) c.deref.ensures.0 (c.all_lack_name.ensures c.if-not-all_lack_name.false) in
    passed_named ns _ c.args.node (chars c.args.name.now) _ c.requires.named none c.in-Ok.ensures.ok

pub returns-in-Ok-clause-in_tree : goal.returns-in-Ok-clause-in_tree
returns-in-Ok-clause-in_tree g c =
    let ns = c.args.tree.now.nodes in
    subst (All (λ n. n < length ns)) (sym c.in-Ok.ensures.ok) (All-push (λ n. n < length ns) _ c.args.node c.requires.passed c.requires.node)

use Rattle.std.proofs.Common.{◌≡◌, [], ◌∷◌, OnOk, sym, ap, subst, ◌∙◌}
use Rattle.jsonc_tree.specs.Stored.{content_of}
use Rattle.jsonc_layout.specs.Building.{Gains}
use Rattle.jsonc_insert.specs.Made.{comma_leaf}
use Rattle.jsonc_insert.proofs.made.push_comma_if.Goals as goal

pub returns-clause-gains : goal.returns-clause-gains
returns-clause-gains g c =
    let now = c.args.tree.now.nodes in
    let leaves = c.args.leaves.now.nodes.items in
    let same : content_of c.token.result ∷ [] ≡ comma_leaf c.args.wanted = ap (λ k. content_of k ∷ []) c.token.ensures ∙ sym (ap comma_leaf c.if-not-wanted.false) in
    subst (λ l. OnOk c.push.result (Gains now leaves c.push.new.tree.nodes c.push.new.self.nodes.items l)) same c.push.ensures.gains

use Rattle.std.proofs.Common.{◌≡◌, ◌<◌, ◌+◌, ℕ, [], Some, ap, arith, length, subst, sym, ◌∙◌}
use Rattle.jsonc_tree.specs.Tree.{children_at, parent_at, place_at}
use Rattle.jsonc_tree.specs.Changes.{Splices}
use Rattle.jsonc_edit.specs.Comments.{removed_from}
use Rattle.jsonc_edit.proofs.comments.take_out.Goals as goal

pub remove_between-requires : goal.remove_between-requires
remove_between-requires g c =
    let ns = c.args.tree.now.nodes in
    let from : ℕ = removed_from ns c.args.container c.args.comment in
    let within : from < length (children_at ns c.args.container) = omega (arith, c.first_removed-first.ensures.before, c.args.tree.now.tree.within c.args.comment c.args.container c.requires) in
    let is = c.first_removed-first.ensures.first in
    record {
      front = ap (parent_at ns) is ∙ c.args.tree.now.tree.named c.args.container from within;
      back = c.requires;
      order = omega (arith, ap (place_at ns) is ∙ c.args.tree.now.tree.placed c.args.container from within, c.first_removed-first.ensures.before);
    }

pub returns : goal.returns
returns g c = record {
  removed = λ d said.
      let ns = c.args.tree.now.nodes in
      let from : ℕ = removed_from ns c.args.container c.args.comment in
      let within : from < length (children_at ns c.args.container) = omega (arith, c.first_removed-first.ensures.before, c.args.tree.now.tree.within c.args.comment c.args.container c.requires) in
      let place : place_at ns c.first_removed-first.result ≡ from = ap (place_at ns) c.first_removed-first.ensures.first ∙ c.args.tree.now.tree.placed c.args.container from within in
      let both : Some c.args.container ≡ Some d = sym c.requires ∙ said in
      let same : c.args.container ≡ d = cc in
      let gone : Splices ns c.remove_between.new.self.nodes c.args.container from (place_at ns c.args.comment + 1) [] = subst (λ k. Splices ns c.remove_between.new.self.nodes c.args.container k (place_at ns c.args.comment + 1) []) place c.remove_between.ensures in
      subst (λ k. Splices ns c.remove_between.new.self.nodes k (removed_from ns k c.args.comment) (place_at ns c.args.comment + 1) []) same gone;
}

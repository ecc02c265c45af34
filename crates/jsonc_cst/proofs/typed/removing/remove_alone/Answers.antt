use Rattle.std.proofs.Common.{◌≡◌, ◌+◌, [], None, Some, arith, subst, sym, ◌∙◌}
use Rattle.jsonc_tree.specs.Changes.{Splices}
use Rattle.jsonc_tree.specs.Tree.{parent_at, place_at}
use Rattle.jsonc_edit.proofs.Elements.{Some_same}
use Rattle.jsonc_run.proofs.DetachedNodes.{alone_elsewhere}
use Rattle.jsonc_cst.proofs.lemmas.typed.HandlesKept.{nodes_stay, stay_spliced}
use Rattle.jsonc_cst.proofs.lemmas.typed.Detached.{left_nobodys}
use Rattle.jsonc_cst.proofs.typed.removing.remove_alone.Goals as goal

pub remove_between-requires : goal.remove_between-requires
remove_between-requires g c =
    let said : parent_at c.args.tree.now.nodes c.args.number ≡ Some c.in-Some.container = sym c.parent.ensures ∙ c.in-Some.is in
    record { front = said; back = said; order = omega arith }

pub returns : goal.returns
returns g c =
    let old = c.args.tree.now.nodes in
    let tree = c.args.tree.now.tree in
    let new = c.remove_between.new.self.nodes in
    let after = c.remove_between.new.self.tree in
    let n = c.args.number in
    let place = place_at old n in
    let container = c.in-Some.container in
    let said : parent_at old n ≡ Some container = sym c.parent.ensures ∙ c.in-Some.is in
    let taken : Splices old new container place (place + 1) [] = c.remove_between.ensures in
    record {
      taken = λ k parent. subst (λ j. Splices old new j place (place + 1) []) (Some_same container k (sym said ∙ parent)) taken;
      detached = alone_elsewhere old tree new n container _ _ _ said after taken;
      gone = left_nobodys old new tree after n container said place (omega arith) taken;
      untouched = λ alone. absurd (let wrong : Some container ≡ None = sym said ∙ alone in cc);
      handles = nodes_stay old new (stay_spliced old new _ _ _ _ taken);
    }

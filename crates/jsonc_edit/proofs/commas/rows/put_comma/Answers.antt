use Rattle.std.proofs.Common.{ap, sym, subst, suc, ◌∷◌, []}
use Rattle.jsonc_tree.specs.Changes.{Adds, CanAppend, Splices}
use Rattle.jsonc_tree.specs.Stored.{content_of}
use Rattle.jsonc_tree.specs.Tree.{place_at}
use Rattle.jsonc_tree.proofs.Appending.{CanJoin-one}
use Rattle.jsonc_edit.specs.commas.Commas.{a_comma}
use Rattle.jsonc_edit.proofs.lemmas.commas.Children.{child_yet, gap_behind, may_come}
use Rattle.jsonc_edit.proofs.commas.rows.put_comma.Goals as goal

pub insert_between-requires-clause-in_tree : goal.insert_between-requires-clause-in_tree
insert_between-requires-clause-in_tree g c =
    let old = c.args.tree.now.nodes in
    let ns = c.add.new.self.nodes in
    let added : Adds old ns a_comma = subst (Adds old ns) (ap content_of c.token.ensures) c.in_ok-comma.ensures.added in
    (may_come old ns a_comma c.args.tree.now.tree c.add.new.self.tree added c.args.container c.args.node c.requires).container

pub insert_between-requires-clause-container : goal.insert_between-requires-clause-container
insert_between-requires-clause-container g c =
    let old = c.args.tree.now.nodes in
    let ns = c.add.new.self.nodes in
    let added : Adds old ns a_comma = subst (Adds old ns) (ap content_of c.token.ensures) c.in_ok-comma.ensures.added in
    (may_come old ns a_comma c.args.tree.now.tree c.add.new.self.tree added c.args.container c.args.node c.requires).holds

pub insert_between-requires-clause-can : goal.insert_between-requires-clause-can
insert_between-requires-clause-can g c =
    let old = c.args.tree.now.nodes in
    let ns = c.add.new.self.nodes in
    let place = suc (place_at ns c.args.node) in
    let added : Adds old ns a_comma = subst (Adds old ns) (ap content_of c.token.ensures) c.in_ok-comma.ensures.added in
    let can : CanAppend ns c.args.container c.in_ok-comma.comma = subst (CanAppend ns c.args.container) (sym c.in_ok-comma.ensures.number) (may_come old ns a_comma c.args.tree.now.tree c.add.new.self.tree added c.args.container c.args.node c.requires) in (
      place,
      gap_behind ns c.add.new.self.tree c.args.container c.args.node c.next_sibling-behind.result
          (child_yet old ns a_comma c.args.tree.now.tree c.add.new.self.tree added c.args.container c.args.node c.requires)
          c.next_sibling-behind.ensures,
      CanJoin-one ns c.in_ok-comma.comma c.args.container place place can.node can.not_root can.alone can.not_over,
    )

pub returns-clause-put : goal.returns-clause-put
returns-clause-put g c =
    let old = c.args.tree.now.nodes in
    let ns = c.add.new.self.nodes in
    let added : Adds old ns a_comma = subst (Adds old ns) (ap content_of c.token.ensures) c.in_ok-comma.ensures.added in
    let gap = gap_behind ns c.add.new.self.tree c.args.container c.args.node c.next_sibling-behind.result (child_yet old ns a_comma c.args.tree.now.tree c.add.new.self.tree added c.args.container c.args.node c.requires) c.next_sibling-behind.ensures in
    record {
      ready = ns;
      added = added;
      tree = c.add.new.self.tree;
      put = subst (λ m. Splices ns c.insert_between.new.self.nodes c.args.container (suc (place_at ns c.args.node)) (suc (place_at ns c.args.node)) (m ∷ [])) c.in_ok-comma.ensures.number (c.insert_between.ensures.fills (suc (place_at ns c.args.node)) gap);
    }

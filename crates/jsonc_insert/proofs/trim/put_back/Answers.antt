use Rattle.std.proofs.Common.{◌+◌, sym, subst}
use Rattle.jsonc_tree.specs.Changes.{CanJoin, Splices}
use Rattle.jsonc_tree.specs.Tree.{place_at}
use Rattle.jsonc_insert.proofs.PutBack.{all_back, first_joins, first_said, last_joins, last_said}
use Rattle.jsonc_insert.proofs.trim.put_back.Goals as goal

pub insert_after-requires-clause-child : goal.insert_after-requires-clause-child
insert_after-requires-clause-child g c = first_said c.requires.0 c.args.tree.now.nodes c.args.container c.args.blanks.now c.requires.1

pub insert_after-requires-clause-join : goal.insert_after-requires-clause-join
insert_after-requires-clause-join g c =
    let mid = c.args.tree.now.nodes in
    let at = place_at mid c.args.blanks.now.first.after + 1 in
    subst (CanJoin mid c.args.container at at) (sym c.deref.ensures.value) (first_joins c.requires.0 mid c.args.container c.args.blanks.now c.requires.1)

pub insert_after-requires-2-clause-child : goal.insert_after-requires-2-clause-child
insert_after-requires-2-clause-child g c =
    let mid = c.args.tree.now.nodes in
    let at = place_at mid c.args.blanks.now.first.after + 1 in
    let next = c.insert_after.new.tree.nodes in
    last_said c.requires.0 mid c.args.container c.args.blanks.now c.requires.1 next (subst (Splices mid next c.args.container at at) c.deref.ensures.value c.insert_after.ensures.splices)

pub insert_after-requires-2-clause-join : goal.insert_after-requires-2-clause-join
insert_after-requires-2-clause-join g c =
    let mid = c.args.tree.now.nodes in
    let at = place_at mid c.args.blanks.now.first.after + 1 in
    let next = c.insert_after.new.tree.nodes in
    let past = place_at next c.args.blanks.now.last.after + 1 in
    subst (CanJoin next c.args.container past past) (sym c.deref-2.ensures.value)
    (last_joins c.requires.0 mid c.args.container c.args.blanks.now c.requires.1 next (subst (Splices mid next c.args.container at at) c.deref.ensures.value c.insert_after.ensures.splices))

pub returns : goal.returns
returns g c = λ old r.
    let mid = c.args.tree.now.nodes in
    let at = place_at mid c.args.blanks.now.first.after + 1 in
    let next = c.insert_after.new.tree.nodes in
    let past = place_at next c.args.blanks.now.last.after + 1 in
    let new = c.insert_after-2.new.tree.nodes in
    all_back old mid c.args.container c.args.blanks.now r next (subst (Splices mid next c.args.container at at) c.deref.ensures.value c.insert_after.ensures.splices) new
    (subst (Splices next new c.args.container past past) c.deref-2.ensures.value c.insert_after-2.ensures.splices)

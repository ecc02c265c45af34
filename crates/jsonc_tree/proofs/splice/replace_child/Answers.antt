use Rattle.std.proofs.Common.{◌≡◌, ◌+◌, Some, arith, sym, subst, ◌∙◌}
use Rattle.jsonc_tree.specs.Tree.{parent_at, place_at}
use Rattle.jsonc_tree.specs.Changes.{Splices, CanJoin}
use Rattle.jsonc_tree.specs.Stored.{nodes_of}
use Rattle.jsonc_tree.proofs.AgreeingLinks.{parent_shown}
use Rattle.jsonc_tree.proofs.Returned.{IsGap-left, Splices-refilled}
use Rattle.jsonc_tree.proofs.Stretches.{CanJoin-gone}
use Rattle.jsonc_tree.proofs.splice.replace_child.Goals as goal

pub put_row-requires-clause-can : goal.put_row-requires-clause-can
put_row-requires-clause-can g c =
    let old = c.args.nodes.now.items in
    let parent : parent_at (nodes_of old) c.args.x ≡ Some c.in-Some.c = sym (parent_shown old c.args.x) ∙ sym c.in-Some.ensures in
    let both : Some c.requires.can.0 ≡ Some c.in-Some.c = sym c.requires.can.1 ∙ parent in
    let same : c.requires.can.0 ≡ c.in-Some.c = cc in
    let join : CanJoin (nodes_of old) c.in-Some.c (place_at (nodes_of old) c.args.x) (place_at (nodes_of old) c.args.x + 1) c.args.new.now = subst (λ k. CanJoin (nodes_of old) k (place_at (nodes_of old) c.args.x) (place_at (nodes_of old) c.args.x + 1) c.args.new.now) same c.requires.can.2 in
    let left = IsGap-left old c.take_out.new.nodes.items c.requires.stored c.in-Some.c c.args.x c.previous_of-before.result c.next_of-behind.result parent c.previous_of-before.ensures c.next_of-behind.ensures c.take_out.ensures.gone in
    (place_at (nodes_of old) c.args.x, left.1, CanJoin-gone (nodes_of old) (nodes_of c.take_out.new.nodes.items) c.in-Some.c (place_at (nodes_of old) c.args.x) (place_at (nodes_of old) c.args.x + 1) c.args.new.now left.0 join)

pub returns-clause-replaces : goal.returns-clause-replaces
returns-clause-replaces g c = λ d said.
    let old = c.args.nodes.now.items in
    let parent : parent_at (nodes_of old) c.args.x ≡ Some c.in-Some.c = sym (parent_shown old c.args.x) ∙ sym c.in-Some.ensures in
    let both : Some c.in-Some.c ≡ Some d = sym parent ∙ said in
    let same : c.in-Some.c ≡ d = cc in
    let left = IsGap-left old c.take_out.new.nodes.items c.requires.stored c.in-Some.c c.args.x c.previous_of-before.result c.next_of-behind.result parent c.previous_of-before.ensures c.next_of-behind.ensures c.take_out.ensures.gone in
    let whole = Splices-refilled (nodes_of old) (nodes_of c.take_out.new.nodes.items) (nodes_of c.put_row.new.nodes.items) c.in-Some.c (place_at (nodes_of old) c.args.x) (place_at (nodes_of old) c.args.x + 1) c.args.new.now (omega arith) (omega (arith, c.requires.stored.tree.within c.args.x c.in-Some.c parent)) left.0 (c.put_row.ensures.fills (place_at (nodes_of old) c.args.x) left.1) in
    subst (λ k. Splices (nodes_of old) (nodes_of c.put_row.new.nodes.items) k (place_at (nodes_of old) c.args.x) (place_at (nodes_of old) c.args.x + 1) c.args.new.now) same whole

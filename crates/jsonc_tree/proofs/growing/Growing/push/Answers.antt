use Rattle.std.proofs.Common.{IfSome, ◌<◌, subst, sym, ap, ◌∙◌, arith, vec_len, Some}
use Rattle.jsonc_tree.specs.Stored.{content_of}
use Rattle.jsonc_tree.proofs.GrowingRows.{last_there, lines_at_hand, grows_by, Pushes-holds}
use Rattle.jsonc_tree.proofs.growing.Growing.push.Goals as goal

pub push_behind-requires-clause-last : goal.push_behind-requires-clause-last
push_behind-requires-clause-last g c =
    let was = c.args.self.now in
    subst (λ o. IfSome o (λ n. n < vec_len was.nodes)) (sym c.get-last.ensures) (last_there was.nodes.items was.container was.last c.requires.stored c.requires.in_tree (vec_len was.nodes) (omega (arith, was.nodes.ok.0)))

pub returns-clause-pushes : goal.returns-clause-pushes
returns-clause-pushes g c =
    let was = c.args.self.now in
    (grows_by was.nodes.items was.container was.last c.requires.stored c.requires.in_tree (content_of c.args.kind) c.push_behind.new.nodes.items c.get-last.result c.from_option-self.result (vec_len was.nodes) c.in_ok-number.ensures.fits c.requires.holds c.get-last.ensures (omega (arith, was.nodes.ok.0)) (c.from_option-self.ensures ∙ ap Some c.in_ok-number.ensures.number) c.in_ok-number.ensures.nodes).0

pub returns-clause-growing : goal.returns-clause-growing
returns-clause-growing g c =
    let was = c.args.self.now in
    let made = grows_by was.nodes.items was.container was.last c.requires.stored c.requires.in_tree (content_of c.args.kind) c.push_behind.new.nodes.items c.get-last.result c.from_option-self.result (vec_len was.nodes) c.in_ok-number.ensures.fits c.requires.holds c.get-last.ensures (omega (arith, was.nodes.ok.0)) (c.from_option-self.ensures ∙ ap Some c.in_ok-number.ensures.number) c.in_ok-number.ensures.nodes in
    let still = Pushes-holds _ _ was.container (content_of c.args.kind) made.0 c.requires.in_tree c.requires.holds in
    record {
      stored = made.1;
      in_tree = still.0;
      holds = still.1;
    }

pub push_behind-requires-clause-lines : goal.push_behind-requires-clause-lines
push_behind-requires-clause-lines g c =
    let was = c.args.self.now in
    lines_at_hand was.nodes.items was.container was.last c.requires.stored c.requires.in_tree

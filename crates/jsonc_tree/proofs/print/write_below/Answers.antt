use Rattle.std.proofs.Common.{◌≡◌, ◌<◌, ◌++◌, [], length, arith, refl, ap, sym, ◌∙◌, List}
use Rattle.std.proofs.lemmas.List.{append-nil, append_assoc}
use Rattle.std.proofs.Output.{has_written_styled_append, has_written_styled_nil}
use Rattle.std.specs.List.{flat_map}
use Rattle.jsonc_tree.specs.Tree as tree
use Rattle.jsonc_tree.specs.Tree.{itself, content_at}
use Rattle.jsonc_tree.specs.Stored.{nodes_of}
use Rattle.jsonc_tree.specs.Stored.{content_of}
use Rattle.jsonc_tree.proofs.AgreeingLinks.{length_shown}
use Rattle.jsonc_tree.specs.Content.{text_of}
use Rattle.jsonc_tree.specs.Order.{in_order, text_at, rest_at, following}
use Rattle.jsonc_tree.proofs.OrderedTrees.{printed_at-ordered_tree}
use Rattle.jsonc_tree.proofs.Order.{following_end}
use Rattle.jsonc_tree.proofs.print.write_below.Goals as goal

pub loop-next-init : goal.loop-next-init
loop-next-init g c =
    let ns : List tree.Node = nodes_of c.args.nodes.now.items in
    let there : c.args.end < length ns = omega (arith, length_shown c.args.nodes.now.items, c.args.nodes.now.ok.0) in
    let over : following ns c.args.end c.args.end ≡ [] = following_end ns c.requires.stored.tree c.args.end there in
    record {
      in_tree = c.requires.in_tree;
      over = itself;
      written = λ p. ([], has_written_styled_nil _ _ p, sym (ap (λ l. flat_map (text_at ns) (in_order ns c.args.end ++ l)) over ∙ ap (flat_map (text_at ns)) (append-nil (in_order ns c.args.end)) ∙ printed_at-ordered_tree ns c.requires.stored.tree c.args.end there));
    }

pub loop-next-preserved : goal.loop-next-preserved
loop-next-preserved g c =
    let ns : List tree.Node = nodes_of c.args.nodes.now.items in
    let own : text_at ns c.in-Some.n ≡ text_of (content_of c.kind_of.result.now) = ap text_of (sym c.kind_of.ensures) in
    let rest = ap (rest_at ns c.args.end) c.in-Some.is ∙ c.node_after-next.ensures.rest in
    record {
      in_tree = c.node_after-next.ensures.in_tree;
      over = c.node_after-next.ensures.over;
      written = λ p.
          let w = c.loop-next.invariant.written p in (
            w.0 ++ text_of (content_of c.kind_of.result.now),
            has_written_styled_append _ _ _ _ _ _ w.1 (c.in_ok-write_own.ensures w.1.flush refl),
            w.2 ∙ ap (λ l. w.0 ++ flat_map (text_at ns) l) rest
                ∙ ap (λ l. w.0 ++ (l ++ flat_map (text_at ns) (rest_at ns c.args.end c.node_after-next.result))) own
                ∙ sym (append_assoc w.0 (text_of (content_of c.kind_of.result.now)) (flat_map (text_at ns) (rest_at ns c.args.end c.node_after-next.result))),
          );
    }

use Rattle.std.proofs.Common.{◌≡◌, ◌<◌, ◌++◌, [], length, string_bytes, arith, ap, sym, subst, ◌∙◌, List}
use Rattle.std.proofs.lemmas.List.{append-nil, append_assoc}
use Rattle.std.specs.List.{flat_map}
use Rattle.jsonc_tree.specs.Tree as tree
use Rattle.jsonc_tree.specs.Tree.{itself}
use Rattle.jsonc_tree.specs.Stored.{nodes_of}
use Rattle.jsonc_tree.specs.Stored.{content_of}
use Rattle.jsonc_tree.proofs.AgreeingLinks.{length_shown}
use Rattle.jsonc_tree.specs.Content.{text_of}
use Rattle.jsonc_tree.specs.Order.{in_order, text_at, rest_at, following}
use Rattle.jsonc_tree.specs.OrderedTree.{ordered_tree, printed}
use Rattle.jsonc_tree.proofs.OrderedTrees.{printed_at-ordered_tree}
use Rattle.jsonc_tree.proofs.Order.{following_end}
use Rattle.jsonc_tree.proofs.print.text_below.Goals as goal

pub loop-next-init : goal.loop-next-init
loop-next-init g c =
    let ns : List tree.Node = nodes_of c.args.nodes.now.items in
    let there : c.args.end < length ns = omega (arith, length_shown c.args.nodes.now.items, c.args.nodes.now.ok.0) in
    let over : following ns c.args.end c.args.end ≡ [] = following_end ns c.requires.stored.tree c.args.end there in
    let whole : printed (ordered_tree ns c.args.end) ≡ flat_map (text_at ns) (in_order ns c.args.end ++ following ns c.args.end c.args.end) =
    sym (ap (λ l. flat_map (text_at ns) (in_order ns c.args.end ++ l)) over ∙ ap (flat_map (text_at ns)) (append-nil (in_order ns c.args.end)) ∙ printed_at-ordered_tree ns c.requires.stored.tree c.args.end there) in
    record {
      in_tree = c.requires.in_tree;
      over = itself;
      out = whole ∙ ap (λ s. s ++ flat_map (text_at ns) (in_order ns c.args.end ++ following ns c.args.end c.args.end)) (sym c.new-out.ensures.bytes);
    }

pub loop-next-preserved : goal.loop-next-preserved
loop-next-preserved g c =
    let ns : List tree.Node = nodes_of c.args.nodes.now.items in
    let own : text_at ns c.in-Some.n ≡ text_of (content_of c.kind_of.result.now) = ap text_of (sym c.kind_of.ensures) in
    let rest = ap (rest_at ns c.args.end) c.in-Some.is ∙ c.node_after-next.ensures.rest in
    let later : List _ = flat_map (text_at ns) (rest_at ns c.args.end c.node_after-next.result) in
    record {
      in_tree = c.node_after-next.ensures.in_tree;
      over = c.node_after-next.ensures.over;
      out =
          c.loop-next.invariant.out ∙ ap (λ l. string_bytes c.loop-next.out ++ flat_map (text_at ns) l) rest
          ∙ ap (λ l. string_bytes c.loop-next.out ++ (l ++ later)) own
          ∙ sym (append_assoc (string_bytes c.loop-next.out) (text_of (content_of c.kind_of.result.now)) later)
          ∙ ap (λ s. s ++ later) (sym c.in_ok-push_own.ensures);
    }

pub returns : goal.returns
returns g c =
    let ns : List tree.Node = nodes_of c.args.nodes.now.items in
    sym (c.loop-next.invariant.out ∙ ap (λ o. string_bytes c.loop-next.out ++ flat_map (text_at ns) (rest_at ns c.args.end o)) c.in_default.is ∙ append-nil (string_bytes c.loop-next.out))

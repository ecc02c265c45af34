use Rattle.std.proofs.Common.{◌≡◌, ◌∙◌, ℕ, List, ap, sym, not, arith, length}
use Rattle.std.specs.List.{prefix_len, take_while}
use Rattle.std.proofs.lemmas.List.{length-reverse}
use Rattle.std.proofs.lemmas.List.Folds.{length-prefix_len}
use Rattle.std.proofs.lemmas.List.Sums.{prefix_len-le-length}
use Rattle.jsonc_layout.specs.nodes.Siblings.{is_no_newline_at, line_before, siblings_before}
use Rattle.jsonc_tree.specs.Tree.{Node}
use Rattle.jsonc_layout.proofs.lemmas.nodes.Walks.{front_none, front_one}
use Rattle.jsonc_layout.proofs.nodes.siblings.count_on_line.Goals as goal

line_length : (ns : List Node) (n : ℕ) → prefix_len (is_no_newline_at ns) (siblings_before ns n) ≡ length (line_before ns n)
line_length ns n =
    let p = is_no_newline_at ns in
    sym (length-prefix_len p (siblings_before ns n)) ∙ sym (length-reverse (take_while p (siblings_before ns n)))

pub returns-then-is_newline : goal.returns-then-is_newline
returns-then-is_newline g c =
    let ns = c.args.tree.now.nodes in
    let p = is_no_newline_at ns in
    let none = front_none p c.loop-sibling.sibling-iterator c.in-Some.sibling c.next.new.self c.in-Some.ensures.steps (ap not (sym c.is_newline.ensures.newline ∙ c.if-is_newline.true)) in
    omega (arith, c.loop-sibling.invariant, none, line_length ns c.args.node)

pub overflow_add-count : goal.overflow_add-count
overflow_add-count g c =
    let ns = c.args.tree.now.nodes in
    let p = is_no_newline_at ns in
    let row = siblings_before ns c.args.node in
    let one = front_one p c.loop-sibling.sibling-iterator c.in-Some.sibling c.next.new.self c.in-Some.ensures.steps (ap not (sym c.is_newline.ensures.newline ∙ c.if-is_newline.false)) in
    omega (arith, c.loop-sibling.invariant, one, prefix_len-le-length p row, ap length c.previous_siblings-sibling-items.ensures.siblings, c.previous_siblings-sibling-items.ensures.countable)

pub loop-sibling-preserved : goal.loop-sibling-preserved
loop-sibling-preserved g c =
    let p = is_no_newline_at c.args.tree.now.nodes in
    let one = front_one p c.loop-sibling.sibling-iterator c.in-Some.sibling c.next.new.self c.in-Some.ensures.steps (ap not (sym c.is_newline.ensures.newline ∙ c.if-is_newline.false)) in
    omega (arith, c.loop-sibling.invariant, one)

pub returns : goal.returns
returns g c =
    let ns = c.args.tree.now.nodes in
    omega (arith, c.loop-sibling.invariant, ap (prefix_len (is_no_newline_at ns)) c.in-None.ensures.steps.0, line_length ns c.args.node)

use Rattle.std.proofs.Common.{sym, ap, ◌∙◌}
use Rattle.std.specs.List.{take_while}
use Rattle.jsonc_layout.specs.nodes.Kinds.{is_trivia_at}
use Rattle.jsonc_layout.specs.nodes.Siblings.{is_no_newline_at, siblings_before}
use Rattle.jsonc_layout.proofs.lemmas.lines.LineBegins.{all_reversed, begins_from, begins_here, begins_not, begins_on}
use Rattle.jsonc_layout.proofs.lines.indent.begins_line.Goals as goal

pub returns-then-is_newline : goal.returns-then-is_newline
returns-then-is_newline g c =
    let ns = c.args.tree.now.nodes in
    let here = begins_here ns c.loop-sibling.sibling-iterator c.in-Some.sibling c.next.new.self c.in-Some.ensures.steps (sym c.is_newline.ensures.newline ∙ c.if-is_newline.true) in
    sym (all_reversed (is_trivia_at ns) (take_while (is_no_newline_at ns) (siblings_before ns c.args.node)) ∙ c.loop-sibling.invariant ∙ here)

pub returns-then-not-is_trivia : goal.returns-then-not-is_trivia
returns-then-not-is_trivia g c =
    let ns = c.args.tree.now.nodes in
    let here = begins_not ns c.loop-sibling.sibling-iterator c.in-Some.sibling c.next.new.self c.in-Some.ensures.steps (sym c.is_newline.ensures.newline ∙ c.if-is_newline.false) (sym c.is_trivia.ensures.trivia ∙ c.if-not-is_trivia.true) in
    sym (all_reversed (is_trivia_at ns) (take_while (is_no_newline_at ns) (siblings_before ns c.args.node)) ∙ c.loop-sibling.invariant ∙ here)

pub loop-sibling-preserved : goal.loop-sibling-preserved
loop-sibling-preserved g c =
    let ns = c.args.tree.now.nodes in
    c.loop-sibling.invariant
    ∙ begins_on ns c.loop-sibling.sibling-iterator c.in-Some.sibling c.next.new.self c.in-Some.ensures.steps (sym c.is_newline.ensures.newline ∙ c.if-is_newline.false) (sym c.is_trivia.ensures.trivia ∙ c.if-not-is_trivia.false)

pub returns : goal.returns
returns g c =
    let ns = c.args.tree.now.nodes in
    sym (all_reversed (is_trivia_at ns) (take_while (is_no_newline_at ns) (siblings_before ns c.args.node)) ∙ c.loop-sibling.invariant ∙ ap (begins_from ns) c.in-None.ensures.steps.0)

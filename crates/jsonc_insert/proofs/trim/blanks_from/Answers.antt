use Rattle.std.proofs.Common.{◌∙◌, ◌++◌, ◌∷◌, [], ap, append-nil, append_assoc, cond, sym}
use Rattle.std.specs.List.{take_while}
use Rattle.std.proofs.lemmas.List.Sums.{take_while-cons}
use Rattle.jsonc_layout.specs.nodes.Kinds.{is_blank_at}
use Rattle.jsonc_insert.proofs.trim.blanks_from.Goals as goal

pub returns-then-not-is_blank : goal.returns-then-not-is_blank
returns-then-not-is_blank g c =
    let ns = c.args.tree.now.nodes in
    let x = c.in-Some.sibling in
    let rest = c.next.new.self in
    let off = sym c.is_blank.ensures.blank ∙ c.if-not-is_blank.true in
    sym (append-nil c.loop-sibling.row.items)
    ∙ ap (λ l. c.loop-sibling.row.items ++ l) (sym (ap (take_while (is_blank_at ns)) c.in-Some.ensures.steps ∙ take_while-cons (is_blank_at ns) x rest ∙ ap (λ b. cond b (x ∷ take_while (is_blank_at ns) rest) []) off))
    ∙ c.loop-sibling.invariant

pub loop-sibling-preserved : goal.loop-sibling-preserved
loop-sibling-preserved g c =
    let ns = c.args.tree.now.nodes in
    let x = c.in-Some.sibling in
    let rest = c.next.new.self in
    let on = sym c.is_blank.ensures.blank ∙ c.if-not-is_blank.false in
    ap (λ l. l ++ take_while (is_blank_at ns) rest) c.in_ok-push-2.ensures.items ∙ append_assoc c.loop-sibling.row.items (x ∷ []) (take_while (is_blank_at ns) rest)
    ∙ ap (λ l. c.loop-sibling.row.items ++ l) (sym (ap (take_while (is_blank_at ns)) c.in-Some.ensures.steps ∙ take_while-cons (is_blank_at ns) x rest ∙ ap (λ b. cond b (x ∷ take_while (is_blank_at ns) rest) []) on))
    ∙ c.loop-sibling.invariant

pub returns : goal.returns
returns g c =
    sym (append-nil c.loop-sibling.row.items) ∙ ap (λ l. c.loop-sibling.row.items ++ take_while (is_blank_at c.args.tree.now.nodes) l) (sym c.in-None.ensures.steps.0) ∙ c.loop-sibling.invariant

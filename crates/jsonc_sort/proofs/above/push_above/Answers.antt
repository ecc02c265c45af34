use Rattle.std.proofs.Common.{◌+◌, ◌++◌, ap, arith, sym, ◌∙◌}
use Rattle.std.specs.Prelude.{filter}
use Rattle.std.proofs.lemmas.List.{take_rest}
use Rattle.jsonc_tree.specs.Tree.{content_at}
use Rattle.jsonc_sort.specs.Leads.{is_comment_at}
use Rattle.jsonc_sort.proofs.LeadPlaces.{newline_there}
use Rattle.jsonc_sort.proofs.LeadsRead.{above_is, above_none}
use Rattle.jsonc_sort.proofs.above.push_above.Goals as goal

pub slice_bounds-rest-count : goal.slice_bounds-rest-count
slice_bounds-rest-count g c = omega (arith, newline_there (content_at c.args.tree.now.nodes) c.args.lead.now (sym c.has_newline.ensures ∙ c.if-not-has_newline.false))

pub slice_bounds-rest-start : goal.slice_bounds-rest-start
slice_bounds-rest-start g c = omega (arith, newline_there (content_at c.args.tree.now.nodes) c.args.lead.now (sym c.has_newline.ensures ∙ c.if-not-has_newline.false))

pub returns-then-not-has_newline : goal.returns-then-not-has_newline
returns-then-not-has_newline g c = above_none (content_at c.args.tree.now.nodes) c.args.lead.now c.args.found.now.items (sym c.has_newline.ensures ∙ c.if-not-has_newline.true)

pub returns : goal.returns
returns g c =
    let at = content_at c.args.tree.now.nodes in
    c.in_ok-push_comments.ensures
    ∙ ap (λ l. c.args.found.now.items ++ filter (is_comment_at at) l)
    (above_is at c.args.lead.now _ (c.line_length-first.result + 1) c.up_to_spaces.result (sym c.has_newline.ensures ∙ c.if-not-has_newline.false) (ap (λ k. k + 1) c.line_length-first.ensures.place) (take_rest c.args.lead.now (c.line_length-first.result + 1)) c.up_to_spaces.ensures.count)

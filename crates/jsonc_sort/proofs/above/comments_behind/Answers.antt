use Rattle.std.proofs.Common.{◌+◌, ap, arith}
use Rattle.std.proofs.lemmas.List.{take_rest}
use Rattle.jsonc_tree.specs.Tree.{content_at}
use Rattle.jsonc_sort.proofs.LeadPlaces.{newline_there}
use Rattle.jsonc_sort.proofs.LeadsRead.{above_counted}
use Rattle.jsonc_sort.proofs.above.comments_behind.Goals as goal

pub slice_bounds-rest-count : goal.slice_bounds-rest-count
slice_bounds-rest-count g c = omega (arith, newline_there (content_at c.args.tree.now.nodes) c.args.lead.now c.requires)

pub slice_bounds-rest-start : goal.slice_bounds-rest-start
slice_bounds-rest-start g c = omega (arith, newline_there (content_at c.args.tree.now.nodes) c.args.lead.now c.requires)

pub returns : goal.returns
returns g c =
    above_counted (content_at c.args.tree.now.nodes) c.args.lead.now _ (c.line_length-first.result + 1) c.up_to_spaces.result c.comments.result c.requires (ap (λ k. k + 1) c.line_length-first.ensures.place) (take_rest c.args.lead.now (c.line_length-first.result + 1)) c.up_to_spaces.ensures.count
    c.comments.ensures

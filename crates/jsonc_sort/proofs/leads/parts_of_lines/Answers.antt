use Rattle.std.proofs.Common.{◌≡◌, ◌≤◌, ◌+◌, ◌-◌, ℕ, List, ap, arith, drop, length, length-drop, refl, subst, take, ◌∙◌}
use Rattle.std.proofs.lemmas.List.{take_rest}
use Rattle.jsonc_tree.specs.Tree.{content_at}
use Rattle.jsonc_sort.specs.Leads.{header_length}
use Rattle.jsonc_sort.specs.Parts.{up_to_spaces}
use Rattle.jsonc_sort.proofs.LeadPlaces.{lines_are, newline_there}
use Rattle.jsonc_sort.proofs.leads.parts_of_lines.Goals as goal

pub slice_bounds-rest-count : goal.slice_bounds-rest-count
slice_bounds-rest-count g c = omega (arith, newline_there (content_at c.args.tree.now.nodes) c.args.lead.now c.requires)

pub slice_bounds-rest-start : goal.slice_bounds-rest-start
slice_bounds-rest-start g c = omega (arith, newline_there (content_at c.args.tree.now.nodes) c.args.lead.now c.requires)

pub returns-clause-parts : goal.returns-clause-parts
returns-clause-parts g c =
    let at = content_at c.args.tree.now.nodes in
    let lead : List ℕ = c.args.lead.now in
    let first : ℕ = c.line_length-first.result + 1 in
    let upto : ℕ = c.up_to_spaces-indent.result in
    let header : ℕ = c.header_length-header.result in
    let rest : take (length lead - first) (drop first lead) ≡ drop first lead = take_rest lead first in
    lines_are at lead _ c.args.begins c.args.pinned first upto header (ap (λ k. k + 1) c.line_length-first.ensures.place) (omega (arith, newline_there at lead c.requires, c.line_length-first.ensures.place))
    (c.up_to_spaces-indent.ensures.count ∙ ap (up_to_spaces at) rest)
    (c.header_length-header.ensures.header ∙ ap (λ l. header_length at c.args.begins c.args.pinned (take upto l)) rest)
    (subst (λ (l : List ℕ). header ≤ length (take upto l)) rest c.header_length-header.ensures.within) refl refl

pub returns-clause-within : goal.returns-clause-within
returns-clause-within g c =
    let lead : List ℕ = c.args.lead.now in
    let first : ℕ = c.line_length-first.result + 1 in
    let short : c.up_to_spaces-indent.result ≤ length (drop first lead) = subst (λ (l : List ℕ). c.up_to_spaces-indent.result ≤ length l) (take_rest lead first) c.up_to_spaces-indent.ensures.within in
    omega (arith, short, length-drop first lead, newline_there (content_at c.args.tree.now.nodes) lead c.requires, c.line_length-first.ensures.place)

use Rattle.std.proofs.Common.{◌+◌, refl}
use Rattle.std.proofs.lemmas.List.{take_rest}
use Rattle.jsonc_tree.specs.Tree.{content_at}
use Rattle.jsonc_sort.proofs.LeadPlaces.{places_by}
use Rattle.jsonc_sort.proofs.places.places_of.Goals as goal

pub returns : goal.returns
returns g c =
    places_by (content_at c.args.tree.now.nodes) c.args.row.now c.args.from c.args.element c.requires.from c.requires.within c.args.groups c.args.pinned _ (take_rest c.args.row.now (c.args.element + 1)) c.lead_parts-lead.result c.blank_lines.result c.before_element-count.result c.tail_length-tail.result c.is_all.result
    c.comma_in-comma.result _ c.lead_parts-lead.ensures.parts c.lead_parts-lead.ensures.order c.lead_parts-lead.ensures.within c.blank_lines.ensures.count c.blank_lines.ensures.within c.before_element-count.ensures.count c.before_element-count.ensures.within c.is_all.ensures c.tail_length-tail.ensures.count
    c.tail_length-tail.ensures.within c.comma_in-comma.ensures refl refl refl refl refl refl refl refl

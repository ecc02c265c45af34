use Rattle.std.proofs.Common.{ap, drop, sym, refl, ◌∙◌}
use Rattle.jsonc_tree.specs.Tree.{content_at}
use Rattle.jsonc_sort.specs.Rearranged.{headers_of}
use Rattle.jsonc_sort.specs.Sorting.{first_pin}
use Rattle.jsonc_sort.proofs.EntriesOfRows.{entered_more}
use Rattle.jsonc_sort.proofs.places.entries.Goals as goal

pub loop-entry-preserved : goal.loop-entry-preserved
loop-entry-preserved g c =
    entered_more (content_at c.args.tree.now.nodes) (headers_of c.args.pinned.now c.args.groups) c.args.row.now c.loop-entry.entries.items c.push.new.self.items c.loop-entry.from c.in-Some.entry.end c.pinned_at.result c.in-Some.entry c.loop-entry.invariant
    (sym (c.pinned_at.ensures ∙ ap (λ k. first_pin (drop k c.args.pinned.now)) (c.len.ensures ∙ c.loop-entry.entries.ok.0))) c.in-Some.ensures.next c.in_ok-push.ensures.items refl

use Rattle.std.proofs.Common.{arith}
use Rattle.jsonc_parser.proofs.Changes.{least_change, no_more, size_of, spanned}
use Rattle.jsonc_parser.proofs.change.text_change.Goals as goal

pub overflow_sub-start : goal.overflow_sub-start
overflow_sub-start c = no_more _ _ _ _ c.utf8.old c.after_common_start.ensures.utf8.0 c.after_common_start.ensures.parts

least : goal.returns-clause-least
least c =
    let begins = c.after_common_start.ensures in
    let ends = c.before_common_end.ensures in
    let old = size_of _ c.utf8.old in
    let xs = size_of _ begins.utf8.0 in
    let was = size_of _ ends.utf8.0 in
    let within = no_more _ _ _ _ c.utf8.old begins.utf8.0 begins.parts in
    least_change _ _ _ _ _ _ begins.parts ends.parts _ (omega (arith, old, xs, within, c.new.ensures.start)) _ (omega (arith, was, c.new.ensures.start, c.new.ensures.end))

pub returns-clause-least : goal.returns-clause-least
returns-clause-least = least

pub returns-clause-span : goal.returns-clause-span
returns-clause-span c = spanned _ _ _ _ _ c.utf8.old (least c).change

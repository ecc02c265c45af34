use Rattle.std.proofs.Common.{refl}
use Rattle.jsonc_parser.proofs.Changes.{no_more}
use Rattle.jsonc_parser.proofs.ChangesOutside.{begun_boundary, begun_there, end_boundary, front_boundary, kept_in_new, kept_within, least_there, new_spans, spans_there}
use Rattle.jsonc_parser.proofs.change.change_outside_cr_lf.Goals as goal

pub overflow_sub-old : goal.overflow_sub-old
overflow_sub-old c = no_more _ _ _ _ c.utf8.old c.after_common_start.ensures.utf8.0 c.after_common_start.ensures.parts

pub start_outside-start-requires : goal.start_outside-start-requires
start_outside-start-requires c = begun_boundary _ _ _ _ _ c.utf8.old c.after_common_start.ensures.utf8.0 c.after_common_start.ensures.parts refl

pub range_from-requires : goal.range_from-requires
range_from-requires c _ =
    let b = begun_there _ _ _ _ _ _ c.utf8.old c.after_common_start.ensures.utf8.0 c.after_common_start.ensures.parts refl c.start_outside-start.ensures in
    front_boundary _ _ _ _ c.utf8.old b.before b.at

pub range_from-requires-2 : goal.range_from-requires-2
range_from-requires-2 c _ =
    let b = begun_there _ _ _ _ _ _ c.utf8.old c.after_common_start.ensures.utf8.0 c.after_common_start.ensures.parts refl c.start_outside-start.ensures in
    front_boundary _ _ _ _ c.utf8.new b.after b.at

pub end_outside-end-requires : goal.end_outside-end-requires
end_outside-end-requires c =
    let b = begun_there _ _ _ _ _ _ c.utf8.old c.after_common_start.ensures.utf8.0 c.after_common_start.ensures.parts refl c.start_outside-start.ensures in
    let e = c.before_common_end.ensures in
    end_boundary _ _ _ _ _ _ _ c.utf8.old c.utf8.new e.utf8.0 b c.range_from.ensures.value c.range_from-2.ensures.value e.parts

pub overflow_sub-kept : goal.overflow_sub-kept
overflow_sub-kept c =
    let b = begun_there _ _ _ _ _ _ c.utf8.old c.after_common_start.ensures.utf8.0 c.after_common_start.ensures.parts refl c.start_outside-start.ensures in
    let e = c.before_common_end.ensures in
    kept_within _ _ _ _ _ _ _ c.utf8.old c.utf8.new e.utf8.0 b c.range_from.ensures.value c.range_from-2.ensures.value e.parts _ c.end_outside-end.ensures

pub overflow_sub-new : goal.overflow_sub-new
overflow_sub-new c =
    let b = begun_there _ _ _ _ _ _ c.utf8.old c.after_common_start.ensures.utf8.0 c.after_common_start.ensures.parts refl c.start_outside-start.ensures in
    let e = c.before_common_end.ensures in
    kept_in_new _ _ _ _ _ _ _ c.utf8.old c.utf8.new e.utf8.0 b c.range_from.ensures.value c.range_from-2.ensures.value e.parts _ c.end_outside-end.ensures

pub range-requires-clause-start_le_end : goal.range-requires-clause-start_le_end
range-requires-clause-start_le_end c =
    let b = begun_there _ _ _ _ _ _ c.utf8.old c.after_common_start.ensures.utf8.0 c.after_common_start.ensures.parts refl c.start_outside-start.ensures in
    let e = c.before_common_end.ensures in
    (new_spans _ _ _ _ _ _ _ c.utf8.old c.utf8.new e.utf8.0 b c.range_from.ensures.value c.range_from-2.ensures.value e.parts _ c.end_outside-end.ensures).order

pub range-requires-clause-start_boundary : goal.range-requires-clause-start_boundary
range-requires-clause-start_boundary c _ =
    let b = begun_there _ _ _ _ _ _ c.utf8.old c.after_common_start.ensures.utf8.0 c.after_common_start.ensures.parts refl c.start_outside-start.ensures in
    let e = c.before_common_end.ensures in
    (new_spans _ _ _ _ _ _ _ c.utf8.old c.utf8.new e.utf8.0 b c.range_from.ensures.value c.range_from-2.ensures.value e.parts _ c.end_outside-end.ensures).from

pub range-requires-clause-end_boundary : goal.range-requires-clause-end_boundary
range-requires-clause-end_boundary c =
    let b = begun_there _ _ _ _ _ _ c.utf8.old c.after_common_start.ensures.utf8.0 c.after_common_start.ensures.parts refl c.start_outside-start.ensures in
    let e = c.before_common_end.ensures in
    (new_spans _ _ _ _ _ _ _ c.utf8.old c.utf8.new e.utf8.0 b c.range_from.ensures.value c.range_from-2.ensures.value e.parts _ c.end_outside-end.ensures).to

pub returns-clause-least : goal.returns-clause-least
returns-clause-least c =
    let b = begun_there _ _ _ _ _ _ c.utf8.old c.after_common_start.ensures.utf8.0 c.after_common_start.ensures.parts refl c.start_outside-start.ensures in
    let e = c.before_common_end.ensures in
    let it = least_there _ _ _ _ _ _ _ c.utf8.old c.utf8.new e.utf8.0 b c.range_from.ensures.value c.range_from-2.ensures.value e.parts _ c.end_outside-end.ensures _ c.range.ensures.value in
    rw (c.new.ensures.start, c.new.ensures.end) it

pub returns-clause-span : goal.returns-clause-span
returns-clause-span c =
    let b = begun_there _ _ _ _ _ _ c.utf8.old c.after_common_start.ensures.utf8.0 c.after_common_start.ensures.parts refl c.start_outside-start.ensures in
    let e = c.before_common_end.ensures in
    let it = spans_there _ _ _ _ _ _ _ c.utf8.old c.utf8.new e.utf8.0 b c.range_from.ensures.value c.range_from-2.ensures.value e.parts _ c.end_outside-end.ensures in
    rw (c.new.ensures.start, c.new.ensures.end) it

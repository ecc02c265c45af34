use Rattle.std.proofs.Common.{◌≤◌, arith, ap, chars, length, subst, IsUtf8}
use Rattle.std.specs.List.Sorted.{IsNonDecreasing}
use Rattle.jsonc_parser.specs.Places.{LineColumnBy}
use Rattle.jsonc_parser.proofs.LineIndexing.{begins_there, one_before, rising, starts_before}
use Rattle.jsonc_parser.proofs.LineWalk.{place_boundary}
use Rattle.jsonc_parser.proofs.line_index.LineIndex.line_before.Goals as goal

pub count_to-line-requires : goal.count_to-line-requires
count_to-line-requires g c = let all : IsNonDecreasing c.self.inside.starts.items = rising c.self.inside.text.now c.self.inside.starts.items c.self.invariant.0 c.self.invariant.1 in rw (c.deref.ensures.value) all

pub overflow_sub-line : goal.overflow_sub-line
overflow_sub-line g c = one_before c.self.inside.text.now c.self.inside.starts.items c.self.invariant.0 c.self.invariant.1 c.args.place c.count_to-line.result (rw (c.deref.ensures.value) at c.count_to-line.ensures.after)

pub index-requires : goal.index-requires
index-requires g c = omega (arith, overflow_sub-line g c, c.count_to-line.ensures.within, c.deref.ensures.len)

pub returns-clause-at : goal.returns-clause-at
returns-clause-at g c =
    let starts = c.self.inside.starts.items in
    let some = one_before c.self.inside.text.now starts c.self.invariant.0 c.self.invariant.1 c.args.place c.count_to-line.result (rw (c.deref.ensures.value) at c.count_to-line.ensures.after) in
    let few : c.count_to-line.result ≤ length starts = omega (arith, c.count_to-line.ensures.within, ap length c.deref.ensures.value) in
    λ w. subst (λ t. LineColumnBy w (chars t) c.index.result.now c.count_to-line.result 1) c.self.view_is (begins_there c.self.inside.text.now starts c.self.invariant.0 c.self.invariant.1 c.count_to-line.result c.index.result.now some few c.index.ensures w)

pub returns-clause-before : goal.returns-clause-before
returns-clause-before g c =
    let starts = c.self.inside.starts.items in
    let some = one_before c.self.inside.text.now starts c.self.invariant.0 c.self.invariant.1 c.args.place c.count_to-line.result (rw (c.deref.ensures.value) at c.count_to-line.ensures.after) in
    let few : c.count_to-line.result ≤ length starts = omega (arith, c.count_to-line.ensures.within, ap length c.deref.ensures.value) in
    starts_before c.self.inside.text.now starts c.self.invariant.0 c.self.invariant.1 c.count_to-line.result c.index.result.now c.args.place some few c.index.ensures (rw (c.deref.ensures.value) at c.count_to-line.ensures.to)

pub returns-clause-boundary : goal.returns-clause-boundary
returns-clause-boundary g c = place_boundary (λ k. k) c.args.self.now c.index.result.now c.count_to-line.result 1 (subst IsUtf8 c.self.view_is c.self.invariant.0) (returns-clause-at g c (λ k. k))

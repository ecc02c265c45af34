use Rattle.std.proofs.Common.{rules, arith, ◌+◌, ◌-◌, false, ℕ, drop, take, ap}
use Rattle.jsonc_sort.specs.declared.above.LeadRead.{LeadRead}
use Rattle.jsonc_cst.proofs.lemmas.sorting.Pinned.{all_pins, next_pins}
use Rattle.jsonc_cst.proofs.sorting.headers.pins_by.Goals as goal

pub loop-place-preserved : goal.loop-place-preserved
loop-place-preserved g c =
    let comments = c.args.comments.now in
    let from = c.loop-place.from in
    let m = c.min.result in
    let nothing : LeadRead = record { blank_line = false; comments = 0; header = 0 } in (
      search rules,
      next_pins g.F.Fn c.args.rule.now (g.D.DocumentArg.same c.args.doc.now) c.args.nodes.now c.args.leads.now comments c.loop-place.pins.items c.push.new.self.items c.pin_of.result c.loop-place.place from m nothing c.node_at_place.result
          (take ((from + m) - from) (drop from comments)) c.loop-place.invariant.1 (search rules) (search rules) (ap (λ (k : ℕ). take k (drop from comments)) (omega arith)) c.node_at_place.ensures c.pin_of.ensures (search rules),
    )

pub returns : goal.returns
returns g c =
    all_pins g.F.Fn c.args.rule.now (g.D.DocumentArg.same c.args.doc.now) c.args.nodes.now c.args.leads.now c.args.comments.now c.loop-place.pins.items c.loop-place.place c.loop-place.from c.loop-place.invariant.1 (search rules)

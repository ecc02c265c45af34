use Rattle.std.proofs.Common.{◌∙◌, ap, arith, refl, subst}
use Rattle.std.proofs.lemmas.Str.{IsCharBoundary-start}
use Rattle.jsonc_text.specs.OptionsOf.{parse_options}
use Rattle.jsonc_scan.specs.Scanner.{IsThere, seen, scanned_seen}
use Rattle.jsonc_format.proofs.NextEnds.{first_next}
use Rattle.jsonc_format.proofs.Planned.{plans_begin, plans_next, plans_end, not_not}
use Rattle.jsonc_format.proofs.Reading.{at_start, at_place, read_to, smaller_place}
use Rattle.jsonc_format.proofs.States.{class_told}
use Rattle.jsonc_format.proofs.plan.flat_containers.Goals as goal

pub pieces-init : goal.pieces-init
pieces-init g c =
    let o = parse_options c.args.options.now in
    let e = c.with_options-scanner.ensures in
    let p = c.new-plan.ensures in
    let l = c.stop_place-line_end.ensures in
    (at_start o c.args.text.now c.with_options-scanner.result e.text (e.options ∙ ap parse_options c.copied.ensures) e.start.1, plans_begin o c.args.text.now c.new-plan.result p.flat p.held p.bare, first_next c.args.text.now 0 c.stop_place-line_end.result l.passed.boundary l.passed.piece l.stops)

pub returns-in_default-clause-flags : goal.returns-in_default-clause-flags
returns-in_default-clause-flags g c =
    let o = parse_options c.args.options.now in
    let n = c.in_ok-found.ensures in
    let new = c.next_piece.new.scanner in
    let none = subst (λ f. IsThere new (seen new c.next_piece.new.content f)) c.in_default.is n.found in
    plans_end o c.args.text.now c.pieces.from c.pieces.plan c.pieces.scanner new c.pieces.invariant.1 c.pieces.invariant.0 n.blanks none

pub stop_place-line_end-requires-clause-boundary : goal.stop_place-line_end-requires-clause-boundary
stop_place-line_end-requires-clause-boundary g c = IsCharBoundary-start c.args.text.now c.utf8.text

pub ends_between-in_line-requires-clause-span : goal.ends_between-in_line-requires-clause-span
ends_between-in_line-requires-clause-span g c =
    let n = c.in_ok-found.ensures in
    let new = c.next_piece.new.scanner in
    let x = c.next_piece.new.content in
    let there = subst (λ f. IsThere new (seen new x f)) c.in-Some.is n.found in
    let r = read_to (parse_options c.args.options.now) c.args.text.now c.pieces.scanner new c.pieces.from _ c.token_end-end.result (scanned_seen new x c.in-Some.kind) c.pieces.invariant.0 n.blanks there refl c.token_end-end.ensures in
    record { from = r.gap.from; to = r.text.to; order = omega (arith, r.gap.order, r.text.order) }

pub pass-requires : goal.pass-requires
pass-requires g c = record { ordered = c.pieces.invariant.1.ordered }

pub pieces-preserved : goal.pieces-preserved
pieces-preserved g c =
    let o = parse_options c.args.options.now in
    let n = c.in_ok-found.ensures in
    let new = c.next_piece.new.scanner in
    let x = c.next_piece.new.content in
    let k = c.in-Some.kind in
    let h = c.pieces.invariant in
    let there = subst (λ f. IsThere new (seen new x f)) c.in-Some.is n.found in
    let w = scanned_seen new x k in
    let r = read_to o c.args.text.now c.pieces.scanner new c.pieces.from _ c.token_end-end.result w h.0 n.blanks there refl c.token_end-end.ensures in (
      at_place o c.args.text.now c.pieces.scanner new c.pieces.from c.token_end-end.result w c.utf8.text h.0 n.blanks there c.token_end-end.ensures,
      plans_next o c.args.text.now c.pieces.from _ c.token_end-end.result c.pieces.plan c.pass.new.self c.of.result _ w c.utf8.text h.1 r (class_told new x k c.of.result c.of.ensures)
          (not_not _ c.ends_between-in_line.ensures.ends refl) c.in-Ok.ensures,
      c.ends_between-in_line.ensures.known,
    )

pub pieces-smaller : goal.pieces-smaller
pieces-smaller g c =
    let o = parse_options c.args.options.now in
    let n = c.in_ok-found.ensures in
    let new = c.next_piece.new.scanner in
    let there = subst (λ f. IsThere new (seen new c.next_piece.new.content f)) c.in-Some.is n.found in
    smaller_place o c.args.text.now c.pieces.scanner new c.pieces.from c.token_end-end.result (scanned_seen new c.next_piece.new.content c.in-Some.kind) c.pieces.invariant.0 n.blanks there c.token_end-end.ensures

use Rattle.std.proofs.Common.{◌∙◌, ap, sym, refl, subst, inr, chars, IsUtf8}
use Rattle.jsonc_text.specs.OptionsOf.{parse_options}
use Rattle.jsonc_scan.specs.Scanner.{IsThere, seen, scanned_seen}
use Rattle.std.proofs.lemmas.Str.{IsCharBoundary-start, chars-nil}
use Rattle.jsonc_walk.proofs.lemmas.Refusals.{err_of}
use Rattle.jsonc_format.specs.Pieces.{HasNoPieces, IsPiecesError}
use Rattle.jsonc_format.specs.Writing.{style_in, text_of}
use Rattle.jsonc_format.proofs.NextEnds.{first_next}
use Rattle.jsonc_format.proofs.Printed.{going_start, going_next, going_end}
use Rattle.jsonc_format.proofs.Reading.{at_start, at_place, read_to, no_pieces, error_from}
use Rattle.jsonc_format.proofs.Results.{if_ok, ok_here}
use Rattle.jsonc_format.proofs.States.{class_told}
use Rattle.jsonc_format.proofs.print.print.Goals as goal

pub pieces-init : goal.pieces-init
pieces-init g c =
    let o = parse_options c.args.options.now in
    let e = c.with_options-scanner.ensures in
    let l = c.stop_place-line_end.ensures in
    let t = c.new-track.ensures in (
      at_start o c.args.text.now c.with_options-scanner.result e.text (e.options ∙ ap parse_options c.copied.ensures) e.start.1,
      going_start o (style_in c.args.layout.now) c.args.text.now c.args.flat.now (text_of c.in-Ok.out) c.new-track.result t.begun t.state t.flat (ap chars c.in-Ok.ensures.bytes ∙ chars-nil),
      first_next c.args.text.now 0 c.stop_place-line_end.result l.passed.boundary l.passed.piece l.stops,
    )

pub returns-in_default-found-clause-printed : goal.returns-in_default-found-clause-printed
returns-in_default-found-clause-printed g c =
    let o = parse_options c.args.options.now in
    let n = c.in_ok-found.ensures in
    let new = c.next_piece.new.scanner in
    let h = c.pieces.invariant in
    let none = subst (λ f. IsThere new (seen new c.next_piece.new.content f)) c.in_default-found.is n.found in
    if_ok c.end_with.result c.end_with.ensures.written (λ s e.
    going_end o (style_in c.args.layout.now) c.args.text.now c.args.flat.now c.pieces.from (text_of c.pieces.out) (text_of s) c.pieces.track c.pieces.scanner new h.1 h.0 n.blanks none e)

pub returns-in_err-found-clause-refused : goal.returns-in_err-found-clause-refused
returns-in_err-found-clause-refused g c =
    let o = parse_options c.args.options.now in
    let h = c.pieces.invariant in
    let none : HasNoPieces o (chars c.args.text.now) = no_pieces o c.args.text.now c.pieces.scanner c.pieces.from h.0 (c.in_err-found.ensures.none (subst IsUtf8 (sym (c.next_piece.ensures.text ∙ h.0.text)) c.utf8.text)) in
    err_of (IsPiecesError o (chars c.args.text.now)) c.in_err-found.field-0.0 c.from_residual.result c.from_residual.ensures.1 (inr none)

pub returns-in_err-put_read-clause-refused : goal.returns-in_err-put_read-clause-refused
returns-in_err-put_read-clause-refused g c =
    let o = parse_options c.args.options.now in
    let n = c.in_ok-found.ensures in
    let new = c.next_piece.new.scanner in
    let x = c.next_piece.new.content in
    let there = subst (λ f. IsThere new (seen new x f)) c.in-Some.is n.found in
    let e = c.in_err-put_read.field-0.0 in
    err_of (IsPiecesError o (chars c.args.text.now)) e c.from_residual-in_err-put_read.result c.from_residual-in_err-put_read.ensures.1
    (error_from o c.args.text.now new c.token_end-end.result e (at_place o c.args.text.now c.pieces.scanner new c.pieces.from c.token_end-end.result (scanned_seen new x c.in-Some.kind) c.utf8.text c.pieces.invariant.0 n.blanks there c.token_end-end.ensures)
    c.in_err-put_read.ensures.refused)

pub ends_in-ends-requires-clause-span : goal.ends_in-ends-requires-clause-span
ends_in-ends-requires-clause-span g c =
    let n = c.in_ok-found.ensures in
    let new = c.next_piece.new.scanner in
    let x = c.next_piece.new.content in
    let there = subst (λ f. IsThere new (seen new x f)) c.in-Some.is n.found in
    let r = read_to (parse_options c.args.options.now) c.args.text.now c.pieces.scanner new c.pieces.from c.token_start-start.result c.token_end-end.result (scanned_seen new x c.in-Some.kind) c.pieces.invariant.0 n.blanks there c.token_start-start.ensures c.token_end-end.ensures in
    r.gap

pub ends_between-requires-clause-span : goal.ends_between-requires-clause-span
ends_between-requires-clause-span g c =
    let n = c.in_ok-found.ensures in
    let new = c.next_piece.new.scanner in
    let x = c.next_piece.new.content in
    let there = subst (λ f. IsThere new (seen new x f)) c.in-Some.is n.found in
    let r = read_to (parse_options c.args.options.now) c.args.text.now c.pieces.scanner new c.pieces.from c.token_start-start.result c.token_end-end.result (scanned_seen new x c.in-Some.kind) c.pieces.invariant.0 n.blanks there c.token_start-start.ensures c.token_end-end.ensures in
    r.text

pub put_read-requires-clause-ends : goal.put_read-requires-clause-ends
put_read-requires-clause-ends g c = c.ends_in-ends.ensures.ends

pub stop_place-line_end-requires-clause-boundary : goal.stop_place-line_end-requires-clause-boundary
stop_place-line_end-requires-clause-boundary g c = IsCharBoundary-start c.args.text.now c.utf8.text

pub put_read-requires-clause-piece : goal.put_read-requires-clause-piece
put_read-requires-clause-piece g c =
    let n = c.in_ok-found.ensures in
    let new = c.next_piece.new.scanner in
    let x = c.next_piece.new.content in
    let there = subst (λ f. IsThere new (seen new x f)) c.in-Some.is n.found in
    let r = read_to (parse_options c.args.options.now) c.args.text.now c.pieces.scanner new c.pieces.from c.token_start-start.result c.token_end-end.result (scanned_seen new x c.in-Some.kind) c.pieces.invariant.0 n.blanks there c.token_start-start.ensures c.token_end-end.ensures in
    r.text

pub pieces-preserved : goal.pieces-preserved
pieces-preserved g c =
    let o = parse_options c.args.options.now in
    let n = c.in_ok-found.ensures in
    let new = c.next_piece.new.scanner in
    let x = c.next_piece.new.content in
    let k = c.in-Some.kind in
    let h = c.pieces.invariant in
    let w = scanned_seen new x k in
    let there = subst (λ f. IsThere new (seen new x f)) c.in-Some.is n.found in
    let begin = c.token_start-start.result in
    let end = c.token_end-end.result in
    let r = read_to o c.args.text.now c.pieces.scanner new c.pieces.from begin end w h.0 n.blanks there c.token_start-start.ensures c.token_end-end.ensures in
    let put = ok_here c.put_read.result (c.put_read.ensures.put w (class_told new x k c.of.result c.of.ensures)) c.in_ok-put_read.was in (
      at_place o c.args.text.now c.pieces.scanner new c.pieces.from end w c.utf8.text h.0 n.blanks there c.token_end-end.ensures,
      going_next o (style_in c.args.layout.now) c.args.text.now c.args.flat.now c.pieces.from (text_of c.pieces.out) (text_of c.put_read.new.out) c.pieces.track c.put_read.new.track
          (record { class = c.of.result; from = c.pieces.from; start = begin; end = end; ends = c.ends_in-ends.result }) w c.utf8.text h.1 refl r put,
      c.ends_between.ensures.known,
    )

use Rattle.std.proofs.Common.{◌∙◌, ap, sym, subst, not}
use Rattle.jsonc_text.specs.OptionsOf.{parse_options}
use Rattle.jsonc_scan.specs.Scanner.{IsThere, seen, scanned_seen}
use Rattle.jsonc_format.proofs.Leading.{leads_end, leads_broken, leads_there, leads_next}
use Rattle.jsonc_format.proofs.Planned.{not_not}
use Rattle.jsonc_format.proofs.States.{class_told}
use Rattle.jsonc_format.proofs.scan.leads_after.Goals as goal

pub returns-in_default-clause-found : goal.returns-in_default-clause-found
returns-in_default-clause-found g c =
    let n = c.in_ok-found.ensures in
    let new = c.next_piece.new.scanner in
    let none = subst (λ f. IsThere new (seen new c.next_piece.new.content f)) c.in_default.is n.found in
    leads_end (parse_options c.args.options.now) c.args.text.now c.pieces.scanner new c.args.place c.pieces.from c.pieces.invariant n.blanks none

pub returns-then-has_line_end-clause-found : goal.returns-then-has_line_end-clause-found
returns-then-has_line_end-clause-found g c =
    let n = c.in_ok-found.ensures in
    let new = c.next_piece.new.scanner in
    let x = c.next_piece.new.content in
    let there = subst (λ f. IsThere new (seen new x f)) c.in-Some.is n.found in
    leads_broken (parse_options c.args.options.now) c.args.text.now c.pieces.scanner new c.args.place c.pieces.from c.token_start-start.result (scanned_seen new x c.in-Some.kind) c.utf8.text c.pieces.invariant n.blanks there
    c.token_start-start.ensures (sym (not_not _ c.has_line_end.ensures c.range.ensures.value) ∙ ap not c.if-has_line_end.true)

pub returns-in_default-class : goal.returns-in_default-class
returns-in_default-class g c =
    let n = c.in_ok-found.ensures in
    let new = c.next_piece.new.scanner in
    let x = c.next_piece.new.content in
    let w = scanned_seen new x c.in-Some.kind in
    let there = subst (λ f. IsThere new (seen new x f)) c.in-Some.is n.found in
    let line = sym (not_not _ c.has_line_end.ensures c.range.ensures.value) ∙ ap not c.if-has_line_end.false in
    record {
      found = leads_there (parse_options c.args.options.now) c.args.text.now c.pieces.scanner new c.args.place c.pieces.from c.token_start-start.result w c.leads_alone.result c.utf8.text c.pieces.invariant n.blanks there
          c.token_start-start.ensures line (λ qs. c.leads_alone.ensures w qs (class_told new x c.in-Some.kind c.of-class.result c.of-class.ensures));
      none = tt;
    }

pub pieces-preserved : goal.pieces-preserved
pieces-preserved g c =
    let n = c.in_ok-found.ensures in
    let new = c.next_piece.new.scanner in
    let x = c.next_piece.new.content in
    let w = scanned_seen new x c.in-Some.kind in
    let there = subst (λ f. IsThere new (seen new x f)) c.in-Some.is n.found in
    let line = sym (not_not _ c.has_line_end.ensures c.range.ensures.value) ∙ ap not c.if-has_line_end.false in
    leads_next (parse_options c.args.options.now) c.args.text.now c.pieces.scanner new c.args.place c.pieces.from c.token_start-start.result c.token_end-from.result c.of-class.result w c.utf8.text c.pieces.invariant n.blanks there
    c.token_start-start.ensures c.token_end-from.ensures line (class_told new x c.in-Some.kind c.of-class.result c.of-class.ensures) c.in-BlockComment.is

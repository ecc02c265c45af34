use Rattle.std.proofs.Common.{◌∙◌, ap, sym, subst, option_map, [], ◌∷◌, chars}
use Rattle.jsonc_text.specs.OptionsOf.{parse_options}
use Rattle.jsonc_scan.specs.Scanner.{IsThere, seen, scanned_seen}
use Rattle.jsonc_format.specs.Styles.{or_else}
use Rattle.jsonc_format.specs.Wishes.{line_end_text}
use Rattle.jsonc_format.proofs.FoundStyles.{no_end_next, end_found, end_last}
use Rattle.jsonc_format.proofs.NextEnds.{line_feed_told, not_false}
use Rattle.jsonc_format.proofs.Reading.{at_place, read_to, gap_to_end}
use Rattle.jsonc_format.proofs.found.found_line_end.Goals as goal

pub returns-then-not-has_line_end-clause-found : goal.returns-then-not-has_line_end-clause-found
returns-then-not-has_line_end-clause-found g c = line_feed_told (parse_options c.args.options.now) c.args.text.now (not_false _ (sym c.if-not-has_line_end.true ∙ c.has_line_end.ensures))

pub returns-in-Some-clause-found : goal.returns-in-Some-clause-found
returns-in-Some-clause-found g c =
    let o = parse_options c.args.options.now in
    let n = c.in_ok-found.ensures in
    let new = c.next_piece.new.scanner in
    let h = c.pieces.invariant in
    end_found o c.args.text.now c.range.result.now c.pieces.from c.token_start-start.result c.pieces.scanner new (seen new c.next_piece.new.content c.in_ok-found.found) (line_end_text c.in-Some.end) c.utf8.text h.1 h.0 n.blanks n.found
    c.token_start-start.ensures c.range.ensures.value (λ other. c.first_line_end-ended.ensures other ∙ ap (λ r. or_else (option_map line_end_text r) other) c.in-Some.is)

pub returns-in_default-found-clause-found : goal.returns-in_default-found-clause-found
returns-in_default-found-clause-found g c =
    let o = parse_options c.args.options.now in
    let n = c.in_ok-found.ensures in
    let new = c.next_piece.new.scanner in
    let h = c.pieces.invariant in
    let none = subst (λ f. IsThere new (seen new c.next_piece.new.content f)) c.in_default-found.is n.found in
    end_last o c.args.text.now c.range.result.now c.pieces.from c.pieces.scanner new (0x0A ∷ []) h.1 h.0 n.blanks none
    (ap chars c.range.ensures.value ∙ gap_to_end o c.args.text.now c.pieces.scanner new c.pieces.from c.token_start-start.result c.utf8.text h.0 n.blanks none c.token_start-start.ensures)
    (c.first_line_end-ended.ensures (0x0A ∷ []) ∙ ap (λ r. or_else (option_map line_end_text r) (0x0A ∷ [])) c.in_default.is)

pub pieces-preserved : goal.pieces-preserved
pieces-preserved g c =
    let o = parse_options c.args.options.now in
    let n = c.in_ok-found.ensures in
    let new = c.next_piece.new.scanner in
    let x = c.next_piece.new.content in
    let h = c.pieces.invariant in
    let w = scanned_seen new x c.in-Some-found.field-0 in
    let there = subst (λ f. IsThere new (seen new x f)) c.in-Some-found.is n.found in
    let r = read_to o c.args.text.now c.pieces.scanner new c.pieces.from c.token_start-start.result c.token_end-from.result w h.0 n.blanks there c.token_start-start.ensures c.token_end-from.ensures in (
      at_place o c.args.text.now c.pieces.scanner new c.pieces.from c.token_end-from.result w c.utf8.text h.0 n.blanks there c.token_end-from.ensures,
      no_end_next o c.args.text.now c.range.result.now c.pieces.from c.token_start-start.result c.token_end-from.result w c.utf8.text h.1 r c.range.ensures.value
          (λ other. c.first_line_end-ended.ensures other ∙ ap (λ r. or_else (option_map line_end_text r) other) c.in_default.is),
    )

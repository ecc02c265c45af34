use Rattle.std.proofs.Common.{◌∙◌, ap, sym, refl, subst, chars}
use Rattle.jsonc_text.specs.OptionsOf.{parse_options}
use Rattle.jsonc_scan.specs.Scanner.{IsThere, seen, scanned_seen}
use Rattle.jsonc_format.specs.Styles.{last_line, tells_level}
use Rattle.jsonc_format.specs.Wishes.{IsLevelOf}
use Rattle.jsonc_format.proofs.FoundStyles.{NoLevel, no_level_next, level_here, level_last}
use Rattle.jsonc_format.proofs.NextEnds.{not_false, two_spaces_told}
use Rattle.jsonc_format.proofs.Reading.{at_place, read_to, read_some}
use Rattle.jsonc_format.proofs.States.{class_told}
use Rattle.jsonc_format.proofs.Texts.{two_spaces}
use Rattle.jsonc_format.proofs.found.found_level.Goals as goal

pub returns-then-not-has_line_end-clause-found : goal.returns-then-not-has_line_end-clause-found
returns-then-not-has_line_end-clause-found g c =
    let o = parse_options c.args.options.now in
    subst (IsLevelOf o c.args.text.now) (sym two_spaces) (two_spaces_told o c.args.text.now (not_false _ (sym c.if-not-has_line_end.true ∙ c.has_line_end.ensures)))

pub returns-in_default-clause-found : goal.returns-in_default-clause-found
returns-in_default-clause-found g c =
    let o = parse_options c.args.options.now in
    let n = c.in_ok-found.ensures in
    let new = c.next_piece.new.scanner in
    let none = subst (λ f. IsThere new (seen new c.next_piece.new.content f)) c.in_default.is n.found in
    subst (IsLevelOf o c.args.text.now) (sym two_spaces) (level_last o c.args.text.now c.pieces.from c.pieces.depth c.pieces.scanner new c.pieces.invariant.1 c.pieces.invariant.0 n.blanks none)

pub returns-then-tells_level-clause-found : goal.returns-then-tells_level-clause-found
returns-then-tells_level-clause-found g c =
    let o = parse_options c.args.options.now in
    let n = c.in_ok-found.ensures in
    let new = c.next_piece.new.scanner in
    let x = c.next_piece.new.content in
    let k = c.in-Some.kind in
    let h = c.pieces.invariant in
    let w = scanned_seen new x k in
    let there = subst (λ f. IsThere new (seen new x f)) c.in-Some.is n.found in
    let r = read_to o c.args.text.now c.pieces.scanner new c.pieces.from c.token_start-start.result _ w h.0 n.blanks there c.token_start-start.ensures refl in
    level_here o c.args.text.now c.last_line-line.result.now c.pieces.from c.token_start-start.result _ c.pieces.depth w c.utf8.text h.1 r (c.last_line-line.ensures ∙ ap (λ s. last_line (chars s)) c.range.ensures.value)
    (sym c.tells_level.ensures ∙ c.if-tells_level.true)

pub pieces-preserved : goal.pieces-preserved
pieces-preserved g c =
    let o = parse_options c.args.options.now in
    let n = c.in_ok-found.ensures in
    let new = c.next_piece.new.scanner in
    let x = c.next_piece.new.content in
    let k = c.in-Some.kind in
    let h = c.pieces.invariant in
    let w = scanned_seen new x k in
    let there = subst (λ f. IsThere new (seen new x f)) c.in-Some.is n.found in
    let begin = c.token_start-start.result in
    let end = c.token_end-from.result in
    let r = read_to o c.args.text.now c.pieces.scanner new c.pieces.from begin end w h.0 n.blanks there c.token_start-start.ensures c.token_end-from.ensures in
    let line = c.last_line-line.ensures ∙ ap (λ s. last_line (chars s)) c.range.ensures.value in (
      at_place o c.args.text.now c.pieces.scanner new c.pieces.from end w c.utf8.text h.0 n.blanks there c.token_end-from.ensures,
      subst (NoLevel o c.args.text.now end) (sym c.depth_after-depth.ensures) (no_level_next o c.args.text.now c.pieces.from begin end c.pieces.depth c.of.result w c.utf8.text h.1 r
          (read_some new begin end w c.token_start-start.ensures c.token_end-from.ensures there) (class_told new x k c.of.result c.of.ensures) (ap (tells_level c.pieces.depth) (sym line) ∙ sym c.tells_level.ensures ∙ c.if-tells_level.false)),
    )

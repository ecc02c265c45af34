use Rattle.std.proofs.Common.{◌≡◌, ◌∙◌, ◌++◌, ℕ, List, ap, codes, refl, subst, sym}
use Rattle.std.proofs.Output.{has_written_styled_append}
use Rattle.std.specs.Fmt.{HasWrittenStyled}
use Rattle.jsonc_parser.specs.patch.Messages.{pointer_error_text}
use Rattle.jsonc_parser.proofs.patch.pointer.PointerErrorDisplay.fmt.Goals as goal

pub returns-in_ok-write_str-in-InvalidEscape-clause-styled : goal.returns-in_ok-write_str-in-InvalidEscape-clause-styled
returns-in_ok-write_str-in-InvalidEscape-clause-styled g c = λ flush ok.
    let before = c.in_ok-write_str-in-InvalidEscape.ensures.styled flush refl in
    let line : pointer_error_text c.args.self.now ≡ codes "Neither 0 nor 1 after the tilde at byte " ++ c.format.result.now =
    ap pointer_error_text c.in-InvalidEscape.is ∙ ap (λ (n : List ℕ). codes "Neither 0 nor 1 after the tilde at byte " ++ n) (sym c.format.ensures.text) in
    subst (λ (t : List ℕ). HasWrittenStyled g.W.Write.write_str_gives c.args.f.now t c.write_str-in-InvalidEscape-2.new.self) (sym line)
    (has_written_styled_append _ _ _ _ _ _ before (c.write_str-in-InvalidEscape-2.ensures.styled before.flush ok))

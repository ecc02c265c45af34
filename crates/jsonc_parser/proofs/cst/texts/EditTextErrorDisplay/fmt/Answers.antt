use Rattle.std.proofs.Common.{◌≡◌, ◌∙◌, ◌++◌, ℕ, List, ap, codes, refl, subst, sym}
use Rattle.std.proofs.Output.{has_written_styled_append}
use Rattle.std.specs.Fmt.{HasWrittenStyled}
use Rattle.jsonc_text.specs.EditErrors.{edit_error_text}
use Rattle.jsonc_parser.specs.Errors.{edit_text_error_text}
use Rattle.jsonc_parser.proofs.cst.texts.EditTextErrorDisplay.fmt.Goals as goal

pub returns-in_ok-write_str-in-Edit-clause-styled : goal.returns-in_ok-write_str-in-Edit-clause-styled
returns-in_ok-write_str-in-Edit-clause-styled g c = λ flush ok.
    let why = c.in_ok-fmt-in-Edit.ensures.styled flush refl in
    let before = c.in_ok-write_str-in-Edit.ensures.styled why.flush refl in
    let line : edit_text_error_text c.args.self.now ≡ edit_error_text c.in-Edit.error ++ (codes ", edits made before: " ++ c.format.result.now) =
    ap edit_text_error_text c.in-Edit.is ∙ ap (λ (n : List ℕ). edit_error_text c.in-Edit.error ++ (codes ", edits made before: " ++ n)) (sym c.format.ensures.text) in
    subst (λ (t : List ℕ). HasWrittenStyled g.W.Write.write_str_gives c.args.f.now t c.write_str-in-Edit.new.self) (sym line)
    (has_written_styled_append _ _ _ _ _ _ why (has_written_styled_append _ _ _ _ _ _ before (c.write_str-in-Edit.ensures.styled before.flush ok)))

use Rattle.std.proofs.Common.{◌≡◌, ◌∙◌, ◌++◌, ℕ, List, ap, codes, refl, subst, sym}
use Rattle.std.proofs.Output.{has_written_styled_append}
use Rattle.std.specs.Fmt.{HasWrittenStyled}
use Rattle.jsonc_parser.specs.patch.PatchMessages.{operation_fault_text, patch_error_text}
use Rattle.jsonc_parser.proofs.patch.reading.PatchErrorDisplay.fmt.Goals as goal

pub returns-in_ok-write_str-in-Operation-3-clause-styled : goal.returns-in_ok-write_str-in-Operation-3-clause-styled
returns-in_ok-write_str-in-Operation-3-clause-styled g c = λ flush ok.
    let front = c.in_ok-write_str-in-Operation.ensures.styled flush refl in
    let number = c.in_ok-write_str-in-Operation-2.ensures.styled front.flush refl in
    let colon = c.in_ok-write_str-in-Operation-3.ensures.styled number.flush refl in
    let line : patch_error_text c.args.self.now ≡ codes "Operation " ++ (c.format.result.now ++ (codes ": " ++ operation_fault_text c.in-Operation.fault)) =
    ap patch_error_text c.in-Operation.is ∙ ap (λ (n : List ℕ). codes "Operation " ++ (n ++ (codes ": " ++ operation_fault_text c.in-Operation.fault))) (sym c.format.ensures.text) in
    subst (λ (t : List ℕ). HasWrittenStyled g.W.Write.write_str_gives c.args.f.now t c.fmt-in-Operation.new.f) (sym line)
    (has_written_styled_append _ _ _ _ _ _ front
    (has_written_styled_append _ _ _ _ _ _ number (has_written_styled_append _ _ _ _ _ _ colon (c.fmt-in-Operation.ensures.styled colon.flush ok))))

use Rattle.std.proofs.Common.{◌≡◌, ◌++◌, ℕ, List, ap, codes, refl, subst, sym}
use Rattle.std.proofs.Output.{has_written_styled_append}
use Rattle.std.specs.Fmt.{HasWrittenStyled}
use Rattle.jsonc_parser.specs.patch.FaultMessages.{patch_cause_text, patch_fault_text}
use Rattle.jsonc_parser.proofs.patch.apply.PatchFaultDisplay.fmt.Goals as goal

pub returns-clause-styled : goal.returns-clause-styled
returns-clause-styled g c = λ flush ok.
    let front = c.in_ok-write_str.ensures.styled flush refl in
    let number = c.in_ok-write_str-2.ensures.styled front.flush refl in
    let colon = c.in_ok-write_str-3.ensures.styled number.flush refl in
    let cause = patch_cause_text c.args.self.now.cause in
    let line : patch_fault_text c.args.self.now ≡ codes "Operation " ++ (c.format.result.now ++ (codes ": " ++ cause)) =
    ap (λ (n : List ℕ). codes "Operation " ++ (n ++ (codes ": " ++ cause))) (sym c.format.ensures.text) in
    subst (λ (t : List ℕ). HasWrittenStyled g.W.Write.write_str_gives c.args.f.now t c.fmt.new.f) (sym line)
    (has_written_styled_append _ _ _ _ _ _ front (has_written_styled_append _ _ _ _ _ _ number (has_written_styled_append _ _ _ _ _ _ colon (c.fmt.ensures.styled colon.flush ok))))

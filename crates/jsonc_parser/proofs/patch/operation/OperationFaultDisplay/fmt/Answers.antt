use Rattle.std.proofs.Common.{◌≡◌, ◌∙◌, ◌++◌, ℕ, List, ap, codes, refl, subst, sym}
use Rattle.std.proofs.Output.{has_written_styled_append}
use Rattle.std.specs.Fmt.{HasWrittenStyled}
use Rattle.jsonc_parser.specs.patch.Messages.{pointer_error_text}
use Rattle.jsonc_parser.specs.patch.PatchMessages.{operation_fault_text}
use Rattle.jsonc_parser.specs.patch.Quoting.{repeated_name_text}
use Rattle.jsonc_parser.proofs.patch.operation.OperationFaultDisplay.fmt.Goals as goal

pub returns-in_ok-write_str-in-Missing-clause-styled : goal.returns-in_ok-write_str-in-Missing-clause-styled
returns-in_ok-write_str-in-Missing-clause-styled g c = λ flush ok.
    let before = c.in_ok-write_str-in-Missing.ensures.styled flush refl in
    let line : operation_fault_text c.args.self.now ≡ codes "Operation lacks " ++ c.name.result.now =
    ap operation_fault_text c.in-Missing.is ∙ ap (λ (n : List ℕ). codes "Operation lacks " ++ n) (sym c.name.ensures) in
    subst (λ (t : List ℕ). HasWrittenStyled g.W.Write.write_str_gives c.args.f.now t c.write_str-in-Missing-2.new.self) (sym line)
    (has_written_styled_append _ _ _ _ _ _ before (c.write_str-in-Missing-2.ensures.styled before.flush ok))

pub returns-in_ok-write_str-in-Wrong-clause-styled : goal.returns-in_ok-write_str-in-Wrong-clause-styled
returns-in_ok-write_str-in-Wrong-clause-styled g c = λ flush ok.
    let before = c.in_ok-write_str-in-Wrong.ensures.styled flush refl in
    let line : operation_fault_text c.args.self.now ≡ codes "Operation has a wrong " ++ c.name-in-Wrong.result.now =
    ap operation_fault_text c.in-Wrong.is ∙ ap (λ (n : List ℕ). codes "Operation has a wrong " ++ n) (sym c.name-in-Wrong.ensures) in
    subst (λ (t : List ℕ). HasWrittenStyled g.W.Write.write_str_gives c.args.f.now t c.write_str-in-Wrong-2.new.self) (sym line)
    (has_written_styled_append _ _ _ _ _ _ before (c.write_str-in-Wrong-2.ensures.styled before.flush ok))

pub returns-in_ok-write_str-in-Pointer-2-clause-styled : goal.returns-in_ok-write_str-in-Pointer-2-clause-styled
returns-in_ok-write_str-in-Pointer-2-clause-styled g c = λ flush ok.
    let name = c.in_ok-write_str-in-Pointer.ensures.styled flush refl in
    let colon = c.in_ok-write_str-in-Pointer-2.ensures.styled name.flush refl in
    let line : operation_fault_text c.args.self.now ≡ c.name-in-Pointer.result.now ++ (codes ": " ++ pointer_error_text c.in-Pointer.error) =
    ap operation_fault_text c.in-Pointer.is ∙ ap (λ (n : List ℕ). n ++ (codes ": " ++ pointer_error_text c.in-Pointer.error)) (sym c.name-in-Pointer.ensures) in
    subst (λ (t : List ℕ). HasWrittenStyled g.W.Write.write_str_gives c.args.f.now t c.fmt.new.f) (sym line)
    (has_written_styled_append _ _ _ _ _ _ name (has_written_styled_append _ _ _ _ _ _ colon (c.fmt.ensures.styled colon.flush ok)))

pub returns-in-RepeatedName-clause-styled : goal.returns-in-RepeatedName-clause-styled
returns-in-RepeatedName-clause-styled g c = λ flush ok.
    let line : operation_fault_text c.args.self.now ≡ repeated_name_text c.as_str.result.now = ap operation_fault_text c.in-RepeatedName.is ∙ ap repeated_name_text (sym c.as_str.ensures.value) in
    subst (λ (t : List ℕ). HasWrittenStyled g.W.Write.write_str_gives c.args.f.now t c.write_repeated_name.new.f) (sym line) (c.write_repeated_name.ensures.styled flush ok)

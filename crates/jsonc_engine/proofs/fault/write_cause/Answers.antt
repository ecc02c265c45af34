use Rattle.std.proofs.Common.{◌≡◌, ◌∙◌, ℕ, List, ap, refl, subst, sym}
use Rattle.std.proofs.Output.{has_written_styled_append}
use Rattle.std.specs.Fmt.{WritesStyledOnOk}
use Rattle.jsonc_parser.specs.patch.Quoting.{repeated_name_text}
use Rattle.jsonc_engine.specs.FaultLines.{cause_text}
use Rattle.jsonc_engine.proofs.fault.write_cause.Goals as goal

pub returns-in_ok-write_str-in-Path-clause-styled : goal.returns-in_ok-write_str-in-Path-clause-styled
returns-in_ok-write_str-in-Path-clause-styled g c = λ flush ok.
    let front = c.in_ok-write_str-in-Path.ensures.styled flush refl in
    rw c.in-Path.is (has_written_styled_append _ _ _ _ _ _ front (c.fmt-in-Path.ensures.styled front.flush ok))

pub returns-in_ok-write_str-in-Pointer-clause-styled : goal.returns-in_ok-write_str-in-Pointer-clause-styled
returns-in_ok-write_str-in-Pointer-clause-styled g c = λ flush ok.
    let front = c.in_ok-write_str-in-Pointer.ensures.styled flush refl in
    rw c.in-Pointer.is (has_written_styled_append _ _ _ _ _ _ front (c.fmt-in-Pointer.ensures.styled front.flush ok))

pub returns-in_ok-write_str-in-Argument-clause-styled : goal.returns-in_ok-write_str-in-Argument-clause-styled
returns-in_ok-write_str-in-Argument-clause-styled g c = λ flush ok.
    let front = c.in_ok-write_str-in-Argument.ensures.styled flush refl in
    rw c.in-Argument.is (has_written_styled_append _ _ _ _ _ _ front (c.fmt-in-Argument.ensures.styled front.flush ok))

pub returns-in_ok-write_str-in-Patch-clause-styled : goal.returns-in_ok-write_str-in-Patch-clause-styled
returns-in_ok-write_str-in-Patch-clause-styled g c = λ flush ok.
    let front = c.in_ok-write_str-in-Patch.ensures.styled flush refl in
    rw c.in-Patch.is (has_written_styled_append _ _ _ _ _ _ front (c.fmt-in-Patch.ensures.styled front.flush ok))

pub returns-in_ok-write_str-in-MergePatch-clause-styled : goal.returns-in_ok-write_str-in-MergePatch-clause-styled
returns-in_ok-write_str-in-MergePatch-clause-styled g c = λ flush ok.
    let front = c.in_ok-write_str-in-MergePatch.ensures.styled flush refl in
    rw c.in-MergePatch.is (has_written_styled_append _ _ _ _ _ _ front (c.fmt-in-MergePatch.ensures.styled front.flush ok))

pub returns-in-RepeatedName-clause-styled : goal.returns-in-RepeatedName-clause-styled
returns-in-RepeatedName-clause-styled g c =
    let line : cause_text c.args.fault.now ≡ repeated_name_text c.as_str.result.now =
    ap cause_text c.in-RepeatedName.is ∙ ap (λ (n : List ℕ). repeated_name_text n) (sym c.as_str.ensures.value) in
    subst (λ (t : List ℕ). WritesStyledOnOk g.W.Write.write_str_gives c.args.f.now c.write_repeated_name.result t c.write_repeated_name.new.f) (sym line) c.write_repeated_name.ensures.styled

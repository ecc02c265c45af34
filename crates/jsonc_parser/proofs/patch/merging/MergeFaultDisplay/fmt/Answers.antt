use Rattle.std.proofs.Common.{◌≡◌, ◌∙◌, ℕ, List, ap, subst, sym}
use Rattle.std.specs.Fmt.{HasWrittenStyled}
use Rattle.jsonc_parser.specs.patch.FaultMessages.{merge_fault_text}
use Rattle.jsonc_parser.specs.patch.Quoting.{repeated_name_text}
use Rattle.jsonc_parser.proofs.patch.merging.MergeFaultDisplay.fmt.Goals as goal

pub returns-in-RepeatedName-clause-styled : goal.returns-in-RepeatedName-clause-styled
returns-in-RepeatedName-clause-styled g c = λ flush ok.
    let line : merge_fault_text c.args.self.now ≡ repeated_name_text c.as_str.result.now = ap merge_fault_text c.in-RepeatedName.is ∙ ap repeated_name_text (sym c.as_str.ensures.value) in
    subst (λ (t : List ℕ). HasWrittenStyled g.W.Write.write_str_gives c.args.f.now t c.write_repeated_name.new.f) (sym line) (c.write_repeated_name.ensures.styled flush ok)

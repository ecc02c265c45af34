use Rattle.std.proofs.Common.{◌++◌, ℕ, List, refl, subst}
use Rattle.std.proofs.Output.{has_written_styled_append}
use Rattle.std.specs.Fmt.{HasWrittenStyled}
use Rattle.jsonc_engine.specs.FaultLines.{cause_text}
use Rattle.jsonc_engine.proofs.fault.FaultDisplay.fmt.Goals as goal

pub returns-clause-styled : goal.returns-clause-styled
returns-clause-styled g c = λ flush ok.
    let front = c.in_ok-write_str.ensures.styled flush refl in
    subst (λ (t : List ℕ). HasWrittenStyled g.W.Write.write_str_gives c.args.f.now (t ++ cause_text c.args.self.now) c.write_cause.new.f) c.front_of.ensures
    (has_written_styled_append _ _ _ _ _ _ front (c.write_cause.ensures.styled front.flush ok))

use Rattle.std.proofs.Common.{◌≡◌, ◌∙◌, ◌++◌, ℕ, List, ap, refl, subst, sym}
use Rattle.std.proofs.Output.{has_written_styled_append}
use Rattle.std.specs.Fmt.{HasWrittenStyled}
use Rattle.jsonc_parser.specs.patch.Quoting.{repeated_name_text}
use Rattle.jsonc_lint.specs.Messages.{first_text, message}
use Rattle.jsonc_lint.proofs.finding.FindingDisplay.fmt.Goals as goal

pub returns-in_ok-write_repeated_name-in-RepeatedName-clause-styled : goal.returns-in_ok-write_repeated_name-in-RepeatedName-clause-styled
returns-in_ok-write_repeated_name-in-RepeatedName-clause-styled g c = λ flush ok.
    let front = c.in_ok-write_repeated_name-in-RepeatedName.ensures.styled flush refl in
    let line : message c.args.self.now.kind ≡ repeated_name_text c.as_str.result.now ++ first_text c.in-RepeatedName.first =
    ap message c.in-RepeatedName.is ∙ ap (λ (n : List ℕ). repeated_name_text n ++ first_text c.in-RepeatedName.first) (sym c.as_str.ensures.value) in
    subst (λ (t : List ℕ). HasWrittenStyled g.W.Write.write_str_gives c.args.f.now t c.write_first.new.f) (sym line)
    (has_written_styled_append _ _ _ _ _ _ front (c.write_first.ensures.styled front.flush ok))

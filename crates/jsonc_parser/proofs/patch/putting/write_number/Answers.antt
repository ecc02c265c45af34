use Rattle.std.proofs.Common.{◌++◌, List, refl, subst, ℕ}
use Rattle.std.proofs.Output.{has_written_styled_append}
use Rattle.std.specs.Fmt.{HasWrittenStyled}
use Rattle.jsonc_text.proofs.Writing.{plain_of_styled}
use Rattle.jsonc_parser.proofs.patch.putting.write_number.Goals as goal

pub returns-clause-styled : goal.returns-clause-styled
returns-clause-styled g c = λ flush ok.
    let before = c.in_ok-write_str.ensures.styled flush refl in
    subst (λ (t : List ℕ). HasWrittenStyled g.W.Write.write_str_gives c.args.f.now (c.args.text.now ++ t) c.write_str-2.new.self) c.format.ensures.text
    (has_written_styled_append _ _ _ _ _ _ before (c.write_str-2.ensures.styled before.flush ok))

pub returns-clause-writes : goal.returns-clause-writes
returns-clause-writes g c = plain_of_styled _ _ _ _ _ (returns-clause-styled g c)

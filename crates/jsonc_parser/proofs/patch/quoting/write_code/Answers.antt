use Rattle.std.proofs.Common.{refl, subst, List, ℕ}
use Rattle.std.proofs.Output.{has_written_styled_append}
use Rattle.std.specs.Fmt.{HasWrittenStyled}
use Rattle.jsonc_parser.proofs.lemmas.patch.Shown.{code_written}
use Rattle.jsonc_parser.proofs.patch.quoting.write_code.Goals as goal

pub returns : goal.returns
returns g c = λ flush ok.
    let slash = c.in_ok-write_char.ensures.styled flush refl in
    let u = c.in_ok-write_char-2.ensures.styled slash.flush refl in
    let first = c.in_ok-write_char-3.ensures.styled u.flush refl in
    let second = c.in_ok-write_char-4.ensures.styled first.flush refl in
    let third = c.in_ok-write_char-5.ensures.styled second.flush refl in
    subst (λ (t : List ℕ). HasWrittenStyled g.W.Write.write_str_gives c.args.f.now t c.write_char-6.new.self)
    (code_written c.args.code c.hex_digit.result c.hex_digit-2.result c.hex_digit-3.result c.hex_digit-4.result c.hex_digit.ensures c.hex_digit-2.ensures c.hex_digit-3.ensures c.hex_digit-4.ensures)
    (has_written_styled_append _ _ _ _ _ _ slash
    (has_written_styled_append _ _ _ _ _ _ u
    (has_written_styled_append _ _ _ _ _ _ first
    (has_written_styled_append _ _ _ _ _ _ second
    (has_written_styled_append _ _ _ _ _ _ third (c.write_char-6.ensures.styled third.flush ok))))))

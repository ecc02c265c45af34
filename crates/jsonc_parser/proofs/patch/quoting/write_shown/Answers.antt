use Rattle.std.proofs.Common.{refl, subst, List, ℕ}
use Rattle.std.proofs.Output.{has_written_styled_append}
use Rattle.std.specs.Fmt.{HasWrittenStyled}
use Rattle.jsonc_parser.proofs.lemmas.patch.Shown.{short_written}
use Rattle.jsonc_parser.proofs.patch.quoting.write_shown.Goals as goal

pub returns-in-Some : goal.returns-in-Some
returns-in-Some g c = λ flush ok.
    let slash = c.in_ok-write_char.ensures.styled flush refl in
    subst (λ (t : List ℕ). HasWrittenStyled g.W.Write.write_str_gives c.args.f.now t c.write_char-in-Some.new.self) (short_written c.args.c c.in-Some.escape c.short_escape.result c.short_escape.ensures c.in-Some.is)
    (has_written_styled_append _ _ _ _ _ _ slash (c.write_char-in-Some.ensures.styled slash.flush ok))

use Rattle.std.proofs.Common.{lit<, arith, ◌≡◌, [], ap, length, Some, None, ◌∙◌, sym}
use Rattle.std.proofs.lemmas.Str.Pattern.{find_char}
use Rattle.jsonc_diff.proofs.FirstLines.{first_ended, last_line, not_empty}
use Rattle.jsonc_diff.proofs.lines.first_line.Goals as goal

pub returns-in-Some-clause-line : goal.returns-in-Some-clause-line
returns-in-Some-clause-line c =
    let found = find_char 10 c.args.text.now (Some c.in-Some.at) c.in-Some.ensures.cases (lit< tt) in
    first_ended c.args.text.now c.split_at.result.0.now c.split_at.result.1.now c.in-Some.at found.0 found.1 found.2 c.split_at.ensures.front c.split_at.ensures.back

pub returns-in-None-2-clause-line : goal.returns-in-None-2-clause-line
returns-in-None-2-clause-line c =
    let found = find_char 10 c.args.text.now None c.in-None-2.ensures.cases (lit< tt) in
    last_line c.args.text.now found (not_empty c.args.text.now (sym c.is_empty.ensures ∙ c.if-is_empty.false))

use Rattle.std.proofs.Common.{◌∙◌}
use Rattle.std.proofs.lemmas.Str.{chars-nil}
use Rattle.jsonc_format.proofs.Texts.{tab, one_space, two_spaces, three_spaces, four_spaces, five_spaces, six_spaces, seven_spaces, eight_spaces, at_least_eight}
use Rattle.jsonc_format.proofs.style.Level.as_str.Goals as goal

pub returns-in-Tab : goal.returns-in-Tab
returns-in-Tab c = rw c.in-Tab.is tab

pub returns-in-Spaces-eq0 : goal.returns-in-Spaces-eq0
returns-in-Spaces-eq0 c = rw (c.in-Spaces-eq0.is, ← c.in-Spaces-eq0.field-0-is, c.in-Spaces-eq0.field-0-test) chars-nil

pub returns-in-Spaces-eq1 : goal.returns-in-Spaces-eq1
returns-in-Spaces-eq1 c = rw (c.in-Spaces-eq1.is, ← c.in-Spaces-eq1.field-0-is, c.in-Spaces-eq1.field-0-test) one_space

pub returns-in-Spaces-eq2 : goal.returns-in-Spaces-eq2
returns-in-Spaces-eq2 c = rw (c.in-Spaces-eq2.is, ← c.in-Spaces-eq2.field-0-is, c.in-Spaces-eq2.field-0-test) two_spaces

pub returns-in-Spaces-eq3 : goal.returns-in-Spaces-eq3
returns-in-Spaces-eq3 c = rw (c.in-Spaces-eq3.is, ← c.in-Spaces-eq3.field-0-is, c.in-Spaces-eq3.field-0-test) three_spaces

pub returns-in-Spaces-eq4 : goal.returns-in-Spaces-eq4
returns-in-Spaces-eq4 c = rw (c.in-Spaces-eq4.is, ← c.in-Spaces-eq4.field-0-is, c.in-Spaces-eq4.field-0-test) four_spaces

pub returns-in-Spaces-eq5 : goal.returns-in-Spaces-eq5
returns-in-Spaces-eq5 c = rw (c.in-Spaces-eq5.is, ← c.in-Spaces-eq5.field-0-is, c.in-Spaces-eq5.field-0-test) five_spaces

pub returns-in-Spaces-eq6 : goal.returns-in-Spaces-eq6
returns-in-Spaces-eq6 c = rw (c.in-Spaces-eq6.is, ← c.in-Spaces-eq6.field-0-is, c.in-Spaces-eq6.field-0-test) six_spaces

pub returns-in-Spaces-eq7 : goal.returns-in-Spaces-eq7
returns-in-Spaces-eq7 c = rw (c.in-Spaces-eq7.is, ← c.in-Spaces-eq7.field-0-is, c.in-Spaces-eq7.field-0-test) seven_spaces

pub returns-in-Spaces : goal.returns-in-Spaces
returns-in-Spaces c =
    let h = c.in-Spaces.field-0-test in
    rw (c.in-Spaces.is, ← c.in-Spaces.field-0-is) (eight_spaces ∙ at_least_eight _ h.0.0.0.0.0.0.0.1 h.0.0.0.0.0.0.1 h.0.0.0.0.0.1 h.0.0.0.0.1 h.0.0.0.1 h.0.0.1 h.0.1 h.1)

use Rattle.jsonc_format.proofs.Texts.{line_feed, return_and_feed, carriage_return}
use Rattle.jsonc_format.proofs.style.LineEnd.as_str.Goals as goal

pub returns-in-Lf : goal.returns-in-Lf
returns-in-Lf c = rw c.in-Lf.is line_feed

pub returns-in-CrLf : goal.returns-in-CrLf
returns-in-CrLf c = rw c.in-CrLf.is return_and_feed

pub returns-in-Cr : goal.returns-in-Cr
returns-in-Cr c = rw c.in-Cr.is carriage_return

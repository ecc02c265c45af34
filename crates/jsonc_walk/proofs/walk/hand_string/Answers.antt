use Rattle.jsonc_walk.proofs.lemmas.Handing.{is_lent, not_owned, string_inside, string_plain}
use Rattle.jsonc_walk.proofs.walk.hand_string.Goals as goal

pub string-requires-clause-inside : goal.string-requires-clause-inside
string-requires-clause-inside g c = string_inside (g.R.Receiver.source c.args.to.now) c.args.range c.args.value c.requires.written c.requires.utf8

pub string-requires-clause-stands : goal.string-requires-clause-stands
string-requires-clause-stands g c = string_plain (g.R.Receiver.source c.args.to.now) c.args.range c.args.value c.requires.written (is_lent c.args.value c.in-Borrowed.field-0 c.in-Borrowed.is) (not_owned c.args.value c.in-Borrowed.field-0 c.in-Borrowed.is)
